-- A world of the system classes alone is one in which a folder may be loaded.
use Rattle.std.proofs.Common.{◌≡◌, ℕ, List, [], length, sym, subst, ◌∙◌, arith, Some, None, slice_get}
use Rattle.jk_model_classes.specs.Classes.{AreOrdered}
use Rattle.jk_model_classes.specs.SystemRecords.{AreSystemRecords}
use Rattle.jk_model_classes.specs.Worlds.{DomainRecord, IsWorld, WorldRecord}
use Rattle.class_growth.proofs.SystemClassesClosed.{system_alone}

module _ (w : WorldRecord) (system : AreSystemRecords w.classes) (none : w.domains ≡ []) (ordered : AreOrdered w.classes) where
  no-domain : (i : ℕ) (d : DomainRecord) → slice_get w.domains i ≡ Some d → ⊥
  no-domain i d at = (let there : slice_get [] i ≡ Some d = subst (λ (ds : List DomainRecord). slice_get ds i ≡ Some d) none at in absurd cc)

  pub world-of-system : IsWorld w (length w.domains)
  world-of-system = record {
    numbered = λ i d at. absurd (no-domain i d at);
    names_differ = λ name a b x y. absurd (no-domain a.0 x.0 x.1);
    named = λ i d at. absurd (no-domain i d at);
    offered = λ i d at. absurd (no-domain i d at);
    records = λ c r at. record { references = rw (system_alone w.classes system c r at).0 tt };
    ordered = ordered;
    homes = λ c r d at home. (let both : None ≡ Some d = sym (system_alone w.classes system c r at).1 ∙ home in absurd cc);
    few_domains = rw none (omega arith);
  }
