-- A world in which a folder may be loaded is that of the system classes alone, and one again after a folder was loaded, after a domain
-- with its names was added, and after a domain ended.
use Rattle.std.proofs.Common.{◌≡◌, ℕ, zero, suc, ◌-◌, ◌^◌, ◌<◌, ◌⊎◌, inl, inr, false, List, [], ◌∷◌, ◌++◌, length, take, Option, Some, None, Result, Ok, Err, IfOk, OnErr, slice_get, slice_set, Contains, refl, sym, ap, subst, ◌∙◌, arith, length-append}
use Rattle.std.specs.List.{AllByRecursion}
use Rattle.std.proofs.lemmas.List.{take-append-le, take_all}
use Rattle.std.proofs.lemmas.Option.{none-some, same_Some, slice_get_within}
use Rattle.list_lemmas.proofs.ItemsOfLists.{Contains-cases, Contains-none, place_of, each-weaker, each-from}
use Rattle.list_lemmas.proofs.ItemsByPlace.{item_there}
use Rattle.jk_model.specs.declared.identifiers.ClassId.{ClassId}
use Rattle.jk_model.specs.declared.identifiers.DomainId.{DomainId}
use Rattle.jk_model.specs.Outside.{Tree}
use Rattle.jk_model.specs.SystemTable.{system_classes}
use Rattle.jk_model_classes.specs.declared.records.ClassRecord.{ClassRecord}
use Rattle.jk_model_classes.specs.declared.sharing.Offer.{Offer}
use Rattle.jk_model_classes.specs.declared.sharing.Stub.{Stub}
use Rattle.jk_model_classes.specs.Classes.{AreOrdered, HasClass, record_of}
use Rattle.jk_model_classes.specs.SystemRecords.{AreSystemRecords}
use Rattle.jk_model_classes.specs.Worlds.{DomainRecord, IsLiveNamed, IsNamed, IsWorld, NamedClass, NamesClasses, WorldRecord}
use Rattle.jk_model_folders.specs.declared.files.FolderFiles.{FolderFiles}
use Rattle.jk_model_folders.specs.Loads.{Loads, MayLoad}
use Rattle.folder_loader.specs.declared.answers.LoadAnswer.{LoadAnswer}
use Rattle.folder_loader.specs.declared.answers.Loaded.{Loaded}
use Rattle.folder_loader.specs.LoadAnswers.{HasLoaded}
use Rattle.domain_resolver.specs.LiveDomains.{EndsDomain, IsNumbered}
use Rattle.class_growth.proofs.ItemsOfLists.{slice_get-append_cases}
use Rattle.class_growth.proofs.MoreClasses.{has_class-still}
use Rattle.class_growth.proofs.SystemClassesClosed.{system_alone}
use Rattle.sound_folders.proofs.NamesOfTables.{meant-from}
use Rattle.sound_folders.proofs.NewClasses.{OwnFile, added, all, meant_there, own_file, system_few, own_of, names_there}

-- no name is that of two live domains
abbrev NamesDiffer : WorldRecord → Type 0
NamesDiffer w = (name : List ℕ) (a b : DomainId) → IsLiveNamed w name a → IsLiveNamed w name b → a ≡ b

-- ---- Before all folders.

nothing_at : {X : Type 0} (xs : List X) (k : ℕ) (x : X) → xs ≡ [] → slice_get xs k ≡ Some x → ⊥
nothing_at {X = X} xs k x none at = let there : slice_get [] k ≡ Some x = subst (λ (ys : List X). slice_get ys k ≡ Some x) none at in cc

module _ (w : WorldRecord) (system : AreSystemRecords w.classes) (none : w.domains ≡ []) (ordered : AreOrdered w.classes) where
  pub may_load_first : MayLoad w
  may_load_first = record {
    world = record {
      numbered = λ i d at. absurd (nothing_at w.domains i d none at);
      names_differ = λ name a b x y. absurd (nothing_at w.domains a.0 x.0 none x.1);
      named = λ i d at. absurd (nothing_at w.domains i d none at);
      offered = λ i d at. absurd (nothing_at w.domains i d none at);
      records = λ c r at. record {
        references = subst (λ (xs : List ClassId). AllByRecursion (HasClass w.classes) xs) (sym (system_alone w.classes system c r at).0) tt;
      };
      ordered = ordered;
      homes = λ c r d at home. absurd (none-some d (sym (system_alone w.classes system c r at).1 ∙ home));
      few_domains = omega (arith, ap length none);
    };
    system = subst AreSystemRecords (sym (take_all (length system_classes) w.classes (omega (arith, system.as_many)))) system;
    few_classes = omega (arith, system.as_many);
  }

-- ---- After a folder was loaded.

module _ {f : FolderFiles} {w : WorldRecord} {into : List ℕ} {first : ClassId} {table : List NamedClass} {offers : List Offer} {stubs : List Stub}
    {new : WorldRecord} (l : Loads f w into first table offers stubs new) (may : MayLoad w) where
  abbrev again : WorldRecord
  again = record w { classes = all l }

  is_again : again ≡ new
  is_again = ap (λ (xs : List ClassRecord). record w { classes = xs }) (sym l.is_placed.classes) ∙ sym l.world

  old_there : (c : ClassId) → HasClass w.classes c → HasClass (all l) c
  old_there c there = has_class-still w.classes (added l) c there

  homes_again : (c : ClassId) (r : ClassRecord) (d : DomainId) → record_of (all l) c ≡ Some r → r.home ≡ Some d
      → (d.0 < length w.domains) ⊎ (d.0 ≡ length w.domains)
  homes_again c r d is home = elim (slice_get-append_cases w.classes (added l) c.0 r is) [
    | inl old ↦ may.world.homes c r d old home
    | inr later ↦
        let same = same_Some d l.placed.home (sym home ∙ (own_of l r later).1.is_record.at_home) in
        inr (ap (λ (x : DomainId). x.0) same ∙ l.is_placed.home)
  ]

  world_again : AreOrdered (all l) → IsWorld again (length w.domains)
  world_again ordered = record {
    numbered = may.world.numbered;
    names_differ = may.world.names_differ;
    named = λ i d at c named. old_there c (may.world.named i d at c named);
    offered = λ i d at o on. old_there o.class (may.world.offered i d at o on);
    records = names_there l may;
    ordered = ordered;
    homes = homes_again;
    few_domains = may.world.few_domains;
  }

  system_again : AreSystemRecords (take (length system_classes) (all l))
  system_again =
      subst AreSystemRecords (sym (take-append-le (length system_classes) w.classes (added l) (system_few l may))) may.system

  may_again : AreOrdered again.classes → length again.classes < 2 ^ 32 - 513 → MayLoad again
  may_again ordered few = record { world = world_again ordered; system = system_again; few_classes = few }

  pub may_load_again : AreOrdered new.classes → length new.classes < 2 ^ 32 - 513 → MayLoad new
  may_load_again =
      subst (λ (x : WorldRecord). AreOrdered x.classes → length x.classes < 2 ^ 32 - 513 → MayLoad x) is_again may_again

  -- the classes of the domain's names and offers are there
  pub named_there : (c : ClassId) → IsNamed table c → HasClass new.classes c
  named_there c named =
      let (name, on) = subst (λ (x : List NamedClass). IsNamed x c) l.table_is named in
      subst (λ (x : WorldRecord). HasClass x.classes c) is_again
      (meant_there l may name c (meant-from l.placed.table l.is_placed.names_differ name c on))

  pub offered_there : (o : Offer) → Contains offers o → HasClass new.classes o.class
  offered_there o on =
      let (line, listed, (name, to, says, meant, same)) =
      (l.is_placed.offers o).0 (subst (λ (x : List Offer). Contains x o) l.offers_are on) in
      subst (λ (x : WorldRecord). HasClass x.classes o.class) is_again (meant_there l may name o.class meant)

-- whatever was answered
pub may_load_after : (w new : WorldRecord) (tree : Option Tree) (folder name : List ℕ) (result : Result Loaded LoadAnswer) → MayLoad w
    → IfOk result (λ l. HasLoaded tree folder w name l new) → OnErr result (new ≡ w) → AreOrdered new.classes
    → length new.classes < 2 ^ 32 - 513 → MayLoad new
may_load_after w new tree folder name (Ok l) may has same ordered few = may_load_again has.loads may ordered few
may_load_after w new tree folder name (Err e) may has same ordered few = subst MayLoad (sym same) may

-- ---- After a domain was added.

module _ (w : WorldRecord) (d : DomainRecord) (may : MayLoad w) (named : (c : ClassId) → IsNamed d.table c → HasClass w.classes c)
    (offered : (o : Offer) → Contains d.offers o → HasClass w.classes o.class) where
  abbrev with_domain : WorldRecord
  with_domain = record w { domains = w.domains ++ d ∷ [] }

  module _ (P : DomainRecord → Type 0) (old : (i : ℕ) (x : DomainRecord) → slice_get w.domains i ≡ Some x → P x) (this : P d) where
    of_each : (i : ℕ) (x : DomainRecord) → slice_get (w.domains ++ d ∷ []) i ≡ Some x → P x
    of_each i x at = elim (slice_get-append_cases w.domains (d ∷ []) i x at) [
      | inl before ↦ old i x before
      | inr later ↦ elim (Contains-cases x d [] later) [
        | inl same ↦ subst P same this
        | inr none ↦ absurd (Contains-none x none)
      ]
    ]

  homes_within : (c : ClassId) (r : ClassRecord) (h : DomainId) → record_of w.classes c ≡ Some r → r.home ≡ Some h
      → (h.0 < length with_domain.domains) ⊎ (h.0 ≡ length with_domain.domains)
  homes_within c r h is home = elim (may.world.homes c r h is home) [
    | inl low ↦ inl (omega (arith, low, length-append w.domains (d ∷ [])))
    | inr next ↦ inl (omega (arith, next, length-append w.domains (d ∷ [])))
  ]

  may_load_beside : IsNumbered with_domain.domains → NamesDiffer with_domain → length with_domain.domains < 2 ^ 32 - 1 → MayLoad with_domain
  may_load_beside numbered names_differ few = record {
    world = record {
      numbered = numbered;
      names_differ = names_differ;
      named = of_each (λ (x : DomainRecord). (c : ClassId) → IsNamed x.table c → HasClass w.classes c) may.world.named named;
      offered = of_each (λ (x : DomainRecord). (o : Offer) → Contains x.offers o → HasClass w.classes o.class) may.world.offered offered;
      records = may.world.records;
      ordered = may.world.ordered;
      homes = homes_within;
      few_domains = few;
    };
    system = may.system;
    few_classes = may.few_classes;
  }

-- what was answered brings what may be added
pub may_load_opened : (w one two : WorldRecord) (tree : Option Tree) (folder name : List ℕ) (l : Loaded) (d : DomainRecord) → MayLoad w
    → MayLoad one → HasLoaded tree folder w name l one → d.table ≡ l.table → d.offers ≡ l.offers
    → two ≡ record one { domains = one.domains ++ d ∷ [] } → IsNumbered two.domains → NamesDiffer two → length two.domains < 2 ^ 32 - 1
    → MayLoad two
may_load_opened w one two tree folder name l d before may has same_table same_offers e =
    subst (λ (x : WorldRecord). IsNumbered x.domains → NamesDiffer x → length x.domains < 2 ^ 32 - 1 → MayLoad x) (sym e)
    (may_load_beside one d may
    (λ c named. named_there has.loads before c (subst (λ (t : List NamedClass). IsNamed t c) same_table named))
    (λ o on. offered_there has.loads before o (subst (λ (t : List Offer). Contains t o) same_offers on)))

-- ---- After a domain ended.

module _ {X : Type 0} where
  -- what stands at a place after one is set: what was set, or what stood there
  set_cases : (xs : List X) (i : ℕ) (y : X) (k : ℕ) (x : X) → slice_get (slice_set xs i y) k ≡ Some x → (x ≡ y) ⊎ (slice_get xs k ≡ Some x)
  set_cases [] i y k x e = cc
  set_cases (z ∷ xs) zero y zero x e = inl (sym (same_Some y x e))
  set_cases (z ∷ xs) zero y (suc k) x e = inr e
  set_cases (z ∷ xs) (suc i) y zero x e = inr e
  set_cases (z ∷ xs) (suc i) y (suc k) x e = set_cases xs i y k x e

  length-slice_set : (xs : List X) (i : ℕ) (y : X) → length (slice_set xs i y) ≡ length xs
  length-slice_set [] i y = refl
  length-slice_set (x ∷ xs) zero y = refl
  length-slice_set (x ∷ xs) (suc i) y = ap suc (length-slice_set xs i y)

module _ (w : WorldRecord) (d : DomainId) (r : DomainRecord) (may : MayLoad w) (is : slice_get w.domains d.0 ≡ Some r) where
  abbrev ended : DomainRecord
  ended = record r { live = false }

  abbrev with_ended : WorldRecord
  with_ended = record w { domains = slice_set w.domains d.0 ended }

  as_many : length with_ended.domains ≡ length w.domains
  as_many = length-slice_set w.domains d.0 ended

  module _ (P : DomainRecord → Type 0) (old : (i : ℕ) (x : DomainRecord) → slice_get w.domains i ≡ Some x → P x) (this : P ended) where
    still : (i : ℕ) (x : DomainRecord) → slice_get with_ended.domains i ≡ Some x → P x
    still i x at = elim (set_cases w.domains d.0 ended i x at) [
      | inl same ↦ subst P (sym same) this
      | inr before ↦ old i x before
    ]

  homes_still : (c : ClassId) (k : ClassRecord) (h : DomainId) → record_of w.classes c ≡ Some k → k.home ≡ Some h
      → (h.0 < length with_ended.domains) ⊎ (h.0 ≡ length with_ended.domains)
  homes_still c k h at home = elim (may.world.homes c k h at home) [
    | inl low ↦ inl (omega (arith, low, as_many))
    | inr next ↦ inr (next ∙ sym as_many)
  ]

  may_load_without : IsNumbered with_ended.domains → NamesDiffer with_ended → MayLoad with_ended
  may_load_without numbered names_differ = record {
    world = record {
      numbered = numbered;
      names_differ = names_differ;
      named =
          still (λ (x : DomainRecord). (c : ClassId) → IsNamed x.table c → HasClass w.classes c) may.world.named (may.world.named d.0 r is);
      offered =
          still (λ (x : DomainRecord). (o : Offer) → Contains x.offers o → HasClass w.classes o.class) may.world.offered
          (may.world.offered d.0 r is);
      records = may.world.records;
      ordered = may.world.ordered;
      homes = homes_still;
      few_domains = omega (arith, may.world.few_domains, as_many);
    };
    system = may.system;
    few_classes = may.few_classes;
  }

pub may_load_ended : (w new : WorldRecord) (d : DomainId) → MayLoad w → EndsDomain w d new → IsNumbered new.domains → NamesDiffer new → MayLoad new
may_load_ended w new d may (r, is, e) =
    subst (λ (x : WorldRecord). IsNumbered x.domains → NamesDiffer x → MayLoad x) (sym e) (may_load_without w d r may is)
