-- Whether a live domain has a name.
use Rattle.std.proofs.Common.{◌≡◌, ◌↔◌, ℕ, Bool, List, Option, Some, None, IsTrue, refl, subst, sym}
use Rattle.std.specs.Prelude.{MatchOption, is_some}
use Rattle.std.proofs.lemmas.Bool.{false≢true}
use Rattle.jk_model.specs.declared.identifiers.DomainId.{DomainId}
use Rattle.jk_model_classes.specs.Worlds.{IsLiveNamed, WorldRecord}
use Rattle.jk_model_folders.specs.FolderRules.{IsLive}

live_by_option : (w : WorldRecord) (name : List ℕ) (o : Option DomainId)
    → MatchOption o ((d : DomainId) → IsLiveNamed w name d → ⊥) (λ d. IsLiveNamed w name d) → IsTrue (is_some o) ↔ IsLive w name
live_by_option w name None h = (λ t. absurd (false≢true t), λ live. absurd (h live.0 live.1))
live_by_option w name (Some d) h = (λ t. (d, h), λ live. refl)

pub is_live_found : (w : WorldRecord) (bytes name : List ℕ) (o : Option DomainId) (r : Bool)
    → MatchOption o ((d : DomainId) → IsLiveNamed w bytes d → ⊥) (λ d. IsLiveNamed w bytes d) → bytes ≡ name → r ≡ is_some o
    → IsTrue r ↔ IsLive w name
is_live_found w bytes name o r h same is =
    subst (λ (b : Bool). IsTrue b ↔ IsLive w name) (sym is)
    (live_by_option w name o (subst (λ (n : List ℕ). MatchOption o ((d : DomainId) → IsLiveNamed w n d → ⊥) (λ d. IsLiveNamed w n d)) same h))
