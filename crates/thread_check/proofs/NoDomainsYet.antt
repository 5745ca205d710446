-- A store of frames without domains has few of them.
use Rattle.std.proofs.Common.{◌≡◌, ◌<◌, List, [], ◌∷◌, length, None, arith}
use Rattle.std.specs.List.{AllByRecursion}
use Rattle.jk_model.specs.declared.identifiers.DomainId.{DomainId}
use Rattle.frame_store.specs.FrameContents.{FrameContent, HasFewDomains, IsAdmitted, MOST_DOMAINS}

pub few_of_none : (c : FrameContent) → ((d : DomainId) → c.quota d ≡ None) → HasFewDomains c
few_of_none c none = λ domains apart admitted. few domains admitted
  where
    few : (domains : List DomainId) → AllByRecursion (IsAdmitted c) domains → length domains < MOST_DOMAINS
    few [] h = omega arith
    few (d ∷ domains) h = (let no : IsAdmitted c d → ⊥ = rw (none d) (λ x. cc) in absurd (no h.0))
