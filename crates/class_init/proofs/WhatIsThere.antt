-- What a search for a text's place says.
use Rattle.std.proofs.Common.{◌≡◌, ℕ, List, Option, Some, None, refl, is_some, slice_get}
use Rattle.std.specs.Prelude.{Contains, IsTrue, MatchOption, ◌↔◌}
use Rattle.list_lemmas.proofs.ItemsOfLists.{Contains-at}

-- a place is found exactly where the text is known
pub known_says : (texts : List (List ℕ)) (text : List ℕ) (r : Option ℕ)
    → MatchOption r (Contains texts text → ⊥) (λ place. slice_get texts place ≡ Some text) → IsTrue (is_some r) ↔ Contains texts text
known_says texts text None h = (λ e. cc, λ has. absurd (h has))
known_says texts text (Some place) h = (λ e. Contains-at texts place text h, λ has. refl)
