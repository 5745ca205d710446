-- What a table keeps beside its ranges, and the one range that passes a test.
use Rattle.std.specs.Prelude.{◌≡◌, ℕ, zero, suc, ◌+◌, ◌^◌, ◌<◌, ◌≤◌, Bool, true, false, List, [], ◌∷◌, ◌++◌, None, map, find, replicate, nat_eq}
use Rattle.std.specs.List.{AllByRecursion, IsDistinct}
use Rattle.jk_model.specs.Capabilities.{Range, last_number, numbers}

-- The range at this place is this one. It passes the test, and no other does.
abbrev pub IsOnlyAt : (Range → Bool) → List Range → ℕ → Range → Type 0
IsOnlyAt test [] place r = ⊥
IsOnlyAt test (s ∷ ranges) zero r = (s ≡ r) × (test s ≡ true) × (find test ranges ≡ None)
IsOnlyAt test (s ∷ ranges) (suc place) r = (test s ≡ false) × IsOnlyAt test ranges place r

-- each range begins directly after the one before it, and the first at this number
abbrev pub AreChained : ℕ → List Range → Type 0
AreChained first [] = Unit {0}
AreChained first (r ∷ ranges) = (r.first ≡ first) × AreChained (first + r.count) ranges

-- for each number of the ranges the place of its range, where this is the place of the first
abbrev pub places_from : ℕ → List Range → List ℕ
places_from place [] = []
places_from place (r ∷ ranges) = replicate r.count place ++ places_from (place + 1) ranges

abbrev pub owner_number : Range → ℕ
owner_number r = r.owner.0

-- the ranges of a table, with their owners and with the places by number
pub record IsTable (owners places : List ℕ) (ranges : List Range) : Type 0 where
  pub owners_are : owners ≡ map owner_number ranges
  pub owners_apart : IsDistinct nat_eq owners
  pub owners_fit : AllByRecursion (λ n. n < 2 ^ 32) owners
  pub places_are : places ≡ places_from 0 ranges
  pub chained : AreChained 1 ranges
  pub few : numbers ranges ≤ last_number
