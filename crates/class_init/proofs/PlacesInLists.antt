-- Where an item of a list stands, and what stands at a place of a mapped list.
use Rattle.std.proofs.Common.{◌≡◌, ℕ, ◌<◌, List, length, refl, sym, Some, slice_get}
use Rattle.std.specs.Prelude.{Contains}
use Rattle.std.proofs.lemmas.Option.{slice_get_read}

module _ {X : Type 0} where
  pub record StandsAt (xs : List X) (x : X) : Type 0 where
    pub place : ℕ
    pub low : place < length xs
    pub there : slice_get xs place ≡ Some x

  pub stands_at : (xs : List X) (x : X) → Contains xs x → StandsAt xs x
  stands_at xs x (k, low, at) = record { place = k; low = low; there = slice_get_read xs (length xs) k x refl low (sym at) }

-- what stands at a place of a mapped list comes from what stands there
pub record ComesFrom {X Y : Type 0} (f : X → Y) (xs : List X) (k : ℕ) (y : Y) : Type 0 where
  pub from : X
  pub there : slice_get xs k ≡ Some from
  pub gives : f from ≡ y
