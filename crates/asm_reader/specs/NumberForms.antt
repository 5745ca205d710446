-- How a word looks that may be a number: nothing in it is needless.
use Rattle.std.specs.Prelude.{◌≡◌, ◌≢◌, ℕ, List, length, slice_index}

-- No `+`, 43, stands in front. A zero, 48, in front stands alone, and none follows a `-`, 45, in front.
pub record HasNoNeedless (word : List ℕ) : Type 0 where
  pub no_plus : slice_index word 0 ≢ 43
  pub zero_alone : slice_index word 0 ≡ 48 → length word ≡ 1
  pub no_minus_zero : slice_index word 0 ≡ 45 → slice_index word 1 ≢ 48
