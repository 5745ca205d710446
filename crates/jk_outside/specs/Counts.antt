-- Counts that stand still at their last value, and calls that fail by their number.
use Rattle.std.specs.Prelude.{◌≡◌, ℕ, ⊤, ◌+◌, ◌-◌, ◌^◌, ◌<◌, ◌≤◌, ◌⊎◌, ◌==◌, Bool, List, Option, None, Some, min, if◌then◌else◌}
use Rattle.std.specs.List.{list_any}
use Rattle.std.proofs.Common.{arith}
use Rattle.jk_model.specs.Outside.{Tree}

-- the number of the next call, counted from 1, as far as 32 bits count
abbrev pub next_number : ℕ → ℕ
next_number calls = min (calls + 1) (2 ^ 32 - 1)

-- whether a number is among those that fail
unfoldable pub is_named : List ℕ → ℕ → Bool
is_named fails number = list_any (λ n. n == number) fails

-- the count of faults after a fault or none, as far as 64 bits count
abbrev pub faults_after : Bool → ℕ → ℕ
faults_after failed faults = if failed then min (faults + 1) (2 ^ 64 - 1) else faults

pub min_fits : (n : ℕ) → min n (2 ^ 64 - 1) < 2 ^ 64
min_fits n = omega arith

-- So much was taken of files that tell no tree. The count stands still at its last value.
abbrev pub HasTaken : Option Tree → ℕ → ℕ → ℕ → Type 0
HasTaken None n old new = (old + n ≤ new) ⊎ (new ≡ 2 ^ 64 - 1)
HasTaken (Some tree) n old new = ⊤
