-- A sink over a writer: what it holds, and what its writer took where the writer tells what it holds.
use Rattle.std.specs.Prelude.{ℕ, List, Option}
use Rattle.std.specs.Io.KnownBytes as known
use Rattle.jk_model.specs.Outside.{IsPrefix}

-- what the writer holds, where it tells it, the pieces that the sink was handed, and how many faults there were
pub record StreamState : Type 0 where
  pub contents : Option (List ℕ)
  pub pieces : List (List ℕ)
  pub faults : ℕ

-- The writer holds these bytes after the old ones.
abbrev pub Takes : Option (List ℕ) → Option (List ℕ) → List ℕ → Type 0
Takes old new bytes = known.Appends old new bytes

-- It holds a part of them, from the front on.
abbrev pub TakesPart : Option (List ℕ) → Option (List ℕ) → List ℕ → Type 0
TakesPart old new bytes = (front : List ℕ) × IsPrefix front bytes × Takes old new front
