-- What became of an event's lines: they went out, or the sink failed among them. Also over a sink that tells no bytes it is said which pieces it
-- was handed.
use Rattle.std.specs.Prelude.{ℕ, Bool, List, Option, Result, Ok, Err}
use Rattle.jk_model.specs.declared.output.Line.{Line}
use Rattle.jk_outside.specs.SeveralLines.{PrintsLines}

-- what a sink tells: the bytes so far, where it tells them, the pieces that it was handed, and how many faults there were
pub record SinkState : Type 0 where
  pub bytes : Option (List ℕ)
  pub pieces : List (List ℕ)
  pub faults : ℕ

-- these put together
abbrev pub sink : Option (List ℕ) → List (List ℕ) → ℕ → SinkState
sink bytes pieces faults = record { bytes = bytes; pieces = pieces; faults = faults }

-- The lines were printed in turn. At Ok the whole text went out, in pieces of its own for each line, and no fault was counted. At an error a
-- part of it went out, from the front on, up to the piece that failed, after which nothing more was printed, and the count rose.
abbrev pub Prints : {E : Type 0} → SinkState → SinkState → Result (Unit {0}) E → List Line → Type 0
Prints old new result lines = PrintsLines old.bytes new.bytes old.pieces new.pieces old.faults new.faults result lines

-- whether it failed, of an answer that says more
abbrev pub as_done : {E : Type 0} → Result Bool E → Result (Unit {0}) E
as_done (Ok changed) = Ok tt
as_done (Err e) = Err e
