-- Where a segment goes after one step: what is left to do outside of the segment and its domain.
use Rattle.std.specs.Prelude.{ℕ, List, Option}
use Rattle.jk_model.specs.declared.identifiers.CapId.{CapId}
use Rattle.jk_model.specs.declared.identifiers.MemberId.{MemberId}
use Rattle.jk_model.specs.declared.values.Value.{Value}
use Rattle.jk_model_heaps.specs.Workings.{Request}

pub data Went : Type 0 where
  -- nothing
  GoesOn : Went
  -- the domain says a text
  Says : List ℕ → Went
  -- the lowest frame returned this, and no frame is left
  Ended : Option Value → Went
  -- a throwable left the lowest frame, as this object, and no frame is left
  Left : ℕ → Went
  -- a call through a capability of a method, whose receiver and arguments still stand on the top frame's stack
  Crosses : CapId → MemberId → Went
  -- the top frame, from whose stack the arguments are taken, waits for an answer
  Asks : Request → Went
  -- the domain is killed
  Terminates : Went
