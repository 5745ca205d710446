-- How a thread leaves a segment by a step that the segment does alone.
use Rattle.std.specs.Prelude.{⊤}
use Rattle.segment_steps.specs.declared.went.Went.{Went}
use Rattle.segment_steps.specs.declared.went.Went.TheVariants as Goes

-- it calls through a capability, or no frame is left after a return
abbrev pub IsLeaving : Went → Type 0
IsLeaving Goes.GoesOn = ⊥
IsLeaving (Goes.Returned v) = ⊤
IsLeaving (Goes.Left a) = ⊥
IsLeaving (Goes.Crosses k m) = ⊤
IsLeaving Goes.Terminates = ⊥
