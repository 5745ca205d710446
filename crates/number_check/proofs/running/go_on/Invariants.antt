-- The frame runs its code, and fits.
use Rattle.type_rows.specs.CodeViews.{scope_of}
use Rattle.number_check.specs.RunFrames.{RunsIn}
use Rattle.number_check.specs.declared.stores.TheConstants.{SEGMENT}
use Rattle.number_check.proofs.running.go_on.Given as goal

abbrev pub invariant-loop : goal.invariant-loop
invariant-loop g l = RunsIn (g.F.SegmentFrames.content l.frames) l.world.classes SEGMENT (scope_of l.view)
