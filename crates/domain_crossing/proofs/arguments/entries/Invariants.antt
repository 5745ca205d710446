-- So many of the entries were read.
use Rattle.std.proofs.Common.{◌≡◌, List, length, take}
use Rattle.jk_model.specs.declared.values.Value.{Value}
use Rattle.domain_crossing.specs.MovedArguments.{HasOnTop}
use Rattle.domain_crossing.proofs.arguments.entries.Given as goal

abbrev pub invariant-loop-i : goal.invariant-loop-i
invariant-loop-i g l =
    (values : List Value) → HasOnTop (g.F.SegmentFrames.content l.frames) l.s values → length values ≡ l.count → l.values ≡ take l.i values
