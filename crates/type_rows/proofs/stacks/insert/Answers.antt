-- The entry moves on to the end.
use Rattle.std.proofs.Common.{◌∙◌, arith}
use Rattle.std.proofs.Math.ListN.{length-set}
use Rattle.jk_model_typing.specs.declared.frames.VType.{VType}
use Rattle.type_rows.proofs.EntryMoved.{moves_on}
use Rattle.type_rows.proofs.stacks.insert.Goals as goal

pub loop-k-preserved : goal.loop-k-preserved
loop-k-preserved c =
    rw c.replace-moved.ensures.new
    (omega (arith, length-set {A = VType}), moves_on _ _ _ _ c.replace-moved.ensures.old ∙ c.loop-k.invariant.1)
