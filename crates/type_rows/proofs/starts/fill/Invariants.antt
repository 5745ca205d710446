-- So many locals were put after the others.
use Rattle.std.proofs.Common.{◌≡◌, ◌-◌, ◌++◌}
use Rattle.std.specs.Prelude.{replicate}
use Rattle.jk_model_typing.specs.declared.frames.VType.TheVariants.{Unusable}
use Rattle.type_rows.proofs.starts.fill.Given as goal

abbrev pub invariant-loop : goal.invariant-loop
invariant-loop l = l.locals ≡ l.fn.locals ++ replicate (l.counter - l.first) Unusable
