-- The last entries were copied.
use Rattle.std.proofs.Common.{◌≡◌, ◌+◌, ◌-◌, ◌++◌, List, length, drop}
use Rattle.jk_model_typing.specs.declared.frames.VType.{VType}
use Rattle.type_rows.proofs.entries.copy_top.Given as goal

abbrev pub invariant-loop : goal.invariant-loop
invariant-loop l =
    (length l.stack + l.top ≡ l.end + l.counter)
    × ((below between tops : List VType) → l.fn.stack ≡ below ++ between ++ tops → l.at ≡ length below → l.top ≡ length (below ++ between)
    → l.stack ≡ below ++ drop (l.end - l.counter) tops ++ between ++ tops)
