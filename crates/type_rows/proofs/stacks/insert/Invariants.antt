-- What was moved so far, with the entry that is out, is the whole.
use Rattle.std.proofs.Common.{◌≡◌, ◌∷◌, ◌++◌, length, take, drop}
use Rattle.type_rows.proofs.stacks.insert.Given as goal

abbrev pub invariant-loop-k : goal.invariant-loop-k
invariant-loop-k l =
    (l.k-end ≡ length l.stack)
    × (take l.k l.stack ++ l.moved ∷ drop l.k l.stack ≡ take l.at l.fn.stack ++ l.fn.v ∷ drop l.at l.fn.stack)
