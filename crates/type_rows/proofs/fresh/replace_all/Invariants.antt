-- The entries so far have become what they are to become.
use Rattle.std.proofs.Common.{◌≡◌, ◌++◌, ◌↔◌, Bool, IsTrue, length, map, take, drop}
use Rattle.std.specs.Prelude.{if◌then◌else◌}
use Rattle.jk_model_typing.specs.declared.frames.VType.{VType}
use Rattle.type_rows.proofs.fresh.replace_all.Given as goal

abbrev pub invariant-loop-k : goal.invariant-loop-k
invariant-loop-k l =
    (l.k-end ≡ length l.vs)
    × ((test : VType → Bool) → ((w : VType) → IsTrue (test w) ↔ (w ≡ l.fn.old))
    → l.vs ≡ map (λ w. if test w then l.fn.new else w) (take l.k l.fn.vs) ++ drop l.k l.fn.vs)
