-- The local is an int, and becomes another one.
use Rattle.std.proofs.Common.{◌≡◌, ℤ, sym, ap, ◌∙◌}
use Rattle.std.specs.Int.{int_wrapping_add, w32}
use Rattle.number_ops.proofs.Calculations.{one_int}
use Rattle.number_ops.proofs.LocalsUsed.{has_local, incremented, local_is, within}
use Rattle.number_ops.proofs.locals.increment.Goals as goal

pub local_of-n-requires : goal.local_of-n-requires
local_of-n-requires g c = (c.requires.finds.0, c.requires.finds.2, within _ _ _ _ _ c.requires.finds.3 c.requires.most)

pub local-requires : goal.local-requires
local-requires g c = has_local _ _ c.args.i.now.a _ _ _ c.requires.finds.3 c.requires.finds.2 c.local_of-n.ensures

pub set_local-requires : goal.set_local-requires
set_local-requires g c = has_local _ _ c.args.i.now.a _ _ _ c.requires.finds.3 c.requires.finds.2 c.local_of-n.ensures

pub unreachable-requires : goal.unreachable-requires
unreachable-requires g c =
    c.in_default.not-Int c.requires.finds.1
    (sym (local_is _ _ c.args.i.now.a _ _ _ _ c.requires.finds.3 c.requires.finds.2 c.local_of-n.ensures c.local.ensures))

pub returns : goal.returns
returns g c =
    let is = local_is _ _ c.args.i.now.a _ _ _ _ c.requires.finds.3 c.requires.finds.2 c.local_of-n.ensures c.local.ensures in
    let int : c.requires.finds.1 ≡ c.in-Int.x = one_int c.requires.finds.1 c.in-Int.x (is ∙ c.in-Int.is) in
    incremented _ _ _ c.args.i.now _ c.local_of-n.result c.requires.finds.1 _ c.requires.op c.requires.finds.2 c.local_of-n.ensures
    c.requires.finds.3 (ap (λ (x : ℤ). int_wrapping_add w32 x c.args.i.now.b) (sym int)) c.set_local.ensures
