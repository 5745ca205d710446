-- There is no place, or this is the place.
use Rattle.std.proofs.Common.{◌≡◌, ◌<◌, ℕ, subst, drop, get_or, arith}
use Rattle.jk_model_typing.specs.declared.frames.VType.TheVariants.{Unusable}
use Rattle.jk_model_typing.specs.FrameTypes.{slots}
use Rattle.type_rows.proofs.AtPlaces.{slice_get-at}
use Rattle.type_rows.proofs.TopOfAStack.{none_between, is_top, from_one_before}
use Rattle.type_rows.proofs.stacks.top_at.Goals as goal

pub returns-in_err-left-clause-none : goal.returns-in_err-left-clause-none
returns-in_err-left-clause-none c =
    let stack = c.args.stack.now in
    let k = c.in_ok-k.k in
    rw c.from_residual-in_err-left.ensures
    (none_between stack c.args.n c.loop-left.k (omega arith)
    (λ j e.
    let same : k ≡ j = omega arith in
    let one = from_one_before stack c.loop-left.k k (get_or stack k Unusable) (slice_get-at stack k Unusable (omega arith)) (omega arith) in
    subst (λ (i : ℕ). c.args.n < slots (drop i stack)) same (omega (arith, one))))

pub returns-clause-some : goal.returns-clause-some
returns-clause-some c = is_top _ _ _ c.loop-left.invariant.0 (omega arith)
