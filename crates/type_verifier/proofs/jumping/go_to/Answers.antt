-- A target that is no place is none in a typing either.
use Rattle.std.proofs.Common.{◌≡◌, nat_abs, pos, ℕ, of_z, to_z, w32, subst, arith}
use Rattle.std.proofs.lemmas.Int.{ints}
use Rattle.jk_model_typing.specs.Typing.{FitsAt}
use Rattle.type_verifier.specs.Tasks.{scope_in}
use Rattle.type_verifier.proofs.BelowTypings.{fits-within}
use Rattle.type_verifier.proofs.HandlersHaveFrames.{FitsBut-here}
use Rattle.type_verifier.proofs.jumping.go_to.Goals as goal

pub returns-then-target-lt0-clause-none : goal.returns-then-target-lt0-clause-none
returns-then-target-lt0-clause-none c = λ _ typing types.
    let to = c.requires.target.below typing types in
    let is = to.1 in
    absurd (omega (arith, ints))

pub returns-then-place-len-clause-none : goal.returns-then-place-len-clause-none
returns-then-place-len-clause-none c = λ _ typing types.
    let to = c.requires.target.below typing types in
    let is = to.1 in
    let within = fits-within c.args.task.now c.requires.ready.known c.requires.ready.ordered typing types to.0 c.args.frame.now to.2 in
    absurd (omega (arith, ints))

pub raise_at-requires-clause-outside : goal.raise_at-requires-clause-outside
raise_at-requires-clause-outside c = λ f at.
    let place = nat_abs (to_z w32 (of_z w32 c.args.target)) in
    let is : c.args.target ≡ pos place = omega (arith, ints) in
    rw c.as_slice.ensures
    (FitsBut-here (scope_in c.args.task.now) c.requires.ready.ordered c.args.progress.now.frames.items place c.args.range.first
    c.args.range.end c.args.frame.now.locals f (c.requires.outside place is) at)

pub raise_at-requires-clause-below : goal.raise_at-requires-clause-below
raise_at-requires-clause-below c = λ typing types.
    let to = c.requires.target.below typing types in
    let is = to.1 in
    let same : to.0 ≡ nat_abs (to_z w32 (of_z w32 c.args.target)) = omega (arith, ints) in
    rw (c.as_slice.ensures, c.as_slice-2.ensures)
    (subst (λ (n : ℕ). FitsAt (scope_in c.args.task.now) typing n c.args.frame.now) same to.2)
