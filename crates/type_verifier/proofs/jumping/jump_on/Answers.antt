-- An instruction leads to its cases and, if it has one, to its target.
use Rattle.std.proofs.Common.{◌≡◌, List, Option, Some, ℤ, inl, inr, slice_get, subst, sym, ◌∙◌, of_z, to_z, w32, arith}
use Rattle.std.proofs.lemmas.Int.{ints}
use Rattle.std.proofs.lemmas.Result.{IfOk-weaker}
use Rattle.jk_model_typing.specs.declared.frames.FrameType.{FrameType}
use Rattle.jk_model.specs.declared.instructions.SwitchCase.{SwitchCase}
use Rattle.type_verifier.specs.Progress.{notes_of}
use Rattle.type_verifier.specs.Tasks.{scope_in}
use Rattle.type_verifier.proofs.HandlersHaveFrames.{FitsBut-moves}
use Rattle.type_verifier.specs.Walking.{FitsTarget}
use Rattle.type_verifier.proofs.BothOfResults.{IfOk-both}
use Rattle.type_verifier.proofs.MovesCompose.{Moves-trans}
use Rattle.type_verifier.proofs.SettledStays.{FitsAt-grown}
use Rattle.type_verifier.proofs.jumping.jump_on.Goals as goal

pub returns-then-not-branch-clause-none : goal.returns-then-not-branch-clause-none
returns-then-not-branch-clause-none c = λ _. c.in_ok-cases_on.ensures.none c.if-not-branch.true

pub returns-clause-moves : goal.returns-clause-moves
returns-clause-moves c =
    IfOk-weaker c.go_to.result _ _
    (λ yes later good.
    Moves-trans (scope_in c.args.task.now) c.requires.ready.ordered _ _ _ _ _ _ (c.in_ok-cases_on.ensures.moves c.if-not-branch.false) (later good))
    c.go_to.ensures.moves

pub returns-clause-fit : goal.returns-clause-fit
returns-clause-fit c =
    let s = scope_in c.args.task.now in
    let mid : List (Option FrameType) = c.cases_on.new.progress.frames.items in
    let frames : List (Option FrameType) = c.go_to.new.progress.frames.items in
    let whole : to_z w32 (of_z w32 c.args.i.now.a) ≡ c.args.i.now.a = omega (arith, ints) in
    let fit = c.in_ok-cases_on.ensures.fit c.if-not-branch.false in
    IfOk-both c.go_to.result _ _ _
    (λ yes moves fits good next leads. elim leads [
      | inl (jumps, is) ↦ subst (λ (z : ℤ). FitsTarget s frames z c.args.frame.now) (sym is) (rw whole at (fits good))
      | inr (k, case, there, is) ↦
          let to = fit k case (rw c.as_slice.ensures there) in
          subst (λ (z : ℤ). FitsTarget s frames z c.args.frame.now) (sym is)
          (to.0, to.1, FitsAt-grown s c.requires.ready.ordered mid frames (moves good).grows to.0 c.args.frame.now to.2)
    ])
    c.go_to.ensures.moves c.go_to.ensures.fits

pub cases_on-requires-clause-outside : goal.cases_on-requires-clause-outside
cases_on-requires-clause-outside c = λ k n case at is.
    let there = subst (λ (cases : List SwitchCase). slice_get cases k ≡ Some case) c.as_slice.ensures at in
    c.requires.outside n (inr (k, case, there, sym is))

pub go_to-requires-clause-outside : goal.go_to-requires-clause-outside
go_to-requires-clause-outside c = λ n is.
    let whole : to_z w32 (of_z w32 c.args.i.now.a) ≡ c.args.i.now.a = omega (arith, ints) in
    let outside = c.requires.outside n (inl (sym c.if-not-is_branch.ensures, sym (sym whole ∙ is))) in
    FitsBut-moves (scope_in c.args.task.now) c.requires.ready.ordered c.args.progress.now.frames.items (notes_of c.args.progress.now)
    c.cases_on.new.progress.frames.items (notes_of c.cases_on.new.progress) n c.args.range.first c.args.range.end c.args.frame.now.locals
    (c.in_ok-cases_on.ensures.moves c.if-not-branch.false) outside
