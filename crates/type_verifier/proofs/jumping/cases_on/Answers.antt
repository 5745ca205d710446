-- What a case leads to, and what the later ones leave of it.
use Rattle.std.proofs.Common.{◌≡◌, ℕ, slice_get, Some, below_more, arith, sym, ◌∙◌, pos, of_z, to_z, w32}
use Rattle.std.proofs.lemmas.Int.{ints}
use Rattle.std.proofs.lemmas.Option.{slice_get_within, slice_get-get_or, get_or_from_slice_get}
use Rattle.jk_model.specs.declared.instructions.SwitchCase.{SwitchCase}
use Rattle.type_verifier.specs.Progress.{notes_of}
use Rattle.type_verifier.specs.Tasks.{scope_in}
use Rattle.type_verifier.specs.Walking.{FitsTarget}
use Rattle.type_verifier.proofs.HandlersHaveFrames.{FitsBut-moves}
use Rattle.type_verifier.proofs.MovesCompose.{Moves-refl, Moves-trans}
use Rattle.type_verifier.proofs.SettledStays.{FitsAt-grown}
use Rattle.type_verifier.proofs.jumping.cases_on.Goals as goal

pub loop-case-init : goal.loop-case-init
loop-case-init c = record {
  ready = c.requires.ready;
  moves = Moves-refl c.args.task.now c.args.progress.now.frames.items (notes_of c.args.progress.now) c.requires.ready.kept;
  fit = λ k below. absurd (omega arith);
}

pub go_to-requires-clause-target : goal.go_to-requires-clause-target
go_to-requires-clause-target c =
    let same : to_z w32 (of_z w32 c.target_of.result) ≡ c.target_of.result = omega (arith, ints) in
    let here = slice_get-get_or c.args.cases.now c.loop-case.case-index (record { key = pos 0; target = pos 0 }) c.loop-case-test.true in
    rw (same, c.target_of.ensures) (c.requires.targets c.loop-case.case-index _ here)

pub go_to-requires-clause-outside : goal.go_to-requires-clause-outside
go_to-requires-clause-outside c = λ n is.
    let same : to_z w32 (of_z w32 c.target_of.result) ≡ c.target_of.result = omega (arith, ints) in
    let here = slice_get-get_or c.args.cases.now c.loop-case.case-index (record { key = pos 0; target = pos 0 }) c.loop-case-test.true in
    let e = sym c.target_of.ensures ∙ sym same ∙ is in
    FitsBut-moves (scope_in c.args.task.now) c.requires.ready.ordered c.args.progress.now.frames.items (notes_of c.args.progress.now)
    c.loop-case.progress.frames.items (notes_of c.loop-case.progress) n c.args.range.first c.args.range.end c.args.frame.now.locals
    c.loop-case.invariant.moves (c.requires.outside c.loop-case.case-index n _ here e)

pub returns-then-not-branch-clause-none : goal.returns-then-not-branch-clause-none
returns-then-not-branch-clause-none c = λ _. c.in_ok-go_to.ensures.none c.if-not-branch.true

pub loop-case-preserved : goal.loop-case-preserved
loop-case-preserved c =
    let told = c.in_ok-go_to.ensures in
    let yes = c.if-not-branch.false in
    let s = scope_in c.args.task.now in
    let ordered = c.requires.ready.ordered in
    let frame = c.args.frame.now in
    let before = c.loop-case.progress.frames.items in
    let after = c.go_to.new.progress.frames.items in
    let grows = (told.moves yes).grows in
    record {
      ready = told.ready yes;
      moves = Moves-trans s ordered _ _ _ _ _ _ c.loop-case.invariant.moves (told.moves yes);
      fit = below_more
          (λ (k : ℕ). (case : SwitchCase) → slice_get c.args.cases.now k ≡ Some case → FitsTarget s after case.target frame)
          c.loop-case.case-index
          (λ k below case at.
          let to = c.loop-case.invariant.fit k below case at in
          (to.0, to.1, FitsAt-grown s ordered before after grows to.0 frame to.2))
          (λ case at.
          let same : to_z w32 (of_z w32 c.target_of.result) ≡ c.target_of.result = omega (arith, ints) in
          let there = get_or_from_slice_get c.args.cases.now c.loop-case.case-index case (record { key = pos 0; target = pos 0 }) at in
          rw (← there) (rw (same, c.target_of.ensures) at (told.fits yes)));
    }

pub returns-clause-fit : goal.returns-clause-fit
returns-clause-fit c = λ _ k case at.
    let within = slice_get_within c.args.cases.now k case at in
    c.loop-case.invariant.fit k (omega arith) case at
