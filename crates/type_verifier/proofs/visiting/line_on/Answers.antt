-- Control goes on to the next place or not; a leader there is raised.
use Rattle.std.proofs.Common.{IsTrue, not, arith, inr, true, ap, sym, ◌∙◌, subst, refl, Bool, length, Some}
use Rattle.std.proofs.lemmas.Option.{get_or_from_slice_get, slice_get_read}
use Rattle.std.proofs.lemmas.Bool.{false≢true}
use Rattle.jk_model_typing.specs.Typing.{leaves_line}
use Rattle.type_verifier.specs.Progress.{notes_of}
use Rattle.type_verifier.proofs.BelowTypings.{fits-within}
use Rattle.type_verifier.specs.Tasks.{scope_in}
use Rattle.type_verifier.proofs.HandlersHaveFrames.{FitsBut-here}
use Rattle.type_verifier.proofs.MovesCompose.{Moves-refl}
use Rattle.type_verifier.proofs.visiting.line_on.Goals as goal

pub returns-then-leaves_line-clause-moves : goal.returns-then-leaves_line-clause-moves
returns-then-leaves_line-clause-moves c = λ _.
    Moves-refl c.args.task.now c.args.progress.now.frames.items (notes_of c.args.progress.now) c.requires.ready.kept

pub returns-then-next-len-clause-nowhere : goal.returns-then-next-len-clause-nowhere
returns-then-next-len-clause-nowhere c = λ _ typing types.
    let stays : IsTrue (not (leaves_line c.args.i.now.op)) = subst (λ (b : Bool). IsTrue (not b)) c.if-leaves_line.ensures refl in
    let below = c.requires.below typing types stays in
    let within = fits-within c.args.task.now c.requires.ready.known c.requires.ready.ordered typing types c.args.next c.args.frame.now below in
    absurd (omega arith)

pub returns-then-not-index-clause-moves : goal.returns-then-not-index-clause-moves
returns-then-not-index-clause-moves c = λ _.
    Moves-refl c.args.task.now c.args.progress.now.frames.items (notes_of c.args.progress.now) c.requires.ready.kept

pub returns-then-not-index-clause-no_leader : goal.returns-then-not-index-clause-no_leader
returns-then-not-index-clause-no_leader c = λ _ leads.
    let is = get_or_from_slice_get c.args.task.now.leads.items c.args.next true c.index.result.now leads in
    false≢true (sym c.if-not-index.true ∙ c.index.ensures ∙ is)

pub raise_at-requires-clause-leader : goal.raise_at-requires-clause-leader
raise_at-requires-clause-leader c =
    let leads = c.args.task.now.leads.items in
    slice_get_read leads (length leads) c.args.next c.index.result.now refl (omega arith) c.index.ensures ∙ ap Some c.if-not-index.false

pub raise_at-requires-clause-outside : goal.raise_at-requires-clause-outside
raise_at-requires-clause-outside c = λ f at.
    let leads = c.args.task.now.leads.items in
    let leader = slice_get_read leads (length leads) c.args.next c.index.result.now refl (omega arith) c.index.ensures ∙ ap Some c.if-not-index.false in
    let stays : IsTrue (not (leaves_line c.args.i.now.op)) = subst (λ (b : Bool). IsTrue (not b)) c.if-leaves_line.ensures refl in
    rw c.as_slice.ensures
    (FitsBut-here (scope_in c.args.task.now) c.requires.ready.ordered c.args.progress.now.frames.items c.args.next c.args.range.first
    c.args.range.end c.args.frame.now.locals f (c.requires.outside stays leader) at)

pub raise_at-requires-clause-below : goal.raise_at-requires-clause-below
raise_at-requires-clause-below c = λ typing types.
    let stays : IsTrue (not (leaves_line c.args.i.now.op)) = subst (λ (b : Bool). IsTrue (not b)) c.if-leaves_line.ensures refl in
    rw (c.as_slice.ensures, c.as_slice-2.ensures) (c.requires.below typing types stays)

pub returns-then-branch-clause-done : goal.returns-then-branch-clause-done
returns-then-branch-clause-done c = λ _.
    inr (rw (c.as_slice.ensures, c.as_slice-2.ensures) at (c.in_ok-raise_at.ensures.fits c.if-branch.true))

pub returns-else-branch-clause-nowhere : goal.returns-else-branch-clause-nowhere
returns-else-branch-clause-nowhere c = λ _. c.in_ok-raise_at.ensures.none c.if-branch.false
