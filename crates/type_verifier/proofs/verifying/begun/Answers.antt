-- No frames at first, and the start frame.
use Rattle.std.proofs.Common.{◌≡◌, length, arith}
use Rattle.type_frames.proofs.RaisedByPlaces.{outside-none as FitOutside-all}
use Rattle.type_verifier.specs.Progress.{notes_of}
use Rattle.type_verifier.specs.Tasks.{scope_in}
use Rattle.type_verifier.proofs.BelowTypings.{fits-within}
use Rattle.type_verifier.proofs.RangesOfWalks.{known-begun}
use Rattle.type_verifier.proofs.StartsOfTypings.{AreFrames-none, AreSettled-begun, start-below}
use Rattle.type_verifier.proofs.verifying.begun.Goals as goal

pub returns-then-places-eq0-clause-none : goal.returns-then-places-eq0-clause-none
returns-then-places-eq0-clause-none c = λ typing types.
    let task = c.args.task.now in
    let below = start-below (scope_in task) typing c.args.start.now types c.requires.start in
    let within = fits-within task c.requires.task c.requires.ordered typing types 0 c.args.start.now below in
    absurd (omega arith)

pub raise_at-requires-clause-frames : goal.raise_at-requires-clause-frames
raise_at-requires-clause-frames c =
    let task = c.args.task.now in
    let many : c.len-places.result ≡ length (scope_in task).code.instrs = omega (arith, c.requires.task.leaders.as_many) in
    rw c.in_ok-no_frames.ensures (AreFrames-none task c.len-places.result many)

pub raise_at-requires-clause-leader : goal.raise_at-requires-clause-leader
raise_at-requires-clause-leader c = c.requires.task.leaders.first (omega arith)

pub raise_at-requires-clause-outside : goal.raise_at-requires-clause-outside
raise_at-requires-clause-outside c = λ f at.
    rw (c.len.ensures, c.as_slice.ensures) (FitOutside-all c.args.task.now.view.table.now c.args.start.now.locals f.locals)

pub raise_at-requires-clause-below : goal.raise_at-requires-clause-below
raise_at-requires-clause-below c = λ typing types.
    let task = c.args.task.now in
    rw (c.as_slice.ensures, c.as_slice-2.ensures)
    (start-below (scope_in task) typing c.args.start.now types c.requires.start)

pub returns-then-branch-clause-settled : goal.returns-then-branch-clause-settled
returns-then-branch-clause-settled c =
    let moves = c.in_ok-raise_at.ensures.moves c.if-branch.true in
    AreSettled-begun (scope_in c.args.task.now) c.args.task.now.leads.items c.len-places.result _ c.raise_at.new.progress.frames.items
    (notes_of c.raise_at.new.progress) (rw c.in_ok-no_frames.ensures at moves)

pub returns-then-branch-clause-known : goal.returns-then-branch-clause-known
returns-then-branch-clause-known c = λ nodes.
    let moves = c.in_ok-raise_at.ensures.moves c.if-branch.true in
    known-begun (scope_in c.args.task.now) c.args.task.now.leads.items c.len-places.result _ c.raise_at.new.progress.frames.items
    (notes_of c.raise_at.new.progress) nodes (rw c.in_ok-no_frames.ensures at moves)

pub returns-then-branch-clause-ranges : goal.returns-then-branch-clause-ranges
returns-then-branch-clause-ranges c =
    let moves = c.in_ok-raise_at.ensures.moves c.if-branch.true in
    omega (arith, moves.as_many, c.in_ok-no_ranges.ensures, c.requires.task.leaders.as_many)

pub returns-then-branch-clause-first : goal.returns-then-branch-clause-first
returns-then-branch-clause-first c = rw (c.as_slice.ensures, c.as_slice-2.ensures) at (c.in_ok-raise_at.ensures.fits c.if-branch.true)

pub returns-else-branch-clause-none : goal.returns-else-branch-clause-none
returns-else-branch-clause-none c = c.in_ok-raise_at.ensures.none c.if-branch.false
