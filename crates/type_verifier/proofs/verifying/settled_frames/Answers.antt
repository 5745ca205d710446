-- The loop over the places that are still to be looked at.
use Rattle.std.proofs.Common.{◌≡◌, suc, length, ap, sym, ◌∙◌, arith}
use Rattle.type_verifier.specs.Covers.{nodes_of}
use Rattle.type_verifier.specs.Tasks.{scope_in}
use Rattle.type_verifier.proofs.MovesCompose.{FitsAt-moves}
use Rattle.type_verifier.proofs.RangesOfWalks.{known-read}
use Rattle.type_verifier.proofs.SettledStays.{AreSettledBut-taken}
use Rattle.type_verifier.proofs.verifying.settled_frames.Goals as goal

pub loop-place-init : goal.loop-place-init
loop-place-init c =
    let begun = c.in_ok-progress.ensures in
    record {
      frames = rw c.in-Some.is at begun.frames;
      covers = c.in_ok-nodes.ensures c.in-Some.progress.frames.items;
      settled = rw c.in-Some.is at begun.settled;
      known = rw c.in-Some.is at (begun.known (nodes_of c.in_ok-nodes.nodes));
      ranges = rw c.in-Some.is at begun.ranges;
      first = rw c.in-Some.is at begun.first;
    }

pub visit-requires-clause-settled : goal.visit-requires-clause-settled
visit-requires-clause-settled c =
    AreSettledBut-taken (scope_in c.args.task.now) c.args.task.now.leads.items c.loop-place.progress.frames.items c.loop-place.progress.work.keys
    c.pop_first.new.self.keys c.in-Some-pop_first.place c.in-Some-pop_first.ensures.removal c.loop-place.invariant.settled

pub visit-requires-clause-known : goal.visit-requires-clause-known
visit-requires-clause-known c =
    let before = c.loop-place.invariant in
    known-read (scope_in c.args.task.now) c.args.task.now.leads.items c.loop-place.progress.frames.items c.loop-place.progress.rose.items
    (nodes_of c.loop-place.nodes) c.in-Some-pop_first.place c.range_at-range.result (before.ranges ∙ sym before.frames.as_many) before.known
    (rw c.as_slice.ensures.value at c.range_at-range.ensures)

pub visit-requires-clause-others : goal.visit-requires-clause-others
visit-requires-clause-others c = λ place f r other at there.
    c.loop-place.invariant.known place f r at (c.note.ensures.others place r other there)

pub returns-then-not-branch-clause-none : goal.returns-then-not-branch-clause-none
returns-then-not-branch-clause-none c = c.in_ok-visit.ensures.none c.if-not-branch.true

pub loop-place-preserved : goal.loop-place-preserved
loop-place-preserved c =
    let told = c.in_ok-visit.ensures in
    let yes = c.if-not-branch.false in
    record {
      frames = told.frames yes;
      covers = told.covers yes;
      settled = told.settled yes;
      known = told.known yes;
      ranges = (told.moves yes).as_many ∙ c.note.ensures.as_many ∙ c.loop-place.invariant.ranges;
      first =
          FitsAt-moves (scope_in c.args.task.now) c.ordered.ensures.ordered _ _ _ _ 0 c.args.start.now (told.moves yes) c.loop-place.invariant.first;
    }

pub loop-place-smaller : goal.loop-place-smaller
loop-place-smaller c =
    let moves = c.in_ok-visit.ensures.moves c.if-not-branch.false in
    let cost = moves.cost in
    let taken : length c.loop-place.progress.work.keys ≡ suc (length c.pop_first.new.self.keys) =
    ap length c.in-Some-pop_first.ensures.removal in
    omega arith
