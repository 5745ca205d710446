-- Handing locals to the handlers of all entries at a node.
use Rattle.std.proofs.Common.{arith}
use Rattle.std.proofs.lemmas.Bool.Decides.{nat_tests}
use Rattle.type_verifier.specs.Progress.{notes_of}
use Rattle.type_verifier.specs.Tasks.{scope_in}
use Rattle.type_verifier.proofs.EntriesAtNodes.{entry-in_turn, entry-within, AreHandedTo-more, AreHandedTo-all}
use Rattle.type_verifier.proofs.HandlersHaveFrames.{FitsBut-moves}
use Rattle.type_verifier.proofs.MovesCompose.{Moves-refl, Moves-trans}
use Rattle.type_verifier.proofs.handing.hand_to_entries.Goals as goal

pub loop-x-init : goal.loop-x-init
loop-x-init c = record {
  frames = c.requires.frames;
  moves = Moves-refl c.args.task.now c.args.progress.now.frames.items (notes_of c.args.progress.now) c.requires.frames;
  handed = λ k h low at. absurd (omega arith);
}

pub returns-clause-handed : goal.returns-clause-handed
returns-clause-handed c = λ all x h here at.
    AreHandedTo-all c.args.task.now c.requires.ordered c.entries_at-x-items.result.now c.args.at.locals.now c.args.at.fresh
    c.loop-x.progress.frames.items c.loop-x.x-index c.loop-x.invariant.handed c.loop-x-test.false x h
    (rw c.entries_at-x-items.ensures here) at

pub unreachable-requires : goal.unreachable-requires
unreachable-requires c =
    let within = entry-within c.args.task.now c.requires.task c.args.level c.args.node c.loop-x.x-index c.entries_at-x-items.result.now
    c.entries_at-x-items.ensures c.loop-x-test.true in
    grind (arith, nat_tests, c.in_default.ensures)

pub hand_to-requires-clause-outside : goal.hand_to-requires-clause-outside
hand_to-requires-clause-outside c =
    let e = entry-in_turn c.args.task.now c.requires.task c.args.level c.args.node c.loop-x.x-index c.entries_at-x-items.result.now
    c.in-Some.h.now c.entries_at-x-items.ensures c.loop-x-test.true c.in-Some.ensures.3.0 c.in-Some.ensures.1 in
    FitsBut-moves (scope_in c.args.task.now) c.requires.ordered c.args.progress.now.frames.items (notes_of c.args.progress.now)
    c.loop-x.progress.frames.items (notes_of c.loop-x.progress) _ c.args.at.first c.args.at.end c.args.at.locals.now c.loop-x.invariant.moves
    (c.requires.outside _ _ e.here e.at)

pub hand_to-requires-clause-below : goal.hand_to-requires-clause-below
hand_to-requires-clause-below c =
    let e = entry-in_turn c.args.task.now c.requires.task c.args.level c.args.node c.loop-x.x-index c.entries_at-x-items.result.now
    c.in-Some.h.now c.entries_at-x-items.ensures c.loop-x-test.true c.in-Some.ensures.3.0 c.in-Some.ensures.1 in
    λ typing types. c.requires.below typing types _ e.among (e.covers c.args.at.place c.requires.over)

pub returns-then-not-branch-clause-none : goal.returns-then-not-branch-clause-none
returns-then-not-branch-clause-none c = λ fails. c.in_ok-hand_to.ensures.none c.if-not-branch.true

pub loop-x-preserved : goal.loop-x-preserved
loop-x-preserved c =
    let e = entry-in_turn c.args.task.now c.requires.task c.args.level c.args.node c.loop-x.x-index c.entries_at-x-items.result.now
    c.in-Some.h.now c.entries_at-x-items.ensures c.loop-x-test.true c.in-Some.ensures.3.0 c.in-Some.ensures.1 in
    let moves = c.in_ok-hand_to.ensures.moves c.if-not-branch.false in
    record {
      frames = c.in_ok-hand_to.ensures.frames c.if-not-branch.false;
      moves = Moves-trans (scope_in c.args.task.now) c.requires.ordered c.args.progress.now.frames.items (notes_of c.args.progress.now)
          c.loop-x.progress.frames.items (notes_of c.loop-x.progress) c.hand_to.new.progress.frames.items (notes_of c.hand_to.new.progress)
          c.loop-x.invariant.moves moves;
      handed = AreHandedTo-more c.args.task.now c.requires.ordered c.entries_at-x-items.result.now c.args.at.locals.now c.args.at.fresh
          c.loop-x.progress.frames.items (notes_of c.loop-x.progress) c.hand_to.new.progress.frames.items (notes_of c.hand_to.new.progress)
          c.loop-x.x-index _ c.loop-x.invariant.handed moves e.at (c.in_ok-hand_to.ensures.handed c.if-not-branch.false);
    }
