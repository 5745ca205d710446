-- The nodes below the level have the locals, and their entries' handlers have frames that these fit.
use Rattle.std.proofs.Common.{◌≡◌, ◌≤◌, length}
use Rattle.handler_cover.specs.Covering.{node_over}
use Rattle.type_frames.specs.FrameJoins.{FitOutside}
use Rattle.type_verifier.specs.declared.covers.Seen.{Seen}
use Rattle.type_verifier.specs.Climbs.{AreNodes, ClimbsTo}
use Rattle.type_verifier.specs.Covers.{KeepsSeen, NodeAt, nodes_of}
use Rattle.type_verifier.specs.Progress.{AreFrames, Moves, notes_of}
use Rattle.type_verifier.specs.Tasks.{scope_in}
use Rattle.type_verifier.proofs.handing.hand_on.Given as goal

abbrev pub invariant-loop-level : goal.invariant-loop-level
invariant-loop-level l = record {
  place : l.at.place ≡ l.initial.at.place;
  locals : l.at.locals ≡ l.initial.at.locals;
  fresh : l.at.fresh ≡ l.initial.at.fresh;
  end : l.at.end ≤ length l.initial.at.locals.now;
  node : l.node ≡ node_over l.level l.initial.at.place;
  frames : AreFrames l.task l.progress.frames.items;
  moves : Moves (scope_in l.task) l.initial.progress.frames.items (notes_of l.initial.progress)
      l.progress.frames.items (notes_of l.progress);
  seen : KeepsSeen (scope_in l.task) (nodes_of l.initial.nodes) (nodes_of l.nodes);
  nodes : AreNodes l.task l.progress.frames.items (nodes_of l.nodes);
  climbs : ClimbsTo l.task (nodes_of l.nodes) l.initial.at.place l.initial.at.locals.now l.initial.at.fresh l.level;
  outside : (c : Seen) → NodeAt (nodes_of l.nodes) l.level l.node c
      → FitOutside (scope_in l.task).classes l.at.first l.at.end l.initial.at.locals.now c.locals;
}
