-- Each frame is settled, or its place is still to be looked at. Each visit takes a place away, and puts one back only where a
-- frame rises.
use Rattle.std.proofs.Common.{◌≡◌, length}
use Rattle.jk_model_typing.specs.Typing.{FitsAt}
use Rattle.type_verifier.specs.Covers.{AreCovers, nodes_of}
use Rattle.type_verifier.specs.Known.{AreKnown}
use Rattle.type_verifier.specs.Progress.{AreFrames, work_left}
use Rattle.type_verifier.specs.Settling.{AreSettled}
use Rattle.type_verifier.specs.Tasks.{scope_in}
use Rattle.type_verifier.proofs.verifying.settled_frames.Given as goal

abbrev pub invariant-loop-place : goal.invariant-loop-place
invariant-loop-place l = record {
  frames : AreFrames l.task l.progress.frames.items;
  covers : AreCovers l.task l.progress.frames.items (nodes_of l.nodes);
  settled : AreSettled (scope_in l.task) l.task.leads.items l.progress.frames.items l.progress.work.keys;
  known : AreKnown (scope_in l.task) l.task.leads.items l.progress.frames.items l.progress.rose.items (nodes_of l.nodes);
  ranges : length l.progress.rose.items ≡ length (scope_in l.task).code.instrs;
  first : FitsAt (scope_in l.task) l.progress.frames.items 0 l.start;
}

abbrev pub decreases-loop-place : goal.decreases-loop-place
decreases-loop-place l = work_left (scope_in l.task) l.progress.frames.items l.progress.work.keys
