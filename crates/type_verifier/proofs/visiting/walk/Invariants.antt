-- The walk, in terms of what is left of it: once the frame at the place is settled, the leader's is.
use Rattle.std.proofs.Common.{◌-◌, List, Option, length}
use Rattle.jk_model_typing.specs.declared.frames.FrameType.{FrameType}
use Rattle.type_verifier.specs.Covers.{AreCovers, KeepsSeen, LeafFits, nodes_of}
use Rattle.type_verifier.specs.Known.{DiffersIn}
use Rattle.type_verifier.specs.Progress.{Moves, notes_of}
use Rattle.type_verifier.specs.Settling.{Settles}
use Rattle.type_verifier.specs.Tasks.{scope_in}
use Rattle.type_verifier.specs.Walking.{IsReady, IsWalking}
use Rattle.type_verifier.proofs.SettledStays.{Grows}
use Rattle.type_verifier.proofs.visiting.walk.Given as goal

abbrev pub invariant-loop-frame : goal.invariant-loop-frame
invariant-loop-frame l = record {
  ready : IsReady l.task l.progress.frames.items;
  covers : AreCovers l.task l.progress.frames.items (nodes_of l.nodes);
  moves : Moves (scope_in l.task) l.fn.progress.frames.items (notes_of l.fn.progress) l.progress.frames.items (notes_of l.progress);
  walking : IsWalking l.task l.progress.frames.items (nodes_of l.nodes) l.leader l.place l.frame;
  seen : KeepsSeen (scope_in l.task) (nodes_of l.fn.nodes) (nodes_of l.nodes);
  leaf : LeafFits (scope_in l.task) (nodes_of l.nodes) l.leader l.initial.frame.locals l.initial.frame.fresh;
  differs : DiffersIn (scope_in l.task) l.task.leads.items l.progress.frames.items l.place l.frame l.range;
  rest : (later : List (Option FrameType)) → Grows (scope_in l.task) l.progress.frames.items later
      → Settles (scope_in l.task) l.task.leads.items later l.place l.frame
      → Settles (scope_in l.task) l.task.leads.items later l.leader l.initial.frame;
}

abbrev pub decreases-loop-frame : goal.decreases-loop-frame
decreases-loop-frame l = length (scope_in l.task).code.instrs - l.place
