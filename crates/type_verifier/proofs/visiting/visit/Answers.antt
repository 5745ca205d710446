-- A leader without a frame is settled.
use Rattle.type_verifier.specs.Progress.{notes_of}
use Rattle.type_verifier.specs.Tasks.{scope_in}
use Rattle.type_verifier.proofs.MovesCompose.{Moves-refl}
use Rattle.type_verifier.specs.Covers.{nodes_of}
use Rattle.type_verifier.proofs.RangesOfWalks.{known-without}
use Rattle.type_verifier.proofs.SettledStays.{AreSettled-without}
use Rattle.type_verifier.proofs.visiting.visit.Goals as goal

pub walk-requires-clause-copied : goal.walk-requires-clause-copied
walk-requires-clause-copied c = rw c.as_slice.ensures.value at (rw c.in-Some.is at c.in_ok-frame.ensures.some)

pub returns-in-None-clause-moves : goal.returns-in-None-clause-moves
returns-in-None-clause-moves c = λ _.
    Moves-refl c.args.task.now c.args.progress.now.frames.items (notes_of c.args.progress.now) c.requires.frames

pub returns-in-None-clause-settled : goal.returns-in-None-clause-settled
returns-in-None-clause-settled c = λ _.
    AreSettled-without (scope_in c.args.task.now) c.args.task.now.leads.items c.args.progress.now.frames.items c.args.progress.now.work.keys
    c.args.leader c.requires.settled (rw c.as_slice.ensures.value at (rw c.in-None.is at c.in_ok-frame.ensures.none))

pub returns-in-None-clause-known : goal.returns-in-None-clause-known
returns-in-None-clause-known c = λ _.
    known-without (scope_in c.args.task.now) c.args.task.now.leads.items c.args.progress.now.frames.items c.args.progress.now.rose.items
    (nodes_of c.args.nodes.now) c.args.leader c.requires.others (rw c.as_slice.ensures.value at (rw c.in-None.is at c.in_ok-frame.ensures.none))
