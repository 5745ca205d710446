-- The new handle is of the running segment.
use Rattle.jk_model_domains.specs.Objects.{Task}
use Rattle.system_calls.proofs.OwnDomain.{task_answered, task_lacks_room}
use Rattle.system_calls.proofs.RowsOfNewObjects.{counted_after, counted_still}
use Rattle.system_calls.proofs.own_domain.current_task.Goals as goal

pub returns-in-Ok-clause-becomes : goal.returns-in-Ok-clause-becomes
returns-in-Ok-clause-becomes g c =
    counted_after (g.H.ObjectStore.content c.args.heap.now) (g.H.ObjectStore.content c.make.new.self) c.args.t.now c.args.d c.requires c.in-Ok.a
    (Task c.args.s) c.in-Ok.ensures.ok

pub returns-in-Ok-clause-row : goal.returns-in-Ok-clause-row
returns-in-Ok-clause-row g c = λ x inside is same.
    task_answered (g.H.ObjectStore.content c.args.heap.now) (g.H.ObjectStore.content c.make.new.self) c.args.t.now c.args.d c.requires c.args.s
    x inside is same (g.met.H.ObjectStore.holds c.args.heap.now) c.in-Ok.a c.in-Ok.ensures.ok c.in-Ok.ensures.room

pub returns-in-Err-clause-becomes : goal.returns-in-Err-clause-becomes
returns-in-Err-clause-becomes g c =
    counted_still (g.H.ObjectStore.content c.args.heap.now) (g.H.ObjectStore.content c.make.new.self) c.args.t.now c.args.d c.requires
    c.in-Err.ensures.err

pub returns-in-Err-clause-row : goal.returns-in-Err-clause-row
returns-in-Err-clause-row g c = λ x inside is same.
    task_lacks_room (g.H.ObjectStore.content c.args.heap.now) (g.H.ObjectStore.content c.make.new.self) c.args.t.now c.args.d c.requires c.args.s
    x inside is same c.in-Err.ensures.err c.in-Err.ensures.no_room
