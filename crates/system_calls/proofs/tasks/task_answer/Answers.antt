-- What is asked of the segment is granted.
use Rattle.system_calls.proofs.TasksAsked.{let_go_on, stopped, suspended}
use Rattle.system_calls.proofs.tasks.task_answer.Goals as goal

pub returns-in-SuspendsTask : goal.returns-in-SuspendsTask
returns-in-SuspendsTask g c =
    suspended (g.H.ObjectStore.content c.args.heap.now) c.args.shared.now c.suspend.new.self c.args.here.now c.args.meaning c.args.given.now c.requires.may
    c.object_alone.result c.object_alone.ensures c.segment_of-s.result c.segment_of-s.ensures c.in-SuspendsTask.is c.suspend.ensures

pub returns-in-ResumesTask : goal.returns-in-ResumesTask
returns-in-ResumesTask g c =
    let_go_on (g.H.ObjectStore.content c.args.heap.now) c.args.shared.now c.resume.new.self c.args.here.now c.args.meaning c.args.given.now c.requires.may
    c.object_alone.result c.object_alone.ensures c.segment_of-s.result c.segment_of-s.ensures c.in-ResumesTask.is c.resume.ensures

pub returns-in-StopsTask : goal.returns-in-StopsTask
returns-in-StopsTask g c =
    stopped (g.H.ObjectStore.content c.args.heap.now) c.args.shared.now c.stop.new.self c.args.here.now c.args.meaning c.args.given.now c.requires.may
    c.object_alone.result c.object_alone.ensures c.segment_of-s.result c.segment_of-s.ensures c.in-StopsTask.is c.stop.ensures
