-- Each shape has the class at which a call begins.
use Rattle.jk_model_heaps.specs.declared.shapes.Shape.TheVariants as Of
use Rattle.instance_tests.proofs.CallsByShape.{runs_by_shape}
use Rattle.instance_tests.proofs.values.run_class.Goals as goal

pub returns-in-Plain : goal.returns-in-Plain
returns-in-Plain g c =
    runs_by_shape (g.H.ObjectStore.content c.args.heap.now) c.args.d c.in-Obj.a c.args.v (Of.Plain c.in-Plain.c) c.in-Obj.is c.requires
    c.in-Plain.ensures

pub returns-in-Array : goal.returns-in-Array
returns-in-Array g c =
    runs_by_shape (g.H.ObjectStore.content c.args.heap.now) c.args.d c.in-Obj.a c.args.v (Of.Array c.in-Array.field-0 c.in-Array.field-1) c.in-Obj.is
    c.requires c.in-Array.ensures

pub returns-in-Text : goal.returns-in-Text
returns-in-Text g c =
    runs_by_shape (g.H.ObjectStore.content c.args.heap.now) c.args.d c.in-Obj.a c.args.v (Of.Text c.in-Text.field-0) c.in-Obj.is c.requires
    c.in-Text.ensures

pub returns-in-Task : goal.returns-in-Task
returns-in-Task g c =
    runs_by_shape (g.H.ObjectStore.content c.args.heap.now) c.args.d c.in-Obj.a c.args.v (Of.Task c.in-Task.field-0) c.in-Obj.is c.requires
    c.in-Task.ensures
