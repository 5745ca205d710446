-- The body that is read is the one that isn't refused.
use Rattle.std.proofs.Common.{List, ℕ, sym, subst}
use Rattle.std.specs.Prelude.{IfOk}
use Rattle.std.specs.List.{AllByRecursion}
use Rattle.jk_model.specs.ClassFile.{IsClassEntry, NamesEntry}
use Rattle.class_linker.specs.ThrownClasses.{AreClassesOf}
use Rattle.class_linker.proofs.ThrownInTurn.{body_read, classes_read, reads_thrown}
use Rattle.class_linker.proofs.thrown.classes_said.Goals as goal

pub classes_of-requires-clause-classes : goal.classes_of-requires-clause-classes
classes_of-requires-clause-classes c =
    let said = body_read c.args.scope.now.file.now.pool c.args.body.now c.in-Ok.read.0 c.in-Ok.read.1.now c.in-Ok.ensures.gives c.in-Ok.ensures.layout
    c.requires.body in
    subst (λ (w : List ℕ). AllByRecursion (NamesEntry IsClassEntry c.args.scope.now.file.now.pool) w) (sym c.as_slice.ensures) said.1

pub unreachable-requires : goal.unreachable-requires
unreachable-requires c =
    c.requires.body (reads_thrown c.args.scope.now.file.now.pool c.args.body.now (rw c.in-Err-EndsEarly.field-0-is at c.in-Err-EndsEarly.ensures.gives))

pub returns-in-Ok : goal.returns-in-Ok
returns-in-Ok c =
    let said = body_read c.args.scope.now.file.now.pool c.args.body.now c.in-Ok.read.0 c.in-Ok.read.1.now c.in-Ok.ensures.gives c.in-Ok.ensures.layout
    c.requires.body in
    classes_read c.args.scope.now.names.now c.args.scope.now.file.now c.args.body.now c.in-Ok.read.0 c.classes_of.result c.in-Ok.ensures.values said.0
    (subst (λ (w : List ℕ). IfOk c.classes_of.result (λ thrown. AreClassesOf c.args.scope.now.names.now c.args.scope.now.file.now w thrown))
    c.as_slice.ensures c.classes_of.ensures)
