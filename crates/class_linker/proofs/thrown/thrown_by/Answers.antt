-- The method has an Exceptions, which isn't refused, or has none.
use Rattle.std.proofs.Common.{List, ℕ, Some, None, refl, subst}
use Rattle.std.specs.Prelude.{IfOk}
use Rattle.jk_model_classes.specs.MemberAttributes.{AreThrown}
use Rattle.class_linker.specs.ThrownClasses.{AreClassesIn}
use Rattle.class_linker.proofs.ThrownInTurn.{none_thrown, not_refused, own_exceptions, some_thrown}
use Rattle.class_linker.proofs.thrown.thrown_by.Goals as goal

pub classes_said-requires-clause-body : goal.classes_said-requires-clause-body
classes_said-requires-clause-body c =
    let a = c.in-Some.a.now in
    let info = c.args.method.now in
    let own = own_exceptions c.args.scope.now.file.now.pool c.args.scope.now.file.now.pool c.as_slice.result.now info.attributes (Some a) refl
    c.as_slice.ensures
    c.in-Some.ensures in
    λ never.
    not_refused c.args.scope.now.names.now c.args.scope.now.file.now c.requires.own.0 own.0 info a c.requires.scope.linkable c.requires.own.1 own.1 own.2
    (subst (λ (w : List ℕ). AreThrown c.args.scope.now.file.now.pool w → ⊥) c.as_slice-in-Some.ensures never)

pub returns-in-Some : goal.returns-in-Some
returns-in-Some c =
    let a = c.in-Some.a.now in
    let info = c.args.method.now in
    let own = own_exceptions c.args.scope.now.file.now.pool c.args.scope.now.file.now.pool c.as_slice.result.now info.attributes (Some a) refl
    c.as_slice.ensures
    c.in-Some.ensures in
    some_thrown c.args.scope.now.names.now c.args.scope.now.file.now info own.0 a c.classes_said.result own.1 own.2
    (subst (λ (w : List ℕ). IfOk c.classes_said.result (λ thrown. AreClassesIn c.args.scope.now.names.now c.args.scope.now.file.now w thrown))
    c.as_slice-in-Some.ensures
    c.classes_said.ensures)

pub returns-in-None : goal.returns-in-None
returns-in-None c =
    let info = c.args.method.now in
    none_thrown c.args.scope.now.names.now c.args.scope.now.file.now info c.new.result
    (own_exceptions c.args.scope.now.file.now.pool c.args.scope.now.file.now.pool c.as_slice.result.now info.attributes None refl c.as_slice.ensures
    c.in-None.ensures) c.new.ensures
