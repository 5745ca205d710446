-- What is told of the method's code in its scope.
use Rattle.type_rows.specs.CodeViews.{scope_of}
use Rattle.type_verifier.proofs.MethodsTypings.{none-told, typed-told}
use Rattle.type_verifier.proofs.verifying.has_typing.Goals as goal

pub returns-in_default-clause-none : goal.returns-in_default-clause-none
returns-in_default-clause-none c = λ no frames types. c.in_default.ensures.none types.scope types.scope_is

pub is_typed_by_touched-requires : goal.is_typed_by_touched-requires
is_typed_by_touched-requires c = record { short = c.requires.short (scope_of c.in-Some.view) c.in-Some.ensures.some }

pub returns-clause-typed : goal.returns-clause-typed
returns-clause-typed c =
    typed-told c.args.t.now c.args.method (scope_of c.in-Some.view) c.in-Some.ensures.some c.is_typed_by_touched.result c.is_typed_by_touched.ensures.typed

pub returns-clause-none : goal.returns-clause-none
returns-clause-none c =
    none-told c.args.t.now c.args.method (scope_of c.in-Some.view) c.in-Some.ensures.some c.is_typed_by_touched.result c.is_typed_by_touched.ensures.none
