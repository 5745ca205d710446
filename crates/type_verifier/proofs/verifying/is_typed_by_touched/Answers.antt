-- What is told of the code over the locals that it can touch is true of the whole code.
use Rattle.std.proofs.Common.{length, ap, arith}
use Rattle.jk_model_typing.specs.Scopes.{CodeScope}
use Rattle.type_rows.specs.CodeViews.{scope_of}
use Rattle.type_verifier.proofs.MethodsTypings.{none-over, typed-over}
use Rattle.type_verifier.proofs.verifying.is_typed_by_touched.Goals as goal

pub is_typed-requires : goal.is_typed-requires
is_typed-requires c =
    let (marks, narrowed) = rw c.in-Some.is at c.in_ok-code.ensures in
    omega (arith, ap (λ (s : CodeScope). length s.code.instrs) c.over.ensures, narrowed.as_many, c.requires.short)

pub returns-in-Some-clause-typed : goal.returns-in-Some-clause-typed
returns-in-Some-clause-typed c =
    let (marks, narrowed) = rw c.in-Some.is at c.in_ok-code.ensures in
    typed-over (scope_of c.args.view) (scope_of c.over.result) marks c.in-Some.code narrowed c.over.ensures c.is_typed.result c.is_typed.ensures.typed

pub returns-in-Some-clause-none : goal.returns-in-Some-clause-none
returns-in-Some-clause-none c =
    let (marks, narrowed) = rw c.in-Some.is at c.in_ok-code.ensures in
    none-over (scope_of c.args.view) (scope_of c.over.result) marks c.in-Some.code narrowed c.over.ensures c.is_typed.result c.is_typed.ensures.none
