-- The operand leads to no method.
use Rattle.std.proofs.Common.{◌≡◌, subst}
use Rattle.jk_model.specs.declared.identifiers.MemberId.{MemberId}
use Rattle.jk_model_classes.specs.declared.records.Link.TheVariants.{Method}
use Rattle.jk_model_classes.specs.Lookups.{MethodIs}
use Rattle.type_rows.proofs.operands.used_method.Goals as goal

pub returns-in_err-named : goal.returns-in_err-named
returns-in_err-named c = rw c.from_residual.ensures (λ k m method uses. c.in_err-named.ensures _ uses.0)

pub returns-in_err-method_record-in-Method : goal.returns-in_err-method_record-in-Method
returns-in_err-method_record-in-Method c =
    rw c.from_residual-in_err-method_record-in-Method.ensures
    (λ k m method uses.
    let same : Method k m ≡ c.in_ok-named.field-0.now = c.in_ok-named.ensures.only (Method k m) uses.0 in
    let one : m ≡ c.in-Method.m = cc in
    c.in_err-method_record-in-Method.ensures.none method
    (subst (λ (x : MemberId). MethodIs c.args.view.now.table.now x method) one uses.1))
