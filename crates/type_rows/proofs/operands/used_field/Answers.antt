-- The operand leads to no field.
use Rattle.std.proofs.Common.{◌≡◌, subst}
use Rattle.jk_model.specs.declared.identifiers.MemberId.{MemberId}
use Rattle.jk_model_classes.specs.declared.records.Link.TheVariants.{Field}
use Rattle.jk_model_classes.specs.Lookups.{FieldIs}
use Rattle.type_rows.proofs.operands.used_field.Goals as goal

pub returns-in_err-named : goal.returns-in_err-named
returns-in_err-named c = rw c.from_residual.ensures (λ k m field uses. c.in_err-named.ensures _ uses.0)

pub returns-in_err-field_record-in-Field : goal.returns-in_err-field_record-in-Field
returns-in_err-field_record-in-Field c =
    rw c.from_residual-in_err-field_record-in-Field.ensures
    (λ k m field uses.
    let same : Field k m ≡ c.in_ok-named.field-0.now = c.in_ok-named.ensures.only (Field k m) uses.0 in
    let one : m ≡ c.in-Field.m = cc in
    c.in_err-field_record-in-Field.ensures.none field
    (subst (λ (x : MemberId). FieldIs c.args.view.now.table.now x field) one uses.1))
