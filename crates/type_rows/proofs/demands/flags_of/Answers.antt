-- There is no such member.
use Rattle.type_rows.proofs.demands.flags_of.Goals as goal

pub returns-in_err-field_record-in-Field-clause-none : goal.returns-in_err-field_record-in-Field-clause-none
returns-in_err-field_record-in-Field-clause-none c =
    rw (c.from_residual.ensures, c.in-Field.is) (λ flags (field, is, same). c.in_err-field_record-in-Field.ensures.none field is)

pub returns-in_err-method_record-in-Method-clause-none : goal.returns-in_err-method_record-in-Method-clause-none
returns-in_err-method_record-in-Method-clause-none c =
    rw (c.from_residual-in_err-method_record-in-Method.ensures, c.in-Method.is)
    (λ flags (method, is, same). c.in_err-method_record-in-Method.ensures.none method is)
