-- There is no such member.
use Rattle.link_rules.proofs.WrongByLinks.{no_field_wrong, no_method_wrong}
use Rattle.link_rules.proofs.wrong_members.leads_wrong.Goals as goal

pub returns-in-None : goal.returns-in-None
returns-in-None c = (
  λ t. absurd cc,
  λ h. absurd (no_field_wrong c.args.t.now c.args.op c.args.link.now c.in-Field.field-0 c.in-Field.m c.in-Field.is c.in-None.ensures.none h),
)

pub returns-in-None-method_record : goal.returns-in-None-method_record
returns-in-None-method_record c = (
  λ t. absurd cc,
  λ h. absurd
      (no_method_wrong c.args.t.now c.args.op c.args.link.now c.in-Method.field-0 c.in-Method.m c.in-Method.is c.in-None-method_record.ensures.none h),
)
