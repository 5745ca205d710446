-- There is no such field.
use Rattle.link_rules.proofs.FinalByLinks.{no_field_final}
use Rattle.link_rules.proofs.final_fields.leads_final.Goals as goal

pub returns-in-None : goal.returns-in-None
returns-in-None c = (
  λ t. absurd cc,
  λ h. absurd
      (no_field_final c.args.t.now c.args.class c.args.op c.args.link.now c.in-Field.field-0 c.in-Field.m c.in-Field.is c.in-None.ensures.none h),
)
