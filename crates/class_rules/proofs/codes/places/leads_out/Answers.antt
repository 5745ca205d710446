-- By the first operand, or by a case.
use Rattle.std.proofs.Common.{refl}
use Rattle.list_lemmas.proofs.AnswersTold.{not_so as is_not}
use Rattle.class_rules.proofs.PlacesMarked.{bad_branch_leads_out, case_leads_out}
use Rattle.class_rules.proofs.codes.places.leads_out.Goals as goal

pub returns-then-is_bad_branch : goal.returns-then-is_bad_branch
returns-then-is_bad_branch c =
    let found = bad_branch_leads_out c.args.places.now c.args.instr.now (c.is_bad_branch.ensures.0 c.if-is_bad_branch.true) in
    (λ t. found.0 refl, λ h. c.if-is_bad_branch.true)

pub returns-else-is_bad_branch : goal.returns-else-is_bad_branch
returns-else-is_bad_branch c =
    case_leads_out c.has_bad_case.result c.args.places.now c.args.instr.now (is_not c.is_bad_branch.result _ c.is_bad_branch.ensures c.if-is_bad_branch.false)
    (rw c.as_slice.ensures at c.has_bad_case.ensures)
