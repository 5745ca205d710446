-- By the lemmas on faults and on what is brought.
use Rattle.one_verdict.proofs.OneLoading.{one_loading}
use Rattle.one_verdict.proofs.OneVerdict.{loaded_has_no_fault, one_fault}
use Rattle.one_verdict.proofs.laws.files_have_one_verdict.Goals as goal

pub returns-clause-loaded : goal.returns-clause-loaded
returns-clause-loaded c = λ f w name b rule place loads fault. loaded_has_no_fault f w name b rule place loads fault

pub returns-clause-fault : goal.returns-clause-fault
returns-clause-fault c = λ f w name rule other place spot first second. one_fault f w name rule other place spot first second

pub returns-clause-brought : goal.returns-clause-brought
returns-clause-brought c = λ f w name a b first second. one_loading f w name a b first second
