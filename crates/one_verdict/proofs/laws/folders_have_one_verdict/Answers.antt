-- By the lemmas on told folders.
use Rattle.one_verdict.proofs.OneToldFolder.{one_told_fault, one_told_folder, told_has_no_fault}
use Rattle.one_verdict.proofs.laws.folders_have_one_verdict.Goals as goal

pub returns-clause-files : goal.returns-clause-files
returns-clause-files c = λ t root f g are_f are_g of_f of_g. one_told_folder t root f g are_f are_g of_f of_g

pub returns-clause-loaded : goal.returns-clause-loaded
returns-clause-loaded c = λ t root w name f b rule place are of loads fault. told_has_no_fault t root w name f b rule place are of loads fault

pub returns-clause-fault : goal.returns-clause-fault
returns-clause-fault c = λ t root w name rule other place spot first second. one_told_fault t root w name rule other place spot first second
