-- Case by case.
use Rattle.alike_rows.proofs.LoadsAgree.{loads_agree}
use Rattle.alike_rows.proofs.laws.loads_of_elements_agree.Goals as goal

pub returns : goal.returns
returns c = loads_agree
