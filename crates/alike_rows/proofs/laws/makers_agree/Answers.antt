-- By what each of the two heaps has under each name.
use Rattle.alike_rows.proofs.OneMadeByName.{new_name, no_other, old_name}
use Rattle.alike_rows.proofs.laws.makers_agree.Goals as goal

pub returns-clause-old_names : goal.returns-clause-old_names
returns-clause-old_names c = λ classes quota heap a b object new other h k n o is.
    (old_name classes quota heap a object new h n o is, old_name classes quota heap b object other k n o is)

pub returns-clause-new_names : goal.returns-clause-new_names
returns-clause-new_names c = λ classes quota heap a b object new other h k.
    (new_name classes quota heap a object new h, new_name classes quota heap b object other k)

pub returns-clause-no_others : goal.returns-clause-no_others
returns-clause-no_others c = λ classes quota heap a b object new other h k n lacked.
    (no_other classes quota heap a object new h n lacked, no_other classes quota heap b object other k n lacked)
