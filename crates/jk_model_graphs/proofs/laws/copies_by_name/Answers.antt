-- By the lemmas on names.
use Rattle.jk_model_graphs.proofs.CopiesByName.{copy_is_new, names_stay, no_other_is_new}
use Rattle.jk_model_graphs.proofs.laws.copies_by_name.Goals as goal

pub returns-clause-stays : goal.returns-clause-stays
returns-clause-stays c = names_stay

pub returns-clause-new_names : goal.returns-clause-new_names
returns-clause-new_names c = copy_is_new

pub returns-clause-no_others : goal.returns-clause-no_others
returns-clause-no_others c = no_other_is_new
