-- By the lemmas on layouts.
use Rattle.class_growth.proofs.LayoutsKept.{layout-kept, object_words-kept}
use Rattle.class_growth.proofs.laws.layouts_stay.Goals as goal

pub returns-clause-layouts : goal.returns-clause-layouts
returns-clause-layouts c = λ classes more a ordered there. layout-kept classes more ordered a there

pub returns-clause-costs : goal.returns-clause-costs
returns-clause-costs c = λ classes more object ordered there. object_words-kept classes more ordered object there
