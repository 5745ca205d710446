-- A class initializer takes nothing and answers nothing.
use Rattle.class_rules.proofs.Decisions.{and_then, and_not}
use Rattle.class_rules.proofs.texts.TextFacts.fits_clinit.Goals as goal

pub returns-then-fits_method : goal.returns-then-fits_method
returns-then-fits_method c =
    λ pool units known. and_then _ _ c.if-fits_method.true (c.fits_method.ensures pool units known) (c.is.ensures pool units known)

pub returns-else-fits_method : goal.returns-else-fits_method
returns-else-fits_method c = λ pool units known. and_not _ c.if-fits_method.false (c.fits_method.ensures pool units known)
