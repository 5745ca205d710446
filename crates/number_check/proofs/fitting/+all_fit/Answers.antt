-- The first value fits the first type, and the others fit the other types.
use Rattle.number_check.proofs.ReferencesFit.{one_more_fits}
use Rattle.number_check.proofs.fitting.+all_fit.Goals as goal

pub returns-then-fits : goal.returns-then-fits
returns-then-fits t c = λ yes s.
    one_more_fits s c.args.values.now _ c.args.types.now _ _ _ c.in-Some.ensures.cases.0 c.in-Some-split_first.ensures.cases.0
    (c.fits.ensures c.if-fits.true s) (c.all_fit.ensures yes s)
