-- One local more fits.
use Rattle.std.proofs.Common.{arith}
use Rattle.std.proofs.lemmas.Option.{slice_get-get_or}
use Rattle.type_verifier.proofs.PartsOfLocals.{FitOutside-first}
use Rattle.type_verifier.proofs.narrowing.first_rise.Goals as goal

pub loop-first-preserved : goal.loop-first-preserved
loop-first-preserved c =
    let from = c.args.from.now in
    let into = c.args.into.now in
    let first = c.loop-first.first in
    FitOutside-first c.args.t.now first c.args.range.end from into _ _
    (slice_get-get_or from first _ (omega (arith, c.loop-first-test.true, c.requires.within)))
    (slice_get-get_or into first _ (omega (arith, c.loop-first-test.true, c.requires.within, c.requires.length)))
    (c.fits.ensures.0 c.if-not-fits.false) c.loop-first.invariant
