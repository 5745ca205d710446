-- One local more fits.
use Rattle.std.proofs.Common.{◌-◌, arith}
use Rattle.std.proofs.lemmas.Option.{slice_get-get_or}
use Rattle.type_verifier.proofs.PartsOfLocals.{FitOutside-last}
use Rattle.type_verifier.proofs.narrowing.end_of_rises.Goals as goal

pub loop-end-preserved : goal.loop-end-preserved
loop-end-preserved c =
    let from = c.args.from.now in
    let into = c.args.into.now in
    let end = c.loop-end.end in
    let had = c.loop-end.invariant.within in
    let more = c.loop-end-test.true in
    record {
      within = omega (arith, had);
      outside = FitOutside-last c.args.t.now c.args.first (end - 1) end from into _ _ (omega (arith, more))
          (slice_get-get_or from (end - 1) _ (omega (arith, had, more)))
          (slice_get-get_or into (end - 1) _ (omega (arith, had, more, c.requires.length)))
          (c.fits.ensures.0 c.if-not-fits.false) c.loop-end.invariant.outside;
    }
