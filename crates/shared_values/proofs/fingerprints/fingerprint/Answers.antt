use Rattle.std.proofs.Common.{[]}
use Rattle.shared_values.specs.Fingerprints.{fingerprint_of}
use Rattle.shared_values.proofs.fingerprints.fingerprint.Goals as goal

pub returns : goal.returns
unfolding fingerprint_of
returns c = rw (← (c.finalize.ensures _ (c.feed_units.ensures.adds [] c.new-hasher.ensures))) c.first_eight.ensures
