use Rattle.std.proofs.Common.{◌∙◌, sym}
use Rattle.shared_values.proofs.BytesOfUnits.{first_eight_of}
use Rattle.shared_values.proofs.fingerprints.first_eight.Goals as goal

pub returns : goal.returns
returns c = c.from_be_bytes.ensures ∙ sym (first_eight_of c.args.digest.now)
