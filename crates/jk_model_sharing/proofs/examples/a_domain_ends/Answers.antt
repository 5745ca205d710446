-- Part by part.
use Rattle.std.proofs.Common.{refl}
use Rattle.jk_model_sharing.proofs.examples.a_domain_ends.Goals as goal

pub returns-clause-drops : goal.returns-clause-drops
returns-clause-drops c = record { domains = refl; names = refl; threads = refl; next_thread = refl; next_segment = refl; stubs = refl }

pub returns-clause-started : goal.returns-clause-started
returns-clause-started c = refl
