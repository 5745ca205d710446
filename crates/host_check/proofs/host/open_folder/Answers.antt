-- Opening a domain draws no number.
use Rattle.host_check.proofs.NumbersOfCalls.{by_none}
use Rattle.host_check.proofs.host.open_folder.Goals as goal

pub returns : goal.returns
returns c = by_none c.args.kernel.now c.add_domain.new.self c.add_domain.ensures.counts.0 c.add_domain.ensures.counts.1
