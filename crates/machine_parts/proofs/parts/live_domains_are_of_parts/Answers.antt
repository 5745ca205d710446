-- By the lemma on it.
use Rattle.machine_parts.proofs.DomainsOfParts.{live_domain_is_of_parts}
use Rattle.machine_parts.proofs.parts.live_domains_are_of_parts.Goals as goal

pub returns : goal.returns
returns c = live_domain_is_of_parts
