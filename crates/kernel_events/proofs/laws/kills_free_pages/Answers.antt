-- By the lemma of this name.
use Rattle.kernel_events.proofs.PagesOfEndedDomains.{kills_free_pages}
use Rattle.kernel_events.proofs.laws.kills_free_pages.Goals as goal

pub returns : goal.returns
returns c = kills_free_pages
