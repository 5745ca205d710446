-- By the lemma of this name.
use Rattle.heap_laws.proofs.CopiesAreSealed.{copies_keep_domains}
use Rattle.heap_laws.proofs.graphs.copies_keep_domains.Goals as goal

pub returns : goal.returns
returns c = copies_keep_domains
