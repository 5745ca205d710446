-- What is listed, and what is left, are all.
use Rattle.thread_segments.proofs.PartsOfDomains.{AreListed}
use Rattle.thread_segments.proofs.domains.domain_parts.Given as goal

abbrev pub invariant-loop-entry : goal.invariant-loop-entry
invariant-loop-entry l = AreListed l.domains l.entry-index l.first l.parts
