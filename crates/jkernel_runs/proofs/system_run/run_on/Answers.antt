-- What is said holds for the words that were read.
use Rattle.std.proofs.Common.{inl, inr, map}
use Rattle.std.specs.Prelude.{string_bytes}
use Rattle.jkernel_runs.proofs.system_run.run_on.Goals as goal

pub returns-clause-messages : goal.returns-clause-messages
returns-clause-messages g c = λ calm. (map string_bytes c.as_slice.result.now, c.jkernel.ensures.messages calm)

pub returns-clause-early_read : goal.returns-clause-early_read
returns-clause-early_read g c = λ is. elim (c.jkernel.ensures.early_read is) [
  | inl unread ↦ inl unread.quiet
  | inr stops ↦ inr (map string_bytes c.as_slice.result.now, stops.0)
]
