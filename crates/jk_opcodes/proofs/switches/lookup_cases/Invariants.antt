-- The cases so far, and those that are still to read, are all of them.
use Rattle.std.proofs.Common.{◌≡◌, ◌-◌, None}
use Rattle.jk_opcodes.specs.Switches.{lookup_cases_at}
use Rattle.jk_opcodes.proofs.LoopReadsCases.{with_front}
use Rattle.jk_opcodes.proofs.switches.lookup_cases.Given as goal

abbrev pub invariant-loop : goal.invariant-loop
invariant-loop l = with_front l.cases (lookup_cases_at l.at l.before (l.count - l.counter) l.rest) ≡ lookup_cases_at l.at None l.count l.bytes
