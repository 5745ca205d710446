-- The cases so far, and those that are still to read, are all of them; fewer keys are left each time.
use Rattle.std.proofs.Common.{◌≡◌}
use Rattle.std.specs.Prelude.{◌-ℤ◌, ◌≤ℤ◌}
use Rattle.jk_opcodes.specs.Switches.{table_cases_at, span, nat_of}
use Rattle.jk_opcodes.proofs.LoopReadsCases.{with_front}
use Rattle.jk_opcodes.proofs.switches.table_cases.Given as goal

abbrev pub invariant-loop-cases : goal.invariant-loop-cases
invariant-loop-cases l =
    record {
      order : l.key ≤ℤ l.high;
      so_far : with_front l.cases (table_cases_at l.at l.key (span l.key l.high) l.rest) ≡ table_cases_at l.at l.low (span l.low l.high) l.bytes;
    }

abbrev pub decreases-loop-cases : goal.decreases-loop-cases
decreases-loop-cases l = nat_of (l.high -ℤ l.key)
