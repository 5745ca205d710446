-- Numbers of segments that are left after some steps, and how far they rose.
use Rattle.std.proofs.Common.{◌≡◌, ℕ, ◌+◌, ◌≤◌, length, arith}
use Rattle.jk_model_machine_state.specs.Machines.{Machine}
use Rattle.kernel_events.specs.KernelCalls.{MayDraw}
use Rattle.kernel_events.specs.RisingNumbers.{Rises}
use Rattle.kernel_events.specs.StepsInTurn.{NumbersRise}

pub counts_of : (m new : Machine) (n : ℕ) → Rises m n new → NumbersRise m n new × (length new.domains ≡ length m.domains)
counts_of m new n h = (h.numbers, h.domains)

-- after some of so many steps, one more may draw a number
pub may_draw : (m now : Machine) (done more most : ℕ) → done + more ≤ most → Rises m done now → MayDraw m most → MayDraw now more
may_draw m now done more most few h may = omega (arith, h.numbers.segments, few, may)
