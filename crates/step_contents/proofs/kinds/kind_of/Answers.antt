-- Each instruction that typing has a row for is of one kind.
use Rattle.std.proofs.Common.{arith, sym, ◌∙◌}
use Rattle.step_contents.specs.StandingFrames.{place_of}
use Rattle.step_contents.proofs.KindsByOpcode.{constant_of_numbers, heap_opcode, number_opcode}
use Rattle.step_contents.proofs.kinds.kind_of.Goals.{in_default-2-via-then-at-lt182, in_default-2-via-else-at-lt182+else-at-lt186}
use Rattle.step_contents.proofs.kinds.kind_of.Goals as goal

pub returns-in-None : goal.returns-in-None
returns-in-None c = constant_of_numbers (place_of c.args.at.now) c.requires c.in-19.is c.in-None.ensures

pub returns-then-works_on_heap : goal.returns-then-works_on_heap
returns-then-works_on_heap c = heap_opcode (place_of c.args.at.now) (sym c.works_on_heap.ensures ∙ c.if-works_on_heap.true)

pub returns-else-works_on_heap : goal.returns-else-works_on_heap
returns-else-works_on_heap c = elim c.in_default-2.branch [
  | in_default-2-via-then-at-lt182 w ↦
      number_opcode (place_of c.args.at.now) c.requires (omega arith) (λ ldc. omega arith) (λ call. omega arith)
      (sym c.works_on_heap.ensures ∙ c.if-works_on_heap.false)
  | in_default-2-via-else-at-lt182+else-at-lt186 w ↦
      number_opcode (place_of c.args.at.now) c.requires (omega arith) (λ ldc. omega arith) (λ call. omega arith)
      (sym c.works_on_heap.ensures ∙ c.if-works_on_heap.false)
]
