-- The parts are those of the threads that are live.
use Rattle.std.proofs.Common.{List, subst, sym}
use Rattle.thread_stacks.specs.declared.slots.Slot.{Slot}
use Rattle.thread_stacks.specs.Stacks.{NameBelows}
use Rattle.thread_stacks.proofs.KeptLinks.{belows_by}
use Rattle.thread_stacks.proofs.threads.Threads.parts.Goals as goal

pub all_parts-requires-clause-belows : goal.all_parts-requires-clause-belows
all_parts-requires-clause-belows c =
    let P : List Slot → Type 0 = λ xs. NameBelows xs in
    subst P (sym c.as_slice-2.ensures.value) (belows_by c.self.inside.slots.items c.self.invariant.1.stacks)
