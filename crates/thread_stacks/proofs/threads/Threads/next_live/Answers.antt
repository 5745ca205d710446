-- The next live thread is the next live entry's.
use Rattle.std.proofs.Common.{List, subst, sym}
use Rattle.thread_stacks.specs.StackAnswers.{IsLeastAbove, IsLiveNumber}
use Rattle.thread_stacks.specs.declared.entries.ThreadEntry.{ThreadEntry}
use Rattle.thread_stacks.specs.Places.{AreRisingBy}
use Rattle.thread_stacks.specs.Stacks.{IsRunning, ThreadList, thread_key}
use Rattle.thread_stacks.proofs.NextRunning.{least_running}
use Rattle.thread_stacks.proofs.threads.Threads.next_live.Goals as goal

pub next_running-requires : goal.next_running-requires
next_running-requires c =
    let P : List ThreadEntry → Type 0 = λ xs. AreRisingBy thread_key xs in
    subst P (sym c.as_slice.ensures.value) c.self.invariant.0.threads

pub returns : goal.returns
returns c =
    let P : List ThreadEntry → Type 0 = λ xs. IsLeastAbove (IsRunning xs) c.args.above c.next_running.result in
    let Q : ThreadList → Type 0 = λ x. IsLeastAbove (IsLiveNumber x.threads) c.args.above c.next_running.result in
    subst Q c.self.view_is
    (least_running c.self.inside.slots.items c.self.inside.entries.items c.args.above c.next_running.result c.self.invariant.1.tops
    (subst P c.as_slice.ensures.value c.next_running.ensures))
