-- The segments of all threads rise, so those of each do.
use Rattle.std.proofs.Common.{Contains, subst}
use Rattle.jk_model_sharing.specs.Segments.{SharedThread}
use Rattle.thread_stacks.specs.LiveStacks.{segment_key}
use Rattle.thread_stacks.specs.Places.{AreRisingBy}
use Rattle.thread_stacks.specs.Stacks.{ThreadList}
use Rattle.thread_stacks.proofs.StacksRise.{stacks_rise}
use Rattle.thread_stacks.proofs.threads.Threads.segments_rise.Goals as goal

pub returns : goal.returns
returns c =
    let t = c.self.inside in
    let P : ThreadList → Type 0 = λ x. (u : SharedThread) → Contains x.threads u → AreRisingBy segment_key u.segments in
    subst P c.self.view_is (stacks_rise t.slots.items t.entries.items c.self.invariant.0.segments)
