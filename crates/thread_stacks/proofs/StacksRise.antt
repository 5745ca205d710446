-- The segments of each live thread rise by number, since what comes on top draws the next one.
use Rattle.std.proofs.Common.{◌≡◌, ℕ, List, Contains, map, ap, arith, subst}
use Rattle.jk_model_sharing.specs.Segments.{SharedThread, has_segments}
use Rattle.list_lemmas.proofs.ItemsByPlace.{comes_from}
use Rattle.list_lemmas.proofs.ItemsOfLists.{place_of}
use Rattle.thread_stacks.specs.declared.entries.ThreadEntry.{ThreadEntry}
use Rattle.thread_stacks.specs.declared.slots.Slot.{Slot}
use Rattle.thread_stacks.specs.LiveStacks.{segment_key}
use Rattle.thread_stacks.specs.Places.{AreRisingBy}
use Rattle.thread_stacks.specs.Stacks.{segment_of, slot_key, slots_on, stack_of, stands_on, thread_of, threads_of}
use Rattle.thread_stacks.proofs.Filtered.{stood_at}
use Rattle.thread_stacks.proofs.KeptInOrder.{rising_filter}

stack_rises : (slots : List Slot) (t : ℕ) → AreRisingBy slot_key slots → AreRisingBy segment_key (stack_of t slots)
stack_rises slots t h i j x y at_x at_y low =
    let c = comes_from segment_of (slots_on t slots) i x at_x in
    let e = comes_from segment_of (slots_on t slots) j y at_y in
    let first : c.from.number ≡ x.number.0 = ap segment_key c.gives in
    let second : e.from.number ≡ y.number.0 = ap segment_key e.gives in
    omega (arith, rising_filter slot_key (stands_on t) slots h i j c.from e.from c.there e.there low, first, second)

pub stacks_rise : (slots : List Slot) (es : List ThreadEntry) → AreRisingBy slot_key slots → (t : SharedThread) → Contains (threads_of slots es) t
    → AreRisingBy segment_key t.segments
stacks_rise slots es h t there =
    let at = place_of (threads_of slots es) t there in
    let stood = stood_at has_segments (map (thread_of slots) es) at.0 t at.1 in
    let f = comes_from (thread_of slots) es stood.place t stood.there in
    subst (λ (u : SharedThread). AreRisingBy segment_key u.segments) f.gives (stack_rises slots f.from.number h)
