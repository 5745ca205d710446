-- Each slot on the way down is there.
use Rattle.std.proofs.Common.{◌<◌, ◌++◌, ◌∷◌, [], Option, sym, subst, ap, ◌∙◌}
use Rattle.jk_model.specs.declared.identifiers.SegmentNo.{SegmentNo}
use Rattle.thread_stacks.specs.declared.parts.SegmentPart.{SegmentPart}
use Rattle.thread_stacks.specs.Stacks.{stands_on}
use Rattle.thread_stacks.proofs.StacksListed.{IsListed, all_listed, listing_begins, listing_goes_on}
use Rattle.thread_stacks.proofs.StacksWalked.{not_missing, to_walk, walk_falls}
use Rattle.thread_stacks.proofs.parts.stack_parts.Goals as goal

pub loop-next-init : goal.loop-next-init
loop-next-init c = listing_begins c.args.slots.now c.args.entry.number c.args.entry.top c.new-parts.result.items c.requires.top c.new-parts.ensures.items

pub unreachable-requires : goal.unreachable-requires
unreachable-requires c =
    let P : Option SegmentNo → Type 0 = λ o. IsListed c.args.slots.now c.args.entry.number o c.loop-next.parts.items in
    let l = subst P c.in-Some.is c.loop-next.invariant in
    not_missing c.args.slots.now (stands_on c.args.entry.number) c.in-Some.s c.requires.segments l.walk (sym c.in-None.ensures)

pub loop-next-smaller : goal.loop-next-smaller
loop-next-smaller c =
    let P : Option SegmentNo → Type 0 = λ o. IsListed c.args.slots.now c.args.entry.number o c.loop-next.parts.items in
    let l = subst P c.in-Some.is c.loop-next.invariant in
    let s = c.in-Some-slot_of.slot in
    let Q : Option SegmentNo → Type 0 = λ o. to_walk s.below < to_walk o in
    subst Q (sym c.in-Some.is)
    (walk_falls c.args.slots.now c.args.entry.number c.in-Some.s c.requires.segments l.walk s (sym c.in-Some-slot_of.ensures) c.requires.belows)

pub loop-next-preserved : goal.loop-next-preserved
loop-next-preserved c =
    let P : Option SegmentNo → Type 0 = λ o. IsListed c.args.slots.now c.args.entry.number o c.loop-next.parts.items in
    let l = subst P c.in-Some.is c.loop-next.invariant in
    let s = c.in-Some-slot_of.slot in
    listing_goes_on c.args.slots.now c.args.entry.number c.in-Some.s c.requires.segments c.loop-next.parts.items c.push.new.self.items l s
    (sym c.in-Some-slot_of.ensures) c.requires.belows
    (c.in_ok-push.ensures.items ∙ ap (λ (p : SegmentPart). c.loop-next.parts.items ++ p ∷ []) c.part_of.ensures)

pub returns : goal.returns
returns c =
    let P : Option SegmentNo → Type 0 = λ o. IsListed c.args.slots.now c.args.entry.number o c.loop-next.parts.items in
    let l = subst P c.in_default.is c.loop-next.invariant in
    c.in_ok-listed.ensures ∙ c.as_slice.ensures.value ∙ c.reverse.ensures.items
    ∙ all_listed c.args.slots.now c.args.entry.number c.loop-next.parts.items l
