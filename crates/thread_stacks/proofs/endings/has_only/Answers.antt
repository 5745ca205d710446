-- Each slot on the way down is there; the first of another domain decides, and else all are of this one.
use Rattle.std.proofs.Common.{◌≡◌, ◌<◌, Bool, true, false, Option, refl, sym, subst, ◌∙◌}
use Rattle.std.specs.Prelude.{◌&&◌}
use Rattle.std.specs.List.{list_all}
use Rattle.std.proofs.lemmas.Bool.{and_right, eq-eqb, ne_eqb}
use Rattle.jk_model.specs.declared.identifiers.SegmentNo.{SegmentNo}
use Rattle.thread_stacks.specs.Stacks.{is_in, is_running, slots_on, stands_on}
use Rattle.thread_stacks.proofs.StacksWalked.{IsOurs, not_missing, ours_begins, ours_goes_on, to_walk, walk_ends, walk_falls, walk_stops}
use Rattle.thread_stacks.proofs.endings.has_only.Goals as goal

pub loop-next-init : goal.loop-next-init
loop-next-init c = ours_begins c.args.slots.now c.args.entry.number c.args.d c.args.entry.top c.requires.top

whole : (a b : Bool) → b ≡ true → a ≡ (a && b)
whole true b h = sym h
whole false b h = refl

pub unreachable-requires : goal.unreachable-requires
unreachable-requires c =
    let P : Option SegmentNo → Type 0 = λ o. IsOurs c.args.slots.now c.args.entry.number c.args.d o in
    let w = subst P c.in-Some.is c.loop-next.invariant in
    not_missing c.args.slots.now (stands_on c.args.entry.number) c.in-Some.s c.requires.segments w.walk (sym c.in-None.ensures)

pub returns-then-slot-d : goal.returns-then-slot-d
returns-then-slot-d c =
    let P : Option SegmentNo → Type 0 = λ o. IsOurs c.args.slots.now c.args.entry.number c.args.d o in
    let w = subst P c.in-Some.is c.loop-next.invariant in
    let s = c.in-Some-slot_of.slot in
    let miss = ne_eqb s.domain.0 c.args.d.0 c.if-slot-d.true in
    sym (and_right (is_running c.args.entry) (list_all (is_in c.args.d) (slots_on c.args.entry.number c.args.slots.now))
    (walk_stops c.args.slots.now (stands_on c.args.entry.number) c.in-Some.s c.requires.segments w.walk s (sym c.in-Some-slot_of.ensures) c.args.d miss))

pub loop-next-smaller : goal.loop-next-smaller
loop-next-smaller c =
    let P : Option SegmentNo → Type 0 = λ o. IsOurs c.args.slots.now c.args.entry.number c.args.d o in
    let w = subst P c.in-Some.is c.loop-next.invariant in
    let s = c.in-Some-slot_of.slot in
    let Q : Option SegmentNo → Type 0 = λ o. to_walk s.below < to_walk o in
    subst Q (sym c.in-Some.is)
    (walk_falls c.args.slots.now c.args.entry.number c.in-Some.s c.requires.segments w.walk s (sym c.in-Some-slot_of.ensures) c.requires.belows)

pub loop-next-preserved : goal.loop-next-preserved
loop-next-preserved c =
    let P : Option SegmentNo → Type 0 = λ o. IsOurs c.args.slots.now c.args.entry.number c.args.d o in
    let w = subst P c.in-Some.is c.loop-next.invariant in
    let s = c.in-Some-slot_of.slot in
    let hit = eq-eqb s.domain.0 c.args.d.0 c.if-slot-d.false in
    ours_goes_on c.args.slots.now c.args.entry.number c.args.d c.in-Some.s c.requires.segments w s (sym c.in-Some-slot_of.ensures) c.requires.belows hit

pub returns : goal.returns
returns c =
    let P : Option SegmentNo → Type 0 = λ o. IsOurs c.args.slots.now c.args.entry.number c.args.d o in
    let w = subst P c.in_default.is c.loop-next.invariant in
    c.is_some.ensures
    ∙ whole (is_running c.args.entry) (list_all (is_in c.args.d) (slots_on c.args.entry.number c.args.slots.now))
    (walk_ends c.args.slots.now c.args.entry.number c.args.d w)
