-- One more segment is put.
use Rattle.std.proofs.Common.{◌≡◌, ◌∙◌, List, add-one, arith, refl, subst, take, take_all}
use Rattle.std.proofs.lemmas.Option.{slice_get-get_or}
use Rattle.list_lemmas.proofs.ItemsByPlace.{item_there, length_take}
use Rattle.thread_stacks.specs.declared.restoring.PlacedPart.{PlacedPart}
use Rattle.thread_stacks.specs.LiveStacks.{ArePut}
use Rattle.thread_stacks.proofs.PutOnTop.{domain_now, entered_now, ordered, put_begins, put_goes_on}
use Rattle.thread_stacks.proofs.restoring.put_all.Goals as goal

pub put-requires-clause-threads : goal.put-requires-clause-threads
put-requires-clause-threads c =
    let k = c.loop-part.part-index in
    let p = item_there c.args.placed.now k c.loop-part-test.true in
    (ordered c.args.entries.now.items c.loop-part.entries.items c.loop-part.slots.items c.args.newest.now.items c.loop-part.newest.items c.args.placed.now
    c.args.slots.now.items c.requires.may k p.0 p.1 c.loop-part.invariant.put).order.threads

pub put-requires-clause-segments : goal.put-requires-clause-segments
put-requires-clause-segments c =
    let k = c.loop-part.part-index in
    let p = item_there c.args.placed.now k c.loop-part-test.true in
    (ordered c.args.entries.now.items c.loop-part.entries.items c.loop-part.slots.items c.args.newest.now.items c.loop-part.newest.items c.args.placed.now
    c.args.slots.now.items c.requires.may k p.0 p.1 c.loop-part.invariant.put).order.segments

pub put-requires-clause-entered : goal.put-requires-clause-entered
put-requires-clause-entered c =
    let k = c.loop-part.part-index in
    let at = slice_get-get_or c.args.placed.now k _ c.loop-part-test.true in
    entered_now c.args.entries.now.items c.loop-part.entries.items c.loop-part.slots.items c.args.newest.now.items c.loop-part.newest.items
    c.args.placed.now c.args.slots.now.items c.requires.may k _ at c.loop-part.invariant.put

pub put-requires-clause-domain : goal.put-requires-clause-domain
put-requires-clause-domain c =
    let k = c.loop-part.part-index in
    let at = slice_get-get_or c.args.placed.now k _ c.loop-part-test.true in
    domain_now c.args.entries.now.items c.loop-part.entries.items c.loop-part.slots.items c.args.newest.now.items c.loop-part.newest.items
    c.args.placed.now c.args.slots.now.items c.requires.may k _ at c.loop-part.invariant.put

pub put-requires-clause-room : goal.put-requires-clause-room
put-requires-clause-room c =
    let k = c.loop-part.part-index in
    omega (
      arith,
      c.loop-part.invariant.put.as_many,
      length_take c.args.placed.now k,
      c.loop-part-test.true,
      c.requires.room,
      c.loop-part.invariant.slots_room,
      c.loop-part.slots.ok.0,
    )

pub loop-part-init : goal.loop-part-init
loop-part-init c = record {
  put = put_begins c.args.entries.now.items c.args.slots.now.items c.args.newest.now.items c.args.placed.now c.requires.may;
  entries_room = refl;
  slots_room = refl;
}

pub loop-part-preserved : goal.loop-part-preserved
loop-part-preserved c =
    let k = c.loop-part.part-index in
    let at = slice_get-get_or c.args.placed.now k _ c.loop-part-test.true in
    record {
      put =
          rw (add-one k)
          (put_goes_on c.args.entries.now.items c.loop-part.entries.items c.loop-part.slots.items c.args.newest.now.items c.loop-part.newest.items
          c.args.placed.now c.args.slots.now.items c.requires.may k _ at c.loop-part.invariant.put c.put.new.entries.items c.put.new.slots.items
          c.put.new.newest.items c.put.ensures.put);
      entries_room = c.put.ensures.entries_room ∙ c.loop-part.invariant.entries_room;
      slots_room = c.put.ensures.slots_room ∙ c.loop-part.invariant.slots_room;
    }

pub returns-clause-put : goal.returns-clause-put
returns-clause-put c =
    let k = c.loop-part.part-index in
    let P : List PlacedPart → Type 0 =
    λ ps. ArePut c.args.entries.now.items c.loop-part.entries.items c.loop-part.slots.items c.args.newest.now.items c.loop-part.newest.items ps in
    let whole : take k c.args.placed.now ≡ c.args.placed.now = take_all k c.args.placed.now (omega (arith, c.loop-part-test.false)) in
    subst P whole c.loop-part.invariant.put
