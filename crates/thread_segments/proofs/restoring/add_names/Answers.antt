-- One more name is bound, for which room was made.
use Rattle.std.proofs.Common.{◌≡◌, ℕ, List, add-one, ap, arith, length, subst, take_all}
use Rattle.list_lemmas.proofs.ItemsByPlace.{item_read}
use Rattle.list_lemmas.proofs.ItemsOfLists.{Contains-at}
use Rattle.thread_segments.specs.declared.parts.NamePart.{NamePart}
use Rattle.thread_segments.specs.RestoredParts.{with_names}
use Rattle.thread_segments.proofs.RoomAsked.{no_names_more, one_name_more, room_for_name}
use Rattle.thread_segments.proofs.restoring.add_names.Goals as goal

pub loop-part-init : goal.loop-part-init
loop-part-init c = no_names_more c.args.names.now

pub add-requires-clause-room : goal.add-requires-clause-room
add-requires-clause-room c =
    room_for_name c.args.parts.now c.loop-part.part-index c.args.names.now c.loop-part.names c.reserve.new.self c.requires.within
    c.loop-part.invariant c.in_ok-reserve.ensures.ok

pub add-requires-clause-short : goal.add-requires-clause-short
add-requires-clause-short c =
    let k = c.loop-part.part-index in
    let p = c.part-item.result in
    let at = item_read c.args.parts.now k p c.loop-part-test.true c.part-item.is in
    omega (arith, c.requires.short p (Contains-at c.args.parts.now k p at), ap (λ (text : List ℕ). length text) c.as_slice.ensures)

pub loop-part-preserved : goal.loop-part-preserved
loop-part-preserved c =
    let k = c.loop-part.part-index in
    let p = c.part-item.result in
    let at = item_read c.args.parts.now k p c.loop-part-test.true c.part-item.is in
    rw (add-one k)
    (one_name_more c.args.parts.now k p at c.args.names.now c.loop-part.names c.reserve.new.self c.add.new.self c.as_slice.result.now
    c.loop-part.invariant c.in_ok-reserve.ensures.ok c.as_slice.ensures c.add.ensures)

pub returns : goal.returns
returns c =
    let P : List NamePart → Type 0 = λ ps. c.loop-part.names ≡ with_names ps c.args.names.now in
    subst P (take_all c.loop-part.part-index c.args.parts.now (omega (arith, c.loop-part-test.false))) c.loop-part.invariant
