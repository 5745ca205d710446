-- A frame is called in the domain.
use Rattle.std.proofs.Common.{◌∙◌, ap, is_some, refl, subst, sym, arith}
use Rattle.jk_model_frames.specs.Frames.{FrameState}
use Rattle.indexmap.specs.IndexMap.{with_value_at}
use Rattle.frame_store.specs.StoreContents.{content_of}
use Rattle.frame_store.specs.FrameContents.{IsSame, IsThere, TopFrame, Calls}
use Rattle.frame_store.proofs.CursorPoints.{within_cursor, slot_there, found_read_at, placed_there, read_there, wrote_cursor, same_again, aimed_again}
use Rattle.frame_store.proofs.RoomIsTested.{has_room, has_none}
use Rattle.frame_store.proofs.StoreChanges.{found_top_is, store_kept}
use Rattle.frame_store.proofs.StoreSteps.{steps_none, steps_call}
use Rattle.frame_store.proofs.plain_frames.PlainFramesSegmentFrames.call.Goals as goal

pub pair_mut-x-requires : goal.pair_mut-x-requires
pair_mut-x-requires c =
    let st = c.touch.new.self in
    let there = subst (λ q. IsThere q c.args.s) (sym c.touch.ensures.same) (ap is_some c.requires.1.is_there) in
    within_cursor _ _ _ c.args.s st.ok st.cursor c.touch.ensures.right there

pub invariant_of-self : goal.invariant_of-self
invariant_of-self c =
    let st = c.touch.new.self in
    let x = c.pair_mut-x.result.1.now in
    let right = c.touch.ensures.right in
    let there = subst (λ q. IsThere q c.args.s) (sym c.touch.ensures.same) (ap is_some c.requires.1.is_there) in
    let reads = c.pair_mut-x.ensures.value in
    let unique = c.pair_mut-x.ensures.unique in
    let placed = placed_there _ _ _ c.args.s st.ok st.cursor right there x _ reads in
    let read = read_there _ _ _ c.args.s st.ok st.cursor right there x _ reads in
    let wrote = wrote_cursor _ _ _ c.args.s st.ok st.cursor right there x _ reads x unique in
    record {
      ok =
          store_kept _ _ st.places st.owed c.args.s st.cursor.place x x st.ok placed read wrote refl refl;
      at = same_again _ _ _ c.args.s st.ok st.cursor right there x _ reads unique c.touch.ensures.at;
    }

pub returns-then-blocks-free-clause-err : goal.returns-then-blocks-free-clause-err
returns-then-blocks-free-clause-err c =
    let st = c.touch.new.self in
    let x = c.pair_mut-x.result.1.now in
    let right = c.touch.ensures.right in
    let there = subst (λ q. IsThere q c.args.s) (sym c.touch.ensures.same) (ap is_some c.requires.1.is_there) in
    let reads = c.pair_mut-x.ensures.value in
    let unique = c.pair_mut-x.ensures.unique in
    let placed = placed_there _ _ _ c.args.s st.ok st.cursor right there x _ reads in
    let read = read_there _ _ _ c.args.s st.ok st.cursor right there x _ reads in
    let wrote = wrote_cursor _ _ _ c.args.s st.ok st.cursor right there x _ reads x unique in
    let none =
    steps_none _ _ st.places st.owed c.args.s st.cursor.place x x st.ok placed read wrote refl in
    subst (λ q. IsSame q (content_of (with_value_at st.domains st.cursor.domain x) st.places)) c.touch.ensures.same none

pub returns-then-blocks-free-clause-no_room : goal.returns-then-blocks-free-clause-no_room
returns-then-blocks-free-clause-no_room c =
    let st = c.touch.new.self in
    let x = c.pair_mut-x.result.1.now in
    let right = c.touch.ensures.right in
    let there = subst (λ q. IsThere q c.args.s) (sym c.touch.ensures.same) (ap is_some c.requires.1.is_there) in
    let reads = c.pair_mut-x.ensures.value in
    let found = found_read_at _ _ _ c.args.s st.ok st.cursor right there x _ reads in
    has_none _ _ _ _ c.args.s st.ok x _ found c.args.head c.touch.ensures.same (omega arith)

pub call-requires-clause-slot : goal.call-requires-clause-slot
call-requires-clause-slot c =
    let st = c.touch.new.self in
    let x = c.pair_mut-x.result.1.now in
    let right = c.touch.ensures.right in
    let there = subst (λ q. IsThere q c.args.s) (sym c.touch.ensures.same) (ap is_some c.requires.1.is_there) in
    let reads = c.pair_mut-x.ensures.value in
    slot_there _ _ _ c.args.s st.ok st.cursor right there x _ reads

pub call-requires-clause-top : goal.call-requires-clause-top
call-requires-clause-top c =
    let st = c.touch.new.self in
    let x = c.pair_mut-x.result.1.now in
    let right = c.touch.ensures.right in
    let there = subst (λ q. IsThere q c.args.s) (sym c.touch.ensures.same) (ap is_some c.requires.1.is_there) in
    let reads = c.pair_mut-x.ensures.value in
    let found = found_read_at _ _ _ c.args.s st.ok st.cursor right there x _ reads in
    let points = c.touch.ensures.points (c.requires.0, c.requires.1) in
    points.top.top x st.cursor.place.slot found

pub call-requires-clause-values : goal.call-requires-clause-values
call-requires-clause-values c =
    let st = c.touch.new.self in
    let x = c.pair_mut-x.result.1.now in
    let right = c.touch.ensures.right in
    let there = subst (λ q. IsThere q c.args.s) (sym c.touch.ensures.same) (ap is_some c.requires.1.is_there) in
    let reads = c.pair_mut-x.ensures.value in
    let found = found_read_at _ _ _ c.args.s st.ok st.cursor right there x _ reads in
    let points = c.touch.ensures.points (c.requires.0, c.requires.1) in
    points.values x st.cursor.place.slot found

pub call-requires-clause-given : goal.call-requires-clause-given
call-requires-clause-given c =
    let st = c.touch.new.self in
    let x = c.pair_mut-x.result.1.now in
    let right = c.touch.ensures.right in
    let there = subst (λ q. IsThere q c.args.s) (sym c.touch.ensures.same) (ap is_some c.requires.1.is_there) in
    let reads = c.pair_mut-x.ensures.value in
    let found = found_read_at _ _ _ c.args.s st.ok st.cursor right there x _ reads in
    let top = subst (λ q. TopFrame q c.args.s c.requires.0) (sym c.touch.ensures.same) c.requires.1 in
    let same = found_top_is _ _ _ c.args.s st.ok x st.cursor.place.slot found c.requires.0 top in
    let has = c.requires in
    let stack = ap (λ (g : FrameState). g.stack) (sym same.1) ∙ has.4 in
    (has.2, has.3, stack, has.5, has.6)

pub invariant_of-self-2 : goal.invariant_of-self-2
invariant_of-self-2 c =
    let st = c.touch.new.self in
    let x = c.pair_mut-x.result.1.now in
    let right = c.touch.ensures.right in
    let there = subst (λ q. IsThere q c.args.s) (sym c.touch.ensures.same) (ap is_some c.requires.1.is_there) in
    let reads = c.pair_mut-x.ensures.value in
    let unique = c.pair_mut-x.ensures.unique in
    let y = c.call.new.self in
    let placed = placed_there _ _ _ c.args.s st.ok st.cursor right there x _ reads in
    let read = read_there _ _ _ c.args.s st.ok st.cursor right there x _ reads in
    let wrote = wrote_cursor _ _ _ c.args.s st.ok st.cursor right there x _ reads y unique in
    let found = found_read_at _ _ _ c.args.s st.ok st.cursor right there x _ reads in
    let top = subst (λ q. TopFrame q c.args.s c.requires.0) (sym c.touch.ensures.same) c.requires.1 in
    let same = found_top_is _ _ _ c.args.s st.ok x st.cursor.place.slot found c.requires.0 top in
    let has = c.requires in
    let stack = ap (λ (g : FrameState). g.stack) (sym same.1) ∙ has.4 in
    let b = c.call.ensures.calls has.2 has.3 stack has.5 in
    record {
      ok =
          store_kept _ _ st.places st.owed c.args.s st.cursor.place x y st.ok placed read wrote
          b.same_chunks b.same_slots;
      at = aimed_again _ _ _ c.args.s st.ok st.cursor right there x _ reads y unique _ c.call.ensures.aims c.touch.ensures.at;
    }

pub returns-clause-ok : goal.returns-clause-ok
returns-clause-ok c =
    let st = c.touch.new.self in
    let x = c.pair_mut-x.result.1.now in
    let right = c.touch.ensures.right in
    let there = subst (λ q. IsThere q c.args.s) (sym c.touch.ensures.same) (ap is_some c.requires.1.is_there) in
    let reads = c.pair_mut-x.ensures.value in
    let unique = c.pair_mut-x.ensures.unique in
    let y = c.call.new.self in
    let placed = placed_there _ _ _ c.args.s st.ok st.cursor right there x _ reads in
    let read = read_there _ _ _ c.args.s st.ok st.cursor right there x _ reads in
    let wrote = wrote_cursor _ _ _ c.args.s st.ok st.cursor right there x _ reads y unique in
    let calls =
    steps_call _ _ st.places st.owed c.args.s st.cursor.place x y st.ok placed read wrote
    c.args.head c.args.arguments c.call.ensures.calls in
    subst (λ q. Calls q (content_of (with_value_at st.domains st.cursor.domain y) st.places) c.args.s c.args.head c.args.arguments) c.touch.ensures.same calls

pub returns-clause-room : goal.returns-clause-room
returns-clause-room c =
    let st = c.touch.new.self in
    let x = c.pair_mut-x.result.1.now in
    let right = c.touch.ensures.right in
    let there = subst (λ q. IsThere q c.args.s) (sym c.touch.ensures.same) (ap is_some c.requires.1.is_there) in
    let reads = c.pair_mut-x.ensures.value in
    let found = found_read_at _ _ _ c.args.s st.ok st.cursor right there x _ reads in
    has_room _ _ _ _ c.args.s st.ok x _ found c.args.head c.touch.ensures.same (omega arith)
