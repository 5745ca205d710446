-- A frame is pushed in the domain.
use Rattle.std.proofs.Common.{refl, subst, sym, arith}
use Rattle.indexmap.specs.IndexMap.{with_value_at}
use Rattle.frame_store.specs.StoreContents.{content_of}
use Rattle.frame_store.specs.FrameContents.{IsSame, IsThere, Pushes}
use Rattle.frame_store.proofs.CursorPoints.{within_cursor, slot_there, found_read_at, placed_there, read_there, wrote_cursor, same_again, aimed_again}
use Rattle.frame_store.proofs.RoomIsTested.{has_room, has_none}
use Rattle.frame_store.proofs.StoreChanges.{store_kept}
use Rattle.frame_store.proofs.StoreSteps.{steps_none, steps_push}
use Rattle.frame_store.proofs.plain_frames.PlainFramesSegmentFrames.push.Goals as goal

pub pair_mut-x-requires : goal.pair_mut-x-requires
pair_mut-x-requires c =
    let st = c.touch.new.self in
    let there = subst (λ q. IsThere q c.args.s) (sym c.touch.ensures.same) c.requires in
    within_cursor _ _ _ c.args.s st.ok st.cursor c.touch.ensures.right there

pub invariant_of-self : goal.invariant_of-self
invariant_of-self c =
    let st = c.touch.new.self in
    let x = c.pair_mut-x.result.1.now in
    let right = c.touch.ensures.right in
    let there = subst (λ q. IsThere q c.args.s) (sym c.touch.ensures.same) c.requires in
    let reads = c.pair_mut-x.ensures.value in
    let unique = c.pair_mut-x.ensures.unique in
    let placed = placed_there _ _ _ c.args.s st.ok st.cursor right there x _ reads in
    let read = read_there _ _ _ c.args.s st.ok st.cursor right there x _ reads in
    let wrote = wrote_cursor _ _ _ c.args.s st.ok st.cursor right there x _ reads x unique in
    record {
      ok =
          store_kept _ _ st.places st.owed c.args.s st.cursor.place x x st.ok placed read wrote refl refl;
      at = same_again _ _ _ c.args.s st.ok st.cursor right there x _ reads unique c.touch.ensures.at;
    }

pub returns-then-blocks-free-clause-err : goal.returns-then-blocks-free-clause-err
returns-then-blocks-free-clause-err c =
    let st = c.touch.new.self in
    let x = c.pair_mut-x.result.1.now in
    let right = c.touch.ensures.right in
    let there = subst (λ q. IsThere q c.args.s) (sym c.touch.ensures.same) c.requires in
    let reads = c.pair_mut-x.ensures.value in
    let unique = c.pair_mut-x.ensures.unique in
    let placed = placed_there _ _ _ c.args.s st.ok st.cursor right there x _ reads in
    let read = read_there _ _ _ c.args.s st.ok st.cursor right there x _ reads in
    let wrote = wrote_cursor _ _ _ c.args.s st.ok st.cursor right there x _ reads x unique in
    let none =
    steps_none _ _ st.places st.owed c.args.s st.cursor.place x x st.ok placed read wrote refl in
    subst (λ q. IsSame q (content_of (with_value_at st.domains st.cursor.domain x) st.places)) c.touch.ensures.same none

pub returns-then-blocks-free-clause-no_room : goal.returns-then-blocks-free-clause-no_room
returns-then-blocks-free-clause-no_room c =
    let st = c.touch.new.self in
    let x = c.pair_mut-x.result.1.now in
    let right = c.touch.ensures.right in
    let there = subst (λ q. IsThere q c.args.s) (sym c.touch.ensures.same) c.requires in
    let reads = c.pair_mut-x.ensures.value in
    let found = found_read_at _ _ _ c.args.s st.ok st.cursor right there x _ reads in
    has_none _ _ _ _ c.args.s st.ok x _ found c.args.head c.touch.ensures.same (omega arith)

pub push_top-requires-clause-slot : goal.push_top-requires-clause-slot
push_top-requires-clause-slot c =
    let st = c.touch.new.self in
    let x = c.pair_mut-x.result.1.now in
    let right = c.touch.ensures.right in
    let there = subst (λ q. IsThere q c.args.s) (sym c.touch.ensures.same) c.requires in
    let reads = c.pair_mut-x.ensures.value in
    slot_there _ _ _ c.args.s st.ok st.cursor right there x _ reads

pub invariant_of-self-2 : goal.invariant_of-self-2
invariant_of-self-2 c =
    let st = c.touch.new.self in
    let x = c.pair_mut-x.result.1.now in
    let right = c.touch.ensures.right in
    let there = subst (λ q. IsThere q c.args.s) (sym c.touch.ensures.same) c.requires in
    let reads = c.pair_mut-x.ensures.value in
    let unique = c.pair_mut-x.ensures.unique in
    let y = c.push_top.new.self in
    let placed = placed_there _ _ _ c.args.s st.ok st.cursor right there x _ reads in
    let read = read_there _ _ _ c.args.s st.ok st.cursor right there x _ reads in
    let wrote = wrote_cursor _ _ _ c.args.s st.ok st.cursor right there x _ reads y unique in
    let b = c.push_top.ensures.becomes in
    record {
      ok =
          store_kept _ _ st.places st.owed c.args.s st.cursor.place x y st.ok placed read wrote
          b.same_chunks b.same_slots;
      at = aimed_again _ _ _ c.args.s st.ok st.cursor right there x _ reads y unique _ c.push_top.ensures.aims c.touch.ensures.at;
    }

pub returns-clause-ok : goal.returns-clause-ok
returns-clause-ok c =
    let st = c.touch.new.self in
    let x = c.pair_mut-x.result.1.now in
    let right = c.touch.ensures.right in
    let there = subst (λ q. IsThere q c.args.s) (sym c.touch.ensures.same) c.requires in
    let reads = c.pair_mut-x.ensures.value in
    let unique = c.pair_mut-x.ensures.unique in
    let y = c.push_top.new.self in
    let placed = placed_there _ _ _ c.args.s st.ok st.cursor right there x _ reads in
    let read = read_there _ _ _ c.args.s st.ok st.cursor right there x _ reads in
    let wrote = wrote_cursor _ _ _ c.args.s st.ok st.cursor right there x _ reads y unique in
    let pushes =
    steps_push _ _ st.places st.owed c.args.s st.cursor.place x y st.ok placed read wrote
    c.args.head c.push_top.ensures.becomes in
    subst (λ q. Pushes q (content_of (with_value_at st.domains st.cursor.domain y) st.places) c.args.s c.args.head) c.touch.ensures.same pushes

pub returns-clause-room : goal.returns-clause-room
returns-clause-room c =
    let st = c.touch.new.self in
    let x = c.pair_mut-x.result.1.now in
    let right = c.touch.ensures.right in
    let there = subst (λ q. IsThere q c.args.s) (sym c.touch.ensures.same) c.requires in
    let reads = c.pair_mut-x.ensures.value in
    let found = found_read_at _ _ _ c.args.s st.ok st.cursor right there x _ reads in
    has_room _ _ _ _ c.args.s st.ok x _ found c.args.head c.touch.ensures.same (omega arith)
