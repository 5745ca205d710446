-- The top frame gives back in the domain.
use Rattle.std.proofs.Common.{ap, is_some, subst, sym, ◌∙◌}
use Rattle.std.proofs.lemmas.Option.{same_Some}
use Rattle.indexmap.specs.IndexMap.{with_value_at}
use Rattle.frame_store.specs.StoreContents.{content_of}
use Rattle.frame_store.specs.FrameContents.{FrameContent, GivesBack, IsThere, StoredSegment, TwoFrames}
use Rattle.frame_store.proofs.CursorPoints.{within_cursor, slot_there, found_read_at, placed_there, read_there, wrote_cursor, aimed_again}
use Rattle.frame_store.proofs.StoreChanges.{found_segment, store_kept}
use Rattle.frame_store.proofs.StoreSteps.{steps_give_back}
use Rattle.frame_store.proofs.plain_frames.PlainFramesSegmentFrames.give_back.Goals as goal

pub touch-requires : goal.touch-requires
touch-requires c = ap is_some c.requires.1

pub pair_mut-x-requires : goal.pair_mut-x-requires
pair_mut-x-requires c =
    let st = c.touch.new.self in
    let there = subst (λ q. IsThere q c.args.s) (sym c.touch.ensures.same) (ap is_some c.requires.1) in
    within_cursor _ _ _ c.args.s st.ok st.cursor c.touch.ensures.right there

pub give_back-requires-clause-slot : goal.give_back-requires-clause-slot
give_back-requires-clause-slot c =
    let st = c.touch.new.self in
    let x = c.pair_mut-x.result.1.now in
    let right = c.touch.ensures.right in
    let there = subst (λ q. IsThere q c.args.s) (sym c.touch.ensures.same) (ap is_some c.requires.1) in
    let reads = c.pair_mut-x.ensures.value in
    slot_there _ _ _ c.args.s st.ok st.cursor right there x _ reads

pub give_back-requires-clause-two : goal.give_back-requires-clause-two
give_back-requires-clause-two c =
    let st = c.touch.new.self in
    let x = c.pair_mut-x.result.1.now in
    let right = c.touch.ensures.right in
    let there = subst (λ q. IsThere q c.args.s) (sym c.touch.ensures.same) (ap is_some c.requires.1) in
    let reads = c.pair_mut-x.ensures.value in
    let found = found_read_at _ _ _ c.args.s st.ok st.cursor right there x _ reads in
    let is = ap (λ (q : FrameContent). q.segment c.args.s) c.touch.ensures.same ∙ c.requires.1 in
    let same = same_Some _ c.requires.0 (sym (found_segment _ _ _ c.args.s st.ok x st.cursor.place.slot found) ∙ is) in
    let P : StoredSegment → Type 0 = λ (g : StoredSegment). TwoFrames g.frames c.args.v in
    subst P (sym same) c.requires.2

pub invariant_of-self : goal.invariant_of-self
invariant_of-self c =
    let st = c.touch.new.self in
    let x = c.pair_mut-x.result.1.now in
    let right = c.touch.ensures.right in
    let there = subst (λ q. IsThere q c.args.s) (sym c.touch.ensures.same) (ap is_some c.requires.1) in
    let reads = c.pair_mut-x.ensures.value in
    let unique = c.pair_mut-x.ensures.unique in
    let y = c.give_back.new.self in
    let placed = placed_there _ _ _ c.args.s st.ok st.cursor right there x _ reads in
    let read = read_there _ _ _ c.args.s st.ok st.cursor right there x _ reads in
    let wrote = wrote_cursor _ _ _ c.args.s st.ok st.cursor right there x _ reads y unique in
    let found = found_read_at _ _ _ c.args.s st.ok st.cursor right there x _ reads in
    let is = ap (λ (q : FrameContent). q.segment c.args.s) c.touch.ensures.same ∙ c.requires.1 in
    let same = same_Some _ c.requires.0 (sym (found_segment _ _ _ c.args.s st.ok x st.cursor.place.slot found) ∙ is) in
    let two = c.requires.2 in
    let b = c.give_back.ensures.gives two.lower two.below two.top (ap (λ (g : StoredSegment). g.frames) same ∙ two.are) in
    record {
      ok = store_kept _ _ st.places st.owed c.args.s st.cursor.place x y st.ok placed read wrote b.same_chunks b.same_slots;
      at = aimed_again _ _ _ c.args.s st.ok st.cursor right there x _ reads y unique _ c.give_back.ensures.aims c.touch.ensures.at;
    }

pub returns : goal.returns
returns c =
    let st = c.touch.new.self in
    let x = c.pair_mut-x.result.1.now in
    let right = c.touch.ensures.right in
    let there = subst (λ q. IsThere q c.args.s) (sym c.touch.ensures.same) (ap is_some c.requires.1) in
    let reads = c.pair_mut-x.ensures.value in
    let unique = c.pair_mut-x.ensures.unique in
    let y = c.give_back.new.self in
    let placed = placed_there _ _ _ c.args.s st.ok st.cursor right there x _ reads in
    let read = read_there _ _ _ c.args.s st.ok st.cursor right there x _ reads in
    let wrote = wrote_cursor _ _ _ c.args.s st.ok st.cursor right there x _ reads y unique in
    let gives = steps_give_back _ _ st.places st.owed c.args.s st.cursor.place x y st.ok placed read wrote c.args.v c.give_back.ensures.gives in
    subst (λ q. GivesBack q (content_of (with_value_at st.domains st.cursor.domain y) st.places) c.args.s c.args.v) c.touch.ensures.same gives
