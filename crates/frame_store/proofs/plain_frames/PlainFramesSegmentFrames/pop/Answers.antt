-- The top frame goes in its domain.
use Rattle.std.proofs.Common.{ap, is_some, subst, sym}
use Rattle.indexmap.specs.IndexMap.{with_value_at}
use Rattle.frame_store.specs.StoreContents.{content_of}
use Rattle.frame_store.specs.FrameContents.{IsThere, Pops, TopFrame}
use Rattle.frame_store.proofs.CursorPoints.{within_cursor, top_there, placed_there, read_there, wrote_cursor, aims_again}
use Rattle.frame_store.proofs.StoreChanges.{store_kept}
use Rattle.frame_store.proofs.StoreSteps.{steps_pop}
use Rattle.frame_store.proofs.plain_frames.PlainFramesSegmentFrames.pop.Goals as goal

pub pair_mut-x-requires : goal.pair_mut-x-requires
pair_mut-x-requires c =
    let st = c.touch.new.self in
    let there = subst (λ q. IsThere q c.args.s) (sym c.touch.ensures.same) (ap is_some c.requires.1.is_there) in
    within_cursor _ _ _ c.args.s st.ok st.cursor c.touch.ensures.right there

pub pop_top-requires : goal.pop_top-requires
pop_top-requires c =
    let st = c.touch.new.self in
    let x = c.pair_mut-x.result.1.now in
    let right = c.touch.ensures.right in
    let there = subst (λ q. IsThere q c.args.s) (sym c.touch.ensures.same) (ap is_some c.requires.1.is_there) in
    let reads = c.pair_mut-x.ensures.value in
    let top = subst (λ q. TopFrame q c.args.s c.requires.0) (sym c.touch.ensures.same) c.requires.1 in
    top_there _ _ _ c.args.s st.ok st.cursor right there x _ reads (c.requires.0, top)

pub invariant_of-self : goal.invariant_of-self
invariant_of-self c =
    let st = c.touch.new.self in
    let x = c.pair_mut-x.result.1.now in
    let right = c.touch.ensures.right in
    let there = subst (λ q. IsThere q c.args.s) (sym c.touch.ensures.same) (ap is_some c.requires.1.is_there) in
    let reads = c.pair_mut-x.ensures.value in
    let unique = c.pair_mut-x.ensures.unique in
    let y = c.pop_top.new.self in
    let placed = placed_there _ _ _ c.args.s st.ok st.cursor right there x _ reads in
    let read = read_there _ _ _ c.args.s st.ok st.cursor right there x _ reads in
    let wrote = wrote_cursor _ _ _ c.args.s st.ok st.cursor right there x _ reads y unique in
    let b = c.pop_top.ensures.becomes in
    record {
      ok =
          store_kept _ _ st.places st.owed c.args.s st.cursor.place x y st.ok placed read wrote
          b.same_chunks b.same_slots;
      at = aims_again _ _ _ c.args.s st.ok st.cursor right there x _ reads y unique _ c.pop_top.ensures.aims c.touch.ensures.at;
    }

pub returns : goal.returns
returns c =
    let st = c.touch.new.self in
    let x = c.pair_mut-x.result.1.now in
    let right = c.touch.ensures.right in
    let there = subst (λ q. IsThere q c.args.s) (sym c.touch.ensures.same) (ap is_some c.requires.1.is_there) in
    let reads = c.pair_mut-x.ensures.value in
    let unique = c.pair_mut-x.ensures.unique in
    let y = c.pop_top.new.self in
    let placed = placed_there _ _ _ c.args.s st.ok st.cursor right there x _ reads in
    let read = read_there _ _ _ c.args.s st.ok st.cursor right there x _ reads in
    let wrote = wrote_cursor _ _ _ c.args.s st.ok st.cursor right there x _ reads y unique in
    let top = subst (λ q. TopFrame q c.args.s c.requires.0) (sym c.touch.ensures.same) c.requires.1 in
    let pops =
    steps_pop _ _ st.places st.owed c.args.s st.cursor.place x y st.ok placed read wrote
    (top_there _ _ _ c.args.s st.ok st.cursor right there x _ reads (c.requires.0, top)) c.pop_top.ensures.becomes in
    subst (λ q. Pops q (content_of (with_value_at st.domains st.cursor.domain y) st.places) c.args.s) c.touch.ensures.same pops
