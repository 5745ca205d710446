-- The segment is lent out of its domain, and the rest of the store stays.
use Rattle.std.proofs.Common.{subst, sym}
use Rattle.indexmap.specs.IndexMap.{with_value_at}
use Rattle.frame_store.specs.FrameContents.{FrameContent, IsOnly, IsThere, KeepsOthers}
use Rattle.frame_store.specs.LentSegments.{content_at}
use Rattle.frame_store.specs.StoreContents.{content_of}
use Rattle.frame_store.proofs.CursorPoints.{within_cursor}
use Rattle.frame_store.proofs.LentStores.{cursor_after, only_after, only_before, others_kept, right_at, store_after}
use Rattle.frame_store.proofs.plain_frames.PlainFramesFrameStore.with_segment.Goals as goal

pub pair_mut-x-requires : goal.pair_mut-x-requires
pair_mut-x-requires g c =
    let st = c.touch.new.self in
    let there = subst (λ q. IsThere q c.args.s) (sym c.touch.ensures.same) c.requires.there in
    within_cursor _ _ _ c.args.s st.ok st.cursor c.touch.ensures.right there

pub lend-requires-clause-right : goal.lend-requires-clause-right
lend-requires-clause-right g c =
    let st = c.touch.new.self in
    let x = c.pair_mut-x.result.1.now in
    let right = c.touch.ensures.right in
    let there = subst (λ q. IsThere q c.args.s) (sym c.touch.ensures.same) c.requires.there in
    let reads = c.pair_mut-x.ensures.value in
    right_at _ _ _ c.args.s st.ok st.cursor right there x _ reads c.touch.ensures.at

pub lend-requires-clause-may : goal.lend-requires-clause-may
lend-requires-clause-may g c =
    let st = c.touch.new.self in
    let x = c.pair_mut-x.result.1.now in
    let right = c.touch.ensures.right in
    let there = subst (λ q. IsThere q c.args.s) (sym c.touch.ensures.same) c.requires.there in
    let reads = c.pair_mut-x.ensures.value in
    let P : FrameContent → Type 0 = λ (q : FrameContent). (one : FrameContent) → IsOnly q c.args.s one
    → g.W.OnSegment.may c.args.work.now c.args.a.now c.args.b.now one in
    let may = subst P (sym c.touch.ensures.same) c.requires.may in
    λ name. may (content_at name x st.cursor) (only_before _ _ _ c.args.s st.ok st.cursor right there x _ reads c.touch.ensures.at name)

pub invariant_of-self : goal.invariant_of-self
invariant_of-self g c =
    let st = c.touch.new.self in
    let x = c.pair_mut-x.result.1.now in
    let right = c.touch.ensures.right in
    let there = subst (λ q. IsThere q c.args.s) (sym c.touch.ensures.same) c.requires.there in
    let reads = c.pair_mut-x.ensures.value in
    let unique = c.pair_mut-x.ensures.unique in
    let y = c.lend.new.domain in
    let b = c.lend.new.cursor in
    let e = c.lend.ensures in
    record {
      ok = store_after _ _ _ c.args.s st.ok st.cursor right there x _ reads c.touch.ensures.at unique y b e.right e.beside;
      at = cursor_after _ _ _ c.args.s st.ok st.cursor right there x _ reads c.touch.ensures.at unique y b e.right e.beside;
    }

pub returns-clause-keeps : goal.returns-clause-keeps
returns-clause-keeps g c =
    let st = c.touch.new.self in
    let x = c.pair_mut-x.result.1.now in
    let right = c.touch.ensures.right in
    let there = subst (λ q. IsThere q c.args.s) (sym c.touch.ensures.same) c.requires.there in
    let reads = c.pair_mut-x.ensures.value in
    let unique = c.pair_mut-x.ensures.unique in
    let y = c.lend.new.domain in
    let b = c.lend.new.cursor in
    let e = c.lend.ensures in
    subst (λ q. KeepsOthers q (content_of (with_value_at st.domains st.cursor.domain y) st.places) c.args.s) c.touch.ensures.same
    (others_kept _ _ _ c.args.s st.ok st.cursor right there x _ reads c.touch.ensures.at unique y b e.right e.beside)

pub returns-clause-did : goal.returns-clause-did
returns-clause-did g c =
    let st = c.touch.new.self in
    let x = c.pair_mut-x.result.1.now in
    let right = c.touch.ensures.right in
    let there = subst (λ q. IsThere q c.args.s) (sym c.touch.ensures.same) c.requires.there in
    let reads = c.pair_mut-x.ensures.value in
    let unique = c.pair_mut-x.ensures.unique in
    let y = c.lend.new.domain in
    let b = c.lend.new.cursor in
    let e = c.lend.ensures in
    let name = e.did.0 in (
      content_at name x st.cursor,
      content_at name y b,
      subst (λ q. IsOnly q c.args.s (content_at name x st.cursor)) c.touch.ensures.same (only_before _ _ _ c.args.s st.ok st.cursor right
          there x _ reads c.touch.ensures.at name),
      only_after _ _ _ c.args.s st.ok st.cursor right there x _ reads c.touch.ensures.at unique y b e.right e.beside name,
      e.did.1,
    )
