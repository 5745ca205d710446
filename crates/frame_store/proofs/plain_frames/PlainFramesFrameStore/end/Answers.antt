-- The segment goes from its domain and from the table.
use Rattle.std.proofs.Common.{ℕ, ap, is_some, sym, subst, arith}
use Rattle.indexmap.specs.IndexMap.{with_value_at}
use Rattle.frame_store.specs.Cursors.{IsRightFor}
use Rattle.frame_store.specs.FrameContents.{Ends, IsThere}
use Rattle.frame_store.specs.StoreContents.{content_of}
use Rattle.frame_store.proofs.CursorPoints.{placed_there, read_there, right_nowhere, slot_there, within_cursor, wrote_cursor}
use Rattle.frame_store.proofs.SegmentGoes.{gone_kept, gone_ends}
use Rattle.frame_store.proofs.plain_frames.PlainFramesFrameStore.end.Goals as goal

pub pair_mut-x-requires : goal.pair_mut-x-requires
pair_mut-x-requires c =
    let st = c.touch.new.self in
    let there = subst (λ q. IsThere q c.args.s) (sym c.touch.ensures.same) c.requires in
    within_cursor _ _ _ c.args.s st.ok st.cursor c.touch.ensures.right there

pub end-requires : goal.end-requires
end-requires c =
    let st = c.touch.new.self in
    let x = c.pair_mut-x.result.1.now in
    let right = c.touch.ensures.right in
    let there = subst (λ q. IsThere q c.args.s) (sym c.touch.ensures.same) c.requires in
    slot_there _ _ _ c.args.s st.ok st.cursor right there x _ c.pair_mut-x.ensures.value

pub remove-requires : goal.remove-requires
remove-requires c =
    let st = c.touch.new.self in
    let x = c.pair_mut-x.result.1.now in
    let there = subst (λ q. IsThere q c.args.s) (sym c.touch.ensures.same) c.requires in
    ap is_some (placed_there _ _ _ c.args.s st.ok st.cursor c.touch.ensures.right there x _ c.pair_mut-x.ensures.value)

pub overflow_add-self : goal.overflow_add-self
overflow_add-self c =
    let st = c.touch.new.self in
    omega (arith, st.ok.few)

pub invariant_of-self : goal.invariant_of-self
invariant_of-self c =
    let st = c.touch.new.self in
    let x = c.pair_mut-x.result.1.now in
    let right = c.touch.ensures.right in
    let there = subst (λ q. IsThere q c.args.s) (sym c.touch.ensures.same) c.requires in
    let reads = c.pair_mut-x.ensures.value in
    let y = c.end.new.self in
    let placed = placed_there _ _ _ c.args.s st.ok st.cursor right there x _ reads in
    let read = read_there _ _ _ c.args.s st.ok st.cursor right there x _ reads in
    let wrote = wrote_cursor _ _ _ c.args.s st.ok st.cursor right there x _ reads y c.pair_mut-x.ensures.unique in
    let e = c.remove.ensures in
    let P : ℕ → Type 0 = λ r. IsRightFor (with_value_at st.domains st.cursor.domain y) c.remove.new.self r st.cursor in
    record {
      ok = gone_kept _ _ st.places c.remove.new.self st.owed c.args.s st.cursor.place x y st.ok placed read wrote c.end.ensures e.removes e.few;
      at = subst P (sym c.touch.ensures.at) (right_nowhere _ _ _ _ e.removes.is_out);
    }

pub returns : goal.returns
returns c =
    let st = c.touch.new.self in
    let x = c.pair_mut-x.result.1.now in
    let right = c.touch.ensures.right in
    let there = subst (λ q. IsThere q c.args.s) (sym c.touch.ensures.same) c.requires in
    let reads = c.pair_mut-x.ensures.value in
    let y = c.end.new.self in
    let placed = placed_there _ _ _ c.args.s st.ok st.cursor right there x _ reads in
    let read = read_there _ _ _ c.args.s st.ok st.cursor right there x _ reads in
    let wrote = wrote_cursor _ _ _ c.args.s st.ok st.cursor right there x _ reads y c.pair_mut-x.ensures.unique in
    let gone = gone_ends _ _ st.places c.remove.new.self st.owed c.args.s st.cursor.place x y st.ok placed read wrote c.end.ensures c.remove.ensures.removes in
    subst (λ q. Ends q (content_of (with_value_at st.domains st.cursor.domain y) c.remove.new.self) c.args.s) c.touch.ensures.same gone
