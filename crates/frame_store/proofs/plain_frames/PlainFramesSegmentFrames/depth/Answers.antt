-- The segment's frames are counted where the cursor has them.
use Rattle.std.proofs.Common.{◌∙◌, ℕ, List, ap, arith, length, option_map, Some, sym}
use Rattle.frame_store.specs.declared.domain_frames.DomainFrames.{DomainFrames}
use Rattle.frame_store.specs.FrameContents.{StoredSegment}
use Rattle.frame_store.proofs.CursorPoints.{within_cursor, found_where_read, slot_where_read}
use Rattle.frame_store.proofs.StoreChanges.{found_segment}
use Rattle.frame_store.proofs.plain_frames.PlainFramesSegmentFrames.depth.Goals as goal

pub index-requires : goal.index-requires
index-requires c =
    let st = c.args.self.now in
    let right = c.is_at.ensures.right c.if-is_at.true in
    omega (
      arith,
      within_cursor _ _ _ c.args.s st.ok st.cursor right c.requires,
      ap (λ (es : List (ℕ × DomainFrames)). length es) c.as_slice-domains.ensures.entries,
    )

pub depth-requires : goal.depth-requires
depth-requires c =
    let st = c.args.self.now in
    let right = c.is_at.ensures.right c.if-is_at.true in
    slot_where_read _ _ _ c.args.s st.ok st.cursor right c.requires c.as_slice-domains.result c.as_slice-domains.ensures.entries c.index.result.now
    c.index.ensures

pub returns-then-is_at : goal.returns-then-is_at
returns-then-is_at c =
    let st = c.args.self.now in
    let right = c.is_at.ensures.right c.if-is_at.true in
    let x = c.index.result.now in
    let found =
    found_where_read _ _ _ c.args.s st.ok st.cursor right c.requires c.as_slice-domains.result c.as_slice-domains.ensures.entries x c.index.ensures in
    ap (λ n. Some n) c.depth.ensures
    ∙ sym (ap (option_map (λ (g : StoredSegment). length g.frames)) (found_segment _ _ _ c.args.s st.ok x st.cursor.place.slot found))
