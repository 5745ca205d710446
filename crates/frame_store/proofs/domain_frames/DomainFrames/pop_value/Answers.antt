-- The height alone is written.
use Rattle.std.proofs.Common.{◌≡◌, ◌<◌, ◌+◌, ◌-◌, ◌^◌, ◌∙◌, ◌++◌, ◌∷◌, [], ℕ, get_or, set, refl, sym, ap, subst, arith}
use Rattle.std.proofs.lemmas.List.{get_or_read}
use Rattle.jk_model.specs.declared.values.Value.TheVariants.{Unset}
use Rattle.jk_model_frames.specs.Frames.{head_chunks}
use Rattle.frame_store.specs.declared.frame_blocks.FrameRecord.{FrameRecord}
use Rattle.frame_store.specs.FrameBlocks.{build, no_record, record_at, index_of, value_of, frame_of, lowest_in}
use Rattle.frame_store.specs.DomainMoves.{depth_of, lower_of, value_at}
use Rattle.frame_store.proofs.TopIsWritten.{record_lt, in_blocks, value_lt, write_top, write_others, other_records_of, record_keeps}
use Rattle.frame_store.proofs.TopValues.{entry_is_off, entry_was_top, height_is}
use Rattle.frame_store.proofs.domain_frames.DomainFrames.pop_value.Goals as goal

pub invariant_of-self : goal.invariant_of-self
invariant_of-self c =
    let d = c.args.self.now in
    let f = c.args.c.frame in
    let is = c.requires.frame in
    let read = get_or_read d.records.items _ _ (record_lt d f is) c.index_mut-record.ensures.value no_record in
    let Q : FrameRecord → Type 0 = λ (x : FrameRecord). x.head.max_stack < 2 ^ 16 in
    let most : c.index_mut-record.result.now.head.max_stack ≡ (record_at d.records.items f).head.max_stack = ap (λ (r : FrameRecord). r.head.max_stack) read in
    let height : c.index_mut-record.result.now.height ≡ (record_at d.records.items f).height = ap (λ (r : FrameRecord). r.height) read in
    record {
      ok =
          record_keeps d f (record c.index_mut-record.result.now { height = c.index_mut-record.result.now.height - 1 }) d.values.items refl is.within
          (ap (λ (x : FrameRecord). head_chunks x.head) read) (omega (arith, is.framed.low)) (subst Q (sym read) is.framed.small);
    }

pub returns-clause-becomes : goal.returns-clause-becomes
returns-clause-becomes c =
    let d = c.args.self.now in
    let f = c.args.c.frame in
    let is = c.requires.frame in
    let read = get_or_read d.records.items _ _ (record_lt d f is) c.index_mut-record.ensures.value no_record in
    let r = record_at d.records.items f in
    let q = r.head.max_locals + (r.height - 1) in
    let some : 0 < r.height = omega (arith, c.requires.some, height_is d f is) in
    let sum : c.index_mut-record.result.now.head.max_locals + (c.index_mut-record.result.now.height - 1) ≡ q =
    omega (arith, ap (λ (x : FrameRecord). x.head.max_locals) read, ap (λ (x : FrameRecord). x.height) read) in
    let at : c.entry_index-index.result ≡ index_of d.parts f q = c.entry_index-index.ensures.index ∙ ap (index_of d.parts f) sum in
    let lt = value_lt d f q is (in_blocks d f q is (omega (arith, is.framed.low))) in
    let value = get_or_read d.values.items _ _ (omega (arith, at)) c.index.ensures Unset in
    let v : c.index.result.now ≡ value_of d.parts d.values.items f q = value ∙ ap (λ k. get_or d.values.items k Unset) at in
    let below = build (λ p. value_of d.parts d.values.items f (r.head.max_locals + p)) (r.height - 1) in
    let written : FrameRecord = record c.index_mut-record.result.now { height = c.index_mut-record.result.now.height - 1 } in
    let records = set d.records.items f written in
    let off : frame_of d.parts records d.values.items f ≡ record (value_at d f) { stack = below } =
    entry_is_off d f is c.index_mut-record.result.now read in
    λ i top.
    let S : ℕ → Type 0 = λ k. lowest_in d.frames d.parts records d.values.items i (depth_of d i) ≡ lower_of d i ++ record (value_at d k)
    { stack = below } ∷ [] in
    let T : ℕ → Type 0 = λ k. (value_at d k).stack ≡ below ++ c.index.result.now ∷ [] in (
      below,
      subst T top.is (entry_was_top d f is some ∙ ap (λ x. below ++ x ∷ []) (sym v)),
      record {
        same_chunks = refl;
        same_slots = refl;
        becomes =
            subst S top.is
            (write_top d i f top.has_top top.is records d.values.items (λ g ne. other_records_of d.records.items f g written ne)
            (λ _ _ _ _ _. refl) _ off);
        others =
            write_others d i f top.has_top top.is records d.values.items (λ g ne. other_records_of d.records.items f g written ne)
            (λ _ _ _ _ _. refl);
        uses = refl;
      },
    )
