-- The head alone is written.
use Rattle.std.proofs.Common.{◌≡◌, ◌<◌, ◌≤◌, ◌^◌, ◌++◌, ◌∷◌, [], ℕ, set, refl, sym, ap, subst}
use Rattle.std.proofs.lemmas.List.{get_or_read}
use Rattle.jk_model_frames.specs.Frames.{head_chunks}
use Rattle.frame_store.specs.declared.frame_blocks.FrameRecord.{FrameRecord}
use Rattle.frame_store.specs.FrameBlocks.{no_record, lowest_in}
use Rattle.frame_store.specs.DomainMoves.{depth_of, lower_of, value_at}
use Rattle.frame_store.proofs.TopIsWritten.{record_lt, write_top, write_others, other_records_of, record_keeps}
use Rattle.frame_store.proofs.TopValues.{is_gone}
use Rattle.frame_store.proofs.domain_frames.DomainFrames.go.Goals as goal

pub invariant_of-self : goal.invariant_of-self
invariant_of-self c =
    let d = c.args.self.now in
    let f = c.args.frame in
    let is = c.requires in
    let old = c.index_mut-set.result.now in
    let read = get_or_read d.records.items _ _ (record_lt d f is) c.index_mut-set.ensures.value no_record in
    let P : FrameRecord → Type 0 = λ (x : FrameRecord). x.height ≤ x.head.max_stack in
    let Q : FrameRecord → Type 0 = λ (x : FrameRecord). x.head.max_stack < 2 ^ 16 in
    record {
      ok =
          record_keeps d f (record old { head = record old.head { at = c.args.at; need = c.args.need } }) d.values.items refl is.within
          (ap (λ (x : FrameRecord). head_chunks x.head) read) (subst P (sym read) is.framed.low) (subst Q (sym read) is.framed.small);
    }

pub returns-clause-becomes : goal.returns-clause-becomes
returns-clause-becomes c =
    let d = c.args.self.now in
    let f = c.args.frame in
    let is = c.requires in
    let old = c.index_mut-set.result.now in
    let read = get_or_read d.records.items _ _ (record_lt d f is) c.index_mut-set.ensures.value no_record in
    let go : FrameRecord → FrameRecord = λ (x : FrameRecord). record x { head = record x.head { at = c.args.at; need = c.args.need } } in
    let records = set d.records.items f (go old) in
    λ i top.
    let P : ℕ → Type 0 = λ k. lowest_in d.frames d.parts records d.values.items i (depth_of d i)
    ≡ lower_of d i ++ record (value_at d k) { head = record (value_at d k).head { at = c.args.at; need = c.args.need } } ∷ [] in
    record {
      same_chunks = refl;
      same_slots = refl;
      becomes =
          subst P top.is
          (write_top d i f top.has_top top.is records d.values.items (λ g ne. other_records_of d.records.items f g (go old) ne)
          (λ g q _ _ _. refl) _ (is_gone d f is old go read));
      others =
          write_others d i f top.has_top top.is records d.values.items (λ g ne. other_records_of d.records.items f g (go old) ne)
          (λ g q _ _ _. refl);
      uses = refl;
    }
