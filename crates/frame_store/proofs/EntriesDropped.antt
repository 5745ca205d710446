-- A frame whose operand stack gets shorter: the other frames are as before.
use Rattle.std.proofs.Common.{◌≡◌, ◌≢◌, ℕ, ◌+◌, ◌-◌, ◌<◌, List, ◌++◌, length, set, refl, sym, ap, arith, ◌∙◌}
use Rattle.std.proofs.lemmas.List.{length-append}
use Rattle.jk_model.specs.declared.values.Value.{Value}
use Rattle.jk_model_frames.specs.Frames.{FrameState}
use Rattle.frame_store.specs.declared.frame_blocks.FrameRecord.{FrameRecord}
use Rattle.frame_store.specs.declared.domain_frames.DomainFrames.{DomainFrames}
use Rattle.number_table.specs.ChainMoves.{place}
use Rattle.frame_store.specs.FrameBlocks.{build, record_at, value_of, frame_of, lowest_in}
use Rattle.frame_store.specs.DomainMoves.{depth_of, frames_of, value_at, IsFrameNumber}
use Rattle.frame_store.specs.Builds.{build-same, build-set, build-split, length-build}
use Rattle.frame_store.proofs.ArgumentsInLocals.{same_front}
use Rattle.frame_store.proofs.FrameValues.{frame-same, frame_with}
use Rattle.frame_store.proofs.TopIsWritten.{numbers_apart, record_lt, record_of, other_records_of}

module _ (d : DomainFrames) (f : ℕ) (is : IsFrameNumber d f) (t : FrameRecord) (count : ℕ) (t_is : t ≡ record_at d.records.items f) where
  abbrev r : FrameRecord
  r = record_at d.records.items f

  abbrev down : FrameRecord → FrameRecord
  down y = record y { height = y.height - count }

  abbrev records : List FrameRecord
  records = set d.records.items f (down t)

  abbrev entry : ℕ → Value
  entry p = value_of d.parts d.values.items f (r.head.max_locals + p)

  module _ (below given : List Value) (stack : (value_at d f).stack ≡ below ++ given) (many : length given ≡ count) where
    pub heights : r.height ≡ length below + count
    heights = omega (arith, length-build entry r.height, ap (λ (l : List Value). length l) stack, length-append below given, many)

    pub kept : build entry (r.height - count) ≡ below
    kept =
        let split = build-split entry (r.height - count) count r.height (omega (arith, heights)) in
        same_front (build entry (r.height - count)) (build (λ k. entry (r.height - count + k)) count) below given
        (omega (arith, length-build entry (r.height - count), heights)) (sym split ∙ stack)

    shorter : frame_of d.parts records d.values.items f ≡ record (value_at d f) { stack = below }
    shorter =
        let at : record_at records f ≡ down r = record_of d.records.items f (down t) (record_lt d f is) ∙ ap down t_is in
        ap (λ y. frame_with y (value_of d.parts d.values.items f)) at
        ∙ ap (λ (xs : List Value). let s : FrameState = record (value_at d f) { stack = xs } in s) kept

    module _ (i n : ℕ) (within : i < d.chunks) (low : n < depth_of d i) (f_is : f ≡ place d.frames i n) where
      other : (g : ℕ) → g ≢ f → frame_of d.parts records d.values.items g ≡ value_at d g
      other g ne =
          frame-same d.parts d.parts d.records.items records d.values.items d.values.items g (other_records_of d.records.items f g (down t) ne)
          (λ q lt. refl)

      pub shorter_there : lowest_in d.frames d.parts records d.values.items i (depth_of d i)
          ≡ set (frames_of d i) n (let s : FrameState = record (value_at d f) { stack = below } in s)
      shorter_there =
          build-set (λ k. value_at d (place d.frames i k)) (λ k. frame_of d.parts records d.values.items (place d.frames i k)) (depth_of d i) n
          (record (value_at d f) { stack = below }) low (ap (frame_of d.parts records d.values.items) (sym f_is) ∙ shorter)
          (λ k lt ne. other (place d.frames i k)
          (λ e. ne (numbers_apart d i k i n (omega (arith, within)) lt (omega (arith, within)) low (e ∙ f_is)).1))

      pub shorter_others : (j : ℕ) → j < d.chunks → j ≢ i → lowest_in d.frames d.parts records d.values.items j (depth_of d j) ≡ frames_of d j
      shorter_others j lt ne =
          build-same (λ k. value_at d (place d.frames j k)) (λ k. frame_of d.parts records d.values.items (place d.frames j k)) (depth_of d j)
          (λ k k_lt. other (place d.frames j k)
          (λ e. ne (numbers_apart d j k i n (omega (arith, lt)) k_lt (omega (arith, within)) low (e ∙ f_is)).0))
