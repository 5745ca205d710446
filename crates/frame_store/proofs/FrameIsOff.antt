-- The top frame of a segment is taken off: its number and its blocks become free.
use Rattle.std.proofs.Common.{◌≡◌, ◌≢◌, ℕ, suc, ◌+◌, ◌-◌, ◌*◌, ◌/◌, ◌%◌, ◌<◌, get_or, refl, sym, ap, subst, arith, inl, inr, ◌∙◌}
use Rattle.std.proofs.lemmas.Bool.{cases_eq}
use Rattle.jk_model.specs.declared.values.Value.TheVariants.{Unset}
use Rattle.jk_model_frames.specs.Frames.{head_chunks}
use Rattle.number_table.specs.declared.chains.Chains.{Chains}
use Rattle.frame_store.specs.declared.domain_frames.DomainFrames.{DomainFrames}
use Rattle.number_table.specs.Chains.{sum_below}
use Rattle.number_table.specs.ChainMoves.{count, place, MovesTop}
use Rattle.frame_store.specs.FrameBlocks.{build, record_at, frame_of, lowest_in, cost_in, cost_below, IsFramed, IsDomain, GivesBlocks}
use Rattle.frame_store.specs.DomainMoves.{depth_of, frames_of, top_number, lower_of, value_at, HasTop}
use Rattle.number_table.proofs.PlacesApart.{place_lt}
use Rattle.frame_store.specs.Builds.{build-same}
use Rattle.number_table.proofs.SumsBelow.{sum_below-same, sum_below-change}
use Rattle.frame_store.proofs.FrameValues.{frame-same}
use Rattle.frame_store.proofs.TopIsWritten.{is_frame, numbers_apart, in_blocks, top_is_frame}

module _ (d : DomainFrames) (frames parts : Chains) (i f b : ℕ) (top : HasTop d i) (f_is : f ≡ top_number d i)
    (moves : MovesTop d.frames frames i d.chunks b) (gives : GivesBlocks d.parts parts d.chunks f) where
  some : 0 < depth_of d i
  some = top.1

  b_is : b ≡ f
  b_is = moves.was_top ∙ sym f_is

  f_lt : f < d.chunks
  f_lt = omega (arith, (top_is_frame d i top).within)

  same_count : (j : ℕ) → j < d.chunks → j ≢ i → count frames j ≡ depth_of d j
  same_count j lt ne = moves.other_counts j ne (omega arith)

  -- which frames are left
  record IsLeft (j n : ℕ) : Type 0 where
    low : n < depth_of d j
    other : place d.frames j n ≢ f
    same : place frames j n ≡ place d.frames j n

  left : (j n : ℕ) → j < d.chunks → n < count frames j → IsLeft j n
  left j n lt low =
      let s = some in
      elim (cases_eq j i) [
        | inl e ↦
            let a : count frames j ≡ count frames i = ap (count frames) e in
            let c : depth_of d j ≡ depth_of d i = ap (depth_of d) e in
            let low2 : n < depth_of d j = omega (arith, moves.from_count) in
            record {
              low = low2;
              other =
                  λ e2.
                  let x = numbers_apart d j n i (depth_of d i - 1) (omega arith) low2 (omega (arith, top.0)) (omega arith) (e2 ∙ f_is) in
                  omega (arith, x.1, moves.from_count);
              same = moves.others j n (omega (arith, d.ok.segments_are)) low2 low;
            }
        | inr ne ↦
            let low2 : n < depth_of d j = omega (arith, same_count j lt ne) in
            record {
              low = low2;
              other =
                  λ e2.
                  let x = numbers_apart d j n i (depth_of d i - 1) (omega arith) low2 (omega (arith, top.0)) (omega arith) (e2 ∙ f_is) in
                  ne x.0;
              same = moves.others j n (omega (arith, d.ok.segments_are)) low2 low;
            }
      ]

  same_blocks : (g : ℕ) → g < d.chunks → g ≢ f → count parts g ≡ count d.parts g
  same_blocks g lt ne = gives.others g ne (omega arith)

  framed_new : (j n : ℕ) → j < d.chunks → n < count frames j → IsFramed parts d.records.items (place frames j n)
  framed_new j n lt low =
      let l = left j n lt low in
      let is = is_frame d j n lt l.low in
      let P : ℕ → Type 0 = λ k. IsFramed parts d.records.items k in
      subst P (sym l.same) (record {
        blocks = same_blocks (place d.frames j n) is.within l.other ∙ is.framed.blocks;
        low = is.framed.low;
        small = is.framed.small;
      })

  bare_new : (n : ℕ) → n < count frames d.chunks → count parts (place frames d.chunks n) ≡ 0
  bare_new n low =
      elim (cases_eq n (count d.frames d.chunks)) [
        | inl e ↦ ap (count parts) (ap (place frames d.chunks) e ∙ moves.lands ∙ b_is) ∙ gives.has
        | inr ne ↦
            let low2 : n < count d.frames d.chunks = omega (arith, moves.to_count) in
            let same : place frames d.chunks n ≡ place d.frames d.chunks n = moves.others d.chunks n (omega (arith, d.ok.segments_are)) low2 low in
            let g = place d.frames d.chunks n in
            let g_lt : g < d.chunks = omega (arith, place_lt d.frames d.chunks n (omega (arith, d.ok.segments_are)) low2, d.ok.frames_are) in
            let s = some in
            let other : g ≢ f =
            λ e2.
            let x = numbers_apart d d.chunks n i (depth_of d i - 1) (omega arith) low2 (omega (arith, top.0)) (omega arith) (e2 ∙ f_is) in
            omega (arith, x.0, top.0) in
            ap (count parts) same ∙ same_blocks g g_lt other ∙ d.ok.bare n low2
      ]

  left_cost : (j : ℕ) → j < d.chunks → cost_in frames d.records.items j ≡ cost_below d.frames d.records.items j (count frames j)
  left_cost j lt =
      sum_below-same (λ k. head_chunks (record_at d.records.items (place d.frames j k)).head)
      (λ k. head_chunks (record_at d.records.items (place frames j k)).head) (count frames j)
      (λ k low. ap (λ g. head_chunks (record_at d.records.items g).head) (left j k lt low).same)

  cost_less : cost_in frames d.records.items i + head_chunks (record_at d.records.items f).head ≡ cost_in d.frames d.records.items i
  cost_less =
      let e : count frames i ≡ depth_of d i - 1 = omega (arith, moves.from_count) in
      let s : depth_of d i ≡ suc (depth_of d i - 1) = let h = some in omega arith in
      let split : cost_below d.frames d.records.items i (suc (depth_of d i - 1))
      ≡ cost_below d.frames d.records.items i (depth_of d i - 1) + head_chunks (record_at d.records.items (top_number d i)).head = refl in
      let here : head_chunks (record_at d.records.items f).head ≡ head_chunks (record_at d.records.items (top_number d i)).head =
      ap (λ g. head_chunks (record_at d.records.items g).head) f_is in
      let whole = ap (cost_below d.frames d.records.items i) s in
      let part = left_cost i top.0 ∙ ap (cost_below d.frames d.records.items i) e in
      omega (arith, split, here, whole, part)

  cost_other : (j : ℕ) → j < d.chunks → j ≢ i → cost_in frames d.records.items j ≡ cost_in d.frames d.records.items j
  cost_other j lt ne = left_cost j lt ∙ ap (cost_below d.frames d.records.items j) (same_count j lt ne)

  all_cost : sum_below (cost_in frames d.records.items) d.chunks + head_chunks (record_at d.records.items f).head
      ≡ sum_below (cost_in d.frames d.records.items) d.chunks
  all_cost =
      omega (
        arith,
        cost_less,
        sum_below-change (cost_in d.frames d.records.items) (cost_in frames d.records.items) i d.chunks top.0 (λ k lt ne. cost_other k lt ne),
      )

  pub blocks_are : count d.parts f ≡ head_chunks (record_at d.records.items f).head
  blocks_are =
      let h = (top_is_frame d i top).framed.blocks in
      ap (count d.parts) f_is ∙ h ∙ ap (λ g. head_chunks (record_at d.records.items g).head) (sym f_is)

  pub off_keeps : IsDomain d.chunks (d.used - count d.parts f) d.slots frames parts d.records.items d.values.items
  off_keeps =
      record {
        least = d.ok.least;
        most = d.ok.most;
        slots_are = d.ok.slots_are;
        frames_are = moves.same_nodes ∙ d.ok.frames_are;
        segments_are = moves.same_stacks ∙ d.ok.segments_are;
        parts_are = gives.same_nodes ∙ d.ok.parts_are;
        bodies_are = gives.same_stacks ∙ d.ok.bodies_are;
        records_are = d.ok.records_are;
        values_are = d.ok.values_are;
        framed = framed_new;
        bare = bare_new;
        vacant =
            λ j lt vacant. elim (cases_eq j i) [
              | inl e ↦
                  let c : depth_of d j ≡ depth_of d i = ap (depth_of d) e in
                  absurd (omega (arith, some, d.ok.vacant j lt vacant))
              | inr ne ↦ same_count j lt ne ∙ d.ok.vacant j lt vacant
            ];
        spent = omega (arith, d.ok.spent, gives.more, all_cost, blocks_are);
        uses = omega (arith, d.ok.uses, all_cost, blocks_are);
        within = omega (arith, d.ok.within);
      }

  left_frame : (j n : ℕ) → j < d.chunks → n < count frames j → frame_of parts d.records.items d.values.items (place frames j n)
      ≡ value_at d (place d.frames j n)
  left_frame j n lt low =
      let l = left j n lt low in
      let is = is_frame d j n lt l.low in
      let g = place d.frames j n in
      ap (frame_of parts d.records.items d.values.items) l.same
      ∙ frame-same d.parts parts d.records.items d.records.items d.values.items d.values.items g refl
      (λ q q_lt.
      let in_g = in_blocks d g q is (omega (arith, is.framed.low)) in
      ap (λ p. get_or d.values.items (20 * p + q % 20) Unset)
      (gives.same_place g (q / 20) is.within l.other (omega arith)))

  pub off_others : (j : ℕ) → j < d.chunks → j ≢ i → lowest_in frames parts d.records.items d.values.items j (count frames j) ≡ frames_of d j
  off_others j lt ne =
      build-same (λ k. value_at d (place d.frames j k)) (λ k. frame_of parts d.records.items d.values.items (place frames j k)) (count frames j)
      (λ k low. left_frame j k lt low)
      ∙ ap (build (λ k. value_at d (place d.frames j k))) (same_count j lt ne)

  pub off_top : lowest_in frames parts d.records.items d.values.items i (count frames i) ≡ lower_of d i
  off_top =
      build-same (λ k. value_at d (place d.frames i k)) (λ k. frame_of parts d.records.items d.values.items (place frames i k)) (count frames i)
      (λ k low. left_frame i k top.0 low)
      ∙ ap (build (λ k. value_at d (place d.frames i k))) (let e : count frames i ≡ depth_of d i - 1 = omega (arith, moves.from_count) in e)
