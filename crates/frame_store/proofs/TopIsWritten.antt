-- What is written of the top frame of a segment leaves the other frames as they are.
use Rattle.std.proofs.Common.{◌≡◌, ◌≢◌, ℕ, ◌+◌, ◌-◌, ◌*◌, ◌/◌, ◌^◌, ◌<◌, ◌≤◌, List, [], ◌∷◌, ◌++◌, length, set, sym, ap, subst, arith, inl, inr, ◌∙◌}
use Rattle.std.proofs.lemmas.Bool.{cases_eq}
use Rattle.std.proofs.lemmas.List.{get_or-set_same, get_or-set_other, length-set}
use Rattle.jk_model.specs.declared.values.Value.{Value}
use Rattle.jk_model.specs.declared.values.Value.TheVariants.{Unset}
use Rattle.jk_model_frames.specs.Frames.{FrameState, head_chunks}
use Rattle.frame_store.specs.declared.frame_blocks.FrameRecord.{FrameRecord}
use Rattle.frame_store.specs.declared.domain_frames.DomainFrames.{DomainFrames}
use Rattle.number_table.specs.ChainMoves.{count, place, stacks}
use Rattle.frame_store.specs.FrameBlocks.{no_record, record_at, index_of, value_of, frame_of, lowest_in, cost_in, IsDomain}
use Rattle.frame_store.specs.DomainMoves.{depth_of, frames_of, top_of, top_number, lower_of, value_at, HasTop, IsFrameNumber}
use Rattle.number_table.proofs.PlacesApart.{place_lt, places_apart}
use Rattle.frame_store.specs.Builds.{build-same, build-more}
use Rattle.number_table.proofs.SumsBelow.{sum_below-same, le_sum_below}
use Rattle.number_table.proofs.MovesKeepChains.{count_le}
use Rattle.frame_store.proofs.FrameValues.{frame-same, indices_apart}

-- ---- Frames of a domain.

module _ (d : DomainFrames) where
  pub number_lt : (i n : ℕ) → i < d.chunks → n < depth_of d i → place d.frames i n < d.chunks
  number_lt i n lt low = omega (arith, place_lt d.frames i n (omega (arith, d.ok.segments_are)) low, d.ok.frames_are)

  pub is_frame : (i n : ℕ) → i < d.chunks → n < depth_of d i → IsFrameNumber d (place d.frames i n)
  is_frame i n lt low = record { within = number_lt i n lt low; framed = d.ok.framed i n lt low }

  pub numbers_apart : (i n j m : ℕ) → i ≤ d.chunks → n < depth_of d i → j ≤ d.chunks → m < depth_of d j → place d.frames i n ≡ place d.frames j m
      → (i ≡ j) × (n ≡ m)
  numbers_apart i n j m i_lt n_lt j_lt m_lt e =
      places_apart d.frames i n j m (omega (arith, d.ok.segments_are)) n_lt (omega (arith, d.ok.segments_are)) m_lt e

  pub top_is_frame : (i : ℕ) → HasTop d i → IsFrameNumber d (top_number d i)
  top_is_frame i h = is_frame i (depth_of d i - 1) h.0 (let some = h.1 in omega arith)

  -- a value of a frame is in its blocks
  pub in_blocks : (f q : ℕ) → IsFrameNumber d f → q < (record_at d.records.items f).head.max_locals + (record_at d.records.items f).head.max_stack
      → q < 20 * count d.parts f
  in_blocks f q h lt = let b = h.framed.blocks in omega arith

  pub in_stacks : (f : ℕ) → IsFrameNumber d f → f < stacks d.parts
  in_stacks f h = omega (arith, h.within, d.ok.bodies_are)

  pub values_few : (f : ℕ) → IsFrameNumber d f → (record_at d.records.items f).head.max_locals + (record_at d.records.items f).height < 2 ^ 31
  values_few f is =
      let b = is.framed.blocks in
      let few = count_le d.parts.nodes.items d.parts.stacks.items f d.parts.ok (in_stacks f is) in
      omega (arith, is.framed.low, d.ok.parts_are, d.ok.most)

  pub top_cost_le : (i : ℕ) → HasTop d i → head_chunks (top_of d i).head ≤ d.used
  top_cost_le i h =
      let some = h.1 in
      omega (
        arith,
        d.ok.uses,
        le_sum_below (cost_in d.frames d.records.items) i d.chunks h.0,
        le_sum_below (λ k. head_chunks (record_at d.records.items (place d.frames i k)).head) (depth_of d i - 1) (depth_of d i) (omega arith),
      )

  pub is_top_frame : (i f : ℕ) → HasTop d i → f ≡ top_number d i → IsFrameNumber d f
  is_top_frame i f h e = let P : ℕ → Type 0 = λ k. IsFrameNumber d k in subst P (sym e) (top_is_frame i h)

  pub record_lt : (f : ℕ) → IsFrameNumber d f → f < length d.records.items
  record_lt f is = omega (arith, is.within, d.ok.records_are)

  pub frames_more : (i : ℕ) → HasTop d i → frames_of d i ≡ lower_of d i ++ top_of d i ∷ []
  frames_more i h =
      build-more (λ k. frame_of d.parts d.records.items d.values.items (place d.frames i k)) (depth_of d i - 1) (depth_of d i) (let some = h.1 in omega arith)

-- ---- Writes.

module _ (d : DomainFrames) (i f : ℕ) (top : HasTop d i) (f_is : f ≡ top_number d i) (records : List FrameRecord) (values : List Value)
    (other_records : (g : ℕ) → g ≢ f → record_at records g ≡ record_at d.records.items g)
    (other_values : (g q : ℕ) → IsFrameNumber d g → g ≢ f → q < 20 * count d.parts g
    → value_of d.parts values g q ≡ value_of d.parts d.values.items g q) where
  other_frame : (g : ℕ) → IsFrameNumber d g → g ≢ f → frame_of d.parts records values g ≡ value_at d g
  other_frame g is ne =
      frame-same d.parts d.parts d.records.items records d.values.items values g (other_records g ne)
      (λ q lt. other_values g q is ne (in_blocks d g q is (omega (arith, is.framed.low))))

  other_than_top : (j n : ℕ) → j < d.chunks → n < depth_of d j → (j ≡ i → n < depth_of d i - 1) → place d.frames j n ≢ f
  other_than_top j n lt low not e =
      let some = top.1 in
      let a = numbers_apart d j n i (depth_of d i - 1) (omega arith) low (omega (arith, top.0)) (omega arith) (e ∙ f_is) in
      omega (arith, a.1, not a.0)

  pub write_others : (j : ℕ) → j < d.chunks → j ≢ i → lowest_in d.frames d.parts records values j (depth_of d j) ≡ frames_of d j
  write_others j lt ne =
      build-same (λ k. value_at d (place d.frames j k)) (λ k. frame_of d.parts records values (place d.frames j k)) (depth_of d j)
      (λ k low. other_frame (place d.frames j k) (is_frame d j k lt low) (other_than_top j k lt low (λ e. absurd (ne e))))

  pub write_top : (s : FrameState) → frame_of d.parts records values f ≡ s
      → lowest_in d.frames d.parts records values i (depth_of d i) ≡ lower_of d i ++ s ∷ []
  write_top s e =
      let some = top.1 in
      let lower =
      build-same (λ k. value_at d (place d.frames i k)) (λ k. frame_of d.parts records values (place d.frames i k)) (depth_of d i - 1)
      (λ k low.
      let low2 : k < depth_of d i = omega arith in
      other_frame (place d.frames i k) (is_frame d i k top.0 low2) (other_than_top i k top.0 low2 (λ _. low))) in
      build-more (λ k. frame_of d.parts records values (place d.frames i k)) (depth_of d i - 1) (depth_of d i) (omega arith)
      ∙ ap (λ xs. xs ++ frame_of d.parts records values (top_number d i) ∷ []) lower
      ∙ ap (λ g. lower_of d i ++ frame_of d.parts records values g ∷ []) (sym f_is)
      ∙ ap (λ x. lower_of d i ++ x ∷ []) e

-- one record is written
pub other_records_of : (records : List FrameRecord) (f g : ℕ) (r : FrameRecord) → g ≢ f → record_at (set records f r) g ≡ record_at records g
other_records_of records f g r ne = get_or-set_other records f g r no_record ne

pub record_of : (records : List FrameRecord) (f : ℕ) (r : FrameRecord) → f < length records → record_at (set records f r) f ≡ r
record_of records f r lt = get_or-set_same records f r no_record lt

-- one value is written
pub other_value : (d : DomainFrames) (f q g p : ℕ) (v : Value) → IsFrameNumber d f → IsFrameNumber d g → q < 20 * count d.parts f → p < 20 * count d.parts g
    → (g ≡ f → p ≢ q) → value_of d.parts (set d.values.items (index_of d.parts f q) v) g p ≡ value_of d.parts d.values.items g p
other_value d f q g p v f_is g_is q_lt p_lt ne =
    get_or-set_other d.values.items (index_of d.parts f q) (index_of d.parts g p) v Unset
    (λ e.
    let a = indices_apart d.parts g f p q (in_stacks d g g_is) (in_stacks d f f_is) p_lt q_lt e in
    ne a.0 a.1)

pub value_lt : (d : DomainFrames) (f q : ℕ) → IsFrameNumber d f → q < 20 * count d.parts f → index_of d.parts f q < length d.values.items
value_lt d f q is lt =
    let p = place_lt d.parts f (q / 20) (in_stacks d f is) (omega arith) in
    omega (arith, d.ok.values_are, d.ok.parts_are)

pub this_value : (d : DomainFrames) (f q : ℕ) (v : Value) → IsFrameNumber d f → q < 20 * count d.parts f
    → value_of d.parts (set d.values.items (index_of d.parts f q) v) f q ≡ v
this_value d f q v is lt = get_or-set_same d.values.items (index_of d.parts f q) v Unset (value_lt d f q is lt)

-- ---- The domain stays one, if a record costs the same.

pub record_keeps : (d : DomainFrames) (f : ℕ) (r : FrameRecord) (values : List Value) → length values ≡ length d.values.items → f < d.chunks
    → head_chunks r.head ≡ head_chunks (record_at d.records.items f).head → r.height ≤ r.head.max_stack → r.head.max_stack < 2 ^ 16
    → IsDomain d.chunks d.used d.slots d.frames d.parts (set d.records.items f r) values
record_keeps d f r values size lt same low small =
    let new = set d.records.items f r in
    let is : record_at new f ≡ r = record_of d.records.items f r (omega (arith, d.ok.records_are)) in
    let cost : (g : ℕ) → head_chunks (record_at new g).head ≡ head_chunks (record_at d.records.items g).head =
    λ g. elim (cases_eq g f) [
      | inl e ↦
          ap (λ k. head_chunks (record_at new k).head) e ∙ ap (λ (x : FrameRecord). head_chunks x.head) is ∙ same
          ∙ ap (λ k. head_chunks (record_at d.records.items k).head) (sym e)
      | inr ne ↦ ap (λ (x : FrameRecord). head_chunks x.head) (other_records_of d.records.items f g r ne)
    ] in
    let cost_same : (i : ℕ) → cost_in d.frames new i ≡ cost_in d.frames d.records.items i =
    λ i.
    sum_below-same (λ k. head_chunks (record_at d.records.items (place d.frames i k)).head) (λ k. head_chunks (record_at new (place d.frames i k)).head)
    (count d.frames i) (λ k _. cost (place d.frames i k)) in
    let all_same = sum_below-same (cost_in d.frames d.records.items) (cost_in d.frames new) d.chunks (λ k _. cost_same k) in
    let Fits : FrameRecord → Type 0 = λ (x : FrameRecord). (x.height ≤ x.head.max_stack) × (x.head.max_stack < 2 ^ 16) in
    let fits : (g : ℕ) → Fits (record_at d.records.items g) → Fits (record_at new g) =
    λ g h. elim (cases_eq g f) [
      | inl e ↦ let P : ℕ → Type 0 = λ k. Fits (record_at new k) in subst P (sym e) (subst Fits (sym is) (low, small))
      | inr ne ↦ subst Fits (sym (other_records_of d.records.items f g r ne)) h
    ] in
    record {
      least = d.ok.least;
      most = d.ok.most;
      slots_are = d.ok.slots_are;
      frames_are = d.ok.frames_are;
      segments_are = d.ok.segments_are;
      parts_are = d.ok.parts_are;
      bodies_are = d.ok.bodies_are;
      records_are = length-set d.records.items f r ∙ d.ok.records_are;
      values_are = size ∙ d.ok.values_are;
      framed =
          λ i n i_lt n_lt.
          let h = d.ok.framed i n i_lt n_lt in
          let g = place d.frames i n in
          let both = fits g (h.low, h.small) in
          record { blocks = h.blocks ∙ sym (cost g); low = both.0; small = both.1 };
      bare = d.ok.bare;
      vacant = d.ok.vacant;
      spent = omega (arith, d.ok.spent, all_same);
      uses = omega (arith, d.ok.uses, all_same);
      within = d.ok.within;
    }
