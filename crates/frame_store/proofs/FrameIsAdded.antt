-- A frame is put on top of a segment: a free number and free blocks become its own.
use Rattle.std.proofs.Common.{◌≡◌, ◌≢◌, ℕ, suc, ◌+◌, ◌-◌, ◌*◌, ◌^◌, ◌<◌, ◌≤◌, List, [], ◌∷◌, ◌++◌, set, refl, sym, ap, subst, arith, inl, inr, ◌∙◌}
use Rattle.std.proofs.lemmas.Bool.{cases_eq}
use Rattle.std.proofs.lemmas.List.{length-set}
use Rattle.jk_model.specs.declared.frames.FrameHead.{FrameHead}
use Rattle.jk_model.specs.declared.values.Value.{Value}
use Rattle.jk_model.specs.declared.values.Value.TheVariants.{Unset}
use Rattle.jk_model_frames.specs.Frames.{FrameState, new_frame, head_chunks}
use Rattle.number_table.specs.declared.chains.Chains.{Chains}
use Rattle.frame_store.specs.declared.frame_blocks.FrameRecord.{FrameRecord}
use Rattle.frame_store.specs.declared.domain_frames.DomainFrames.{DomainFrames}
use Rattle.number_table.specs.Chains.{sum_below}
use Rattle.number_table.specs.ChainMoves.{count, place, nodes, stacks, MovesTop}
use Rattle.frame_store.specs.SlotMoves.{place_in}
use Rattle.frame_store.specs.FrameBlocks.{build, record_at, value_of, frame_of, lowest_in, cost_in, cost_below, IsFramed, IsDomain, TakesBlocks}
use Rattle.frame_store.specs.DomainMoves.{depth_of, frames_of, start_of, value_at, IsFrameNumber, IsSlot}
use Rattle.number_table.proofs.PlacesApart.{place_lt}
use Rattle.frame_store.specs.Builds.{build-same, build-more, build-replicate, le_count}
use Rattle.number_table.proofs.SumsBelow.{sum_below-same, sum_below-change, sum_below-le}
use Rattle.frame_store.proofs.FrameValues.{frame-same}
use Rattle.frame_store.proofs.TopIsWritten.{is_frame, numbers_apart, in_blocks, other_records_of, record_of}

-- ---- There is a free number, where there are free chunks.

pub cost_le : (d : DomainFrames) → sum_below (count d.frames) d.chunks ≤ sum_below (cost_in d.frames d.records.items) d.chunks
cost_le d =
    sum_below-le (count d.frames) (cost_in d.frames d.records.items) d.chunks
    (λ i _. le_count (λ k. head_chunks (record_at d.records.items (place d.frames i k)).head) (count d.frames i) (λ k _. omega arith))

pub free_number : (d : DomainFrames) → d.used < d.chunks → 0 < count d.frames d.chunks
free_number d room =
    let e : stacks d.frames ≡ suc d.chunks = omega (arith, d.ok.segments_are) in
    let total : sum_below (count d.frames) (suc d.chunks) ≡ nodes d.frames = sym (ap (sum_below (count d.frames)) e) ∙ d.frames.ok.total in
    omega (arith, cost_le d, total, d.ok.frames_are, d.ok.uses)

module _ (d : DomainFrames) (frames parts : Chains) (values : List Value) (i f blocks : ℕ) (head : FrameHead) (slot : IsSlot d i)
    (cost : blocks ≡ head_chunks head) (room : d.used + blocks ≤ d.chunks) (small : head.max_stack < 2 ^ 16) (moves : MovesTop d.frames frames d.chunks i f)
    (takes : TakesBlocks d.parts parts d.values.items values d.chunks f blocks head.max_locals) where
  abbrev added : FrameRecord
  added = record { head = head; height = 0 }

  abbrev records : List FrameRecord
  records = set d.records.items f added

  some_free : 0 < count d.frames d.chunks
  some_free = omega (arith, moves.from_count)

  f_lt : f < d.chunks
  f_lt =
      omega (
        arith,
        place_lt d.frames d.chunks (count d.frames d.chunks - 1) (omega (arith, d.ok.segments_are)) (let s = some_free in omega arith),
        moves.was_top,
        d.ok.frames_are,
      )

  new_record : record_at records f ≡ added
  new_record = record_of d.records.items f added (omega (arith, f_lt, d.ok.records_are))

  -- other frames have other numbers
  other_number : (j n : ℕ) → j < d.chunks → n < depth_of d j → place d.frames j n ≢ f
  other_number j n lt low e =
      let s = some_free in
      let a = numbers_apart d j n d.chunks (count d.frames d.chunks - 1) (omega arith) low (omega arith) (omega arith) (e ∙ moves.was_top) in
      omega (arith, a.0)

  same_count : (j : ℕ) → j < d.chunks → j ≢ i → count frames j ≡ depth_of d j
  same_count j lt ne = moves.other_counts j (omega arith) ne

  count_up : (j : ℕ) → j < d.chunks → depth_of d j ≤ count frames j
  count_up j lt =
      elim (cases_eq j i) [
        | inl e ↦
            let a : count frames j ≡ count frames i = ap (count frames) e in
            let c : depth_of d j ≡ depth_of d i = ap (depth_of d) e in
            omega (arith, moves.to_count)
        | inr ne ↦ omega (arith, same_count j lt ne)
      ]

  same_place : (j n : ℕ) → j < d.chunks → n < depth_of d j → place frames j n ≡ place d.frames j n
  same_place j n lt low = moves.others j n (omega (arith, d.ok.segments_are)) low (omega (arith, count_up j lt))

  lands : place frames i (depth_of d i) ≡ f
  lands = moves.lands

  same_blocks : (g : ℕ) → g < d.chunks → g ≢ f → count parts g ≡ count d.parts g
  same_blocks g lt ne = takes.others g ne (omega arith)

  -- the values of a frame begin where they did
  pub added_start : (g : ℕ) → IsFrameNumber d g → 20 * place parts g 0 ≡ start_of d g
  added_start g is =
      let s = some_free in
      let free : count d.parts f ≡ 0 = ap (count d.parts) moves.was_top ∙ d.ok.bare (count d.frames d.chunks - 1) (omega arith) in
      let ne : g ≢ f = λ e. let none : count d.parts g ≡ 0 = ap (count d.parts) e ∙ free in omega (arith, none, is.framed.blocks) in
      let same = takes.same_index g 0 is.within ne (omega (arith, is.framed.blocks)) in
      omega (arith, same)

  former_framed : (j n : ℕ) → j < d.chunks → n < depth_of d j → IsFramed parts records (place frames j n)
  former_framed j n lt low =
      let g = place d.frames j n in
      let is = is_frame d j n lt low in
      let ne = other_number j n lt low in
      let r : record_at records g ≡ record_at d.records.items g = other_records_of d.records.items f g added ne in
      let Q : FrameRecord → Type 0 = λ (x : FrameRecord). x.height ≤ x.head.max_stack in
      let P : ℕ → Type 0 = λ k. IsFramed parts records k in
      subst P (sym (same_place j n lt low))
      (record {
        blocks = same_blocks g is.within ne ∙ is.framed.blocks ∙ ap (λ (x : FrameRecord). head_chunks x.head) (sym r);
        low = subst Q (sym r) is.framed.low;
        small = let R : FrameRecord → Type 0 = λ (x : FrameRecord). x.head.max_stack < 2 ^ 16 in subst R (sym r) is.framed.small;
      })

  added_framed : IsFramed parts records f
  added_framed =
      let Q : FrameRecord → Type 0 = λ (x : FrameRecord). x.height ≤ x.head.max_stack in
      record {
        blocks = takes.has ∙ cost ∙ ap (λ (x : FrameRecord). head_chunks x.head) (sym new_record);
        low = subst Q (sym new_record) (omega arith);
        small = let R : FrameRecord → Type 0 = λ (x : FrameRecord). x.head.max_stack < 2 ^ 16 in subst R (sym new_record) small;
      }

  framed_new : (j n : ℕ) → j < d.chunks → n < count frames j → IsFramed parts records (place frames j n)
  framed_new j n lt low =
      elim (cases_eq j i) [
        | inl e ↦
            let a : count frames j ≡ count frames i = ap (count frames) e in
            let c : depth_of d j ≡ depth_of d i = ap (depth_of d) e in
            elim (cases_eq n (depth_of d i)) [
              | inl at ↦
                  let P : ℕ → Type 0 = λ k. IsFramed parts records k in
                  subst P (sym (ap (λ k. place frames k n) e ∙ ap (place frames i) at ∙ lands)) added_framed
              | inr ne ↦ former_framed j n lt (omega (arith, moves.to_count))
            ]
        | inr ne ↦ former_framed j n lt (omega (arith, same_count j lt ne))
      ]

  bare_new : (n : ℕ) → n < count frames d.chunks → count parts (place frames d.chunks n) ≡ 0
  bare_new n low =
      let low2 : n < count d.frames d.chunks = omega (arith, moves.from_count) in
      let same : place frames d.chunks n ≡ place d.frames d.chunks n = moves.others d.chunks n (omega (arith, d.ok.segments_are)) low2 low in
      let g = place d.frames d.chunks n in
      let g_lt : g < d.chunks = omega (arith, place_lt d.frames d.chunks n (omega (arith, d.ok.segments_are)) low2, d.ok.frames_are) in
      let s = some_free in
      let ne : g ≢ f =
      λ e.
      let a = numbers_apart d d.chunks n d.chunks (count d.frames d.chunks - 1) (omega arith) low2 (omega arith) (omega arith) (e ∙ moves.was_top) in
      omega (arith, a.1, moves.from_count) in
      ap (count parts) same ∙ same_blocks g g_lt ne ∙ d.ok.bare n low2

  former_cost : (j : ℕ) → j < d.chunks → (n : ℕ) → n ≤ depth_of d j → cost_below frames records j n ≡ cost_below d.frames d.records.items j n
  former_cost j lt n le =
      sum_below-same (λ k. head_chunks (record_at d.records.items (place d.frames j k)).head)
      (λ k. head_chunks (record_at records (place frames j k)).head) n
      (λ k k_lt.
      let low : k < depth_of d j = omega arith in
      ap (λ g. head_chunks (record_at records g).head) (same_place j k lt low)
      ∙ ap (λ (x : FrameRecord). head_chunks x.head) (other_records_of d.records.items f (place d.frames j k) added (other_number j k lt low)))

  cost_other : (j : ℕ) → j < d.chunks → j ≢ i → cost_in frames records j ≡ cost_in d.frames d.records.items j
  cost_other j lt ne =
      ap (cost_below frames records j) (same_count j lt ne) ∙ former_cost j lt (depth_of d j) (omega arith)

  cost_more : cost_in frames records i ≡ cost_in d.frames d.records.items i + blocks
  cost_more =
      let e : count frames i ≡ suc (depth_of d i) = omega (arith, moves.to_count) in
      let last : head_chunks (record_at records (place frames i (depth_of d i))).head ≡ blocks =
      ap (λ g. head_chunks (record_at records g).head) lands ∙ ap (λ (x : FrameRecord). head_chunks x.head) new_record ∙ sym cost in
      let former = former_cost i slot.0 (depth_of d i) (omega arith) in
      let split : cost_below frames records i (suc (depth_of d i)) ≡ cost_below frames records i (depth_of d i)
      + head_chunks (record_at records (place frames i (depth_of d i))).head = refl in
      ap (cost_below frames records i) e ∙ split ∙ ap (λ n. n + head_chunks (record_at records (place frames i (depth_of d i))).head) former
      ∙ ap (λ n. cost_in d.frames d.records.items i + n) last

  all_cost : sum_below (cost_in frames records) d.chunks ≡ sum_below (cost_in d.frames d.records.items) d.chunks + blocks
  all_cost =
      omega
      (arith, cost_more, sum_below-change (cost_in d.frames d.records.items) (cost_in frames records) i d.chunks slot.0 (λ k lt ne. cost_other k lt ne))

  pub added_keeps : IsDomain d.chunks (d.used + blocks) d.slots frames parts records values
  added_keeps =
      record {
        least = d.ok.least;
        most = d.ok.most;
        slots_are = d.ok.slots_are;
        frames_are = moves.same_nodes ∙ d.ok.frames_are;
        segments_are = moves.same_stacks ∙ d.ok.segments_are;
        parts_are = takes.same_nodes ∙ d.ok.parts_are;
        bodies_are = takes.same_stacks ∙ d.ok.bodies_are;
        records_are = length-set d.records.items f added ∙ d.ok.records_are;
        values_are = takes.values_size ∙ d.ok.values_are;
        framed = framed_new;
        bare = bare_new;
        vacant =
            λ j lt vacant. elim (cases_eq j i) [
              | inl e ↦ let p : place_in d.slots j ≡ place_in d.slots i = ap (place_in d.slots) e in absurd (omega (arith, slot.1.1))
              | inr ne ↦ same_count j lt ne ∙ d.ok.vacant j lt vacant
            ];
        spent = omega (arith, d.ok.spent, takes.less, all_cost);
        uses = omega (arith, d.ok.uses, all_cost);
        within = room;
      }

  former_frame : (j n : ℕ) → j < d.chunks → n < depth_of d j → frame_of parts records values (place frames j n) ≡ value_at d (place d.frames j n)
  former_frame j n lt low =
      let g = place d.frames j n in
      let is = is_frame d j n lt low in
      let ne = other_number j n lt low in
      ap (frame_of parts records values) (same_place j n lt low)
      ∙ frame-same d.parts parts d.records.items records d.values.items values g (other_records_of d.records.items f g added ne)
      (λ q q_lt. takes.same_value g q is.within ne (in_blocks d g q is (omega (arith, is.framed.low))))

  pub added_others : (j : ℕ) → j < d.chunks → j ≢ i → lowest_in frames parts records values j (count frames j) ≡ frames_of d j
  added_others j lt ne =
      ap (lowest_in frames parts records values j) (same_count j lt ne)
      ∙ build-same (λ k. value_at d (place d.frames j k)) (λ k. frame_of parts records values (place frames j k)) (depth_of d j)
      (λ k low. former_frame j k lt low)

  added_frame : frame_of parts records values f ≡ new_frame head
  added_frame =
      let locals =
      build-replicate (value_of parts values f) head.max_locals Unset
      (λ k lt. takes.unset k (omega (arith, cost)) lt) in
      ap (λ (r : FrameRecord). let s : FrameState = record {
        head = r.head;
        locals = build (value_of parts values f) r.head.max_locals;
        stack = build (λ q. value_of parts values f (r.head.max_locals + q)) r.height;
      } in s) new_record
      ∙ ap (λ (xs : List Value). let s : FrameState = record { head = head; locals = xs; stack = [] } in s) locals

  pub added_top : lowest_in frames parts records values i (count frames i) ≡ frames_of d i ++ new_frame head ∷ []
  added_top =
      let lower =
      build-same (λ k. value_at d (place d.frames i k)) (λ k. frame_of parts records values (place frames i k)) (depth_of d i)
      (λ k low. former_frame i k slot.0 low) in
      build-more (λ k. frame_of parts records values (place frames i k)) (depth_of d i) (count frames i) moves.to_count
      ∙ ap (λ xs. xs ++ frame_of parts records values (place frames i (depth_of d i)) ∷ []) lower
      ∙ ap (λ g. frames_of d i ++ frame_of parts records values g ∷ []) lands
      ∙ ap (λ x. frames_of d i ++ x ∷ []) added_frame
