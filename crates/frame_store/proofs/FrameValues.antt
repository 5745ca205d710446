-- Values of different frames, and different values of a frame, are at different places.
use Rattle.std.proofs.Common.{◌≡◌, ◌≢◌, ℕ, ◌+◌, ◌-◌, ◌*◌, ◌/◌, ◌%◌, ◌<◌, ◌≤◌, List, get_or, refl, sym, ap, arith, inl, inr, ◌∙◌}
use Rattle.std.proofs.lemmas.Bool.{cases_eq}
use Rattle.jk_model.specs.declared.values.Value.{Value}
use Rattle.jk_model.specs.declared.values.Value.TheVariants.{Unset}
use Rattle.jk_model_frames.specs.Frames.{FrameState}
use Rattle.number_table.specs.declared.chains.Chains.{Chains}
use Rattle.frame_store.specs.declared.frame_blocks.FrameRecord.{FrameRecord}
use Rattle.number_table.specs.ChainMoves.{count, place, stacks, MovesTop}
use Rattle.frame_store.specs.FrameBlocks.{build, record_at, index_of, value_of, frame_of, IsCleared, TakesBlocks}
use Rattle.number_table.proofs.PlacesApart.{places_apart}
use Rattle.frame_store.specs.Builds.{build-same}

split_blocks : (b c x y : ℕ) → 20 * b + x ≡ 20 * c + y → x < 20 → y < 20 → (b ≡ c) × (x ≡ y)
split_blocks b c x y e a d = (omega arith, omega arith)

pub indices_apart : (parts : Chains) (f g q r : ℕ) → f < stacks parts → g < stacks parts → q < 20 * count parts f → r < 20 * count parts g
    → index_of parts f q ≡ index_of parts g r → (f ≡ g) × (q ≡ r)
indices_apart parts f g q r f_lt g_lt q_lt r_lt e =
    let s = split_blocks (place parts f (q / 20)) (place parts g (r / 20)) (q % 20) (r % 20) e (omega arith) (omega arith) in
    let a = places_apart parts f (q / 20) g (r / 20) f_lt (omega arith) g_lt (omega arith) s.0 in
    (a.0, omega (arith, a.1, s.1))

-- the frame with this record and these values
abbrev pub frame_with : FrameRecord → (ℕ → Value) → FrameState
frame_with r v =
    record {
      head = r.head;
      locals = build v r.head.max_locals;
      stack = build (λ q. v (r.head.max_locals + q)) r.height;
    }

pub frame_with-same : (r : FrameRecord) (v w : ℕ → Value) → ((q : ℕ) → q < r.head.max_locals + r.height → w q ≡ v q) → frame_with r w ≡ frame_with r v
frame_with-same r v w h =
    let locals = build-same v w r.head.max_locals (λ k lt. h k (omega arith)) in
    let stack =
    build-same (λ q. v (r.head.max_locals + q)) (λ q. w (r.head.max_locals + q)) r.height (λ k lt. h (r.head.max_locals + k) (omega arith)) in
    ap (λ (xs : List Value). let s : FrameState = record { head = r.head; locals = xs; stack = build (λ q. w (r.head.max_locals + q)) r.height } in s) locals
    ∙ ap (λ (xs : List Value). let s : FrameState = record { head = r.head; locals = build v r.head.max_locals; stack = xs } in s) stack

pub frame-same : (parts new_parts : Chains) (records new_records : List FrameRecord) (values new_values : List Value) (f : ℕ)
    → record_at new_records f ≡ record_at records f
    → ((q : ℕ) → q < (record_at records f).head.max_locals + (record_at records f).height → value_of new_parts new_values f q ≡ value_of parts values f q)
    → frame_of new_parts new_records new_values f ≡ frame_of parts records values f
frame-same parts new_parts records new_records values new_values f e h =
    ap (λ r. frame_with r (value_of new_parts new_values f)) e
    ∙ frame_with-same (record_at records f) (value_of parts values f) (value_of new_parts new_values f) h

-- ---- Blocks are taken.

pub none_taken : (c : Chains) (values : List Value) (last frame locals : ℕ) → count c frame ≡ 0 → TakesBlocks c c values values last frame 0 locals
none_taken c values last frame locals bare =
    record {
      same_nodes = refl;
      same_stacks = refl;
      values_size = refl;
      has = bare;
      less = omega arith;
      others = λ _ _ _. refl;
      same_index = λ _ _ _ _ _. refl;
      same_value = λ _ _ _ _ _. refl;
      unset = λ q lt _. absurd (omega arith);
    }

-- the lowest block stays
pub lowest_stays : (old c new : Chains) (old_values values : List Value) (last frame n b : ℕ) {locals : ℕ} → last < stacks old → frame < last
    → TakesBlocks old c old_values values last frame n locals → MovesTop c new last frame b → 1 ≤ n → place new frame 0 ≡ place c frame 0
lowest_stays old c new old_values values last frame n b last_lt frame_lt taken moves some =
    moves.others frame 0 (omega (arith, taken.same_stacks)) (omega (arith, taken.has)) (omega (arith, taken.has, moves.to_count))

module _ (old c new : Chains) (old_values values new_values : List Value) (last frame n b locals some : ℕ) (last_lt : last < stacks old)
    (frame_lt : frame < last) (taken : TakesBlocks old c old_values values last frame n locals) (moves : MovesTop c new last frame b)
    (cleared : IsCleared values new_values b some) (enough : (k : ℕ) → k < 20 → 20 * n + k < locals → k < some) where
  in_c : (g : ℕ) → g < last → g < stacks c
  in_c g lt = omega (arith, taken.same_stacks)

  count_c : (g : ℕ) → g < last → g ≢ frame → count c g ≡ count old g
  count_c g lt ne = taken.others g ne (omega arith)

  place_g : (g p : ℕ) → g < last → g ≢ frame → p < count old g → place new g p ≡ place c g p
  place_g g p lt ne p_lt =
      moves.others g p (in_c g lt) (omega (arith, count_c g lt ne)) (omega (arith, count_c g lt ne, moves.other_counts g (omega arith) ne))

  place_frame : (p : ℕ) → p < n → place new frame p ≡ place c frame p
  place_frame p lt = moves.others frame p (in_c frame frame_lt) (omega (arith, taken.has)) (omega (arith, taken.has, moves.to_count))

  some_last : 0 < count c last
  some_last = omega (arith, moves.from_count)

  other_block : (g p : ℕ) → g < last → p < count c g → place c g p ≢ b
  other_block g p lt p_lt e =
      let last_in : last < stacks c = omega (arith, taken.same_stacks) in
      let a = places_apart c g p last (count c last - 1) (in_c g lt) p_lt last_in (let s = some_last in omega arith) (e ∙ moves.was_top) in
      omega (arith, a.0)

  kept : (a x : ℕ) → a ≢ b → x < 20 → get_or new_values (20 * a + x) Unset ≡ get_or values (20 * a + x) Unset
  kept a x ne lt =
      elim (cases_eq (a - b) 0) [
        | inl low ↦ (cleared.others (20 * a + x)).0 (omega arith)
        | inr high ↦ (cleared.others (20 * a + x)).1 (omega arith)
      ]

  pub one_taken : TakesBlocks old new old_values new_values last frame (n + 1) locals
  one_taken =
      record {
        same_nodes = moves.same_nodes ∙ taken.same_nodes;
        same_stacks = moves.same_stacks ∙ taken.same_stacks;
        values_size = cleared.size ∙ taken.values_size;
        has = omega (arith, moves.to_count, taken.has);
        less = omega (arith, moves.from_count, taken.less);
        others = λ g a d. moves.other_counts g d a ∙ taken.others g a d;
        same_index =
            λ g q lt ne q_lt.
            ap (λ k. 20 * k + q % 20) (place_g g (q / 20) lt ne (omega arith)) ∙ taken.same_index g q lt ne q_lt;
        same_value =
            λ g q lt ne q_lt.
            ap (λ k. get_or new_values (20 * k + q % 20) Unset) (place_g g (q / 20) lt ne (omega arith))
            ∙ kept (place c g (q / 20)) (q % 20) (other_block g (q / 20) lt (omega (arith, count_c g lt ne))) (omega arith)
            ∙ taken.same_value g q lt ne q_lt;
        unset =
            λ q q_lt local. elim (cases_eq (q / 20) n) [
              | inl e ↦
                  let at : place new frame (q / 20) ≡ b = ap (place new frame) (e ∙ sym taken.has) ∙ moves.lands in
                  ap (λ k. get_or new_values (20 * k + q % 20) Unset) at ∙ cleared.cleared (q % 20) (enough (q % 20) (omega arith) (omega arith))
              | inr ne ↦
                  let low : q / 20 < n = omega arith in
                  ap (λ k. get_or new_values (20 * k + q % 20) Unset) (place_frame (q / 20) low)
                  ∙ kept (place c frame (q / 20)) (q % 20) (other_block frame (q / 20) frame_lt (omega (arith, taken.has))) (omega arith)
                  ∙ taken.unset q (omega arith) local
            ];
      }
