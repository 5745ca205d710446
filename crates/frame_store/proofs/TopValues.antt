-- What a write of a value or of a record makes of a frame.
use Rattle.std.proofs.Common.{◌≡◌, ℕ, ◌+◌, ◌-◌, ◌*◌, ◌<◌, ◌≤◌, List, [], ◌∷◌, ◌++◌, length, set, refl, sym, ap, subst, arith, ◌∙◌}
use Rattle.jk_model.specs.declared.values.Value.{Value}
use Rattle.jk_model_frames.specs.Frames.{FrameState}
use Rattle.frame_store.specs.declared.frame_blocks.FrameRecord.{FrameRecord}
use Rattle.frame_store.specs.declared.domain_frames.DomainFrames.{DomainFrames}
use Rattle.number_table.specs.ChainMoves.{count}
use Rattle.frame_store.specs.FrameBlocks.{build, record_at, index_of, value_of, frame_of}
use Rattle.frame_store.specs.DomainMoves.{value_at, IsFrameNumber}
use Rattle.frame_store.specs.Builds.{build-same, build-set, build-more, length-build}
use Rattle.frame_store.proofs.FrameValues.{frame_with}
use Rattle.frame_store.proofs.TopIsWritten.{in_blocks, record_of, record_lt, other_value, this_value}

module _ (d : DomainFrames) (f : ℕ) (is : IsFrameNumber d f) where
  abbrev r : FrameRecord
  r = record_at d.records.items f

  abbrev locals : ℕ
  locals = r.head.max_locals

  abbrev v : ℕ → Value
  v q = value_of d.parts d.values.items f q

  entry_in : (k : ℕ) → k < r.head.max_stack → locals + k < 20 * count d.parts f
  entry_in k lt = in_blocks d f (locals + k) is (omega arith)

  local_in : (k : ℕ) → k < locals → k < 20 * count d.parts f
  local_in k lt = in_blocks d f k is (omega arith)

  -- a local is set
  pub local_is_set : (k q : ℕ) (x : Value) → k ≡ index_of d.parts f q → q < locals
      → frame_of d.parts d.records.items (set d.values.items k x) f ≡ record (value_at d f) { locals = set (value_at d f).locals q x }
  local_is_set k q x k_is lt =
      let new = set d.values.items (index_of d.parts f q) x in
      let w = value_of d.parts new f in
      let of_locals : build w locals ≡ set (build v locals) q x =
      build-set v w locals q x lt (this_value d f q x is (local_in q lt))
      (λ p p_lt ne. other_value d f q f p x is is (local_in q lt) (local_in p p_lt) (λ _. ne)) in
      let of_stack : build (λ p. w (locals + p)) r.height ≡ build (λ p. v (locals + p)) r.height =
      build-same (λ p. v (locals + p)) (λ p. w (locals + p)) r.height
      (λ p p_lt. other_value d f q f (locals + p) x is is (local_in q lt) (entry_in p (omega (arith, is.framed.low))) (λ _ e. omega arith)) in
      let P : ℕ → Type 0 = λ j. frame_of d.parts d.records.items (set d.values.items j x) f ≡ record (value_at d f)
      { locals = set (value_at d f).locals q x } in
      subst P (sym k_is)
      (ap (λ (xs : List Value). let s : FrameState = record { head = r.head; locals = xs; stack = build (λ p. w (locals + p)) r.height } in s) of_locals
      ∙ ap (λ (xs : List Value). let s : FrameState = record { head = r.head; locals = set (build v locals) q x; stack = xs } in s) of_stack)

  -- an entry is pushed
  pub entry_is_pushed : (k : ℕ) (x : Value) (t : FrameRecord) → t ≡ r → k ≡ index_of d.parts f (locals + r.height) → r.height < r.head.max_stack
      → frame_of d.parts (set d.records.items f (record t { height = t.height + 1 })) (set d.values.items k x) f
      ≡ record (value_at d f) { stack = (value_at d f).stack ++ x ∷ [] }
  entry_is_pushed k x t t_is k_is lt =
      let q = locals + r.height in
      let new = set d.values.items (index_of d.parts f q) x in
      let w = value_of d.parts new f in
      let of_locals : build w locals ≡ build v locals =
      build-same v w locals (λ p p_lt. other_value d f q f p x is is (entry_in r.height lt) (local_in p p_lt) (λ _ e. omega arith)) in
      let of_lower : build (λ p. w (locals + p)) r.height ≡ build (λ p. v (locals + p)) r.height =
      build-same (λ p. v (locals + p)) (λ p. w (locals + p)) r.height
      (λ p p_lt. other_value d f q f (locals + p) x is is (entry_in r.height lt) (entry_in p (omega arith)) (λ _ e. omega arith)) in
      let of_stack : build (λ p. w (locals + p)) (r.height + 1) ≡ build (λ p. v (locals + p)) r.height ++ x ∷ [] =
      build-more (λ p. w (locals + p)) r.height (r.height + 1) refl
      ∙ ap (λ xs. xs ++ w (locals + r.height) ∷ []) of_lower
      ∙ ap (λ y. build (λ p. v (locals + p)) r.height ++ y ∷ []) (this_value d f q x is (entry_in r.height lt)) in
      let up : FrameRecord → FrameRecord = λ (y : FrameRecord). record y { height = y.height + 1 } in
      let at : record_at (set d.records.items f (up t)) f ≡ up r = record_of d.records.items f (up t) (record_lt d f is) ∙ ap up t_is in
      let P : ℕ → Type 0 = λ j. frame_of d.parts (set d.records.items f (up t)) (set d.values.items j x) f
      ≡ record (value_at d f) { stack = (value_at d f).stack ++ x ∷ [] } in
      subst P (sym k_is)
      (ap (λ y. frame_with y w) at
      ∙ ap (λ (xs : List Value). let s : FrameState = record { head = r.head; locals = xs; stack = build (λ p. w (locals + p)) (r.height + 1) } in s) of_locals
      ∙ ap (λ (xs : List Value). let s : FrameState = record { head = r.head; locals = build v locals; stack = xs } in s) of_stack)

  -- an entry is in the place of several
  pub entries_are_exchanged : (k count : ℕ) (x : Value) (below : List Value) (t : FrameRecord) → t ≡ r
      → k ≡ index_of d.parts f (locals + (r.height - count)) → 1 ≤ count → count ≤ r.height → build (λ p. v (locals + p)) (r.height - count) ≡ below
      → frame_of d.parts (set d.records.items f (record t { height = t.height - count + 1 })) (set d.values.items k x) f
      ≡ record (value_at d f) { stack = below ++ x ∷ [] }
  entries_are_exchanged k count x below t t_is k_is some enough kept =
      let h = r.height - count in
      let q = locals + h in
      let new = set d.values.items (index_of d.parts f q) x in
      let w = value_of d.parts new f in
      let lt : h < r.head.max_stack = omega (arith, is.framed.low) in
      let of_locals : build w locals ≡ build v locals =
      build-same v w locals (λ p p_lt. other_value d f q f p x is is (entry_in h lt) (local_in p p_lt) (λ _ e. omega arith)) in
      let of_lower : build (λ p. w (locals + p)) h ≡ build (λ p. v (locals + p)) h =
      build-same (λ p. v (locals + p)) (λ p. w (locals + p)) h
      (λ p p_lt. other_value d f q f (locals + p) x is is (entry_in h lt) (entry_in p (omega arith)) (λ _ e. omega arith)) in
      let of_stack : build (λ p. w (locals + p)) (h + 1) ≡ below ++ x ∷ [] =
      build-more (λ p. w (locals + p)) h (h + 1) refl
      ∙ ap (λ xs. xs ++ w (locals + h) ∷ []) (of_lower ∙ kept)
      ∙ ap (λ y. below ++ y ∷ []) (this_value d f q x is (entry_in h lt)) in
      let to : FrameRecord → FrameRecord = λ (y : FrameRecord). record y { height = y.height - count + 1 } in
      let at : record_at (set d.records.items f (to t)) f ≡ to r = record_of d.records.items f (to t) (record_lt d f is) ∙ ap to t_is in
      let P : ℕ → Type 0 = λ j. frame_of d.parts (set d.records.items f (to t)) (set d.values.items j x) f
      ≡ record (value_at d f) { stack = below ++ x ∷ [] } in
      subst P (sym k_is)
      (ap (λ y. frame_with y w) at
      ∙ ap (λ (xs : List Value). let s : FrameState = record { head = r.head; locals = xs; stack = build (λ p. w (locals + p)) (h + 1) } in s) of_locals
      ∙ ap (λ (xs : List Value). let s : FrameState = record { head = r.head; locals = build v locals; stack = xs } in s) of_stack)

  -- an entry is taken off
  pub entry_is_off : (t : FrameRecord) → t ≡ r
      → frame_of d.parts (set d.records.items f (record t { height = t.height - 1 })) d.values.items f
      ≡ record (value_at d f) { stack = build (λ p. v (locals + p)) (r.height - 1) }
  entry_is_off t t_is =
      let down : FrameRecord → FrameRecord = λ (y : FrameRecord). record y { height = y.height - 1 } in
      let at : record_at (set d.records.items f (down t)) f ≡ down r = record_of d.records.items f (down t) (record_lt d f is) ∙ ap down t_is in
      ap (λ y. frame_with y v) at

  pub entry_was_top : 0 < r.height → (value_at d f).stack ≡ build (λ p. v (locals + p)) (r.height - 1) ++ v (locals + (r.height - 1)) ∷ []
  entry_was_top some = build-more (λ p. v (locals + p)) (r.height - 1) r.height (omega arith)

  pub height_is : length (value_at d f).stack ≡ r.height
  height_is = length-build (λ p. v (locals + p)) r.height

  pub locals_are : length (value_at d f).locals ≡ locals
  locals_are = length-build v locals

  -- where a frame goes on
  pub is_gone : (t : FrameRecord) (go : FrameRecord → FrameRecord) → t ≡ r
      → frame_of d.parts (set d.records.items f (go t)) d.values.items f ≡ frame_with (go r) v
  is_gone t go t_is =
      ap (λ y. frame_with y v) (record_of d.records.items f (go t) (record_lt d f is) ∙ ap go t_is)
