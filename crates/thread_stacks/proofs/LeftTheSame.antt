-- What the end of a domain leaves of a stack stays the same where one of its segments is taken out beforehand: the one above it is an orphan then,
-- or, where it was on top, the one below it has a RevokedException pending.
use Rattle.std.proofs.Common.{◌≡◌, inl, inr, Bool, true, false, List, [], ◌∷◌, ◌++◌, Contains, refl, sym, ap, ◌∙◌}
use Rattle.std.specs.Prelude.{if◌then◌else◌}
use Rattle.std.specs.Option.{option_map_or}
use Rattle.std.proofs.lemmas.Bool.{cases_Bool}
use Rattle.jk_model.specs.declared.identifiers.DomainId.{DomainId}
use Rattle.jk_model_sharing.specs.Segments.{SharedSegment, as_orphan, is_of, left_above, segments_left, shared_form, top_is_of, with_revoked, with_top}
use Rattle.list_lemmas.proofs.ItemsOfLists.{Contains-here, Contains-there}
use Rattle.thread_stacks.proofs.Filtered.{top_of-push}

module _ (d : DomainId) where
  abbrev left : Bool → List SharedSegment → List SharedSegment
  left gap ss = left_above shared_form d gap ss

  abbrev own : SharedSegment → Bool
  own s = is_of shared_form d s

  abbrev own_top : List SharedSegment → Bool
  own_top ss = top_is_of shared_form d ss

  abbrev revoked_top : List SharedSegment → List SharedSegment
  revoked_top ss = with_top (with_revoked true) ss

  abbrev if_gap : Bool → SharedSegment → SharedSegment
  if_gap gap s = if gap then as_orphan s else s

  -- ---- One that has another one above it.

  orphan_twice : (gap : Bool) (b : SharedSegment) → as_orphan b ≡ if_gap gap (as_orphan b)
  orphan_twice true b = refl
  orphan_twice false b = refl

  above_gone : (gap : Bool) (xs : List SharedSegment) (s b : SharedSegment) (ys : List SharedSegment) → own s ≡ true
      → left gap (xs ++ s ∷ b ∷ ys) ≡ left gap (xs ++ as_orphan b ∷ ys)
  above_gone gap [] s b ys its = elim (cases_Bool (own b)) [
    | inl hit ↦ rw (its, hit) refl
    | inr miss ↦ rw (its, miss) (ap (λ (x : SharedSegment). x ∷ left false ys) (orphan_twice gap b))
  ]
  above_gone gap (x ∷ xs) s b ys its = elim (cases_Bool (own x)) [
    | inl hit ↦ rw hit (above_gone true xs s b ys its)
    | inr miss ↦ rw miss (ap (λ (ws : List SharedSegment). if_gap gap x ∷ ws) (above_gone false xs s b ys its))
  ]

  top_beside : (s b : SharedSegment) (ys : List SharedSegment) → own_top (s ∷ b ∷ ys) ≡ own_top (as_orphan b ∷ ys)
  top_beside s b [] = refl
  top_beside s b (y ∷ ys) = refl

  top_same : (xs : List SharedSegment) (s b : SharedSegment) (ys : List SharedSegment) → own_top (xs ++ s ∷ b ∷ ys) ≡ own_top (xs ++ as_orphan b ∷ ys)
  top_same [] s b ys = top_beside s b ys
  top_same (x ∷ []) s b ys = top_beside s b ys
  top_same (x ∷ z ∷ zs) s b ys = top_same (z ∷ zs) s b ys

  pub taken_below : (xs : List SharedSegment) (s b : SharedSegment) (ys : List SharedSegment) → own s ≡ true
      → segments_left shared_form d (xs ++ as_orphan b ∷ ys) ≡ segments_left shared_form d (xs ++ s ∷ b ∷ ys)
  taken_below xs s b ys its =
      ap (λ (t : Bool). if t then revoked_top (left false (xs ++ as_orphan b ∷ ys)) else left false (xs ++ as_orphan b ∷ ys))
      (sym (top_same xs s b ys))
      ∙ ap (λ (ws : List SharedSegment). if own_top (xs ++ s ∷ b ∷ ys) then revoked_top ws else ws) (sym (above_gone false xs s b ys its))

  -- ---- The top one.

  own_end : (gap : Bool) (xs : List SharedSegment) (s : SharedSegment) → own s ≡ true → left gap (xs ++ s ∷ []) ≡ left gap xs
  own_end gap [] s its = rw its refl
  own_end gap (x ∷ xs) s its = elim (cases_Bool (own x)) [
    | inl hit ↦ rw hit (own_end true xs s its)
    | inr miss ↦ rw miss (ap (λ (ws : List SharedSegment). if_gap gap x ∷ ws) (own_end false xs s its))
  ]

  top_revoked : (xs : List SharedSegment) → own_top (revoked_top xs) ≡ own_top xs
  top_revoked [] = refl
  top_revoked (x ∷ []) = refl
  top_revoked (x ∷ y ∷ []) = refl
  top_revoked (x ∷ y ∷ z ∷ zs) = top_revoked (y ∷ z ∷ zs)

  -- the top goes
  revoked_goes : (gap : Bool) (xs : List SharedSegment) → own_top xs ≡ true → left gap (revoked_top xs) ≡ left gap xs
  revoked_goes gap [] h = refl
  revoked_goes gap (x ∷ []) h = rw h refl
  revoked_goes gap (x ∷ y ∷ ys) h = elim (cases_Bool (own x)) [
    | inl hit ↦ rw hit (revoked_goes true (y ∷ ys) h)
    | inr miss ↦ rw miss (ap (λ (ws : List SharedSegment). if_gap gap x ∷ ws) (revoked_goes false (y ∷ ys) h))
  ]

  -- the top stays
  some_left : (gap : Bool) (x : SharedSegment) (xs : List SharedSegment) → own_top (x ∷ xs) ≡ false
      → (z : SharedSegment) × (zs : List SharedSegment) × (left gap (x ∷ xs) ≡ z ∷ zs)
  some_left gap x [] h = (if_gap gap x, [], rw h refl)
  some_left gap x (y ∷ ys) h = elim (cases_Bool (own x)) [
    | inl hit ↦ let r = some_left true y ys h in (r.0, r.1, rw hit r.2)
    | inr miss ↦ (if_gap gap x, left false (y ∷ ys), rw miss refl)
  ]

  revoked_behind : (x : SharedSegment) (ws : List SharedSegment) (z : SharedSegment) (zs : List SharedSegment) → ws ≡ z ∷ zs
      → x ∷ revoked_top ws ≡ revoked_top (x ∷ ws)
  revoked_behind x ws z zs is =
      ap (λ (vs : List SharedSegment). x ∷ revoked_top vs) is ∙ sym (ap (λ (vs : List SharedSegment). revoked_top (x ∷ vs)) is)

  gap_revoked : (gap : Bool) (x : SharedSegment) → if_gap gap (with_revoked true x) ≡ with_revoked true (if_gap gap x)
  gap_revoked true x = refl
  gap_revoked false x = refl

  revoked_stays : (gap : Bool) (xs : List SharedSegment) → own_top xs ≡ false → left gap (revoked_top xs) ≡ revoked_top (left gap xs)
  revoked_stays gap [] h = refl
  revoked_stays gap (x ∷ []) h = rw h (ap (λ (y : SharedSegment). y ∷ []) (gap_revoked gap x))
  revoked_stays gap (x ∷ y ∷ ys) h = elim (cases_Bool (own x)) [
    | inl hit ↦ rw hit (revoked_stays true (y ∷ ys) h)
    | inr miss ↦
        let r = some_left false y ys h in
        rw miss
        (ap (λ (ws : List SharedSegment). if_gap gap x ∷ ws) (revoked_stays false (y ∷ ys) h)
        ∙ revoked_behind (if_gap gap x) (left false (y ∷ ys)) r.0 r.1 r.2)
  ]

  pub taken_top : (xs : List SharedSegment) (s : SharedSegment) → own s ≡ true
      → segments_left shared_form d (revoked_top xs) ≡ segments_left shared_form d (xs ++ s ∷ [])
  taken_top xs s its = elim (cases_Bool (own_top xs)) [
    | inl hit ↦ by_top true (top_revoked xs ∙ hit) (ap (λ (ws : List SharedSegment). revoked_top ws) (revoked_goes false xs hit)) ∙ sym whole
    | inr miss ↦ by_top false (top_revoked xs ∙ miss) (revoked_stays false xs miss) ∙ sym whole
  ]
    where
      whole : segments_left shared_form d (xs ++ s ∷ []) ≡ revoked_top (left false xs)
      whole =
          ap (λ (t : Bool). if t then revoked_top (left false (xs ++ s ∷ [])) else left false (xs ++ s ∷ []))
          (ap (λ o. option_map_or own o false) (top_of-push xs s) ∙ its)
          ∙ ap (λ (ws : List SharedSegment). revoked_top ws) (own_end false xs s its)

      by_top : (t : Bool) → own_top (revoked_top xs) ≡ t
          → (if t then revoked_top (left false (revoked_top xs)) else left false (revoked_top xs)) ≡ revoked_top (left false xs)
          → segments_left shared_form d (revoked_top xs) ≡ revoked_top (left false xs)
      by_top t is same =
          ap (λ (b : Bool). if b then revoked_top (left false (revoked_top xs)) else left false (revoked_top xs)) is ∙ same

  -- ---- None at all.

  none_goes : (ss : List SharedSegment) → ((s : SharedSegment) → Contains ss s → own s ≡ false) → left false ss ≡ ss
  none_goes [] h = refl
  none_goes (s ∷ ss) h =
      rw (h s (Contains-here s ss)) (ap (λ (ws : List SharedSegment). s ∷ ws) (none_goes ss (λ x there. h x (Contains-there x s ss there))))

  no_own_top : (ss : List SharedSegment) → ((s : SharedSegment) → Contains ss s → own s ≡ false) → own_top ss ≡ false
  no_own_top [] h = refl
  no_own_top (s ∷ []) h = h s (Contains-here s [])
  no_own_top (s ∷ r ∷ ss) h = no_own_top (r ∷ ss) (λ x there. h x (Contains-there x s (r ∷ ss) there))

  pub all_left : (ss : List SharedSegment) → ((s : SharedSegment) → Contains ss s → own s ≡ false) → segments_left shared_form d ss ≡ ss
  all_left ss h =
      ap (λ (t : Bool). if t then revoked_top (left false ss) else left false ss) (no_own_top ss h) ∙ none_goes ss h
