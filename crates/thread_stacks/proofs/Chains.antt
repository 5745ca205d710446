-- Slots that name the one before and the one behind: parts of such a chain, one taken out of it, and one put behind it.
use Rattle.std.proofs.Common.{◌≡◌, ℕ, zero, suc, ◌<◌, Bool, true, false, List, [], ◌∷◌, ◌++◌, length, map, Contains, Option, None, Some, slice_get, refl, sym, ap, subst, ◌∙◌, arith}
use Rattle.std.specs.Prelude.{◌==◌, if◌then◌else◌}
use Rattle.std.proofs.lemmas.Bool.{eq-eqb, ne_eqb}
use Rattle.std.proofs.lemmas.List.{map-append}
use Rattle.jk_model.specs.declared.identifiers.SegmentNo.{SegmentNo}
use Rattle.jk_model_sharing.specs.Segments.{top_of}
use Rattle.list_lemmas.proofs.ItemsByPlace.{slice_get-longer}
use Rattle.list_lemmas.proofs.ItemsOfLists.{Contains-at, Contains-here, Contains-there, place_of}
use Rattle.thread_stacks.specs.declared.slots.Slot.{Slot}
use Rattle.thread_stacks.specs.Places.{AreRisingBy}
use Rattle.thread_stacks.specs.StackChanges.{hits}
use Rattle.thread_stacks.specs.Stacks.{AreChained, first_or, last_or, slot_key, slot_number}
use Rattle.thread_stacks.proofs.ItemsByKey.{rising_tail}

-- ---- Firsts and lasts.

abbrev pub numbered : ℕ → Option SegmentNo
numbered n = Some (record { 0 = n })

first_or-append : (other : Option SegmentNo) (xs ys : List Slot) → first_or other (xs ++ ys) ≡ first_or (first_or other ys) xs
first_or-append other [] ys = refl
first_or-append other (x ∷ xs) ys = refl

pub last_or-append : (other : Option SegmentNo) (xs ys : List Slot) → last_or other (xs ++ ys) ≡ last_or (last_or other xs) ys
last_or-append other [] ys = refl
last_or-append other (x ∷ xs) ys = last_or-append (Some (slot_number x)) xs ys

pub first_or-map : (g : Slot → Slot) (other : Option SegmentNo) (xs : List Slot) → ((x : Slot) → Contains xs x → (g x).number ≡ x.number)
    → first_or other (map g xs) ≡ first_or other xs
first_or-map g other [] same = refl
first_or-map g other (x ∷ xs) same = ap numbered (same x (Contains-here x xs))

pub last_or-map : (g : Slot → Slot) (other : Option SegmentNo) (xs : List Slot) → ((x : Slot) → Contains xs x → (g x).number ≡ x.number)
    → last_or other (map g xs) ≡ last_or other xs
last_or-map g other [] same = refl
last_or-map g other (x ∷ xs) same =
    ap (λ (o : Option SegmentNo). last_or o (map g xs)) (ap numbered (same x (Contains-here x xs)))
    ∙ last_or-map g (Some (slot_number x)) xs (λ y there. same y (Contains-there y x xs there))

-- the last of some is one of them
pub record LastOf (xs : List Slot) (o : Option SegmentNo) : Type 0 where
  pub place : ℕ
  pub slot : Slot
  pub there : slice_get xs place ≡ Some slot
  pub is : o ≡ Some (slot_number slot)

pub last_of_some : (other : Option SegmentNo) (x : Slot) (xs : List Slot) → LastOf (x ∷ xs) (last_or other (x ∷ xs))
last_of_some other x [] = record { place = 0; slot = x; there = refl; is = refl }
last_of_some other x (y ∷ ys) =
    let l = last_of_some (Some (slot_number x)) y ys in record { place = suc l.place; slot = l.slot; there = l.there; is = l.is }

pub last_or_top : (xs : List Slot) → last_or None xs ≡ top_of (map slot_number xs)
last_or_top [] = refl
last_or_top (x ∷ []) = refl
last_or_top (x ∷ y ∷ ys) = last_or_top (y ∷ ys)

-- ---- What is hit.

pub hits_same : (o : Option SegmentNo) (x y : Slot) → x.number ≡ y.number → hits o x ≡ hits o y
hits_same None x y same = refl
hits_same (Some n) x y same = ap (λ (k : ℕ). k == n.0) same

pub hits_it : (o : Option SegmentNo) (x : Slot) → o ≡ Some (slot_number x) → hits o x ≡ true
hits_it o x is = ap (λ (p : Option SegmentNo). hits p x) is ∙ eq-eqb x.number x.number refl

pub hits_less : (o : Option SegmentNo) (x y : Slot) → o ≡ Some (slot_number y) → x.number < y.number → hits o x ≡ false
hits_less o x y is less = ap (λ (p : Option SegmentNo). hits p x) is ∙ ne_eqb x.number y.number (λ same. omega (arith, less, same))

pub hits_more : (o : Option SegmentNo) (x y : Slot) → o ≡ Some (slot_number y) → y.number < x.number → hits o x ≡ false
hits_more o x y is more = ap (λ (p : Option SegmentNo). hits p x) is ∙ ne_eqb x.number y.number (λ same. omega (arith, more, same))

pub hits_none : (o : Option SegmentNo) (x : Slot) → o ≡ None → hits o x ≡ false
hits_none o x is = ap (λ (p : Option SegmentNo). hits p x) is

-- ---- Rising numbers around a slot.

pub front_rises : (xs ys : List Slot) → AreRisingBy slot_key (xs ++ ys) → AreRisingBy slot_key xs
front_rises xs ys h i j a b p q low = h i j a b (slice_get-longer xs ys i a p) (slice_get-longer xs ys j b q) low

pub back_rises : (xs ys : List Slot) → AreRisingBy slot_key (xs ++ ys) → AreRisingBy slot_key ys
back_rises [] ys h = h
back_rises (x ∷ xs) ys h = back_rises xs ys (rising_tail slot_key x (xs ++ ys) h)

pub above_head : (s : Slot) (ys : List Slot) → AreRisingBy slot_key (s ∷ ys) → (y : Slot) → Contains ys y → s.number < y.number
above_head s ys h y there = let at = place_of ys y there in h 0 (suc at.0) s y refl at.1 (omega arith)

pub below_seam : (xs : List Slot) (s : Slot) (ys : List Slot) → AreRisingBy slot_key (xs ++ s ∷ ys) → (x : Slot) → Contains xs x → x.number < s.number
below_seam xs s ys h x there = let at = place_of xs x there in seam xs h at.0 at.1
  where
    seam : (xs : List Slot) → AreRisingBy slot_key (xs ++ s ∷ ys) → (i : ℕ) → slice_get xs i ≡ Some x → x.number < s.number
    seam [] h i at = absurd cc
    seam (z ∷ zs) h zero at = from_head zs h at
      where
        from_head : (zs : List Slot) → AreRisingBy slot_key (z ∷ (zs ++ s ∷ ys)) → Some z ≡ Some x → x.number < s.number
        from_head zs h at = h 0 (suc (length zs)) x s at (between zs) (omega arith)
          where
            between : (ws : List Slot) → slice_get (ws ++ s ∷ ys) (length ws) ≡ Some s
            between [] = refl
            between (w ∷ ws) = between ws
    seam (z ∷ zs) h (suc i) at = seam zs (rising_tail slot_key z (zs ++ s ∷ ys) h) i at

-- ---- Chains.

module _ (back on : Slot → Option SegmentNo) where
  pub chained_parts : (before behind : Option SegmentNo) (xs ys : List Slot) → AreChained back on before (xs ++ ys) behind
      → AreChained back on before xs (first_or behind ys) × AreChained back on (last_or before xs) ys behind
  chained_parts before behind [] ys h = (tt, h)
  chained_parts before behind (x ∷ xs) ys h =
      let r = chained_parts (Some (slot_number x)) behind xs ys h.2 in
      ((h.0, h.1 ∙ first_or-append behind xs ys, r.0), r.1)

  pub chained_together : (before behind : Option SegmentNo) (xs ys : List Slot) → AreChained back on before xs (first_or behind ys)
      → AreChained back on (last_or before xs) ys behind → AreChained back on before (xs ++ ys) behind
  chained_together before behind [] ys h k = k
  chained_together before behind (x ∷ xs) ys h k =
      (h.0, h.1 ∙ sym (first_or-append behind xs ys), chained_together (Some (slot_number x)) behind xs ys h.2 k)

  -- each keeps what it names
  pub chained_same : (g : Slot → Slot) (before behind : Option SegmentNo) (xs : List Slot)
      → ((x : Slot) → Contains xs x → ((g x).number ≡ x.number) × (back (g x) ≡ back x) × (on (g x) ≡ on x))
      → AreChained back on before xs behind → AreChained back on before (map g xs) behind
  chained_same g before behind [] same h = tt
  chained_same g before behind (x ∷ xs) same h =
      let here = same x (Contains-here x xs) in
      let later : (y : Slot) → Contains xs y → ((g y).number ≡ y.number) × (back (g y) ≡ back y) × (on (g y) ≡ on y) =
      λ y there. same y (Contains-there y x xs there) in (
        here.1 ∙ h.0,
        here.2 ∙ h.1 ∙ sym (first_or-map g behind xs (λ y there. (later y there).0)),
        subst (λ (o : Option SegmentNo). AreChained back on o (map g xs) behind) (sym (ap numbered here.0))
            (chained_same g (Some (slot_number x)) behind xs later h.2),
      )

  -- the last one names another one behind it
  pub last_changed : (g : Slot → Slot) (last was now : Option SegmentNo) → ((x : Slot) → (g x).number ≡ x.number)
      → ((x : Slot) → on (g x) ≡ (if hits last x then now else on x)) → (before : Option SegmentNo) (xs : List Slot) → AreRisingBy slot_key xs
      → last ≡ last_or before xs → ((x : Slot) → Contains xs x → back (g x) ≡ back x) → AreChained back on before xs was
      → AreChained back on before (map g xs) now
  last_changed g last was now number on_is before [] rising is same h = tt
  last_changed g last was now number on_is before (x ∷ []) rising is same h = (
    same x (Contains-here x []) ∙ h.0,
    on_is x ∙ ap (λ (b : Bool). if b then now else on x) (hits_it last x is),
    tt,
  )
  last_changed g last was now number on_is before (x ∷ y ∷ ys) rising is same h =
      let l = last_of_some (Some (slot_number x)) y ys in
      let miss : hits last x ≡ false =
      hits_less last x l.slot (is ∙ l.is) (rising 0 (suc l.place) x l.slot refl l.there (omega arith)) in (
        same x (Contains-here x (y ∷ ys)) ∙ h.0,
        on_is x ∙ ap (λ (b : Bool). if b then now else on x) miss ∙ h.1 ∙ sym (ap numbered (number y)),
        subst (λ (o : Option SegmentNo). AreChained back on o (map g (y ∷ ys)) now) (sym (ap numbered (number x)))
            (last_changed g last was now number on_is (Some (slot_number x)) (y ∷ ys) (rising_tail slot_key x (y ∷ ys) rising) is
            (λ z there. same z (Contains-there z x (y ∷ ys) there)) h.2),
      )

  -- One more behind them.
  pub chained_push : (g : Slot → Slot) (last : Option SegmentNo) (new : Slot) → ((x : Slot) → (g x).number ≡ x.number)
      → ((x : Slot) → on (g x) ≡ (if hits last x then Some (slot_number new) else on x)) → ((x : Slot) → back (g x) ≡ back x) → (xs : List Slot)
      → AreRisingBy slot_key xs → last ≡ last_or None xs → back new ≡ last → on new ≡ None → AreChained back on None xs None
      → AreChained back on None (map g xs ++ new ∷ []) None
  chained_push g last new number on_is same xs rising is back_new on_new h =
      chained_together None None (map g xs) (new ∷ [])
      (last_changed g last None (Some (slot_number new)) number on_is None xs rising is (λ x there. same x) h)
      (back_new ∙ is ∙ sym (last_or-map g None xs (λ x there. number x)), on_new, tt)

  -- One is taken out.
  module _ (s : Slot) (g : Slot → Slot) (number : (x : Slot) → (g x).number ≡ x.number)
      (back_is : (x : Slot) → back (g x) ≡ (if hits (on s) x then back s else back x))
      (on_is : (x : Slot) → on (g x) ≡ (if hits (back s) x then on s else on x)) where
    back_stays : (x : Slot) → hits (on s) x ≡ false → back (g x) ≡ back x
    back_stays x miss = back_is x ∙ ap (λ (b : Bool). if b then back s else back x) miss

    on_stays : (x : Slot) → hits (back s) x ≡ false → on (g x) ≡ on x
    on_stays x miss = on_is x ∙ ap (λ (b : Bool). if b then on s else on x) miss

    pub unhit : (before behind : Option SegmentNo) (xs : List Slot)
        → ((x : Slot) → Contains xs x → (hits (on s) x ≡ false) × (hits (back s) x ≡ false)) → AreChained back on before xs behind
        → AreChained back on before (map g xs) behind
    unhit before behind xs none h =
        chained_same g before behind xs
        (λ x there. (number x, back_stays x (none x there).0, on_stays x (none x there).1)) h

    rest_behind : (ys : List Slot) → AreRisingBy slot_key ys → on s ≡ first_or None ys → ((y : Slot) → Contains ys y → hits (back s) y ≡ false)
        → AreChained back on (Some (slot_number s)) ys None → AreChained back on (back s) (map g ys) None
    rest_behind [] rising first none h = tt
    rest_behind (y ∷ ys) rising first none h = (
      back_is y ∙ ap (λ (b : Bool). if b then back s else back y) (hits_it (on s) y first),
      on_stays y (none y (Contains-here y ys)) ∙ h.1 ∙ sym (first_or-map g None ys (λ z there. number z)),
      subst (λ (o : Option SegmentNo). AreChained back on o (map g ys) None) (sym (ap numbered (number y)))
          (unhit (Some (slot_number y)) None ys
          (λ z there. (hits_more (on s) z y first (above_head y ys rising z there), none z (Contains-there z y ys there))) h.2),
    )

    pub chained_without : (xs ys : List Slot) → AreRisingBy slot_key (xs ++ s ∷ ys) → AreChained back on None (xs ++ s ∷ ys) None
        → AreChained back on None (map g (xs ++ ys)) None
    chained_without xs ys rising h =
        let p = chained_parts None None xs (s ∷ ys) h in
        let of_all : AreChained back on None (map g xs ++ map g ys) None =
        chained_together None None (map g xs) (map g ys)
        (subst (λ (o : Option SegmentNo). AreChained back on None (map g xs) o) (p.1.1 ∙ sym (first_or-map g None ys (λ y there. number y)))
        (last_changed g (back s) (Some (slot_number s)) (on s) number on_is None xs (front_rises xs (s ∷ ys) rising) p.1.0
        (λ x there. back_stays x (in_front x there ys refl p.1.1)) p.0))
        (subst (λ (o : Option SegmentNo). AreChained back on o (map g ys) None) (p.1.0 ∙ sym (last_or-map g None xs (λ x there. number x)))
        (rest_behind ys (rising_tail slot_key s ys (back_rises xs (s ∷ ys) rising)) p.1.1 (λ y there. in_back y there xs refl p.1.0) p.1.2)) in
        subst (λ (ws : List Slot). AreChained back on None ws None) (sym (map-append g xs ys)) of_all
      where
        in_front : (x : Slot) → Contains xs x → (zs : List Slot) → ys ≡ zs → on s ≡ first_or None zs → hits (on s) x ≡ false
        in_front x there [] same first = hits_none (on s) x first
        in_front x there (z ∷ zs) same first =
            let behind : s.number < z.number =
            above_head s ys (back_rises xs (s ∷ ys) rising) z (subst (λ (ws : List Slot). Contains ws z) (sym same) (Contains-here z zs)) in
            hits_less (on s) x z first (omega (arith, below_seam xs s ys rising x there, behind))

        in_back : (y : Slot) → Contains ys y → (zs : List Slot) → xs ≡ zs → back s ≡ last_or None zs → hits (back s) y ≡ false
        in_back y there [] same last = hits_none (back s) y last
        in_back y there (z ∷ zs) same last =
            let l = last_of_some None z zs in
            let among : Contains xs l.slot = subst (λ (ws : List Slot). Contains ws l.slot) (sym same) (Contains-at (z ∷ zs) l.place l.slot l.there) in
            hits_more (back s) y l.slot (last ∙ l.is)
            (omega (arith, below_seam xs s ys rising l.slot among, above_head s ys (back_rises xs (s ∷ ys) rising) y there))

-- Each of the list names the one before it.
pub names_before : (back on : Slot → Option SegmentNo) (xs : List Slot) (s : Slot) (ys : List Slot) → AreChained back on None (xs ++ s ∷ ys) None
    → (back s ≡ last_or None xs) × (on s ≡ first_or None ys)
names_before back on xs s ys h = let p = chained_parts back on None None xs (s ∷ ys) h in (p.1.0, p.1.1)
