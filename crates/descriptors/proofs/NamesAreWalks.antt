-- The name of a class is what a walk over its units comes to the end of, and the walk stops where no name goes on.
use Rattle.std.proofs.Common.{◌≡◌, ◌≢◌, ℕ, ◌+◌, ◌<◌, ◌≤◌, ◌⊎◌, inl, inr, Bool, true, false, List, [], ◌∷◌, ◌++◌, length, refl, sym, ◌∙◌, ap, arith, Ok, Err, take, drop, get_or, subst, append-nil, append_assoc}
use Rattle.std.proofs.lemmas.List.{take_more, drop_more, take_all, take-append-drop, length-drop, nil_from_length}
use Rattle.std.specs.List.{AllByRecursion}
use Rattle.jk_model.specs.Descriptors.{IsNameUnit, IsClassName}
use Rattle.model_lemmas.proofs.ClassNamesDecided.{class_walks, walks_class, Walks}
use Rattle.descriptors.specs.Stops.{StartsAs, IsStuck}
use Rattle.descriptors.specs.Names.{IsStep, IsNameText, IsNameLength}
use Rattle.descriptors.specs.declared.names.Step.TheVariants.{Stop}
use Rattle.descriptors.proofs.PartStopsTheWhole.{first_of}

-- the same up to a `;`, whatever follows it
abbrev pub Closes : Bool → List ℕ → Type 0
Closes start [] = ⊥
Closes start (u ∷ us) = (IsNameUnit u × Closes false us) ⊎ (((start ≡ false) × (u ≡ 47) × Closes true us) ⊎ ((start ≡ false) × (u ≡ 59)))

-- ---- A class's name and its `;`, and other units after them.

closes_walk : (start : Bool) (us more : List ℕ) → Walks start us → Closes start (us ++ 59 ∷ more)
closes_walk start [] more w = inr (inr (w, refl))
closes_walk start (u ∷ us) more (inl (own, w)) = inl (own, closes_walk false us more w)
closes_walk start (u ∷ us) more (inr (within, slash, w)) = inr (inl (within, slash, closes_walk true us more w))

closes_name : (text after : List ℕ) → IsNameText text → Closes true (text ++ after)
closes_name text after (name, h, e) =
    let whole : text ++ after ≡ name ++ 59 ∷ after = rw e (append_assoc name (59 ∷ []) after) in
    rw whole (closes_walk true name after (class_walks name h))

-- ---- What is known once some units are walked.

abbrev pub WalksTo : Bool → List ℕ → Type 0
WalksTo start front =
    ((z : List ℕ) → Walks start z → Walks true (front ++ z)) × ((z : List ℕ) → Closes true (front ++ z) → Closes start z)

pub walks_nothing : WalksTo true []
walks_nothing = (λ z w. w, λ z w. w)

closes_own : (start : Bool) (u : ℕ) (z : List ℕ) → IsNameUnit u → Closes start (u ∷ z) → Closes false z
closes_own start u z own (inl (same, w)) = w
closes_own start u z own (inr (inl (within, slash, w))) = absurd (own.3 slash)
closes_own start u z own (inr (inr (within, end))) = absurd (own.1 end)

closes_slash : (start : Bool) (u : ℕ) (z : List ℕ) → u ≡ 47 → Closes start (u ∷ z) → Closes true z
closes_slash start u z slash (inl (own, w)) = absurd (own.3 slash)
closes_slash start u z slash (inr (inl (within, same, w))) = w
closes_slash start u z slash (inr (inr (within, end))) = absurd (omega arith)

walks_own : (start : Bool) (front : List ℕ) (u : ℕ) → WalksTo start front → IsNameUnit u → WalksTo false (front ++ u ∷ [])
walks_own start front u h own = (
  λ z w. rw (append_assoc front (u ∷ []) z) (h.0 (u ∷ z) (inl (own, w))),
  λ z w. closes_own start u z own (h.1 (u ∷ z) (rw (append_assoc front (u ∷ []) z) at w)),
)

walks_slash : (start : Bool) (front : List ℕ) (u : ℕ) → WalksTo start front → start ≡ false → u ≡ 47 → WalksTo true (front ++ u ∷ [])
walks_slash start front u h within slash = (
  λ z w. rw (append_assoc front (u ∷ []) z) (h.0 (u ∷ z) (inr (within, slash, w))),
  λ z w. closes_slash start u z slash (h.1 (u ∷ z) (rw (append_assoc front (u ∷ []) z) at w)),
)

pub walked_class : (start : Bool) (front : List ℕ) → WalksTo start front → start ≡ false → IsClassName front
walked_class start front h within = walks_class front (rw (append-nil front) at (h.0 [] within))

-- a unit is one of a name's own, whatever follows it
a_name : (start : Bool) (front : List ℕ) → WalksTo start front → IsClassName (front ++ 65 ∷ [])
a_name start front h =
    let own : IsNameUnit 65 = (omega arith, omega arith, omega arith, omega arith) in
    walks_class (front ++ 65 ∷ []) (h.0 (65 ∷ []) (inl (own, refl)))

pub stuck_name : (start : Bool) (front rest : List ℕ) → WalksTo start front → ((v : List ℕ) → StartsAs rest v → Closes start v → ⊥)
    → IsStuck IsNameText front rest
stuck_name start front rest h never = (
  (65 ∷ 59 ∷ [], (front ++ 65 ∷ [], a_name start front h, sym (append_assoc front (65 ∷ []) (59 ∷ [])))),
  λ v text after s t e. never v s (h.1 v (rw (sym e) at (closes_name text after t))),
)

-- ---- The walk's turns, and where it ends.

pub turn_own : (start : Bool) (units : List ℕ) (i : ℕ) → i < length units → WalksTo start (take i units) → IsNameUnit (get_or units i 0)
    → WalksTo false (take (i + 1) units)
turn_own start units i lt h own =
    let next : take (i + 1) units ≡ take i units ++ get_or units i 0 ∷ [] = take_more units i 0 lt in
    rw next (walks_own start (take i units) (get_or units i 0) h own)

pub turn_slash : (start : Bool) (units : List ℕ) (i : ℕ) → i < length units → WalksTo start (take i units) → (start ≡ false) × (get_or units i 0 ≡ 47)
    → WalksTo true (take (i + 1) units)
turn_slash start units i lt h slash =
    let next : take (i + 1) units ≡ take i units ++ get_or units i 0 ∷ [] = take_more units i 0 lt in
    rw next (walks_slash start (take i units) (get_or units i 0) h slash.0 slash.1)

pub ends_here : (start : Bool) (units : List ℕ) (i : ℕ) → i < length units → WalksTo start (take i units) → (start ≡ false) × (get_or units i 0 ≡ 59)
    → IsNameLength units (Ok i)
ends_here start units i lt h end =
    let rest : drop i units ≡ 59 ∷ drop (i + 1) units = drop_more units i 0 lt ∙ ap (λ u. u ∷ drop (i + 1) units) end.1 in
    (lt, walked_class start (take i units) h end.0, sym (take-append-drop i units) ∙ ap (λ w. take i units ++ w) rest)

closes_stop : (start : Bool) (u : ℕ) (z : List ℕ) → IsStep start u Stop → Closes start (u ∷ z) → ⊥
closes_stop true u z h (inl (own, w)) = h own
closes_stop true u z h (inr (inl (within, slash, w))) = absurd cc
closes_stop true u z h (inr (inr (within, end))) = absurd cc
closes_stop false u z h (inl (own, w)) = h.0 own
closes_stop false u z h (inr (inl (within, slash, w))) = h.1 slash
closes_stop false u z h (inr (inr (within, end))) = h.2 end

never_at : (start : Bool) (rest : List ℕ) (u : ℕ) (after : List ℕ) → rest ≡ u ∷ after → IsStep start u Stop → (v : List ℕ) → StartsAs rest v
    → Closes start v → ⊥
never_at start rest u after e h [] s w = w
never_at start rest u after e h (x ∷ z) s w =
    let found = first_of rest (x ∷ z) x z s refl in
    let whole : u ∷ after ≡ x ∷ found.0 = sym e ∙ found.1 in
    let same : x ≡ u = cc in
    closes_stop start u z h (rw same at w)

pub stops_here : (start : Bool) (units : List ℕ) (i : ℕ) → i < length units → WalksTo start (take i units) → IsStep start (get_or units i 0) Stop
    → IsNameLength units (Err i)
stops_here start units i lt h stop = (
  omega arith,
  stuck_name start (take i units) (drop i units) h (never_at start (drop i units) (get_or units i 0) (drop (i + 1) units) (drop_more units i 0 lt) stop),
)

never_nothing : (start : Bool) (rest : List ℕ) → rest ≡ [] → (v : List ℕ) → StartsAs rest v → Closes start v → ⊥
never_nothing start rest e [] s w = w
never_nothing start rest e (x ∷ z) s w =
    let found = first_of rest (x ∷ z) x z s refl in
    let whole : rest ≡ x ∷ found.0 = found.1 in
    absurd cc

pub stops_at_end : (start : Bool) (units : List ℕ) (i n : ℕ) → n ≤ i → n ≡ length units → WalksTo start (take i units) → IsNameLength units (Err n)
stops_at_end start units i n le e h = (
  omega arith,
  stuck_name start (take n units) (drop n units) (subst (WalksTo start) (take_all i units (omega arith) ∙ sym (take_all n units (omega arith))) h)
      (never_nothing start (drop n units) (nil_from_length (drop n units) (omega (arith, length-drop n units)))),
)

-- ---- No class's name and its `;` is the beginning of another.

no_semicolon : (start : Bool) (us : List ℕ) → Walks start us → AllByRecursion (λ u. u ≢ 59) us
no_semicolon start [] w = tt
no_semicolon start (u ∷ us) (inl (own, w)) = (own.1, no_semicolon false us w)
no_semicolon start (u ∷ us) (inr (within, slash, w)) = (λ e. absurd (omega arith), no_semicolon true us w)

same_until : (a b r s : List ℕ) → AllByRecursion (λ u. u ≢ 59) a → AllByRecursion (λ u. u ≢ 59) b → a ++ 59 ∷ r ≡ b ++ 59 ∷ s → (a ≡ b) × (r ≡ s)
same_until [] [] r s h k e =
    let whole : 59 ∷ r ≡ 59 ∷ s = e in
    (refl, cc)
same_until [] (y ∷ b) r s h k e =
    let whole : 59 ∷ r ≡ y ∷ (b ++ 59 ∷ s) = e in
    let first : y ≡ 59 = cc in
    absurd (k.0 first)
same_until (x ∷ a) [] r s h k e =
    let whole : x ∷ (a ++ 59 ∷ r) ≡ 59 ∷ s = e in
    let first : x ≡ 59 = cc in
    absurd (h.0 first)
same_until (x ∷ a) (y ∷ b) r s h k e =
    let whole : x ∷ (a ++ 59 ∷ r) ≡ y ∷ (b ++ 59 ∷ s) = e in
    let first : x ≡ y = cc in
    let others = same_until a b r s h.1 k.1 cc in
    (rw (first, others.0) refl, others.1)

pub same_names : (a b r s : List ℕ) → IsClassName a → IsClassName b → a ++ 59 ∷ r ≡ b ++ 59 ∷ s → (a ≡ b) × (r ≡ s)
same_names a b r s h k e = same_until a b r s (no_semicolon true a (class_walks a h)) (no_semicolon true b (class_walks b k)) e
