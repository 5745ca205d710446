-- A pool without room for an entry has none for its constant: its own constants differ, so any list that has them
-- all, and this one, takes more places than a pool has.
use Rattle.std.proofs.Common.{◌≡◌, ◌≢◌, ℕ, zero, suc, ◌+◌, ◌<◌, ◌≤◌, List, [], ◌∷◌, ◌++◌, length, sum_by, Some, slice_get, refl, sym, ◌∙◌, ap, subst, zero-add, add-zero, arith}
use Rattle.std.proofs.lemmas.List.Sums.{sum_by-append}
use Rattle.std.specs.List.{AllByRecursion}
use Rattle.jk_model.specs.declared.class_file.PoolEntry.{PoolEntry}
use Rattle.jk_model.specs.declared.class_file.PoolEntry.TheVariants as entries
use Rattle.jk_model.specs.ClassFile.{AreSlots, BeginsUnusable}
use Rattle.jk_model.proofs.EachItem.{all_front, all_back, all_at}
use Rattle.jk_model_classes.specs.Items.{HasItem}
use Rattle.asm_reader.specs.declared.items.Constant.TheVariants.{Int, Long, Text}
use Rattle.asm_reader.specs.declared.items.MemberKind.TheVariants.{Field, Method, InterfaceMethod}
use Rattle.jkasm.specs.declared.pool.key.Key.{Key}
use Rattle.jkasm.specs.Constants.{PoolConstant, Utf8, Class, Value, NameAndType, Reference, Says, HasJust}
use Rattle.jkasm.specs.Limits.{places_of}
use Rattle.jkasm.specs.PoolGrowth.{HasNoRoom}
use Rattle.jkasm.specs.PoolIndex.{EntriesDiffer, IsFull}
use Rattle.jkasm.proofs.EachSaidOnce.{says_once}
use Rattle.jkasm.proofs.PutTakesConstant.{IsEntryOf}
use Rattle.jkasm.proofs.SlotsInTurn.{Slots, none, narrow, wide, IsWide, IsNarrow, slots_in_turn}

-- ---- A constant among others: what is left without it.

abbrev pub IsAmong : PoolConstant → List PoolConstant → Type 0
IsAmong c kept = HasItem (λ k. k ≡ c) kept

pub record Without (c : PoolConstant) (kept : List PoolConstant) : Type 0 where
  pub rest : List PoolConstant
  pub places : sum_by places_of kept ≡ places_of c + sum_by places_of rest
  pub others : (d : PoolConstant) → d ≢ c → IsAmong d kept → IsAmong d rest

pub sum_first : (c : PoolConstant) (kept : List PoolConstant) → sum_by places_of (c ∷ kept) ≡ places_of c + sum_by places_of kept
sum_first c kept = sum_by-append places_of (c ∷ []) kept ∙ ap (λ (n : ℕ). n + sum_by places_of kept) (zero-add (places_of c))

without_first : (c k : PoolConstant) (kept : List PoolConstant) → k ≡ c → Without c (k ∷ kept)
without_first c k kept e = record {
  rest = kept;
  places = rw e (sum_first c kept);
  others = λ d ne (i, x, at, is). first_or_later d ne i x at is;
}
  where
    first_or_later : (d : PoolConstant) → d ≢ c → (i : ℕ) (x : PoolConstant) → slice_get (k ∷ kept) i ≡ Some x → x ≡ d → IsAmong d kept
    first_or_later d ne zero x at is =
        let same : d ≡ c = cc in
        absurd (ne same)
    first_or_later d ne (suc i) x at is = (i, x, at, is)

without_later : (c k : PoolConstant) (kept : List PoolConstant) → Without c kept → Without c (k ∷ kept)
without_later c k kept w = record {
  rest = k ∷ w.rest;
  places = omega (arith, w.places, sum_first k kept, sum_first k w.rest);
  others = λ d ne (i, x, at, is). first_or_later d ne i x at is;
}
  where
    first_or_later : (d : PoolConstant) → d ≢ c → (i : ℕ) (x : PoolConstant) → slice_get (k ∷ kept) i ≡ Some x → x ≡ d
        → IsAmong d (k ∷ w.rest)
    first_or_later d ne zero x at is = (0, x, at, is)
    first_or_later d ne (suc i) x at is =
        let (j, y, there, as_well) = w.others d ne (i, x, at, is) in
        (suc j, y, there, as_well)

without : (c : PoolConstant) (kept : List PoolConstant) → IsAmong c kept → Without c kept
without c [] (i, x, at, is) = absurd cc
without c (k ∷ kept) (zero, x, at, is) = without_first c k kept cc
without c (k ∷ kept) (suc i, x, at, is) = without_later c k kept (without c kept (i, x, at, is))

-- ---- Each slot of a pool takes at least the places of the constant that it says.

places_up : (c : PoolConstant) → 1 ≤ places_of c
places_up (Utf8 bytes) = omega arith
places_up (Class name) = omega arith
places_up (Value (Int n)) = omega arith
places_up (Value (Long n)) = omega arith
places_up (Value (Text text)) = omega arith
places_up (NameAndType name descriptor) = omega arith
places_up (Reference kind class name descriptor) = omega arith

not_wide : (e x : PoolEntry) → IsWide e → x ≡ e → (IsWide x → ⊥) → ⊥
not_wide e x wide_one same narrow_one = narrow_one (subst IsWide (sym same) wide_one)

module _ (pool : List PoolEntry) (i : ℕ) (e : PoolEntry) (at : slice_get pool i ≡ Some e) (is_wide : IsWide e) where
  no_wide : (x : PoolEntry) → slice_get pool i ≡ Some x → (IsWide x → ⊥) → ⊥
  no_wide x there = let same : x ≡ e = cc in not_wide e x is_wide same

  wide_places : (c : PoolConstant) → Says pool i c → 2 ≤ places_of c
  wide_places (Utf8 bytes) said = absurd (no_wide (entries.Utf8 bytes) said (λ w. w))
  wide_places (Class name) (n, said, is) = absurd (no_wide (entries.Class n) said (λ w. w))
  wide_places (Value (Int n)) said = absurd (no_wide _ said (λ w. w))
  wide_places (Value (Long n)) said = omega arith
  wide_places (Value (Text text)) (n, said, is) = absurd (no_wide (entries.Str n) said (λ w. w))
  wide_places (NameAndType name descriptor) (n, d, said, is, other) = absurd (no_wide (entries.NameAndType n d) said (λ w. w))
  wide_places (Reference Field class name descriptor) (k, n, said, is, pair) = absurd (no_wide (entries.FieldRef k n) said (λ w. w))
  wide_places (Reference Method class name descriptor) (k, n, said, is, pair) = absurd (no_wide (entries.MethodRef k n) said (λ w. w))
  wide_places (Reference InterfaceMethod class name descriptor) (k, n, said, is, pair) =
      absurd (no_wide (entries.InterfaceMethodRef k n) said (λ w. w))

narrow_usable : (e : PoolEntry) → IsNarrow e → e ≢ entries.Unusable
narrow_usable e is same = subst IsNarrow same is

wide_usable : (e : PoolEntry) → IsWide e → e ≢ entries.Unusable
wide_usable e is same = subst IsWide same is

one-add : (k : ℕ) → 1 + k ≡ suc k
one-add k = omega arith

two-add : (k : ℕ) → 2 + k ≡ suc (suc k)
two-add k = omega arith

-- each entry of these slots, which begin at a place of the pool, says one of these constants
abbrev pub AreSaid : List PoolEntry → List PoolEntry → ℕ → List PoolConstant → Type 0
AreSaid pool slots place kept =
    (k : ℕ) (e : PoolEntry) → slice_get slots k ≡ Some e → e ≢ entries.Unusable
    → (c : PoolConstant) × IsAmong c kept × Says pool (place + k) c × (slice_get pool (place + k) ≡ Some e)

module _ (pool : List PoolEntry) (differ : EntriesDiffer pool) where
  -- after the first slot the others say other constants
  said_by_others : (slots more : List PoolEntry) (place width : ℕ) (kept : List PoolConstant) (c : PoolConstant)
      → ((k : ℕ) → slice_get (slots ++ more) (width + k) ≡ slice_get more k) → 0 < width
      → AreSaid pool (slots ++ more) place kept → Says pool place c → (w : Without c kept) → AreSaid pool more (place + width) (w.rest)
  said_by_others slots more place width kept c later above said first w k e at ne =
      let (d, among, says, there) = said (width + k) e (later k ∙ at) ne in
      let here : place + (width + k) ≡ place + width + k = omega arith in
      let says_here : Says pool (place + width + k) d = subst (λ (x : ℕ). Says pool x d) here says in
      let other : d ≢ c = λ same. not_first d c (place + width + k) place same says_here first (omega arith) in
      (d, w.others d other among, says_here, subst (λ (x : ℕ). slice_get pool x ≡ Some e) here there)
    where
      not_first : (d c : PoolConstant) (i j : ℕ) → d ≡ c → Says pool i d → Says pool j c → j < i → ⊥
      not_first d c i j same one two below =
          let equal : i ≡ j = says_once pool differ i j c (subst (Says pool i) same one) two in
          omega arith

  take_places : (slots : List PoolEntry) → Slots slots → (place : ℕ) (kept : List PoolConstant)
      → AreSaid pool slots place kept → length slots ≤ sum_by places_of kept
  take_places [] none place kept said = omega arith
  take_places (e ∷ rest) (narrow _ is more) place kept said =
      let (c, among, says, at) = said 0 e refl (narrow_usable e is) in
      let first : Says pool place c = subst (λ (x : ℕ). Says pool x c) (add-zero place) says in
      let w : Without c kept = without c kept among in
      let later : (k : ℕ) → slice_get (e ∷ rest) (1 + k) ≡ slice_get rest k = λ k. rw (one-add k) refl in
      let others = said_by_others (e ∷ []) rest place 1 kept c later (omega arith) said first w in
      let step : length rest ≤ sum_by places_of w.rest = take_places rest more (place + 1) w.rest others in
      omega (arith, w.places, places_up c)
  take_places (e ∷ _ ∷ rest) (wide _ is more) place kept said =
      let (c, among, says, at) = said 0 e refl (wide_usable e is) in
      let first : Says pool place c = subst (λ (x : ℕ). Says pool x c) (add-zero place) says in
      let w : Without c kept = without c kept among in
      let later : (k : ℕ) → slice_get (e ∷ entries.Unusable ∷ rest) (2 + k) ≡ slice_get rest k = λ k. rw (two-add k) refl in
      let others = said_by_others (e ∷ entries.Unusable ∷ []) rest place 2 kept c later (omega arith) said first w in
      let step : length rest ≤ sum_by places_of w.rest = take_places rest more (place + 2) w.rest others in
      omega (arith, w.places, wide_places pool (place + 0) e at is c says)

-- ---- The pool, and a constant that it lacks.

module _ (pool : List PoolEntry) (key : Key) (c : PoolConstant) (full : IsFull pool key) (entry : IsEntryOf pool key c) where
  says_another : (i : ℕ) (d : PoolConstant) → Says pool i d → d ≢ c
  says_another i d says same = full.absent i (entry.only i (full.differ) (subst (Says pool i) same says))

  too_many : (before kept : List PoolConstant) → HasJust pool before → AllByRecursion (λ d. IsAmong d kept) (before ++ c ∷ [])
      → sum_by places_of kept ≤ 65534 → (begins : List PoolEntry) → begins ≡ pool → BeginsUnusable AreSlots begins → ⊥
  too_many before kept h all few [] e b = absurd b
  too_many before kept h all few (entries.Unusable ∷ rest) e b =
      let among : IsAmong c kept = (all_back (λ d. IsAmong d kept) before (c ∷ []) all).0 in
      let w : Without c kept = without c kept among in
      let said : AreSaid pool rest 1 (w.rest) = λ k x at ne. one_said k x at ne w in
      let step : length rest ≤ sum_by places_of w.rest = take_places pool (full.differ) rest (slots_in_turn rest b) 1 w.rest said in
      omega (arith, full.places, entry.places, w.places, few, ap length e)
    where
      one_said : (k : ℕ) (x : PoolEntry) → slice_get rest k ≡ Some x → x ≢ entries.Unusable → (w : Without c kept)
          → (d : PoolConstant) × IsAmong d (w.rest) × Says pool (1 + k) d × (slice_get pool (1 + k) ≡ Some x)
      one_said k x at ne w =
          let there : slice_get pool (1 + k) ≡ Some x = rw (← e, one-add k) at in
          let (d, (i, y, place, is), says) = h.only (1 + k) x there ne in
          let front = all_front (λ d. IsAmong d kept) before (c ∷ []) all in
          let kept_one : IsAmong d kept = subst (λ z. IsAmong z kept) is (all_at (λ d. IsAmong d kept) before i y front place) in
          (d, w.others d (says_another (1 + k) d says) kept_one, says, there)
  too_many before kept h all few (_ ∷ rest) e b = absurd b

  pub no_room_in_full : HasNoRoom pool (c ∷ [])
  no_room_in_full before h (kept, all, few) = too_many before kept h all few pool refl (full.file.layout.0)
