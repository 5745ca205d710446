-- The chains of slots, one for each number of a kind, after marks are dropped, links are changed, one slot is added or one is taken out. So it is
-- for the stacks of threads as for what a domain has.
use Rattle.std.proofs.Common.{◌≡◌, ◌≢◌, ℕ, suc, ◌+◌, inl, inr, Bool, true, false, List, [], ◌∷◌, ◌++◌, length, set, take, drop, map, filter, Contains, Option, None, Some, slice_get, refl, sym, ap, subst, ◌∙◌}
use Rattle.std.specs.Prelude.{if◌then◌else◌}
use Rattle.std.proofs.lemmas.Bool.{cases_Bool, cases_eq, ne_eqb}
use Rattle.std.proofs.lemmas.Option.{same_Some}
use Rattle.jk_model.specs.declared.identifiers.SegmentNo.{SegmentNo}
use Rattle.list_lemmas.proofs.ItemsByPlace.{slice_get-behind, slice_get-longer}
use Rattle.list_lemmas.proofs.ItemsOfLists.{Contains-at, Contains-here, place_of}
use Rattle.thread_stacks.specs.declared.slots.Slot.{Slot}
use Rattle.thread_stacks.specs.Places.{AreRisingBy}
use Rattle.thread_stacks.specs.StackChanges.{hits}
use Rattle.thread_stacks.specs.Stacks.{AreChained, first_or, is_live, last_or, slot_key, slot_number}
use Rattle.thread_stacks.proofs.Chains.{chained_push, chained_same, chained_without, hits_none, last_of_some, last_or-append, last_or-map, names_before, unhit}
use Rattle.thread_stacks.proofs.Filtered.{filter_mapped, filter_twice, gone_between, never_there, pushed_off, pushed_on, stood_at}
use Rattle.thread_stacks.proofs.KeptInOrder.{rising_filter}
use Rattle.thread_stacks.proofs.StandsOnThreads.{rising_differ}

-- the first of some isn't hit where none of them has the number
pub unhit_by_first : (o : Option SegmentNo) (zs : List Slot) → o ≡ first_or None zs → (x : Slot)
    → ((z : Slot) → Contains zs z → x.number ≢ z.number) → hits o x ≡ false
unhit_by_first o [] is x h = hits_none o x is
unhit_by_first o (z ∷ zs) is x h =
    ap (λ (p : Option SegmentNo). hits p x) is ∙ ne_eqb x.number z.number (h z (Contains-here z zs))

pub unhit_by_last : (o : Option SegmentNo) (zs : List Slot) → o ≡ last_or None zs → (x : Slot)
    → ((z : Slot) → Contains zs z → x.number ≢ z.number) → hits o x ≡ false
unhit_by_last o [] is x h = hits_none o x is
unhit_by_last o (z ∷ zs) is x h =
    let l = last_of_some None z zs in
    ap (λ (p : Option SegmentNo). hits p x) (is ∙ l.is)
    ∙ ne_eqb x.number l.slot.number (h l.slot (Contains-at (z ∷ zs) l.place l.slot l.there))

pub in_front : (xs ys : List Slot) (z : Slot) → Contains xs z → Contains (xs ++ ys) z
in_front xs ys z there =
    let at = place_of xs z there in Contains-at (xs ++ ys) at.0 z (slice_get-longer xs ys at.0 z at.1)

pub in_back : (xs : List Slot) (s : Slot) (ys : List Slot) (z : Slot) → Contains ys z → Contains (xs ++ s ∷ ys) z
in_back xs s ys z there =
    let at = place_of ys z there in
    Contains-at (xs ++ s ∷ ys) (length xs + suc at.0) z (slice_get-behind xs (s ∷ ys) (suc at.0) ∙ at.1)

module _ (test : ℕ → Slot → Bool) (key : Slot → ℕ) (back on : Slot → Option SegmentNo)
    (parts : (u : ℕ) (x : Slot) → test u x ≡ true → (x.live ≡ true) × (key x ≡ u))
    (from : (u : ℕ) (x : Slot) → x.live ≡ true → key x ≡ u → test u x ≡ true) where
  abbrev pub Chains : List Slot → Type 0
  Chains slots = (u : ℕ) → AreChained back on None (filter (test u) slots) None

  off : (u : ℕ) (x : Slot) → key x ≢ u → test u x ≡ false
  off u x ne = elim (cases_Bool (test u x)) [
    | inl hit ↦ absurd (ne (parts u x hit).1)
    | inr miss ↦ miss
  ]

  dead_off : (u : ℕ) (x : Slot) → x.live ≡ false → test u x ≡ false
  dead_off u x dead = elim (cases_Bool (test u x)) [
    | inl hit ↦ let never : true ≡ false = sym (parts u x hit).0 ∙ dead in absurd cc
    | inr miss ↦ miss
  ]

  -- slots of two chains have different numbers
  pub differ : (slots : List Slot) → AreRisingBy slot_key slots → (u v : ℕ) → u ≢ v → (x z : Slot) → Contains (filter (test u) slots) x
      → Contains (filter (test v) slots) z → x.number ≢ z.number
  differ slots rising u v ne x z in_u in_v same =
      let a = place_of (filter (test u) slots) x in_u in
      let i = stood_at (test u) slots a.0 x a.1 in
      let b = place_of (filter (test v) slots) z in_v in
      let j = stood_at (test v) slots b.0 z b.1 in
      elim (cases_eq i.place j.place) [
        | inl here ↦
            let one : x ≡ z = same_Some x z (sym i.there ∙ ap (slice_get slots) here ∙ j.there) in
            ne (sym (parts u x i.passes).1 ∙ ap key one ∙ (parts v z j.passes).1)
        | inr other ↦ rising_differ slot_key slots i.place j.place x z rising i.there j.there other same
      ]

  pub chains_left : (slots : List Slot) → Chains slots → Chains (filter is_live slots)
  chains_left slots h u =
      subst (λ (ws : List Slot). AreChained back on None ws None)
      (sym (filter_twice (test u) is_live (λ x hit. (parts u x hit).0) slots)) (h u)

  -- each slot keeps what it names
  pub chains_mapped : (g : Slot → Slot) (slots : List Slot) → ((u : ℕ) (x : Slot) → test u (g x) ≡ test u x)
      → ((x : Slot) → ((g x).number ≡ x.number) × (back (g x) ≡ back x) × (on (g x) ≡ on x)) → Chains slots → Chains (map g slots)
  chains_mapped g slots same links h u =
      subst (λ (ws : List Slot). AreChained back on None ws None) (sym (filter_mapped (test u) g (same u) slots))
      (chained_same back on g None None (filter (test u) slots) (λ x there. links x) (h u))

  -- One slot is added.
  module _ (g : Slot → Slot) (last : Option SegmentNo) (new : Slot) (same : (u : ℕ) (x : Slot) → test u (g x) ≡ test u x)
      (number : (x : Slot) → (g x).number ≡ x.number)
      (on_is : (x : Slot) → on (g x) ≡ (if hits last x then Some (slot_number new) else on x))
      (back_is : (x : Slot) → back (g x) ≡ back x) (slots : List Slot) (rising : AreRisingBy slot_key slots) (lives : new.live ≡ true)
      (last_is : last ≡ last_or None (filter (test (key new)) slots)) where
    pub last_pushed : last_or None (filter (test (key new)) (map g slots ++ new ∷ [])) ≡ Some (slot_number new)
    last_pushed =
        ap (λ (ws : List Slot). last_or None ws) (pushed_on (test (key new)) (map g slots) new (from (key new) new lives refl))
        ∙ last_or-append None (filter (test (key new)) (map g slots)) (new ∷ [])

    pub last_beside : (u : ℕ) → u ≢ key new → last_or None (filter (test u) (map g slots ++ new ∷ [])) ≡ last_or None (filter (test u) slots)
    last_beside u ne =
        ap (λ (ws : List Slot). last_or None ws)
        (pushed_off (test u) (map g slots) new (off u new (λ is. ne (sym is))) ∙ filter_mapped (test u) g (same u) slots)
        ∙ last_or-map g None (filter (test u) slots) (λ x there. number x)

    pub chains_pushed : back new ≡ last → on new ≡ None → Chains slots → Chains (map g slots ++ new ∷ [])
    chains_pushed back_new on_new h u = elim (cases_eq u (key new)) [
      | inl here ↦
          subst (λ (v : ℕ). AreChained back on None (filter (test v) (map g slots ++ new ∷ [])) None) (sym here)
          (subst (λ (ws : List Slot). AreChained back on None ws None)
          (sym (pushed_on (test (key new)) (map g slots) new (from (key new) new lives refl)
          ∙ ap (λ (ws : List Slot). ws ++ new ∷ []) (filter_mapped (test (key new)) g (same (key new)) slots)))
          (chained_push back on g last new number on_is back_is (filter (test (key new)) slots)
          (rising_filter slot_key (test (key new)) slots rising) last_is back_new on_new (h (key new))))
      | inr other ↦
          subst (λ (ws : List Slot). AreChained back on None ws None)
          (sym (pushed_off (test u) (map g slots) new (off u new (λ is. other (sym is))) ∙ filter_mapped (test u) g (same u) slots))
          (chained_same back on g None None (filter (test u) slots) (λ x there. (number x, back_is x, on_stays x there other)) (h u))
    ]
      where
        on_stays : (x : Slot) → Contains (filter (test u) slots) x → u ≢ key new → on (g x) ≡ on x
        on_stays x there ne =
            on_is x
            ∙ ap (λ (b : Bool). if b then Some (slot_number new) else on x)
            (unhit_by_last last (filter (test (key new)) slots) last_is x (λ z among. differ slots rising u (key new) ne x z there among))

  -- One slot is taken out.
  module _ (s dead : Slot) (g : Slot → Slot) (same : (u : ℕ) (x : Slot) → test u (g x) ≡ test u x) (number : (x : Slot) → (g x).number ≡ x.number)
      (back_is : (x : Slot) → back (g x) ≡ (if hits (on s) x then back s else back x))
      (on_is : (x : Slot) → on (g x) ≡ (if hits (back s) x then on s else on x)) (slots : List Slot) (rising : AreRisingBy slot_key slots) (k : ℕ)
      (at : slice_get slots k ≡ Some s) (lives : s.live ≡ true) (dies : dead.live ≡ false) (h : Chains slots) where
    abbrev pub front : List Slot
    front = filter (test (key s)) (take k slots)

    abbrev pub behind : List Slot
    behind = filter (test (key s)) (drop (suc k) slots)

    its : test (key s) s ≡ true
    its = from (key s) s lives refl

    pub parted : (filter (test (key s)) slots ≡ front ++ s ∷ behind) × (filter (test (key s)) (set slots k dead) ≡ front ++ behind)
    parted = gone_between (test (key s)) slots k s dead at its (dead_off (key s) dead dies)

    whole : AreChained back on None (front ++ s ∷ behind) None
    whole = subst (λ (ws : List Slot). AreChained back on None ws None) parted.0 (h (key s))

    pub names : (back s ≡ last_or None front) × (on s ≡ first_or None behind)
    names = names_before back on front s behind whole

    pub chain_gone : filter (test (key s)) (map g (set slots k dead)) ≡ map g (front ++ behind)
    chain_gone = filter_mapped (test (key s)) g (same (key s)) (set slots k dead) ∙ ap (λ (ws : List Slot). map g ws) parted.1

    pub chain_beside : (u : ℕ) → u ≢ key s → filter (test u) (map g (set slots k dead)) ≡ map g (filter (test u) slots)
    chain_beside u ne =
        filter_mapped (test u) g (same u) (set slots k dead)
        ∙ ap (λ (ws : List Slot). map g ws) (never_there (test u) slots k s dead at (off u s (λ is. ne (sym is))) (dead_off u dead dies))

    pub chains_without : Chains (map g (set slots k dead))
    chains_without u = elim (cases_eq u (key s)) [
      | inl here ↦
          subst (λ (v : ℕ). AreChained back on None (filter (test v) (map g (set slots k dead))) None) (sym here)
          (subst (λ (ws : List Slot). AreChained back on None ws None) (sym chain_gone)
          (chained_without back on s g number back_is on_is front behind
          (subst (λ (ws : List Slot). AreRisingBy slot_key ws) parted.0 (rising_filter slot_key (test (key s)) slots rising)) whole))
      | inr other ↦
          subst (λ (ws : List Slot). AreChained back on None ws None) (sym (chain_beside u other))
          (unhit back on s g number back_is on_is None None (filter (test u) slots)
          (λ x there. (
            unhit_by_first (on s) behind names.1 x (λ z among. differ slots rising u (key s) other x z there (behind_there z among)),
            unhit_by_last (back s) front names.0 x (λ z among. differ slots rising u (key s) other x z there (front_there z among)),
          )) (h u))
    ]
      where
        front_there : (z : Slot) → Contains front z → Contains (filter (test (key s)) slots) z
        front_there z among = subst (λ (ws : List Slot). Contains ws z) (sym parted.0) (in_front front (s ∷ behind) z among)

        behind_there : (z : Slot) → Contains behind z → Contains (filter (test (key s)) slots) z
        behind_there z among = subst (λ (ws : List Slot). Contains ws z) (sym parted.0) (in_back front s behind z among)

    -- the last one of its chain, where it was that one, and where it wasn't
    pub last_goes : on s ≡ None → last_or None (filter (test (key s)) (map g (set slots k dead))) ≡ back s
    last_goes none =
        ap (λ (ws : List Slot). last_or None ws) chain_gone ∙ last_or-map g None (front ++ behind) (λ x there. number x)
        ∙ last_or-append None front behind ∙ no_more behind (sym names.1 ∙ none) ∙ sym names.0
      where
        no_more : (zs : List Slot) → first_or None zs ≡ None → last_or (last_or None front) zs ≡ last_or None front
        no_more [] is = refl
        no_more (z ∷ zs) is = absurd cc

    pub last_stays : (n : SegmentNo) → on s ≡ Some n
        → last_or None (filter (test (key s)) (map g (set slots k dead))) ≡ last_or None (filter (test (key s)) slots)
    last_stays n some =
        ap (λ (ws : List Slot). last_or None ws) chain_gone ∙ last_or-map g None (front ++ behind) (λ x there. number x)
        ∙ last_or-append None front behind ∙ more behind (sym names.1 ∙ some)
        ∙ sym (ap (λ (ws : List Slot). last_or None ws) parted.0 ∙ last_or-append None front (s ∷ behind))
      where
        more : (zs : List Slot) → first_or None zs ≡ Some n → last_or (last_or None front) zs ≡ last_or (Some (slot_number s)) zs
        more [] is = absurd cc
        more (z ∷ zs) is = refl

    pub last_elsewhere : (u : ℕ) → u ≢ key s → last_or None (filter (test u) (map g (set slots k dead))) ≡ last_or None (filter (test u) slots)
    last_elsewhere u ne =
        ap (λ (ws : List Slot). last_or None ws) (chain_beside u ne) ∙ last_or-map g None (filter (test u) slots) (λ x there. number x)
