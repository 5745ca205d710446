-- A segment of a domain is taken out of its thread, wherever it stands: what the end of the domain leaves of each stack is as before.
use Rattle.std.proofs.Common.{◌≡◌, ◌≢◌, ℕ, suc, ◌<◌, inl, inr, Bool, true, false, List, [], ◌∷◌, ◌++◌, set, take, drop, map, Contains, is_some, Option, None, Some, slice_get, refl, sym, ap, subst, ◌∙◌, arith}
use Rattle.std.specs.Prelude.{if◌then◌else◌}
use Rattle.std.proofs.lemmas.Bool.{cases_eq, eq-eqb}
use Rattle.std.proofs.lemmas.List.{append-nil, map-append}
use Rattle.jk_model.specs.declared.identifiers.DomainId.{DomainId}
use Rattle.jk_model.specs.declared.identifiers.SegmentNo.{SegmentNo}
use Rattle.jk_model_sharing.specs.Segments.{SharedSegment, SharedThread, as_orphan, has_segments, is_of, live_threads, segments_left, shared_form, with_revoked, with_segments, with_stacks, with_top}
use Rattle.list_lemmas.proofs.ItemsOfLists.{Contains-here, Contains-there}
use Rattle.thread_stacks.specs.declared.entries.ThreadEntry.{ThreadEntry}
use Rattle.thread_stacks.specs.declared.slots.Slot.{Slot}
use Rattle.thread_stacks.specs.Places.{AreRisingBy}
use Rattle.thread_stacks.specs.StackChanges.{hits, relinked, warned}
use Rattle.thread_stacks.specs.Stacks.{AreInOrder, AreLinked, above_in, below_in, first_or, last_or, segment_of, slot_key, slot_number, slots_on, stack_of, stands_on, thread_in, thread_of, threads_of}
use Rattle.thread_stacks.proofs.Chains.{above_head, back_rises, below_seam, front_rises, hits_it, hits_less, hits_more, hits_same, last_of_some}
use Rattle.thread_stacks.proofs.Filtered.{changed_fewer, filter_mapped}
use Rattle.thread_stacks.proofs.KeptChains.{chain_beside, chain_gone, differ, in_back, in_front, names, parted, unhit_by_first, unhit_by_last}
use Rattle.thread_stacks.proofs.KeptInOrder.{rising_filter}
use Rattle.thread_stacks.proofs.ItemsByKey.{rising_tail}
use Rattle.thread_stacks.proofs.Relinked.{relinked_above, relinked_below, relinked_number, relinked_on, relinked_segment}
use Rattle.thread_stacks.proofs.StandsOnThreads.{stands_from, stands_parts}
use Rattle.thread_stacks.proofs.LeftTheSame.{all_left, taken_below, taken_top}
use Rattle.thread_stacks.proofs.Warned.{told_of, warned_on, warned_segment}

map_members : {Y : Type 0} (f g : Slot → Y) (xs : List Slot) → ((x : Slot) → Contains xs x → f x ≡ g x) → map f xs ≡ map g xs
map_members f g [] same = refl
map_members {Y = Y} f g (x ∷ xs) same =
    ap (λ (y : Y). y ∷ map f xs) (same x (Contains-here x xs))
    ∙ ap (λ (ys : List Y). g x ∷ ys) (map_members f g xs (λ z there. same z (Contains-there z x xs there)))

-- the last one of these has a RevokedException pending
last_revoked : (n : Option SegmentNo) (before : Option SegmentNo) (x : Slot) (xs : List Slot) → AreRisingBy slot_key (x ∷ xs)
    → n ≡ last_or before (x ∷ xs)
    → map (λ (y : Slot). if hits n y then with_revoked true (segment_of y) else segment_of y) (x ∷ xs)
    ≡ with_top (with_revoked true) (map segment_of (x ∷ xs))
last_revoked n before x [] rising is =
    ap (λ (b : Bool). (if b then with_revoked true (segment_of x) else segment_of x) ∷ []) (hits_it n x is)
last_revoked n before x (y ∷ ys) rising is =
    let l = last_of_some (Some (slot_number x)) y ys in
    let miss : hits n x ≡ false =
    hits_less n x l.slot (is ∙ l.is) (rising 0 (suc l.place) x l.slot refl l.there (omega arith)) in
    ap (λ (b : Bool). (if b then with_revoked true (segment_of x) else segment_of x)
    ∷ map (λ (z : Slot). if hits n z then with_revoked true (segment_of z) else segment_of z) (y ∷ ys)) miss
    ∙ ap (λ (ws : List SharedSegment). segment_of x ∷ ws)
    (last_revoked n (Some (slot_number x)) y ys (rising_tail slot_key x (y ∷ ys) rising) is)

-- ---- Threads whose stacks come to the same.

after_end : (slots : List Slot) (es : List ThreadEntry) (d : DomainId)
    → live_threads (with_stacks (segments_left shared_form d) (threads_of slots es))
    ≡ live_threads (map (λ (e : ThreadEntry). with_segments (segments_left shared_form d) (thread_of slots e)) es)
after_end slots es d =
    sym (changed_fewer has_segments (thread_of slots) (λ (e : ThreadEntry). with_segments (segments_left shared_form d) (thread_of slots e))
    (with_segments (segments_left shared_form d)) es (λ i e at. (refl, λ miss. none_left e (stack_of e.number slots) refl miss)))
  where
    none_left : (e : ThreadEntry) (ss : List SharedSegment) → stack_of e.number slots ≡ ss → has_segments (thread_of slots e) ≡ false
        → has_segments (with_segments (segments_left shared_form d) (thread_of slots e)) ≡ false
    none_left e [] is miss = rw is refl
    none_left e (s ∷ ss) is miss =
        let has : has_segments (thread_of slots e) ≡ true = rw is refl in
        let never : true ≡ false = sym has ∙ miss in absurd cc

each_same : (f g : ThreadEntry → SharedThread) (es : List ThreadEntry) → ((e : ThreadEntry) → f e ≡ g e) → map f es ≡ map g es
each_same f g [] same = refl
each_same f g (e ∷ es) same = ap (λ (t : SharedThread). t ∷ map f es) (same e) ∙ ap (λ (ts : List SharedThread). g e ∷ ts) (each_same f g es same)

pub same_end : (slots new : List Slot) (es : List ThreadEntry) (d : DomainId)
    → ((u : ℕ) → segments_left shared_form d (stack_of u new) ≡ segments_left shared_form d (stack_of u slots))
    → live_threads (with_stacks (segments_left shared_form d) (threads_of new es))
    ≡ live_threads (with_stacks (segments_left shared_form d) (threads_of slots es))
same_end slots new es d same =
    after_end new es d
    ∙ ap (λ (ts : List SharedThread). live_threads ts)
    (each_same (λ (e : ThreadEntry). with_segments (segments_left shared_form d) (thread_of new e))
    (λ (e : ThreadEntry). with_segments (segments_left shared_form d) (thread_of slots e)) es
    (λ e. ap (λ (ss : List SharedSegment). let t : SharedThread = record { number = record { 0 = e.number }; domain = e.domain; segments = ss } in t)
    (same e.number)))
    ∙ sym (after_end slots es d)

-- the domain has nothing on any stack
pub no_end : (slots : List Slot) (es : List ThreadEntry) (d : DomainId)
    → ((u : ℕ) (s : SharedSegment) → Contains (stack_of u slots) s → is_of shared_form d s ≡ false)
    → live_threads (with_stacks (segments_left shared_form d) (threads_of slots es)) ≡ threads_of slots es
no_end slots es d none =
    after_end slots es d
    ∙ ap (λ (ts : List SharedThread). live_threads ts)
    (each_same (λ (e : ThreadEntry). with_segments (segments_left shared_form d) (thread_of slots e)) (thread_of slots) es
    (λ e. ap (λ (ss : List SharedSegment). let t : SharedThread = record { number = record { 0 = e.number }; domain = e.domain; segments = ss } in t)
    (all_left d (stack_of e.number slots) (none e.number))))

-- ---- One is taken out.

module _ (slots : List Slot) (es : List ThreadEntry) (thread segment : ℕ) (h : AreInOrder slots es thread segment) (l : AreLinked slots es) (k : ℕ) (s : Slot)
    (at : slice_get slots k ≡ Some s) (lives : s.live ≡ true) (d : DomainId) (its : s.domain.0 ≡ d.0) where
  abbrev dead : Slot
  dead = record s { live = false }

  abbrev pub taken : List Slot
  taken = map (warned s) (map (relinked s) (set slots k dead))

  abbrev front : List Slot
  front = slots_on s.thread (take k slots)

  abbrev behind : List Slot
  behind = slots_on s.thread (drop (suc k) slots)

  both : (slots_on s.thread slots ≡ front ++ s ∷ behind) × (slots_on s.thread (set slots k dead) ≡ front ++ behind)
  both =
      parted stands_on thread_in below_in above_in stands_parts stands_from s dead (relinked s) (relinked_on s) (relinked_number s) (relinked_below s)
      (relinked_above s) slots h.segments k at lives refl l.stacks

  named : (s.below ≡ last_or None front) × (s.above ≡ first_or None behind)
  named =
      names stands_on thread_in below_in above_in stands_parts stands_from s dead (relinked s) (relinked_on s) (relinked_number s) (relinked_below s)
      (relinked_above s) slots h.segments k at lives refl l.stacks

  rising : AreRisingBy slot_key (front ++ s ∷ behind)
  rising = subst (λ (ws : List Slot). AreRisingBy slot_key ws) both.0 (rising_filter slot_key (stands_on s.thread) slots h.segments)

  -- what is told of a slot is by its number
  told : (x : Slot) → segment_of (warned s (relinked s x)) ≡ told_of s x
  told x =
      warned_segment s (relinked s x)
      ∙ ap (λ (y : SharedSegment). if is_some s.above then (if hits s.above (relinked s x) then as_orphan y else y)
      else (if hits s.below (relinked s x) then with_revoked true y else y)) (relinked_segment s x)
      ∙ ap (λ (b : Bool). if is_some s.above then (if b then as_orphan (segment_of x) else segment_of x)
      else (if hits s.below (relinked s x) then with_revoked true (segment_of x) else segment_of x))
      (hits_same s.above (relinked s x) x (relinked_number s x))
      ∙ ap (λ (b : Bool). if is_some s.above then (if hits s.above x then as_orphan (segment_of x) else segment_of x)
      else (if b then with_revoked true (segment_of x) else segment_of x))
      (hits_same s.below (relinked s x) x (relinked_number s x))

  stack_by : (u : ℕ) (xs : List Slot) → slots_on u (map (relinked s) (set slots k dead)) ≡ map (relinked s) xs → stack_of u taken ≡ map (told_of s) xs
  stack_by u xs is =
      ap (λ (ws : List Slot). map segment_of ws) (filter_mapped (stands_on u) (warned s) (λ x. warned_on s x u) (map (relinked s) (set slots k dead)))
      ∙ ap (λ (ws : List Slot). map segment_of (map (warned s) ws)) is
      ∙ twice xs
    where
      twice : (ws : List Slot) → map segment_of (map (warned s) (map (relinked s) ws)) ≡ map (told_of s) ws
      twice [] = refl
      twice (w ∷ ws) =
          ap (λ (y : SharedSegment). y ∷ map segment_of (map (warned s) (map (relinked s) ws))) (told w)
          ∙ ap (λ (ys : List SharedSegment). told_of s w ∷ ys) (twice ws)

  -- where it isn't a neighbour
  untold : (x : Slot) → hits s.above x ≡ false → hits s.below x ≡ false → told_of s x ≡ segment_of x
  untold x up down =
      ap (λ (b : Bool). if is_some s.above then (if b then as_orphan (segment_of x) else segment_of x)
      else (if hits s.below x then with_revoked true (segment_of x) else segment_of x)) up
      ∙ ap (λ (b : Bool). if is_some s.above then segment_of x else (if b then with_revoked true (segment_of x) else segment_of x)) down
      ∙ same (is_some s.above)
    where
      same : (b : Bool) → (if b then segment_of x else segment_of x) ≡ segment_of x
      same true = refl
      same false = refl

  -- on another thread
  elsewhere : (u : ℕ) → u ≢ s.thread → stack_of u taken ≡ stack_of u slots
  elsewhere u ne =
      stack_by u (slots_on u slots)
      (chain_beside stands_on thread_in below_in above_in stands_parts stands_from s dead (relinked s) (relinked_on s) (relinked_number s)
      (relinked_below s) (relinked_above s) slots h.segments k at lives refl l.stacks u ne)
      ∙ map_members (told_of s) segment_of (slots_on u slots)
      (λ x there. untold x
      (unhit_by_first s.above behind named.1 x
      (λ z among. differ stands_on thread_in below_in above_in stands_parts stands_from slots h.segments u s.thread ne x z there
      (subst (λ (ws : List Slot). Contains ws z) (sym both.0) (in_back front s behind z among))))
      (unhit_by_last s.below front named.0 x
      (λ z among. differ stands_on thread_in below_in above_in stands_parts stands_from slots h.segments u s.thread ne x z there
      (subst (λ (ws : List Slot). Contains ws z) (sym both.0) (in_front front (s ∷ behind) z among)))))

  own : is_of shared_form d (segment_of s) ≡ true
  own = eq-eqb s.domain.0 d.0 its

  before : stack_of s.thread slots ≡ map segment_of front ++ segment_of s ∷ map segment_of behind
  before = ap (λ (ws : List Slot). map segment_of ws) both.0 ∙ map-append segment_of front (s ∷ behind)

  after : stack_of s.thread taken ≡ map (told_of s) (front ++ behind)
  after =
      stack_by s.thread (front ++ behind)
      (chain_gone stands_on thread_in below_in above_in stands_parts stands_from s dead (relinked s) (relinked_on s) (relinked_number s)
      (relinked_below s) (relinked_above s) slots h.segments k at lives refl l.stacks)

  -- on its own thread
  here : (bs : List Slot) → behind ≡ bs → segments_left shared_form d (stack_of s.thread taken) ≡ segments_left shared_form d (stack_of s.thread slots)
  here (b ∷ ys) is =
      ap (λ (ss : List SharedSegment). segments_left shared_form d ss) now
      ∙ taken_below d (map segment_of front) (segment_of s) (segment_of b) (map segment_of ys) own
      ∙ sym (ap (λ (ss : List SharedSegment). segments_left shared_form d ss)
      (before ∙ ap (λ (ws : List Slot). map segment_of front ++ segment_of s ∷ map segment_of ws) is))
    where
      up : s.above ≡ Some (slot_number b)
      up = named.1 ∙ ap (λ (ws : List Slot). first_or None ws) is

      rises : AreRisingBy slot_key (front ++ s ∷ b ∷ ys)
      rises = subst (λ (ws : List Slot). AreRisingBy slot_key (front ++ s ∷ ws)) is rising

      s_b : s.number < b.number
      s_b = above_head s (b ∷ ys) (back_rises front (s ∷ b ∷ ys) rises) b (Contains-here b ys)

      b_rises : AreRisingBy slot_key (b ∷ ys)
      b_rises = rising_tail slot_key s (b ∷ ys) (back_rises front (s ∷ b ∷ ys) rises)

      some_up : is_some s.above ≡ true
      some_up = ap (λ (o : Option SegmentNo). is_some o) up

      plain : (x : Slot) → hits s.above x ≡ false → told_of s x ≡ segment_of x
      plain x miss =
          ap (λ (c : Bool). if c then (if hits s.above x then as_orphan (segment_of x) else segment_of x)
          else (if hits s.below x then with_revoked true (segment_of x) else segment_of x)) some_up
          ∙ ap (λ (c : Bool). if c then as_orphan (segment_of x) else segment_of x) miss

      orphaned : told_of s b ≡ as_orphan (segment_of b)
      orphaned =
          ap (λ (c : Bool). if c then (if hits s.above b then as_orphan (segment_of b) else segment_of b)
          else (if hits s.below b then with_revoked true (segment_of b) else segment_of b)) some_up
          ∙ ap (λ (c : Bool). if c then as_orphan (segment_of b) else segment_of b) (hits_it s.above b up)

      now : stack_of s.thread taken ≡ map segment_of front ++ as_orphan (segment_of b) ∷ map segment_of ys
      now =
          after ∙ ap (λ (ws : List Slot). map (told_of s) (front ++ ws)) is ∙ map-append (told_of s) front (b ∷ ys)
          ∙ ap (λ (ss : List SharedSegment). ss ++ told_of s b ∷ map (told_of s) ys)
          (map_members (told_of s) segment_of front
          (λ x there. plain x (hits_less s.above x b up (omega (arith, below_seam front s (b ∷ ys) rises x there, s_b)))))
          ∙ ap (λ (y : SharedSegment). map segment_of front ++ y ∷ map (told_of s) ys) orphaned
          ∙ ap (λ (ss : List SharedSegment). map segment_of front ++ as_orphan (segment_of b) ∷ ss)
          (map_members (told_of s) segment_of ys (λ y there. plain y (hits_more s.above y b up (above_head b ys b_rises y there))))
  here [] is =
      ap (λ (ss : List SharedSegment). segments_left shared_form d ss) now
      ∙ taken_top d (map segment_of front) (segment_of s) own
      ∙ sym (ap (λ (ss : List SharedSegment). segments_left shared_form d ss)
      (before ∙ ap (λ (ws : List Slot). map segment_of front ++ segment_of s ∷ map segment_of ws) is))
    where
      none_up : is_some s.above ≡ false
      none_up = ap (λ (o : Option SegmentNo). is_some o) (named.1 ∙ ap (λ (ws : List Slot). first_or None ws) is)

      told_down : (x : Slot) → told_of s x ≡ (if hits s.below x then with_revoked true (segment_of x) else segment_of x)
      told_down x =
          ap (λ (c : Bool). if c then (if hits s.above x then as_orphan (segment_of x) else segment_of x)
          else (if hits s.below x then with_revoked true (segment_of x) else segment_of x)) none_up

      revoked : (fs : List Slot) → front ≡ fs
          → map (λ (y : Slot). if hits s.below y then with_revoked true (segment_of y) else segment_of y) fs
          ≡ with_top (with_revoked true) (map segment_of fs)
      revoked [] same = refl
      revoked (f ∷ fs) same =
          last_revoked s.below None f fs
          (subst (λ (ws : List Slot). AreRisingBy slot_key ws) same (front_rises front (s ∷ behind) rising))
          (named.0 ∙ ap (λ (ws : List Slot). last_or None ws) same)

      now : stack_of s.thread taken ≡ with_top (with_revoked true) (map segment_of front)
      now =
          after ∙ ap (λ (ws : List Slot). map (told_of s) (front ++ ws)) is ∙ ap (λ (ws : List Slot). map (told_of s) ws) (append-nil front)
          ∙ map_members (told_of s) (λ (y : Slot). if hits s.below y then with_revoked true (segment_of y) else segment_of y) front
          (λ x there. told_down x)
          ∙ revoked front refl

  pub taken_same : (u : ℕ) → segments_left shared_form d (stack_of u taken) ≡ segments_left shared_form d (stack_of u slots)
  taken_same u = elim (cases_eq u s.thread) [
    | inl same ↦
        subst (λ (t : ℕ). segments_left shared_form d (stack_of t taken) ≡ segments_left shared_form d (stack_of t slots)) (sym same) (here behind refl)
    | inr other ↦ ap (λ (ss : List SharedSegment). segments_left shared_form d ss) (elsewhere u other)
  ]
