-- The segments of a domain are gone over from the newest down, and the threads that end with it are listed; the list answers which is the next.
use Rattle.std.proofs.Common.{◌≡◌, ℕ, ◌+◌, ◌<◌, ◌≤◌, ◌⊎◌, inl, inr, Bool, true, false, List, [], ◌∷◌, ◌++◌, length, map, filter, find, is_some, take, Contains, Option, Some, None, slice_get, get_or, refl, sym, ap, subst, ◌∙◌, arith, length-append}
use Rattle.std.specs.Prelude.{if◌then◌else◌}
use Rattle.std.specs.List.{list_all}
use Rattle.std.specs.List.Sorted.{IsNonDecreasing, IsPermutation}
use Rattle.std.specs.Option.{option_map_or}
use Rattle.std.proofs.lemmas.Bool.{and_from, and_parts, cases_lt, eq-eqb, eqb-true}
use Rattle.std.proofs.lemmas.List.Elements.{Contains-append_cases, Contains-append_left, Contains-append_right}
use Rattle.std.proofs.lemmas.List.Sorted.{Contains-permutation, IsPermutation-sym}
use Rattle.std.proofs.lemmas.Option.{get_or_from_slice_get, same_Some, slice_get-get_or, slice_get_within}
use Rattle.jk_model.specs.declared.identifiers.DomainId.{DomainId}
use Rattle.jk_model.specs.declared.identifiers.SegmentNo.{SegmentNo}
use Rattle.jk_model_sharing.specs.Segments.{top_of}
use Rattle.list_lemmas.proofs.ItemsByPlace.{length_take_whole, slice_get-from_take, slice_get-take}
use Rattle.list_lemmas.proofs.ItemsOfLists.{Contains-at, Contains-cases, Contains-here, Contains-none, place_of}
use Rattle.list_lemmas.proofs.ItemsThatPass.{Contains-filter}
use Rattle.thread_stacks.specs.declared.entries.ThreadEntry.{ThreadEntry}
use Rattle.thread_stacks.specs.declared.slots.Slot.{Slot}
use Rattle.thread_stacks.specs.ListedEndings.{AreEndings, AreListed, AreNewestFirst, EndsAlone, HaveEntries, lowest_of_ending}
use Rattle.thread_stacks.specs.Places.{AreRisingBy, IsOnlyAt, has_key}
use Rattle.thread_stacks.specs.StackAnswers.{EndsWith, IsLeastAbove}
use Rattle.thread_stacks.specs.Stacks.{AreChained, AreLinked, HasRoom, IsEntryWith, NameTops, above_in, below_in, first_or, is_in, is_live, is_own, is_running, newer_in, older_in, owned_by, runs_only_in, slot_key, slot_number, slots_on, stands_on, thread_key, threads_of}
use Rattle.thread_stacks.proofs.Chains.{chained_parts, last_or_top}
use Rattle.thread_stacks.proofs.EndingThreads.{ending_entry, entry_ending}
use Rattle.thread_stacks.proofs.Filtered.{filter_twice, length_first, one_if, stood_at}
use Rattle.thread_stacks.proofs.FoundInStacks.{found_at, none_fits, only_found, only_passes, only_within}
use Rattle.thread_stacks.proofs.ItemsByKey.{only_at}
use Rattle.thread_stacks.proofs.Owned.{own_from, own_parts}
use Rattle.thread_stacks.proofs.StacksWalked.{IsWalked, all_walked, goes_lower, last_is, last_stood, left_ends, left_whole, none_done, then_done, to_walk, walk_begins, walk_goes_to}
use Rattle.thread_stacks.proofs.StandsOnThreads.{stands_from, stands_parts}

-- ---- The walk.

-- The threads of those that were looked at are listed, where they end with the domain and that is their lowest segment.
pub record IsListing (entries : List ThreadEntry) (slots : List Slot) (d : DomainId) (next : Option SegmentNo) (listed : List ℕ) : Type 0 where
  pub walk : IsWalked slots (is_own d.0) next
  pub only : (t : ℕ) → Contains listed t → IsEntryWith (runs_only_in slots d) entries t
  pub all : (s : Slot) → Contains walk.done s → lowest_of_ending entries slots d s ≡ true → Contains listed s.thread
  pub few : length listed ≤ length walk.done

pub listing_begins : (entries : List ThreadEntry) (slots : List Slot) (d : DomainId) (newest : Option SegmentNo) (listed : List ℕ)
    → AreNewestFirst slots d newest → listed ≡ [] → IsListing entries slots d newest listed
listing_begins entries slots d newest listed first none = record {
  walk = begun;
  only = λ t there. absurd (Contains-none t (subst (λ (ns : List ℕ). Contains ns t) none there));
  all = λ s there hit. absurd (Contains-none s (subst (λ (ws : List Slot). Contains ws s) (none_done slots (is_own d.0) newest names) there));
  few = omega (arith, ap (λ (ns : List ℕ). length ns) none);
}
  where
    names : newest ≡ top_of (map slot_number (owned_by d.0 slots))
    names = first.last ∙ last_or_top (owned_by d.0 slots)

    begun : IsWalked slots (is_own d.0) newest
    begun = walk_begins slots (is_own d.0) newest names

module _ (entries : List ThreadEntry) (slots : List Slot) (d : DomainId) (n : SegmentNo) (rising : AreRisingBy slot_key slots) (listed : List ℕ)
    (l : IsListing entries slots d (Some n) listed) (s : Slot) (is : find (has_key slot_key n.0) slots ≡ Some s) (newest : Option SegmentNo)
    (first : AreNewestFirst slots d newest) where
  older_is : s.older ≡ top_of (map slot_number (left_ends slots (is_own d.0) n rising l.walk).rest)
  older_is =
      let e = left_ends slots (is_own d.0) n rising l.walk in
      let chain : AreChained older_in newer_in None (e.rest ++ (e.last ∷ l.walk.done)) None =
      subst (λ (ws : List Slot). AreChained older_in newer_in None ws None) (left_whole slots (is_own d.0) n rising l.walk) first.chain in
      ap older_in (sym (last_is slots (is_own d.0) n rising l.walk s is))
      ∙ (chained_parts older_in newer_in None None e.rest (e.last ∷ l.walk.done) chain).1.0
      ∙ last_or_top e.rest

  pub listing_falls : to_walk s.older < to_walk (Some n)
  listing_falls = goes_lower slots (is_own d.0) n rising l.walk s is s.older older_is

  -- one more was looked at
  on : IsWalked slots (is_own d.0) s.older
  on = walk_goes_to slots (is_own d.0) n rising l.walk s is s.older older_is

  on_done : on.done ≡ s ∷ l.walk.done
  unfolding on
  on_done = then_done slots (is_own d.0) n rising l.walk s is s.older older_is

  on_cases : (x : Slot) → Contains on.done x → (s ≡ x) ⊎ Contains l.walk.done x
  on_cases x there = Contains-cases x s l.walk.done (subst (λ (ws : List Slot). Contains ws x) on_done there)

  pub listing_skips : lowest_of_ending entries slots d s ≡ false → IsListing entries slots d s.older listed
  listing_skips miss = record {
    walk = on;
    only = l.only;
    all = λ x there hit. elim (on_cases x there) [
      | inl here ↦ let never : false ≡ true = sym miss ∙ ap (λ (y : Slot). lowest_of_ending entries slots d y) here ∙ hit in absurd cc
      | inr old ↦ l.all x old hit
    ];
    few = omega (arith, l.few, ap (λ (ws : List Slot). length ws) on_done);
  }

  -- the thread of a lowest segment has an entry, and ends
  lowest_ends : lowest_of_ending entries slots d s ≡ true → IsEntryWith (runs_only_in slots d) entries s.thread
  lowest_ends hit = by_below s.below refl
    where
      by_entry : (o : Option ThreadEntry) → find (has_key thread_key s.thread) entries ≡ o → option_map_or (runs_only_in slots d) o false ≡ true
          → IsEntryWith (runs_only_in slots d) entries s.thread
      by_entry None found passes = absurd cc
      by_entry (Some e) found passes =
          let at = found_at (has_key thread_key s.thread) entries e found in
          (e, Contains-at entries at.place e at.there, eqb-true e.number s.thread at.passes, passes)

      by_below : (b : Option SegmentNo) → s.below ≡ b → IsEntryWith (runs_only_in slots d) entries s.thread
      by_below (Some b) below =
          let never : false ≡ true =
          sym (ap (λ (o : Option SegmentNo). if is_some o then false
          else option_map_or (runs_only_in slots d) (find (has_key thread_key s.thread) entries) false) below) ∙ hit in absurd cc
      by_below None below =
          by_entry (find (has_key thread_key s.thread) entries) refl
          (sym (ap (λ (o : Option SegmentNo). if is_some o then false
          else option_map_or (runs_only_in slots d) (find (has_key thread_key s.thread) entries) false) below) ∙ hit)

  pub listing_adds : lowest_of_ending entries slots d s ≡ true → IsListing entries slots d s.older (listed ++ s.thread ∷ [])
  listing_adds hit = record {
    walk = on;
    only = λ t there. elim (Contains-append_cases listed (s.thread ∷ []) t there) [
      | inl old ↦ l.only t old
      | inr last ↦ elim (Contains-cases t s.thread [] last) [
        | inl same ↦ subst (λ (u : ℕ). IsEntryWith (runs_only_in slots d) entries u) same (lowest_ends hit)
        | inr none ↦ absurd (Contains-none t none)
      ]
    ];
    all = λ x there passes. elim (on_cases x there) [
      | inl here ↦
          subst (λ (y : Slot). Contains (listed ++ s.thread ∷ []) y.thread) here
          (Contains-append_right listed (s.thread ∷ []) s.thread (Contains-here s.thread []))
      | inr old ↦ Contains-append_left listed (s.thread ∷ []) x.thread (l.all x old passes)
    ];
    few = omega (arith, l.few, ap (λ (ws : List Slot). length ws) on_done, length-append listed (s.thread ∷ []));
  }

-- there is room for one more
pub listing_room : (entries : List ThreadEntry) (slots : List Slot) (d : DomainId) (n : SegmentNo) (rising : AreRisingBy slot_key slots) (listed : List ℕ)
    (l : IsListing entries slots d (Some n) listed) → length listed < length (owned_by d.0 slots)
listing_room entries slots d n rising listed l =
    let e = left_ends slots (is_own d.0) n rising l.walk in
    omega (
      arith,
      l.few,
      ap (λ (ws : List Slot). length ws) (left_whole slots (is_own d.0) n rising l.walk),
      length-append e.rest (e.last ∷ l.walk.done),
    )

-- ---- The slots of older segments stand before.

-- the slot of the next segment to look at stands before a place
abbrev pub StandsBefore : List Slot → ℕ → Option SegmentNo → Type 0
StandsBefore slots end next = (i : ℕ) (x : Slot) → slice_get slots i ≡ Some x → next ≡ Some (slot_number x) → i < end

-- what is found before a place is found in all
pub record FoundBefore (slots : List Slot) (n : SegmentNo) (place : ℕ) (s : Slot) : Type 0 where
  pub found : find (has_key slot_key n.0) slots ≡ Some s
  pub number : s.number ≡ n.0

pub place_within : (slots : List Slot) (n : SegmentNo) (end place : ℕ) → IsOnlyAt (has_key slot_key n.0) (take end slots) place → place < length slots
place_within slots n end place only =
    omega (arith, only_within (has_key slot_key n.0) (take end slots) place only, length_take_whole slots end)

pub found_before : (slots : List Slot) (n : SegmentNo) (rising : AreRisingBy slot_key slots) (end place : ℕ) (s : Slot)
    → IsOnlyAt (has_key slot_key n.0) (take end slots) place → slice_get slots place ≡ Some s → FoundBefore slots n place s
found_before slots n rising end place s only there =
    let at = slice_get-get_or (take end slots) place s (only_within (has_key slot_key n.0) (take end slots) place only) in
    let same = same_Some (get_or (take end slots) place s) s
    (sym (slice_get-from_take slots end place (get_or (take end slots) place s) at) ∙ there) in
    let passes : has_key slot_key n.0 s ≡ true =
    ap (has_key slot_key n.0) (sym same) ∙ only_passes (has_key slot_key n.0) (take end slots) place (get_or (take end slots) place s) only at in
    let number : s.number ≡ n.0 = eqb-true s.number n.0 passes in
    record {
      found = only_found (has_key slot_key n.0) slots place s (only_at slot_key slots place n.0 s rising there number) there;
      number = number;
    }

-- it isn't missing there
pub not_before : (entries : List ThreadEntry) (slots : List Slot) (d : DomainId) (n : SegmentNo) (rising : AreRisingBy slot_key slots) (listed : List ℕ)
    (l : IsListing entries slots d (Some n) listed) (end : ℕ) → StandsBefore slots end (Some n)
    → find (has_key slot_key n.0) (take end slots) ≡ None → ⊥
not_before entries slots d n rising listed l end before none =
    let e = left_ends slots (is_own d.0) n rising l.walk in
    let stood = last_stood slots (is_own d.0) n rising l.walk in
    let low = before stood.place e.last stood.there (ap (λ (m : SegmentNo). Some m) (sym e.is)) in
    let miss = none_fits (has_key slot_key n.0) (take end slots) stood.place e.last none (slice_get-take slots end stood.place low ∙ stood.there) in
    let never : true ≡ false = sym (eq-eqb e.last.number n.0 (ap (λ (m : SegmentNo). m.0) e.is)) ∙ miss in cc

pub stands_before_it : (slots : List Slot) (n : SegmentNo) (rising : AreRisingBy slot_key slots) (place : ℕ) (s : Slot) → slice_get slots place ≡ Some s
    → s.number ≡ n.0 → to_walk s.older < to_walk (Some n) → StandsBefore slots place s.older
stands_before_it slots n rising place s there number falls =
    λ i x at older.
    let less : x.number + 1 < n.0 + 1 = subst (λ (o : Option SegmentNo). to_walk o < to_walk (Some n)) older falls in
    elim (cases_lt i place) [
      | inl before ↦ before
      | inr after ↦ elim (cases_lt place i) [
        | inl behind ↦ absurd (omega (arith, rising place i s x there at behind, less, number))
        | inr here ↦
            let one : i ≡ place = omega (arith, after, here) in
            let same = same_Some x s (sym at ∙ ap (λ (k : ℕ). slice_get slots k) one ∙ there) in
            absurd (omega (arith, ap slot_key same, less, number))
      ]
    ]

-- ---- A segment that is all of its thread.

-- what stands on another isn't the lowest
never_first : (n : SegmentNo) (xs : List Slot) (s : Slot) → AreChained below_in above_in (Some n) xs None → Contains xs s → s.below ≡ None → ⊥
never_first n [] s chain there below = Contains-none s there
never_first n (x ∷ xs) s chain there below = elim (Contains-cases s x xs there) [
  | inl same ↦ let never : Some n ≡ None = sym chain.0 ∙ ap below_in same ∙ below in absurd cc
  | inr more ↦ never_first (slot_number x) xs s chain.2 more below
]

nothing_follows : (xs : List Slot) → first_or None xs ≡ None → xs ≡ []
nothing_follows [] is = refl
nothing_follows (x ∷ xs) is = absurd cc

all_alone : (xs : List Slot) (s : Slot) → AreChained below_in above_in None xs None → Contains xs s → s.below ≡ None → s.above ≡ None → xs ≡ s ∷ []
all_alone [] s chain there below above = absurd (Contains-none s there)
all_alone (x ∷ xs) s chain there below above = elim (Contains-cases s x xs there) [
  | inl same ↦
      let last : xs ≡ [] = nothing_follows xs (sym chain.1 ∙ ap above_in same ∙ above) in
      ap (λ (ys : List Slot). x ∷ ys) last ∙ ap (λ (y : Slot). y ∷ []) same
  | inr more ↦ absurd (never_first (slot_number x) xs s chain.2 more below)
]

pub ends_alone : (entries : List ThreadEntry) (slots : List Slot) (d : DomainId) → AreRisingBy thread_key entries → AreLinked slots entries
    → HaveEntries slots entries → (place : ℕ) (s : Slot) → slice_get slots place ≡ Some s → is_own d.0 s ≡ true → EndsAlone entries slots d s
ends_alone entries slots d threads links homes place s there own below above =
    let parts = own_parts d.0 s own in
    let home = homes place s there parts.0 in
    let entry : find (has_key thread_key s.thread) entries ≡ Some home.entry =
    only_found (has_key thread_key s.thread) entries home.place home.entry
    (only_at thread_key entries home.place s.thread home.entry threads home.there home.number) home.there in
    let on : Contains (slots_on s.thread slots) s =
    Contains-filter (stands_on s.thread) slots s (Contains-at slots place s there) (stands_from s.thread s parts.0 refl) in
    let stack : slots_on home.entry.number slots ≡ s ∷ [] =
    ap (λ (u : ℕ). slots_on u slots) home.number ∙ all_alone (slots_on s.thread slots) s (links.stacks s.thread) on below above in
    let top : home.entry.top ≡ Some (slot_number s) =
    links.tops home.place home.entry home.there ∙ ap (λ (ys : List Slot). top_of (map slot_number ys)) stack in
    let ours : list_all (is_in d) (s ∷ []) ≡ true = and_from (is_in d s) true (eq-eqb s.domain.0 d.0 parts.1) refl in
    let both : runs_only_in slots d home.entry ≡ true =
    and_from (is_running home.entry) (list_all (is_in d) (slots_on home.entry.number slots)) (ap (λ (o : Option SegmentNo). is_some o) top)
    (ap (λ (ys : List Slot). list_all (is_in d) ys) stack ∙ ours) in
    ap (λ (o : Option SegmentNo). if is_some o then false
    else option_map_or (runs_only_in slots d) (find (has_key thread_key s.thread) entries) false) below
    ∙ ap (λ (o : Option ThreadEntry). option_map_or (runs_only_in slots d) o false) entry ∙ both

-- the next one that is looked at
pub next_alone : (entries : List ThreadEntry) (slots : List Slot) (d : DomainId) (n : SegmentNo) (rising : AreRisingBy slot_key slots) (listed : List ℕ)
    (l : IsListing entries slots d (Some n) listed) (s : Slot) → find (has_key slot_key n.0) slots ≡ Some s → AreRisingBy thread_key entries
    → AreLinked slots entries → HaveEntries slots entries → EndsAlone entries slots d s
next_alone entries slots d n rising listed l s is threads links homes =
    let stood = last_stood slots (is_own d.0) n rising l.walk in
    let same = last_is slots (is_own d.0) n rising l.walk s is in
    ends_alone entries slots d threads links homes stood.place s (stood.there ∙ ap (λ (x : Slot). Some x) same)
    (ap (is_own d.0) (sym same) ∙ stood.passes)

-- ---- All of the domain were looked at.

module _ (entries : List ThreadEntry) (slots : List Slot) (d : DomainId) (threads : AreRisingBy thread_key entries) (links : AreLinked slots entries) where
  -- the lowest segment of a thread that ends
  foot : (x : ThreadEntry) → Contains entries x → runs_only_in slots d x ≡ true → (ws : List Slot) → slots_on x.number slots ≡ ws
      → (s : Slot) × Contains (owned_by d.0 slots) s × (s.thread ≡ x.number) × (lowest_of_ending entries slots d s ≡ true)
  foot x among both [] bare =
      let at = place_of entries x among in
      let parts = and_parts (is_running x) (list_all (is_in d) (slots_on x.number slots)) both in
      let top : x.top ≡ None = links.tops at.0 x at.1 ∙ ap (λ (ys : List Slot). top_of (map slot_number ys)) bare in
      let never : false ≡ true = sym (ap (λ (o : Option SegmentNo). is_some o) top) ∙ parts.0 in absurd cc
  foot x among both (s ∷ more) stands =
      let at = place_of entries x among in
      let parts = and_parts (is_running x) (list_all (is_in d) (slots_on x.number slots)) both in
      let stood = stood_at (stands_on x.number) slots 0 s (ap (λ (ys : List Slot). slice_get ys 0) stands) in
      let on = stands_parts x.number s stood.passes in
      let all : list_all (is_in d) (s ∷ more) ≡ true = ap (λ (ys : List Slot). list_all (is_in d) ys) (sym stands) ∙ parts.1 in
      let home : s.domain.0 ≡ d.0 = eqb-true s.domain.0 d.0 (and_parts (is_in d s) (list_all (is_in d) more) all).0 in
      let chain : AreChained below_in above_in None (s ∷ more) None =
      subst (λ (ys : List Slot). AreChained below_in above_in None ys None) stands (links.stacks x.number) in
      let below : s.below ≡ None = chain.0 in
      let entry : find (has_key thread_key s.thread) entries ≡ Some x =
      only_found (has_key thread_key s.thread) entries at.0 x (only_at thread_key entries at.0 s.thread x threads at.1 (sym on.1)) at.1 in (
        s,
        Contains-filter (is_own d.0) slots s (Contains-at slots stood.place s stood.there) (own_from d.0 s on.0 home),
        on.1,
        ap (λ (o : Option SegmentNo). if is_some o then false
            else option_map_or (runs_only_in slots d) (find (has_key thread_key s.thread) entries) false) below
            ∙ ap (λ (o : Option ThreadEntry). option_map_or (runs_only_in slots d) o false) entry ∙ both,
      )

  pub all_listed : (listed sorted : List ℕ) → IsListing entries slots d None listed → IsPermutation listed sorted → IsNonDecreasing sorted
      → AreEndings entries slots d sorted
  all_listed listed sorted l same order = record {
    order = order;
    only = λ t there. l.only t (Contains-permutation sorted listed t (IsPermutation-sym listed sorted same) there);
    all =
        λ t (x, among, is, passes).
        let f = foot x among passes (slots_on x.number slots) refl in
        let looked : Contains l.walk.done f.0 = subst (λ (ws : List Slot). Contains ws f.0) (all_walked slots (is_own d.0) l.walk) f.1 in
        Contains-permutation listed sorted t same
        (subst (λ (u : ℕ). Contains listed u) (f.2 ∙ is) (l.all f.0 looked f.3));
  }

-- ---- What was listed.

one_at_most : (b : Bool) → one_if b ≤ 1
one_at_most true = omega arith
one_at_most false = omega arith

length_filtered : (p : Slot → Bool) (xs : List Slot) → length (filter p xs) ≤ length xs
length_filtered p [] = omega arith
length_filtered p (x ∷ xs) = omega (arith, length_first p x xs, one_at_most (p x), length_filtered p xs)

-- there is room for all of a domain
pub owned_room : (d : ℕ) (slots : List Slot) (live most capacity room : ℕ) → HasRoom is_live slots live most capacity → most ≤ room
    → length (owned_by d slots) ≤ room
owned_room d slots live most capacity room h enough =
    omega (
      arith,
      h.counted,
      h.within,
      enough,
      length_filtered (is_own d) (filter is_live slots),
      ap (λ (ws : List Slot). length ws) (filter_twice (is_own d) is_live (λ x hit. (own_parts d x hit).0) slots),
    )

-- nothing is listed
pub none_listed : (entries : List ThreadEntry) (slots : List Slot) (listed : List ℕ) (most capacity : ℕ) → most ≤ capacity
    → AreListed entries slots None listed most capacity
none_listed entries slots listed most capacity room = record { endings = λ d is. absurd cc; room = room }

-- the least one above a number stands where the greater ones begin
pub next_of : (listed : List ℕ) (above start : ℕ) (o : Option ℕ) → ((k : ℕ) (t : ℕ) → slice_get listed k ≡ Some t → k < start → t ≤ above)
    → ((k : ℕ) (t : ℕ) → slice_get listed k ≡ Some t → start ≤ k → above < t) → IsNonDecreasing listed → slice_get listed start ≡ o
    → IsLeastAbove (Contains listed) above o
next_of listed above start None low high order is =
    λ t there.
    let at = place_of listed t there in
    elim (cases_lt at.0 start) [
      | inl before ↦ low at.0 t at.1 before
      | inr after ↦ absurd (nothing_behind listed start at.0 t is at.1 after)
    ]
  where
    nothing_behind : (xs : List ℕ) (i j : ℕ) (t : ℕ) → slice_get xs i ≡ None → slice_get xs j ≡ Some t → i ≤ j → ⊥
    nothing_behind xs i j t none some le =
        let low : j < length xs = slice_get_within xs j t some in
        let here : slice_get xs i ≡ Some (get_or xs i t) = slice_get-get_or xs i t (omega (arith, low, le)) in
        let never : None ≡ Some (get_or xs i t) = sym none ∙ here in cc
next_of listed above start (Some n) low high order is = (
  Contains-at listed start n is,
  high start n is (omega arith),
  λ other there more.
      let at = place_of listed other there in
      elim (cases_lt at.0 start) [
        | inl before ↦ absurd (omega (arith, low at.0 other at.1 before, more))
        | inr after ↦
            omega (
              arith,
              order start at.0 n after (slice_get_within listed at.0 other at.1),
              get_or_from_slice_get listed start n n is,
              get_or_from_slice_get listed at.0 other n at.1,
            )
      ],
)

-- the least listed thread is the least one that ends
pub least_listed : (entries : List ThreadEntry) (slots : List Slot) (d : DomainId) (listed : List ℕ) (above : ℕ) (o : Option ℕ) → NameTops slots entries
    → AreEndings entries slots d listed → IsLeastAbove (Contains listed) above o → IsLeastAbove (EndsWith (threads_of slots entries) d) above o
least_listed entries slots d listed above None tops ends least =
    λ t h. least t (ends.all t (ending_entry slots entries d tops t h))
least_listed entries slots d listed above (Some n) tops ends least = (
  entry_ending slots entries d tops n (ends.only n least.0),
  least.1,
  λ other h more. least.2 other (ends.all other (ending_entry slots entries d tops other h)) more,
)
