-- A walk down segments that pass a test, from slot to slot; and one down the stack of a thread, by the segments below.
use Rattle.std.proofs.Common.{◌≡◌, ℕ, ◌+◌, ◌<◌, Bool, true, false, List, [], ◌∷◌, ◌++◌, length, take, filter, find, map, Option, Some, None, slice_get, refl, sym, ap, ◌∙◌, append_assoc, arith}
use Rattle.std.specs.List.{list_all}
use Rattle.std.specs.Option.{option_map_or}
use Rattle.std.proofs.lemmas.Bool.{and_from, and_right}
use Rattle.std.proofs.lemmas.List.{append-nil}
use Rattle.std.proofs.lemmas.Option.{same_Some}
use Rattle.jk_model.specs.declared.identifiers.DomainId.{DomainId}
use Rattle.jk_model.specs.declared.identifiers.SegmentNo.{SegmentNo}
use Rattle.jk_model_sharing.specs.Segments.{top_of}
use Rattle.thread_stacks.specs.declared.slots.Slot.{Slot}
use Rattle.thread_stacks.specs.Places.{AreRisingBy, has_key}
use Rattle.thread_stacks.specs.Stacks.{NameBelows, is_in, slot_key, slot_number, slots_on, stands_on, top_on}
use Rattle.thread_stacks.proofs.Filtered.{StoodAt, stood_at}
use Rattle.thread_stacks.proofs.FoundInStacks.{only_found}
use Rattle.thread_stacks.proofs.ItemsByKey.{only_at}
use Rattle.thread_stacks.proofs.KeptInOrder.{rising_filter}
use Rattle.thread_stacks.proofs.StandsOnThreads.{stands_parts}

-- ---- Lists.

-- an item between others
pub item_between : {X : Type 0} (xs ys : List X) (x : X) → slice_get (xs ++ x ∷ ys) (length xs) ≡ Some x
item_between [] ys x = refl
item_between (z ∷ xs) ys x = item_between xs ys x

pub take_front_of : {X : Type 0} (xs ys : List X) → take (length xs) (xs ++ ys) ≡ xs
take_front_of [] ys = refl
take_front_of (z ∷ xs) ys = ap (λ ws. z ∷ ws) (take_front_of xs ys)

-- all but the last, and the last
pub record Ends {X Y : Type 0} (f : X → Y) (xs : List X) (y : Y) : Type 0 where
  pub rest : List X
  pub last : X
  pub parts : xs ≡ rest ++ last ∷ []
  pub is : f last ≡ y

pub ends_of : {X Y : Type 0} (f : X → Y) (xs : List X) (y : Y) → top_of (map f xs) ≡ Some y → Ends f xs y
ends_of f [] y h = absurd cc
ends_of f (x ∷ []) y h = record { rest = []; last = x; parts = refl; is = same_Some (f x) y h }
ends_of f (x ∷ z ∷ zs) y h =
    let e = ends_of f (z ∷ zs) y h in record { rest = x ∷ e.rest; last = e.last; parts = ap (λ ws. x ∷ ws) e.parts; is = e.is }

no_ends : {X Y : Type 0} (f : X → Y) (xs : List X) → top_of (map f xs) ≡ None → xs ≡ []
no_ends f [] h = refl
no_ends f (x ∷ []) h = absurd cc
no_ends f (x ∷ z ∷ zs) h = let rest : z ∷ zs ≡ [] = no_ends f (z ∷ zs) h in absurd cc

one_fails : {X : Type 0} (test : X → Bool) (xs ys : List X) (x : X) → test x ≡ false → list_all test (xs ++ x ∷ ys) ≡ false
one_fails test [] ys x miss = rw miss refl
one_fails test (z ∷ xs) ys x miss = and_right (test z) (list_all test (xs ++ x ∷ ys)) (one_fails test xs ys x miss)

-- ---- The walk.

-- The segments that pass a test and weren't looked at yet, lowest first, and those that were.
pub record IsWalked (slots : List Slot) (test : Slot → Bool) (next : Option SegmentNo) : Type 0 where
  pub left : List Slot
  pub done : List Slot
  pub parts : filter test slots ≡ left ++ done
  pub next_is : next ≡ top_of (map slot_number left)

-- Those of the thread that were looked at are of the domain.
pub record IsOurs (slots : List Slot) (t : ℕ) (d : DomainId) (next : Option SegmentNo) : Type 0 where
  pub walk : IsWalked slots (stands_on t) next
  pub ours : list_all (is_in d) walk.done ≡ true

-- a number that falls
abbrev pub to_walk : Option SegmentNo → ℕ
to_walk next = option_map_or (λ (s : SegmentNo). s.0 + 1) next 0

pub walk_begins : (slots : List Slot) (test : Slot → Bool) (next : Option SegmentNo) → next ≡ top_of (map slot_number (filter test slots))
    → IsWalked slots test next
walk_begins slots test next is = record { left = filter test slots; done = []; parts = sym (append-nil (filter test slots)); next_is = is }

pub none_done : (slots : List Slot) (test : Slot → Bool) (next : Option SegmentNo) (is : next ≡ top_of (map slot_number (filter test slots)))
    → (walk_begins slots test next is).done ≡ []
unfolding walk_begins
none_done slots test next is = refl

pub ours_begins : (slots : List Slot) (t : ℕ) (d : DomainId) (next : Option SegmentNo) → next ≡ top_on t slots → IsOurs slots t d next
ours_begins slots t d next is =
    record {
      walk = walk_begins slots (stands_on t) next is;
      ours = ap (λ (ws : List Slot). list_all (is_in d) ws) (none_done slots (stands_on t) next is);
    }

pub all_walked : (slots : List Slot) (test : Slot → Bool) (w : IsWalked slots test None) → filter test slots ≡ w.done
all_walked slots test w =
    let none : w.left ≡ [] = no_ends slot_number w.left (sym w.next_is) in
    w.parts ∙ ap (λ (ws : List Slot). ws ++ w.done) none

pub walk_ends : (slots : List Slot) (t : ℕ) (d : DomainId) → IsOurs slots t d None → list_all (is_in d) (slots_on t slots) ≡ true
walk_ends slots t d o = ap (λ (ws : List Slot). list_all (is_in d) ws) (all_walked slots (stands_on t) o.walk) ∙ o.ours

module _ (slots : List Slot) (test : Slot → Bool) (n : SegmentNo) (rising : AreRisingBy slot_key slots) (w : IsWalked slots test (Some n)) where
  -- what is left, and its last, which is the next to look at
  pub left_ends : Ends slot_number w.left n
  left_ends = ends_of slot_number w.left n (sym w.next_is)

  pub left_whole : filter test slots ≡ left_ends.rest ++ (left_ends.last ∷ w.done)
  left_whole = w.parts ∙ ap (λ (ws : List Slot). ws ++ w.done) left_ends.parts ∙ append_assoc left_ends.rest (left_ends.last ∷ []) w.done

  at : slice_get (filter test slots) (length left_ends.rest) ≡ Some left_ends.last
  at = ap (λ (ws : List Slot). slice_get ws (length left_ends.rest)) left_whole ∙ item_between left_ends.rest w.done left_ends.last

  pub last_stood : StoodAt test slots (length left_ends.rest) left_ends.last
  last_stood = stood_at test slots (length left_ends.rest) left_ends.last at

  found : find (has_key slot_key n.0) slots ≡ Some left_ends.last
  found =
      only_found (has_key slot_key n.0) slots last_stood.place left_ends.last
      (only_at slot_key slots last_stood.place n.0 left_ends.last rising last_stood.there (ap (λ (m : SegmentNo). m.0) left_ends.is)) last_stood.there

  -- the slot is there
  pub not_missing : find (has_key slot_key n.0) slots ≡ None → ⊥
  not_missing none = let never : None ≡ Some left_ends.last = sym none ∙ found in cc

  module _ (s : Slot) (is : find (has_key slot_key n.0) slots ≡ Some s) where
    pub last_is : left_ends.last ≡ s
    last_is = same_Some left_ends.last s (sym found ∙ is)

    -- it is of another domain
    pub walk_stops : (d : DomainId) → is_in d s ≡ false → list_all (is_in d) (filter test slots) ≡ false
    walk_stops d miss =
        ap (λ (ws : List Slot). list_all (is_in d) ws) left_whole
        ∙ one_fails (is_in d) left_ends.rest w.done left_ends.last (ap (is_in d) last_is ∙ miss)

    pub walk_goes_to : (o : Option SegmentNo) → o ≡ top_of (map slot_number left_ends.rest) → IsWalked slots test o
    walk_goes_to o names = record { left = left_ends.rest; done = left_ends.last ∷ w.done; parts = left_whole; next_is = names }

    -- it is the next that was looked at
    pub then_done : (o : Option SegmentNo) (names : o ≡ top_of (map slot_number left_ends.rest)) → (walk_goes_to o names).done ≡ s ∷ w.done
    unfolding walk_goes_to
    then_done o names = ap (λ (x : Slot). x ∷ w.done) last_is

    -- what it goes on to is lower
    pub goes_lower : (o : Option SegmentNo) → o ≡ top_of (map slot_number left_ends.rest) → to_walk o < to_walk (Some n)
    goes_lower None none = omega arith
    goes_lower (Some m) some =
        let f = ends_of slot_number left_ends.rest m (sym some) in
        let all : filter test slots ≡ f.rest ++ (f.last ∷ (left_ends.last ∷ w.done)) =
        left_whole ∙ ap (λ (ws : List Slot). ws ++ (left_ends.last ∷ w.done)) f.parts ∙ append_assoc f.rest (f.last ∷ []) (left_ends.last ∷ w.done) in
        let there : slice_get (filter test slots) (length f.rest) ≡ Some f.last =
        ap (λ (ws : List Slot). slice_get ws (length f.rest)) all ∙ item_between f.rest (left_ends.last ∷ w.done) f.last in
        let before : length f.rest < length left_ends.rest = shorter f.rest f.last left_ends.rest f.parts in
        let less : f.last.number < left_ends.last.number =
        rising_filter slot_key test slots rising (length f.rest) (length left_ends.rest) f.last left_ends.last there at before in
        omega (arith, less, ap (λ (k : SegmentNo). k.0) f.is, ap (λ (k : SegmentNo). k.0) left_ends.is)
      where
        longer : (xs : List Slot) (x : Slot) → length xs < length (xs ++ x ∷ [])
        longer [] x = omega arith
        longer (y ∷ xs) x = omega (arith, longer xs x)

        shorter : (xs : List Slot) (x : Slot) (ys : List Slot) → ys ≡ xs ++ x ∷ [] → length xs < length ys
        shorter xs x ys is_end = omega (arith, longer xs x, ap (λ (ws : List Slot). length ws) is_end)

-- ---- Down the stack of a thread.

module _ (slots : List Slot) (t : ℕ) (n : SegmentNo) (rising : AreRisingBy slot_key slots) (w : IsWalked slots (stands_on t) (Some n)) (s : Slot)
    (is : find (has_key slot_key n.0) slots ≡ Some s) (belows : NameBelows slots) where
  below_is : s.below ≡ top_of (map slot_number (left_ends slots (stands_on t) n rising w).rest)
  below_is =
      let e = left_ends slots (stands_on t) n rising w in
      let stood = last_stood slots (stands_on t) n rising w in
      let on = stands_parts t e.last stood.passes in
      let front : filter (stands_on t) (take stood.place slots) ≡ e.rest =
      stood.before ∙ ap (λ (ws : List Slot). take (length e.rest) ws) (left_whole slots (stands_on t) n rising w) ∙ take_front_of e.rest (e.last ∷ w.done) in
      ap (λ (y : Slot). y.below) (sym (last_is slots (stands_on t) n rising w s is)) ∙ belows stood.place e.last stood.there on.0
      ∙ ap (λ (u : ℕ). top_on u (take stood.place slots)) on.1
      ∙ ap (λ (ws : List Slot). top_of (map slot_number ws)) front

  pub walk_goes_on : IsWalked slots (stands_on t) s.below
  walk_goes_on = walk_goes_to slots (stands_on t) n rising w s is s.below below_is

  pub now_done : walk_goes_on.done ≡ s ∷ w.done
  unfolding walk_goes_on
  now_done = then_done slots (stands_on t) n rising w s is s.below below_is

  pub walk_falls : to_walk s.below < to_walk (Some n)
  walk_falls = goes_lower slots (stands_on t) n rising w s is s.below below_is

pub ours_goes_on : (slots : List Slot) (t : ℕ) (d : DomainId) (n : SegmentNo) (rising : AreRisingBy slot_key slots) (o : IsOurs slots t d (Some n)) (s : Slot)
    → find (has_key slot_key n.0) slots ≡ Some s → NameBelows slots → is_in d s ≡ true → IsOurs slots t d s.below
ours_goes_on slots t d n rising o s is belows hit = record {
  walk = walk_goes_on slots t n rising o.walk s is belows;
  ours =
      ap (λ (ws : List Slot). list_all (is_in d) ws) (now_done slots t n rising o.walk s is belows)
      ∙ and_from (is_in d s) (list_all (is_in d) o.walk.done) hit o.ours;
}
