-- What a slot is after its links were changed: all but these is as before.
use Rattle.std.proofs.Common.{◌≡◌, ℕ, zero, suc, ◌<◌, inl, inr, Bool, true, false, List, [], ◌∷◌, map, set, find, Contains, Option, None, Some, slice_get, refl, sym, ap, ◌∙◌, arith}
use Rattle.std.specs.Prelude.{◌==◌, ◌&&◌, if◌then◌else◌}
use Rattle.std.proofs.lemmas.Bool.{cases_Bool, eq-eqb, ne_eqb}
use Rattle.std.proofs.lemmas.Option.{same_Some}
use Rattle.jk_model.specs.declared.identifiers.SegmentNo.{SegmentNo}
use Rattle.jk_model_sharing.specs.Segments.{SharedSegment}
use Rattle.thread_stacks.specs.declared.slots.Link.{Link}
use Rattle.thread_stacks.specs.declared.slots.Link.TheVariants.{Above, Below, Newer, Older}
use Rattle.thread_stacks.specs.declared.slots.Slot.{Slot}
use Rattle.list_lemmas.proofs.ItemsOfLists.{Contains-here, Contains-there, place_of}
use Rattle.thread_stacks.specs.Places.{AreRisingBy, has_key}
use Rattle.thread_stacks.specs.StackChanges.{hits, if_hit, raised, relinked, slot_linked}
use Rattle.thread_stacks.specs.Stacks.{is_own, segment_of, slot_key, stands_on}
use Rattle.thread_stacks.proofs.Chains.{hits_same, hits_none}
use Rattle.thread_stacks.proofs.FoundInStacks.{none_fits}
use Rattle.thread_stacks.proofs.ItemsByKey.{rising_tail}

-- ---- One link.

module _ {Y : Type 0} (field : Slot → Y) (n : Option SegmentNo) (change : Slot → Slot) where
  pub kept : (x : Slot) → field (change x) ≡ field x → field (if_hit n change x) ≡ field x
  kept x same = elim (cases_Bool (hits n x)) [
    | inl hit ↦ ap (λ (b : Bool). field (if b then change x else x)) hit ∙ same
    | inr miss ↦ ap (λ (b : Bool). field (if b then change x else x)) miss
  ]

  pub becomes : (now : Y) (x : Slot) → field (change x) ≡ now → field (if_hit n change x) ≡ (if hits n x then now else field x)
  becomes now x is = elim (cases_Bool (hits n x)) [
    | inl hit ↦
        ap (λ (b : Bool). field (if b then change x else x)) hit ∙ is ∙ sym (ap (λ (b : Bool). if b then now else field x) hit)
    | inr miss ↦
        ap (λ (b : Bool). field (if b then change x else x)) miss ∙ sym (ap (λ (b : Bool). if b then now else field x) miss)
  ]

-- what no link is
record IsNoLink {Y : Type 0} (field : Slot → Y) : Type 0 where
  stays : (l : Link) (to : Option SegmentNo) (x : Slot) → field (slot_linked l to x) ≡ field x

by_links : {Y : Type 0} (field : Slot → Y) → ((to : Option SegmentNo) (x : Slot) → field (record x { below = to }) ≡ field x)
    → ((to : Option SegmentNo) (x : Slot) → field (record x { above = to }) ≡ field x)
    → ((to : Option SegmentNo) (x : Slot) → field (record x { older = to }) ≡ field x)
    → ((to : Option SegmentNo) (x : Slot) → field (record x { newer = to }) ≡ field x) → IsNoLink field
by_links field a b c d = record { stays = λ l to x. of_link l to x }
  where
    of_link : (l : Link) (to : Option SegmentNo) (x : Slot) → field (slot_linked l to x) ≡ field x
    of_link Below to x = a to x
    of_link Above to x = b to x
    of_link Older to x = c to x
    of_link Newer to x = d to x

number_stays : IsNoLink (λ (x : Slot). x.number)
number_stays = by_links (λ (x : Slot). x.number) (λ to x. refl) (λ to x. refl) (λ to x. refl) (λ to x. refl)

live_stays : IsNoLink (λ (x : Slot). x.live)
live_stays = by_links (λ (x : Slot). x.live) (λ to x. refl) (λ to x. refl) (λ to x. refl) (λ to x. refl)

thread_stays : IsNoLink (λ (x : Slot). x.thread)
thread_stays = by_links (λ (x : Slot). x.thread) (λ to x. refl) (λ to x. refl) (λ to x. refl) (λ to x. refl)

segment_stays : IsNoLink segment_of
segment_stays = by_links segment_of (λ to x. refl) (λ to x. refl) (λ to x. refl) (λ to x. refl)

-- ---- The four links of a slot that is taken out.

module _ (was : Slot) where
  abbrev first : Slot → Slot
  first x = if_hit was.below (slot_linked Above was.above) x

  abbrev second : Slot → Slot
  second x = if_hit was.above (slot_linked Below was.below) (first x)

  abbrev third : Slot → Slot
  third x = if_hit was.older (slot_linked Newer was.newer) (second x)

  relinked_keeps : {Y : Type 0} (field : Slot → Y) → IsNoLink field → (x : Slot) → field (relinked was x) ≡ field x
  relinked_keeps field h x =
      kept field was.newer (slot_linked Older was.older) (third x) (h.stays Older was.older (third x))
      ∙ kept field was.older (slot_linked Newer was.newer) (second x) (h.stays Newer was.newer (second x))
      ∙ kept field was.above (slot_linked Below was.below) (first x) (h.stays Below was.below (first x))
      ∙ kept field was.below (slot_linked Above was.above) x (h.stays Above was.above x)

  pub relinked_number : (x : Slot) → (relinked was x).number ≡ x.number
  relinked_number x = relinked_keeps (λ (y : Slot). y.number) number_stays x

  pub relinked_live : (x : Slot) → (relinked was x).live ≡ x.live
  relinked_live x = relinked_keeps (λ (y : Slot). y.live) live_stays x

  pub relinked_thread : (x : Slot) → (relinked was x).thread ≡ x.thread
  relinked_thread x = relinked_keeps (λ (y : Slot). y.thread) thread_stays x

  pub relinked_segment : (x : Slot) → segment_of (relinked was x) ≡ segment_of x
  relinked_segment x = relinked_keeps segment_of segment_stays x

  first_number : (x : Slot) → (first x).number ≡ x.number
  first_number x = kept (λ (y : Slot). y.number) was.below (slot_linked Above was.above) x refl

  second_number : (x : Slot) → (second x).number ≡ x.number
  second_number x = kept (λ (y : Slot). y.number) was.above (slot_linked Below was.below) (first x) refl ∙ first_number x

  third_number : (x : Slot) → (third x).number ≡ x.number
  third_number x = kept (λ (y : Slot). y.number) was.older (slot_linked Newer was.newer) (second x) refl ∙ second_number x

  pub relinked_above : (x : Slot) → (relinked was x).above ≡ (if hits was.below x then was.above else x.above)
  relinked_above x =
      kept (λ (y : Slot). y.above) was.newer (slot_linked Older was.older) (third x) refl
      ∙ kept (λ (y : Slot). y.above) was.older (slot_linked Newer was.newer) (second x) refl
      ∙ kept (λ (y : Slot). y.above) was.above (slot_linked Below was.below) (first x) refl
      ∙ becomes (λ (y : Slot). y.above) was.below (slot_linked Above was.above) was.above x refl

  pub relinked_below : (x : Slot) → (relinked was x).below ≡ (if hits was.above x then was.below else x.below)
  relinked_below x =
      kept (λ (y : Slot). y.below) was.newer (slot_linked Older was.older) (third x) refl
      ∙ kept (λ (y : Slot). y.below) was.older (slot_linked Newer was.newer) (second x) refl
      ∙ becomes (λ (y : Slot). y.below) was.above (slot_linked Below was.below) was.below (first x) refl
      ∙ ap (λ (b : Bool). if b then was.below else (first x).below) (hits_same was.above (first x) x (first_number x))
      ∙ ap (λ (o : Option SegmentNo). if hits was.above x then was.below else o)
      (kept (λ (y : Slot). y.below) was.below (slot_linked Above was.above) x refl)

  pub relinked_newer : (x : Slot) → (relinked was x).newer ≡ (if hits was.older x then was.newer else x.newer)
  relinked_newer x =
      kept (λ (y : Slot). y.newer) was.newer (slot_linked Older was.older) (third x) refl
      ∙ becomes (λ (y : Slot). y.newer) was.older (slot_linked Newer was.newer) was.newer (second x) refl
      ∙ ap (λ (b : Bool). if b then was.newer else (second x).newer) (hits_same was.older (second x) x (second_number x))
      ∙ ap (λ (o : Option SegmentNo). if hits was.older x then was.newer else o)
      (kept (λ (y : Slot). y.newer) was.above (slot_linked Below was.below) (first x) refl
      ∙ kept (λ (y : Slot). y.newer) was.below (slot_linked Above was.above) x refl)

  pub relinked_older : (x : Slot) → (relinked was x).older ≡ (if hits was.newer x then was.older else x.older)
  relinked_older x =
      becomes (λ (y : Slot). y.older) was.newer (slot_linked Older was.older) was.older (third x) refl
      ∙ ap (λ (b : Bool). if b then was.older else (third x).older) (hits_same was.newer (third x) x (third_number x))
      ∙ ap (λ (o : Option SegmentNo). if hits was.newer x then was.older else o)
      (kept (λ (y : Slot). y.older) was.older (slot_linked Newer was.newer) (second x) refl
      ∙ kept (λ (y : Slot). y.older) was.above (slot_linked Below was.below) (first x) refl
      ∙ kept (λ (y : Slot). y.older) was.below (slot_linked Above was.above) x refl)

  pub relinked_on : (u : ℕ) (x : Slot) → stands_on u (relinked was x) ≡ stands_on u x
  relinked_on u x =
      ap (λ (b : Bool). b && ((relinked was x).thread == u)) (relinked_live x) ∙ ap (λ (t : ℕ). x.live && (t == u)) (relinked_thread x)

  pub relinked_own : (u : ℕ) (x : Slot) → is_own u (relinked was x) ≡ is_own u x
  relinked_own u x =
      ap (λ (b : Bool). b && ((relinked was x).domain.0 == u)) (relinked_live x)
      ∙ ap (λ (s : SharedSegment). x.live && (s.domain.0 == u)) (relinked_segment x)

-- ---- The two links to a slot that is new.

module _ (n : SegmentNo) (below older : Option SegmentNo) where
  abbrev under : Slot → Slot
  under x = if_hit below (slot_linked Above (Some n)) x

  raised_keeps : {Y : Type 0} (field : Slot → Y) → IsNoLink field → (x : Slot) → field (raised n below older x) ≡ field x
  raised_keeps field h x =
      kept field older (slot_linked Newer (Some n)) (under x) (h.stays Newer (Some n) (under x))
      ∙ kept field below (slot_linked Above (Some n)) x (h.stays Above (Some n) x)

  pub raised_number : (x : Slot) → (raised n below older x).number ≡ x.number
  raised_number x = raised_keeps (λ (y : Slot). y.number) number_stays x

  pub raised_live : (x : Slot) → (raised n below older x).live ≡ x.live
  raised_live x = raised_keeps (λ (y : Slot). y.live) live_stays x

  pub raised_thread : (x : Slot) → (raised n below older x).thread ≡ x.thread
  raised_thread x = raised_keeps (λ (y : Slot). y.thread) thread_stays x

  pub raised_segment : (x : Slot) → segment_of (raised n below older x) ≡ segment_of x
  raised_segment x = raised_keeps segment_of segment_stays x

  pub raised_below : (x : Slot) → (raised n below older x).below ≡ x.below
  raised_below x =
      kept (λ (y : Slot). y.below) older (slot_linked Newer (Some n)) (under x) refl
      ∙ kept (λ (y : Slot). y.below) below (slot_linked Above (Some n)) x refl

  pub raised_older : (x : Slot) → (raised n below older x).older ≡ x.older
  raised_older x =
      kept (λ (y : Slot). y.older) older (slot_linked Newer (Some n)) (under x) refl
      ∙ kept (λ (y : Slot). y.older) below (slot_linked Above (Some n)) x refl

  pub raised_above : (x : Slot) → (raised n below older x).above ≡ (if hits below x then Some n else x.above)
  raised_above x =
      kept (λ (y : Slot). y.above) older (slot_linked Newer (Some n)) (under x) refl
      ∙ becomes (λ (y : Slot). y.above) below (slot_linked Above (Some n)) (Some n) x refl

  pub raised_newer : (x : Slot) → (raised n below older x).newer ≡ (if hits older x then Some n else x.newer)
  raised_newer x =
      becomes (λ (y : Slot). y.newer) older (slot_linked Newer (Some n)) (Some n) (under x) refl
      ∙ ap (λ (b : Bool). if b then Some n else (under x).newer)
      (hits_same older (under x) x (kept (λ (y : Slot). y.number) below (slot_linked Above (Some n)) x refl))
      ∙ ap (λ (o : Option SegmentNo). if hits older x then Some n else o)
      (kept (λ (y : Slot). y.newer) below (slot_linked Above (Some n)) x refl)

  pub raised_on : (u : ℕ) (x : Slot) → stands_on u (raised n below older x) ≡ stands_on u x
  raised_on u x =
      ap (λ (b : Bool). b && ((raised n below older x).thread == u)) (raised_live x) ∙ ap (λ (t : ℕ). x.live && (t == u)) (raised_thread x)

  pub raised_own : (u : ℕ) (x : Slot) → is_own u (raised n below older x) ≡ is_own u x
  raised_own u x =
      ap (λ (b : Bool). b && ((raised n below older x).domain.0 == u)) (raised_live x)
      ∙ ap (λ (s : SharedSegment). x.live && (s.domain.0 == u)) (raised_segment x)

-- ---- A change at a place is one by a number.

map_unhit : (o : Option SegmentNo) (change : Slot → Slot) (xs : List Slot) → ((x : Slot) → Contains xs x → hits o x ≡ false)
    → map (if_hit o change) xs ≡ xs
map_unhit o change [] none = refl
map_unhit o change (x ∷ xs) none =
    ap (λ (b : Bool). (if b then change x else x) ∷ map (if_hit o change) xs) (none x (Contains-here x xs))
    ∙ ap (λ (ws : List Slot). x ∷ ws) (map_unhit o change xs (λ y there. none y (Contains-there y x xs there)))

pub set_is_map : (change : Slot → Slot) (n : SegmentNo) (xs : List Slot) (k : ℕ) (x : Slot) → AreRisingBy slot_key xs → slice_get xs k ≡ Some x
    → x.number ≡ n.0 → set xs k (change x) ≡ map (if_hit (Some n) change) xs
set_is_map change n [] k x rising at is = absurd cc
set_is_map change n (y ∷ ys) zero x rising at is =
    let here : y ≡ x = same_Some y x at in
    let hit : hits (Some n) y ≡ true = eq-eqb y.number n.0 (ap slot_key here ∙ is) in
    ap (λ (z : Slot). change z ∷ ys) (sym here)
    ∙ ap (λ (b : Bool). (if b then change y else y) ∷ ys) (sym hit)
    ∙ ap (λ (ws : List Slot). if_hit (Some n) change y ∷ ws) (sym (map_unhit (Some n) change ys (λ z there. later z there here)))
  where
    later : (z : Slot) → Contains ys z → y ≡ x → hits (Some n) z ≡ false
    later z there here =
        let at_z = place_of ys z there in
        let more : y.number < z.number = rising 0 (suc at_z.0) y z refl at_z.1 (omega arith) in
        ne_eqb z.number n.0 (λ same. omega (arith, more, same, ap slot_key here, is))
set_is_map change n (y ∷ ys) (suc k) x rising at is =
    let less : y.number < x.number = rising 0 (suc k) y x refl at (omega arith) in
    let miss : hits (Some n) y ≡ false = ne_eqb y.number n.0 (λ same. omega (arith, less, same, is)) in
    ap (λ (ws : List Slot). y ∷ ws) (set_is_map change n ys k x (rising_tail slot_key y ys rising) at is)
    ∙ ap (λ (b : Bool). (if b then change y else y) ∷ map (if_hit (Some n) change) ys) (sym miss)

-- nothing has the number
pub none_is_map : (change : Slot → Slot) (n : SegmentNo) (xs : List Slot) → find (has_key slot_key n.0) xs ≡ None → xs ≡ map (if_hit (Some n) change) xs
none_is_map change n xs none =
    sym (map_unhit (Some n) change xs
    (λ x there. let at = place_of xs x there in none_fits (has_key slot_key n.0) xs at.0 x none at.1))

pub map_twice : (f g : Slot → Slot) (xs : List Slot) → map f (map g xs) ≡ map (λ (x : Slot). f (g x)) xs
map_twice f g [] = refl
map_twice f g (x ∷ xs) = ap (λ (ws : List Slot). f (g x) ∷ ws) (map_twice f g xs)

pub map_same_after : {Y : Type 0} (f : Slot → Y) (g : Slot → Slot) → ((x : Slot) → f (g x) ≡ f x) → (xs : List Slot) → map f (map g xs) ≡ map f xs
map_same_after {Y = Y} f g same [] = refl
map_same_after {Y = Y} f g same (x ∷ xs) =
    ap (λ (y : Y). y ∷ map f (map g xs)) (same x) ∙ ap (λ (ys : List Y). f x ∷ ys) (map_same_after f g same xs)

pub none_hit : (o : Option SegmentNo) (change : Slot → Slot) (xs : List Slot) → o ≡ None → xs ≡ map (if_hit o change) xs
none_hit o change xs is = sym (map_unhit o change xs (λ x there. hits_none o x is))

pub relinked_all : (was : Slot) (xs : List Slot) → map (if_hit was.newer (slot_linked Older was.older))
    (map (if_hit was.older (slot_linked Newer was.newer))
    (map (if_hit was.above (slot_linked Below was.below)) (map (if_hit was.below (slot_linked Above was.above)) xs))) ≡ map (relinked was) xs
relinked_all was xs =
    ap (λ (ws : List Slot). map (if_hit was.newer (slot_linked Older was.older)) (map (if_hit was.older (slot_linked Newer was.newer)) ws))
    (map_twice (if_hit was.above (slot_linked Below was.below)) (first was) xs)
    ∙ ap (λ (ws : List Slot). map (if_hit was.newer (slot_linked Older was.older)) ws)
    (map_twice (if_hit was.older (slot_linked Newer was.newer)) (second was) xs)
    ∙ map_twice (if_hit was.newer (slot_linked Older was.older)) (third was) xs

pub raised_all : (n : SegmentNo) (below older : Option SegmentNo) (xs : List Slot)
    → map (if_hit older (slot_linked Newer (Some n))) (map (if_hit below (slot_linked Above (Some n))) xs) ≡ map (raised n below older) xs
raised_all n below older xs = map_twice (if_hit older (slot_linked Newer (Some n))) (under n below older) xs

pub linked_number : (l : Link) (to o : Option SegmentNo) (x : Slot) → (if_hit o (slot_linked l to) x).number ≡ x.number
linked_number l to o x = kept (λ (y : Slot). y.number) o (slot_linked l to) x (number_stays.stays l to x)
