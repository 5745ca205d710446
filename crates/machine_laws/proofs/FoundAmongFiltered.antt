-- What a search finds among the items that pass a filter: what it found before, where that passes; else nothing, where no other item is searched for.
use Rattle.std.proofs.Common.{◌≡◌, Bool, true, false, cond, List, [], ◌∷◌, filter, find, Option, Some, None, Contains, refl, ap, ◌∙◌}
use Rattle.std.proofs.lemmas.Option.{same_Some}
use Rattle.list_lemmas.proofs.FoundItems.{Finds, finds}
use Rattle.list_lemmas.proofs.ItemsOfLists.{Contains-at}
use Rattle.machine_laws.proofs.FilteredItems.{filtered_from, filtered_passes}

module _ {X : Type 0} (test has : X → Bool) where
  stays_by : (b c : Bool) (x y : X) (rest : List X) → test x ≡ b → has x ≡ c → cond b (Some x) (find test rest) ≡ Some y → has y ≡ true
      → (find test rest ≡ Some y → find test (filter has rest) ≡ Some y) → find test (cond c (x ∷ filter has rest) (filter has rest)) ≡ Some y
  stays_by true true x y rest e f is passes later =
      ap (λ (b : Bool). cond b (Some x) (find test (filter has rest))) e ∙ is
  stays_by true false x y rest e f is passes later =
      let same : has x ≡ has y = ap has (same_Some x y is) in absurd cc
  stays_by false true x y rest e f is passes later =
      ap (λ (b : Bool). cond b (Some x) (find test (filter has rest))) e ∙ later is
  stays_by false false x y rest e f is passes later = later is

  pub stays_found : (xs : List X) (y : X) → find test xs ≡ Some y → has y ≡ true → find test (filter has xs) ≡ Some y
  stays_found [] y is passes = absurd cc
  stays_found (x ∷ xs) y is passes = stays_by (test x) (has x) x y xs refl refl is passes (λ later. stays_found xs y later passes)

  pub taken_out : (xs : List X) (y : X) → has y ≡ false → ((z : X) → Contains xs z → test z ≡ true → z ≡ y) → find test (filter has xs) ≡ None
  taken_out xs y fails one = by (find test (filter has xs)) (finds test (filter has xs))
    where
      by : (o : Option X) → Finds test (filter has xs) o → o ≡ None
      by None h = refl
      by (Some z) h =
          let on : Contains (filter has xs) z = Contains-at (filter has xs) h.0 z h.1 in
          let passes : has z ≡ true = filtered_passes has xs z on in
          let same : has z ≡ has y = ap has (one z (filtered_from has xs z on) h.2) in
          absurd cc

  none_by : (b c : Bool) (x : X) (rest : List X) → test x ≡ b → cond b (Some x) (find test rest) ≡ None
      → (find test rest ≡ None → find test (filter has rest) ≡ None) → find test (cond c (x ∷ filter has rest) (filter has rest)) ≡ None
  none_by true c x rest e is later = absurd cc
  none_by false true x rest e is later = ap (λ (b : Bool). cond b (Some x) (find test (filter has rest))) e ∙ later is
  none_by false false x rest e is later = later is

  pub none_still : (xs : List X) → find test xs ≡ None → find test (filter has xs) ≡ None
  none_still [] is = refl
  none_still (x ∷ xs) is = none_by (test x) (has x) x xs refl is (none_still xs)

-- ---- A filter twice.

twice_by : {X : Type 0} (has : X → Bool) (b : Bool) (x : X) (rest : List X) → has x ≡ b → filter has rest ≡ rest
    → filter has (cond b (x ∷ rest) rest) ≡ cond b (x ∷ rest) rest
twice_by has true x rest e later = ap (λ (b : Bool). cond b (x ∷ filter has rest) (filter has rest)) e ∙ ap (λ (xs : List _). x ∷ xs) later
twice_by has false x rest e later = later

pub filtered_twice : {X : Type 0} (has : X → Bool) (xs : List X) → filter has (filter has xs) ≡ filter has xs
filtered_twice has [] = refl
filtered_twice has (x ∷ xs) = twice_by has (has x) x (filter has xs) refl (filtered_twice has xs)
