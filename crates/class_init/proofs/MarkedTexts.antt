-- What marks of texts say: which texts are marked, what one more mark adds to their sum, and that no mark is left.
use Rattle.std.proofs.Common.{◌≡◌, ℕ, zero, suc, ◌+◌, ◌<◌, ◌⊎◌, inl, inr, Bool, true, false, List, [], ◌∷◌, length, replicate, set, Some, slice_get, refl, sym, ap, subst, ◌∙◌, arith, sum_by}
use Rattle.std.specs.Prelude.{Contains, ◌↔◌}
use Rattle.std.proofs.lemmas.List.Sums.{sum_by-cons}
use Rattle.std.proofs.lemmas.Option.{same_Some}
use Rattle.list_lemmas.proofs.ItemsByPlace.{slice_get-set_cases, slice_get-set_same}
use Rattle.list_lemmas.proofs.ItemsOfLists.{Contains-at, Contains-cases, Contains-here, Contains-none, Contains-there}
use Rattle.class_init.specs.MissingTexts.{marked}

-- ---- What is marked.

-- a marked text stands at a place with a mark
pub record MarkedAt (texts : List (List ℕ)) (marks : List Bool) (text : List ℕ) : Type 0 where
  pub place : ℕ
  pub there : slice_get texts place ≡ Some text
  pub mark : slice_get marks place ≡ Some true

further : (t : List ℕ) (m : Bool) (texts : List (List ℕ)) (marks : List Bool) (text : List ℕ) → MarkedAt texts marks text
    → MarkedAt (t ∷ texts) (m ∷ marks) text
further t m texts marks text h = record { place = suc h.place; there = h.there; mark = h.mark }

pub marked_at : (texts : List (List ℕ)) (marks : List Bool) (text : List ℕ) → Contains (marked texts marks) text → MarkedAt texts marks text
marked_at [] marks text has = absurd (Contains-none text has)
marked_at (t ∷ texts) [] text has = absurd (Contains-none text has)
marked_at (t ∷ texts) (true ∷ marks) text has = elim (Contains-cases text t (marked texts marks) has) [
  | inl same ↦ record { place = 0; there = ap Some same; mark = refl }
  | inr later ↦ further t true texts marks text (marked_at texts marks text later)
]
marked_at (t ∷ texts) (false ∷ marks) text has = further t false texts marks text (marked_at texts marks text has)

-- and one that stands there is marked
pub is_marked : (texts : List (List ℕ)) (marks : List Bool) (place : ℕ) (text : List ℕ) → slice_get texts place ≡ Some text
    → slice_get marks place ≡ Some true → Contains (marked texts marks) text
is_marked [] marks place text at on = absurd cc
is_marked (t ∷ texts) [] place text at on = absurd cc
is_marked (t ∷ texts) (true ∷ marks) zero text at on =
    subst (λ x. Contains (t ∷ marked texts marks) x) (same_Some t text at) (Contains-here t (marked texts marks))
is_marked (t ∷ texts) (true ∷ marks) (suc place) text at on = Contains-there text t (marked texts marks) (is_marked texts marks place text at on)
is_marked (t ∷ texts) (false ∷ marks) zero text at on = absurd cc
is_marked (t ∷ texts) (false ∷ marks) (suc place) text at on = is_marked texts marks place text at on

-- where no two texts are equal, no two marked ones are
abbrev pub Differ : List (List ℕ) → Type 0
Differ texts = (i j : ℕ) (text : List ℕ) → slice_get texts i ≡ Some text → slice_get texts j ≡ Some text → i ≡ j

rest_differ : (t : List ℕ) (texts : List (List ℕ)) → Differ (t ∷ texts) → Differ texts
rest_differ t texts h i j text p q = let e : suc i ≡ suc j = h (suc i) (suc j) text p q in omega (arith, e)

first_alone : (t : List ℕ) (texts : List (List ℕ)) (marks : List Bool) (j : ℕ) → Differ (t ∷ texts) → slice_get (marked texts marks) j ≡ Some t → ⊥
first_alone t texts marks j h q =
    let m = marked_at texts marks t (Contains-at (marked texts marks) j t q) in
    let e : 0 ≡ suc m.place = h 0 (suc m.place) t refl m.there in
    omega (arith, e)

pub marked_differ : (texts : List (List ℕ)) (marks : List Bool) → Differ texts → Differ (marked texts marks)
marked_differ [] marks h i j text p q = absurd cc
marked_differ (t ∷ texts) [] h i j text p q = absurd cc
marked_differ (t ∷ texts) (false ∷ marks) h i j text p q = marked_differ texts marks (rest_differ t texts h) i j text p q
marked_differ (t ∷ texts) (true ∷ marks) h zero zero text p q = refl
marked_differ (t ∷ texts) (true ∷ marks) h zero (suc j) text p q =
    absurd (first_alone t texts marks j h (q ∙ sym p))
marked_differ (t ∷ texts) (true ∷ marks) h (suc i) zero text p q =
    absurd (first_alone t texts marks i h (p ∙ sym q))
marked_differ (t ∷ texts) (true ∷ marks) h (suc i) (suc j) text p q = ap suc (marked_differ texts marks (rest_differ t texts h) i j text p q)

-- ---- One mark more.

pub one_mark_more : (w : List ℕ → ℕ) (texts : List (List ℕ)) (marks : List Bool) (place : ℕ) (text : List ℕ) → slice_get texts place ≡ Some text
    → slice_get marks place ≡ Some false → sum_by w (marked texts (set marks place true)) ≡ sum_by w (marked texts marks) + w text
one_mark_more w [] marks place text at off = absurd cc
one_mark_more w (t ∷ texts) [] place text at off = absurd cc
one_mark_more w (t ∷ texts) (true ∷ marks) zero text at off = absurd cc
one_mark_more w (t ∷ texts) (false ∷ marks) zero text at off =
    let e = sum_by-cons w t (marked texts marks) in
    let same : w t ≡ w text = ap w (same_Some t text at) in
    omega (arith, e, same)
one_mark_more w (t ∷ texts) (true ∷ marks) (suc place) text at off =
    let rest = one_mark_more w texts marks place text at off in
    let new = sum_by-cons w t (marked texts (set marks place true)) in
    let old = sum_by-cons w t (marked texts marks) in
    omega (arith, rest, new, old)
one_mark_more w (t ∷ texts) (false ∷ marks) (suc place) text at off = one_mark_more w texts marks place text at off

-- a mark stays where another is set
mark_stays : (marks : List Bool) (i j : ℕ) → slice_get marks j ≡ Some true → slice_get (set marks i true) j ≡ Some true
mark_stays [] i j e = absurd cc
mark_stays (m ∷ marks) zero zero e = refl
mark_stays (m ∷ marks) zero (suc j) e = e
mark_stays (m ∷ marks) (suc i) zero e = e
mark_stays (m ∷ marks) (suc i) (suc j) e = mark_stays marks i j e

-- which places are marked then
pub marked_then : (marks : List Bool) (place k : ℕ) → place < length marks
    → (slice_get (set marks place true) k ≡ Some true) ↔ ((slice_get marks k ≡ Some true) ⊎ (k ≡ place))
marked_then marks place k low = (forth, back)
  where
    forth : slice_get (set marks place true) k ≡ Some true → (slice_get marks k ≡ Some true) ⊎ (k ≡ place)
    forth on = elim (slice_get-set_cases marks place k true true on) [
      | inl here ↦ inr (sym here.0)
      | inr other ↦ inl other
    ]

    back : (slice_get marks k ≡ Some true) ⊎ (k ≡ place) → slice_get (set marks place true) k ≡ Some true
    back (inr here) = rw here (slice_get-set_same marks place true low)
    back (inl on) = mark_stays marks place k on

-- where a mark is taken away, none is there, and no other is new
pub unmarked_then : (marks : List Bool) (place k : ℕ) → slice_get (set marks place false) k ≡ Some true
    → (slice_get marks k ≡ Some true) × (k ≡ place → ⊥)
unmarked_then [] place k on = absurd cc
unmarked_then (m ∷ marks) zero zero on = absurd cc
unmarked_then (m ∷ marks) zero (suc k) on = (on, λ e. omega (arith, e))
unmarked_then (m ∷ marks) (suc place) zero on = (on, λ e. omega (arith, e))
unmarked_then (m ∷ marks) (suc place) (suc k) on = let rest = unmarked_then marks place k on in (rest.0, λ e. rest.1 (omega (arith, e)))

-- ---- No marks.

pub none_marked : (texts : List (List ℕ)) (n : ℕ) → marked texts (replicate n false) ≡ []
none_marked [] n = refl
none_marked (t ∷ texts) zero = refl
none_marked (t ∷ texts) (suc n) = none_marked texts n

pub no_mark_left : (n : ℕ) (marks : List Bool) → length marks ≡ n → ((place : ℕ) → slice_get marks place ≡ Some true → ⊥) → marks ≡ replicate n false
no_mark_left zero [] e h = refl
no_mark_left zero (m ∷ marks) e h = absurd (omega (arith, e))
no_mark_left (suc n) [] e h = absurd (omega (arith, e))
no_mark_left (suc n) (true ∷ marks) e h = absurd (h 0 refl)
no_mark_left (suc n) (false ∷ marks) e h = ap (λ bs. false ∷ bs) (no_mark_left n marks (omega (arith, e)) (λ k on. h (suc k) on))
