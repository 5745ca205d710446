-- Where an entry of the vector is set, the extent that begins at its page is out, and none where it is 0.
use Rattle.std.proofs.Common.{◌≡◌, ℕ, zero, suc, ◌+◌, ◌<◌, ◌≤◌, List, [], ◌∷◌, ◌++◌, length, get_or, set, replicate, refl, sym, ◌∙◌, ap, subst, arith}
use Rattle.std.specs.List.{AllByRecursion, Contains}
use Rattle.std.proofs.lemmas.List.{set-get_or}
use Rattle.std.proofs.lemmas.List.Elements.{All-from_recursion}
use Rattle.std.proofs.lemmas.List.Kept.{AllPairs-cons}
use Rattle.std.proofs.lemmas.List.Sorted.{IsPermutation-middle, IsPermutation-to_front, IsPermutation-trans, IsPermutation-sym}
use Rattle.jk_model.specs.declared.extents.Extent.{Extent}
use Rattle.jk_model.specs.Extents.{HasPage, IsFreePage, FitsAt}
use Rattle.extent_map.specs.MapState.{IsAmong, IsAscending}
use Rattle.extent_map.specs.RunState.{RunState, IsOut}
use Rattle.extent_map.specs.Starts.{extents_of}
use Rattle.extent_map.proofs.OutInAnyOrder.{out_in_order}

-- none is out where all entries are 0
pub none_out : (n k : ℕ) → extents_of k (replicate n 0) ≡ []
none_out zero k = refl
none_out (suc n) k = none_out n (k + 1)

later : (p k : ℕ) (starts : List ℕ) → p < k → AllByRecursion (λ e. p < e.first) (extents_of k starts)
later p k [] h = tt
later p k (zero ∷ s) h = later p (k + 1) s (omega (arith, h))
later p k (suc n ∷ s) h = (h, later p (k + 1) s (omega (arith, h)))

pub ascending : (k : ℕ) (starts : List ℕ) → IsAscending (extents_of k starts)
ascending k [] = λ i j d less under. absurd (omega (arith, under))
ascending k (zero ∷ s) = ascending (k + 1) s
ascending k (suc n ∷ s) =
    let it : Extent = record { first = k; pages = suc n } in
    AllPairs-cons (λ (d e : Extent). d.first < e.first) it (extents_of (k + 1) s)
    (All-from_recursion (λ e. k < e.first) (extents_of (k + 1) s) (later k (k + 1) s (omega arith))) (ascending (k + 1) s)

-- The extents that begin before a page, and after it: what is out is these, and between them the one
-- that begins there, if one does.
pub record IsSplit (k at : ℕ) (starts : List ℕ) : Type 0 where
  pub front : List Extent
  pub back : List Extent
  pub one : (n : ℕ) → extents_of k (set starts at (suc n)) ≡ front ++ record { first = k + at; pages = suc n } ∷ back
  pub none : extents_of k (set starts at 0) ≡ front ++ back

pub split : (k at : ℕ) (starts : List ℕ) → at < length starts → IsSplit k at starts
split k at [] h = absurd (omega (arith, h))
split k zero (x ∷ s) h = record {
  front = [];
  back = extents_of (k + 1) s;
  one = λ n. ap (λ (p : ℕ). record { first = p; pages = suc n } ∷ extents_of (k + 1) s) (omega arith);
  none = refl;
}
split k (suc at) (zero ∷ s) h =
    let rest = split (k + 1) at s (omega (arith, h)) in
    record {
      front = rest.front;
      back = rest.back;
      one = λ n. rest.one n ∙ ap (λ (p : ℕ). rest.front ++ record { first = p; pages = suc n } ∷ rest.back) (omega arith);
      none = rest.none;
    }
split k (suc at) (suc m ∷ s) h =
    let rest = split (k + 1) at s (omega (arith, h)) in
    let it : Extent = record { first = k; pages = suc m } in
    record {
      front = it ∷ rest.front;
      back = rest.back;
      one = λ n. ap (λ xs. it ∷ xs) (rest.one n ∙ ap (λ (p : ℕ). rest.front ++ record { first = p; pages = suc n } ∷ rest.back) (omega arith));
      none = ap (λ xs. it ∷ xs) rest.none;
    }

-- setting an entry to what it is changes nothing
set_same : (starts : List ℕ) (at x : ℕ) → get_or starts at 0 ≡ x → set starts at x ≡ starts
set_same starts at x g = ap (λ (y : ℕ). set starts at y) (sym g) ∙ set-get_or starts at 0

-- where an extent that is out begins, and that the entry there is its size
record StartsAt (k : ℕ) (starts : List ℕ) (e : Extent) : Type 0 where
  pub at : ℕ
  pub is : e.first ≡ k + at
  pub under : at < length starts
  pub entry : get_or starts at 0 ≡ e.pages
  pub some : 0 < e.pages

one_later : (k x : ℕ) (starts : List ℕ) (e : Extent) → StartsAt (k + 1) starts e → StartsAt k (x ∷ starts) e
one_later k x starts e h = record { at = suc h.at; is = omega (arith, h.is); under = omega (arith, h.under); entry = h.entry; some = h.some }

starts_at : (k place : ℕ) (starts : List ℕ) (e : Extent) → place < length (extents_of k starts) → get_or (extents_of k starts) place e ≡ e → StartsAt k starts e
starts_at k place [] e h g = absurd (omega (arith, h))
starts_at k place (zero ∷ s) e h g = one_later k zero s e (starts_at (k + 1) place s e h g)
starts_at k zero (suc n ∷ s) e h g =
    let first : k ≡ e.first = ap (λ (x : Extent). x.first) g in
    let pages : suc n ≡ e.pages = ap (λ (x : Extent). x.pages) g in
    record { at = 0; is = omega (arith, first); under = omega arith; entry = pages; some = omega (arith, pages) }
starts_at k (suc place) (suc n ∷ s) e h g = one_later k (suc n) s e (starts_at (k + 1) place s e (omega (arith, h)) g)

-- ---- Give back.

extent_is : (e : Extent) (first pages : ℕ) → e.first ≡ first → e.pages ≡ pages → record { first = first; pages = pages } ≡ e
extent_is e first pages f p = ap (λ (x : ℕ). record { first = x; pages = pages }) (sym f) ∙ ap (λ (x : ℕ). record { first = e.first; pages = x }) (sym p)

among_of : (starts : List ℕ) (at n : ℕ) (e : Extent) → at < length starts → e.first ≡ at → e.pages ≡ suc n
    → IsAmong (extents_of 0 (set starts at 0)) e (extents_of 0 (set starts at (suc n)))
among_of starts at n e under first pages =
    let parts = split 0 at starts under in
    let it = extent_is e (0 + at) (suc n) (omega (arith, first)) pages in
    (parts.front, parts.back, parts.none, parts.one n ∙ ap (λ x. parts.front ++ x ∷ parts.back) it)

given_of : (starts : List ℕ) (e : Extent) (n : ℕ) → e.pages ≡ n → 0 < n → e.first < length starts → get_or starts e.first 0 ≡ n
    → IsAmong (extents_of 0 (set starts e.first 0)) e (extents_of 0 starts)
given_of starts e zero pages some under entry = absurd (omega (arith, some))
given_of starts e (suc n) pages some under entry =
    let All : List ℕ → Type 0 = λ s. IsAmong (extents_of 0 (set starts e.first 0)) e (extents_of 0 s) in
    subst All (set_same starts e.first (suc n) entry) (among_of starts e.first n e under refl pages)

pub given_out : (starts : List ℕ) (e : Extent) → Contains (extents_of 0 starts) e → IsAmong (extents_of 0 (set starts e.first 0)) e (extents_of 0 starts)
given_out starts e (place, under, same) =
    let there = starts_at 0 place starts e under same in
    let At : ℕ → Type 0 = λ p. (p < length starts) × (get_or starts p 0 ≡ e.pages) in
    let at : At e.first = subst At (omega (arith, there.is)) (there.under, there.entry) in
    given_of starts e e.pages refl there.some at.0 at.1

-- ---- Take.

lacks : (front : List Extent) (e : Extent) (back : List Extent) (p : ℕ) → IsFreePage (front ++ e ∷ back) p → HasPage e p → ⊥
lacks [] e back p free has = free.0 has
lacks (x ∷ front) e back p free has = lacks front e back p free.1 has

-- no extent begins at a page that none holds
free_entry : (starts : List ℕ) (at n : ℕ) → at < length starts → IsFreePage (extents_of 0 starts) at → get_or starts at 0 ≡ n → get_or starts at 0 ≡ 0
free_entry starts at zero under free entry = entry
free_entry starts at (suc n) under free entry =
    let parts = split 0 at starts under in
    let e : Extent = record { first = 0 + at; pages = suc n } in
    let Free : List Extent → Type 0 = λ xs. IsFreePage xs at in
    let all : extents_of 0 starts ≡ parts.front ++ e ∷ parts.back = ap (extents_of 0) (sym (set_same starts at (suc n) entry)) ∙ parts.one n in
    absurd (lacks parts.front e parts.back at (subst Free all free) (omega arith, omega arith))

pub taken_among : (starts : List ℕ) (limit n : ℕ) (e : Extent) → length starts ≡ limit → 1 ≤ n → e.pages ≡ n
    → FitsAt limit (extents_of 0 starts) n e.first → IsAmong (extents_of 0 starts) e (extents_of 0 (set starts e.first n))
taken_among starts limit zero e long some size fits = absurd (omega (arith, some))
taken_among starts limit (suc n) e long some size fits =
    let under : e.first < length starts = omega (arith, long, fits.0) in
    let zero_there = free_entry starts e.first (get_or starts e.first 0) under (fits.1 e.first (omega arith) (omega arith)) refl in
    let Others : List ℕ → Type 0 = λ s. IsAmong (extents_of 0 s) e (extents_of 0 (set starts e.first (suc n))) in
    subst Others (set_same starts e.first 0 zero_there) (among_of starts e.first n e under refl size)

-- ---- The free runs.

pub out_among : (free : RunState) (others all : List Extent) (e : Extent) → IsAmong others e all → IsOut free (others ++ e ∷ []) → IsOut free all
out_among free others all e (front, back, o, a) is =
    let moves = IsPermutation-trans _ _ _ (IsPermutation-to_front (front ++ back) e) (IsPermutation-sym _ _ (IsPermutation-middle front e back)) in
    let Before : List Extent → Type 0 = λ xs. IsOut free (xs ++ e ∷ []) in
    let Then : List Extent → Type 0 = λ xs. IsOut free xs in
    subst Then (sym a) (out_in_order free ((front ++ back) ++ e ∷ []) (front ++ e ∷ back) moves (subst Before o is))

-- those that are out, with one that is given back among them
pub out_split : (free : RunState) (others all : List Extent) (e : Extent) (among : IsAmong others e all) → IsOut free all → IsOut free (among.0 ++ e ∷ among.1)
out_split free others all e (front, back, o, a) is =
    let Out : List Extent → Type 0 = λ xs. IsOut free xs in
    subst Out a is

pub out_given : (free new : RunState) (others all : List Extent) (e : Extent) → IsAmong others e all → IsOut free all
    → ((front back : List Extent) → IsOut free (front ++ e ∷ back) → IsOut new (front ++ back)) → IsOut new others
out_given free new others all e (front, back, o, a) is given =
    let Old : List Extent → Type 0 = λ xs. IsOut free xs in
    let New : List Extent → Type 0 = λ xs. IsOut new xs in
    subst New (sym o) (given front back (subst Old a is))
