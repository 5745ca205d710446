-- A caller that keeps the extents that are out in an order of its own has the same ones after each call.
use Rattle.std.proofs.Common.{◌≡◌, ℕ, suc, ◌+◌, ◌<◌, ◌⊎◌, inl, inr, List, [], ◌∷◌, ◌++◌, cond, get_or, length, refl, ◌∙◌, ap, arith, eqb}
use Rattle.std.specs.List.{Contains, sum_by, remove}
use Rattle.std.proofs.lemmas.Bool.{eq-eqb}
use Rattle.std.proofs.lemmas.Bool.Decides.{eqb_tells}
use Rattle.std.proofs.lemmas.List.Sums.{sum_by-cons, sum_by-append, sum_by_push, sum_by-remove}
use Rattle.jk_model.specs.declared.extents.Extent.{Extent}
use Rattle.extent_map.specs.MapState.{IsAmong, AreSame}

-- what is among others counts once beside them
counts : (others all : List Extent) (e : Extent) → IsAmong others e all → (f : Extent → ℕ) → sum_by f all ≡ sum_by f others + f e
counts others all e (front, back, o, a) f =
    let left = ap (sum_by f) a ∙ sum_by-append f front (e ∷ back) in
    let right = ap (sum_by f) o ∙ sum_by-append f front back in
    omega (arith, left, right, sum_by-cons f e back)

-- an extent that is taken goes after the others
pub same_taken : (was now kept : List Extent) (e : Extent) → AreSame was kept → IsAmong was e now → AreSame now (kept ++ e ∷ [])
same_taken was now kept e same among = λ f. omega (arith, counts was now e among f, same f, sum_by_push f kept e)

-- an extent that is given back is removed from the place where it is
pub same_given : (was now kept : List Extent) (e : Extent) (place : ℕ) → AreSame was kept → IsAmong now e was → place < length kept
    → e ≡ get_or kept place e → AreSame now (remove kept place)
same_given was now kept e place same among under at = λ f. omega (arith, counts now was e among f, same f, sum_by-remove f kept place e under, ap f at)

abbrev one_of : Extent → Extent → ℕ
one_of e x = cond (eqb x.first e.first) (cond (eqb x.pages e.pages) 1 0) 0

one_same : (e : Extent) → one_of e e ≡ 1
one_same e = rw (eq-eqb e.first e.first refl, eq-eqb e.pages e.pages refl) refl

extent_same : (x e : Extent) → x.first ≡ e.first → x.pages ≡ e.pages → x ≡ e
extent_same x e f p = ap (λ (n : ℕ). record { first = n; pages = x.pages }) f ∙ ap (λ (n : ℕ). record { first = e.first; pages = n }) p

one_or_not : (e x : Extent) → (one_of e x ≡ 0) ⊎ (x ≡ e)
one_or_not e x =
    elim (eqb_tells x.first e.first) [
      | inl f ↦
          elim (eqb_tells x.pages e.pages) [
            | inl p ↦ inr (extent_same x e f.1 p.1)
            | inr other ↦ inl (rw (f.0, other.0) refl)
          ]
      | inr other ↦ inl (rw other.0 refl)
    ]

found : (e : Extent) (xs : List Extent) → 0 < sum_by (one_of e) xs → Contains xs e
found e [] h = absurd (omega (arith, h))
found e (x ∷ xs) h =
    elim (one_or_not e x) [
      | inl none ↦ let (i, under, at) = found e xs (omega (arith, h, none, sum_by-cons (one_of e) x xs)) in (suc i, omega (arith, under), at)
      | inr same ↦ (0, omega arith, same)
    ]

-- what stands at a place of those that are kept is out
pub same_in : (was kept : List Extent) (e : Extent) (place : ℕ) → AreSame was kept → place < length kept → e ≡ get_or kept place e → Contains was e
same_in was kept e place same under at =
    found e was (omega (arith, same (one_of e), sum_by-remove (one_of e) kept place e under, ap (one_of e) at, one_same e))

-- ---- Whether one is out.

pub in_taken : (others all : List Extent) (e : Extent) → IsAmong others e all → Contains all e
in_taken others all e among = found e all (omega (arith, counts others all e among (one_of e), one_same e))

pub same_back : (was now then kept : List Extent) (e : Extent) → AreSame was kept → IsAmong was e now → IsAmong then e now → AreSame then kept
same_back was now then kept e same out back = λ f. omega (arith, counts was now e out f, counts then now e back f, same f)
