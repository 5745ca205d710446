-- Where one range alone passes a test, it is the one that is found, and a change of all that pass goes to it alone.
use Rattle.std.proofs.Common.{◌≡◌, ℕ, zero, suc, ◌<◌, Bool, true, false, cond, List, [], ◌∷◌, ◌++◌, length, set, get_or, find, Option, Some, None, MatchOption, refl, sym, ◌∙◌, ap, subst, arith}
use Rattle.std.proofs.lemmas.List.Folds.{find-append}
use Rattle.jk_model.specs.Capabilities.{Range, changed}
use Rattle.capability_table.specs.Places.{IsOnlyAt}

pub head_passes : (b : Bool) (x : Range) (rest : Option Range) → cond b (Some x) rest ≡ None → (b ≡ false) × (rest ≡ None)
head_passes true x rest e = absurd cc
head_passes false x rest e = (refl, e)

pub only-get_or : (test : Range → Bool) (xs : List Range) (i : ℕ) (r d : Range) → IsOnlyAt test xs i r → get_or xs i d ≡ r
only-get_or test [] i r d h = absurd h
only-get_or test (x ∷ xs) zero r d h = h.0
only-get_or test (x ∷ xs) (suc i) r d h = only-get_or test xs i r d h.1

pub only-within : (test : Range → Bool) (xs : List Range) (i : ℕ) (r : Range) → IsOnlyAt test xs i r → i < length xs
only-within test [] i r h = absurd h
only-within test (x ∷ xs) zero r h = omega arith
only-within test (x ∷ xs) (suc i) r h = omega (arith, only-within test xs i r h.1)

-- the same of a list that is known under two names, and of what was read there
pub at-got : (test : Range → Bool) (xs ys : List Range) (i : ℕ) (got : Range) → xs ≡ ys → (r : Range) × IsOnlyAt test ys i r
    → got ≡ get_or xs i got → IsOnlyAt test xs i got
at-got test xs ys i got e (r, h) read =
    let only : IsOnlyAt test xs i r = rw e h in
    let same : r ≡ got = sym (read ∙ only-get_or test xs i r got only) in
    let P : Range → Type 0 = λ s. IsOnlyAt test xs i s in
    subst P same only

pub at-within : (test : Range → Bool) (xs ys : List Range) (i : ℕ) → xs ≡ ys → (r : Range) × IsOnlyAt test ys i r → i < length xs
at-within test xs ys i e (r, h) = only-within test xs i r (rw e h)

pub only-passes : (test : Range → Bool) (xs : List Range) (i : ℕ) (r : Range) → IsOnlyAt test xs i r → test r ≡ true
only-passes test [] i r h = absurd h
only-passes test (x ∷ xs) zero r h = ap test (sym h.0) ∙ h.1
only-passes test (x ∷ xs) (suc i) r h = only-passes test xs i r h.1

pub only-find : (test : Range → Bool) (xs : List Range) (i : ℕ) (r : Range) → IsOnlyAt test xs i r → find test xs ≡ Some r
only-find test [] i r h = absurd h
only-find test (x ∷ xs) zero r h = rw (h.1, h.0) refl
only-find test (x ∷ xs) (suc i) r h = rw (h.0) (only-find test xs i r h.1)

pub none-push : (test : Range → Bool) (xs : List Range) (r : Range) → find test xs ≡ None → test r ≡ false → find test (xs ++ r ∷ []) ≡ None
none-push test xs r h e = rw (find-append test xs (r ∷ []), h, e) refl

none-changed : (test : Range → Bool) (f : Range → Range) (xs : List Range) → find test xs ≡ None → changed test f xs ≡ xs
none-changed test f [] h = refl
none-changed test f (x ∷ xs) h =
    let head = head_passes (test x) x (find test xs) h in
    rw (head.0, none-changed test f xs head.1) refl

pub only-changed : (test : Range → Bool) (f : Range → Range) (xs : List Range) (i : ℕ) (r : Range) → IsOnlyAt test xs i r → set xs i (f r) ≡ changed test f xs
only-changed test f [] i r h = absurd h
only-changed test f (x ∷ xs) zero r h =
    rw (h.1, none-changed test f xs h.2, h.0) refl
only-changed test f (x ∷ xs) (suc i) r h = rw (h.0, only-changed test f xs i r h.1) refl

-- the place of the one range that passes, if there is one
abbrev pub IsPlaceOf : (Range → Bool) → List Range → Option ℕ → Type 0
IsPlaceOf test xs place = MatchOption place (find test xs ≡ None) (λ i. (r : Range) × IsOnlyAt test xs i r)
