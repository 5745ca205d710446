-- A list is empty exactly where its length is 0, and one with a part that isn't empty isn't empty.
use Rattle.std.proofs.Common.{◌≡◌, ◌≢◌, ◌<◌, ◌==◌, Bool, false, List, [], ◌∷◌, ◌++◌, length, refl, ap, sym, ◌∙◌, arith}
use Rattle.std.proofs.lemmas.Bool.{eqb-false}

pub not_nil_from_length : {X : Type 0} (xs : List X) → 0 < length xs → xs ≢ []
not_nil_from_length xs some e = omega (arith, some, ap length e)

pub not_nil_from_test : {X : Type 0} (xs : List X) (test : Bool) → test ≡ (length xs == 0) → test ≡ false → xs ≢ []
not_nil_from_test xs test is passes e = eqb-false (length xs) 0 (sym is ∙ passes) (ap length e)

pub length_from_not_nil : {X : Type 0} (xs : List X) → xs ≢ [] → 0 < length xs
length_from_not_nil [] some = absurd (some refl)
length_from_not_nil (x ∷ xs) some = omega arith

pub not_nil_front : {X : Type 0} (xs ys : List X) → xs ≢ [] → xs ++ ys ≢ []
not_nil_front [] ys some e = absurd (some refl)
not_nil_front (x ∷ xs) ys some e = absurd cc

pub not_nil_back : {X : Type 0} (xs ys : List X) → ys ≢ [] → xs ++ ys ≢ []
not_nil_back [] ys some e = some e
not_nil_back (x ∷ xs) ys some e = absurd cc
