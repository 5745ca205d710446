-- The name of a class is what has names between its slashes.
use Rattle.std.proofs.Common.{◌≡◌, ◌≢◌, ◌==◌, ℕ, List, [], ◌∷◌, length, refl, sym, ◌∙◌, ap, subst, arith, Bool, false, inl, inr}
use Rattle.std.proofs.lemmas.Bool.Decides.{eqb_tells}
use Rattle.std.proofs.lemmas.List.Elements.{All-from_recursion, recursion_from_All}
use Rattle.std.proofs.lemmas.List.Splits.{slice_split_none, slice_split_at, length-slice_split, join_with_byte-slice_split}
use Rattle.std.specs.List.{All, AllByRecursion, join_with_byte, slice_split}
use Rattle.jk_model.specs.Descriptors.{IsNameUnit, IsName, IsClassName}

abbrev pub is_slash : ℕ → Bool
is_slash u = u == 47

no_slash : (name : List ℕ) → AllByRecursion IsNameUnit name → AllByRecursion (λ u. is_slash u ≡ false) name
no_slash [] h = tt
no_slash (u ∷ name) (own, more) = (elim (eqb_tells u 47) [ inl (_, same) ↦ absurd (own.3 same) | inr (e, _) ↦ e ], no_slash name more)

within : (name : List ℕ) → IsName name → All (λ u. is_slash u ≡ false) name
within name (some, units) = All-from_recursion (λ u. is_slash u ≡ false) name (no_slash name units)

parts_of_names : (names : List (List ℕ)) → names ≢ [] → AllByRecursion IsName names → slice_split is_slash (join_with_byte 47 names) ≡ names
parts_of_names [] some h = absurd (some refl)
parts_of_names (name ∷ []) some h = slice_split_none is_slash name (within name h.0)
parts_of_names (name ∷ next ∷ names) some h =
    slice_split_at is_slash name 47 (join_with_byte 47 (next ∷ names)) (within name h.0) refl
    ∙ ap (λ (parts : List (List ℕ)). name ∷ parts) (parts_of_names (next ∷ names) (λ e. absurd cc) h.1)

pub names_from_class : (units : List ℕ) → IsClassName units → All IsName (slice_split is_slash units)
names_from_class units (names, some, all, e) =
    let parts : slice_split is_slash units ≡ names = ap (slice_split is_slash) e ∙ parts_of_names names some all in
    All-from_recursion IsName (slice_split is_slash units) (subst (AllByRecursion IsName) (sym parts) all)

pub class_from_names : (units : List ℕ) → All IsName (slice_split is_slash units) → IsClassName units
class_from_names units h = (
  slice_split is_slash units,
  (λ e. absurd (omega (arith, length-slice_split is_slash units, ap length e))),
  recursion_from_All IsName (slice_split is_slash units) h,
  sym (join_with_byte-slice_split 47 units),
)
