-- What is written at a place of the map of domains is written at the number that stands there.
use Rattle.std.proofs.Common.{◌≡◌, ℕ, suc, zero, ◌<◌, length, false, cond, List, ◌∷◌, [], Some, nat_eq, slice_get, sym, ap, ◌∙◌, refl, option_map, inl, inr, subst}
use Rattle.std.specs.List.{AllByRecursion, IsDistinct}
use Rattle.std.specs.Map.{keys_of, set_value}
use Rattle.std.specs.HashMap.{WritesThrough}
use Rattle.indexmap.specs.IndexMap.{set_value_at}
use Rattle.std.proofs.lemmas.Bool.{eq-eqb, eqb-false, eqb-true}
use Rattle.std.proofs.lemmas.Bool.Decides.{eqb_tells}
use Rattle.std.proofs.lemmas.Option.{slice_get-map, slice_get_within}
use Rattle.std.specs.Cmp.{IsEquivalence}
use Rattle.std.proofs.lemmas.Map.Keys.{IsDistinct-head, IsDistinct-tail}
use Rattle.indexmap.specs.IndexMap.{IndexMap, IsUnique, get, values, with_value_at}
use Rattle.indexmap.proofs.CallerLemmas.{keys-with_value_at, index_map_len-with_value_at, updates-with_value_at}
use Rattle.frame_store.specs.declared.domain_frames.DomainFrames.{DomainFrames}
use Rattle.frame_store.specs.StoreContents.{StandsAt}

unequal_at : {X : Type 0} (e d : ℕ) (es : List (ℕ × X)) (i : ℕ) (x : X) → AllByRecursion (λ k. nat_eq e k ≡ false) (keys_of es)
    → slice_get es i ≡ Some (d, x) → nat_eq e d ≡ false
unequal_at e d [] i x all at = absurd (cc)
unequal_at e d (f ∷ fs) zero x all at = let same : f.0 ≡ d = cc in ap (nat_eq e) (sym same) ∙ all.0
unequal_at e d (f ∷ fs) (suc i) x all at = unequal_at e d fs i x all.1 at

unequal : (a b : ℕ) → (a ≡ b → ⊥) → nat_eq a b ≡ false
unequal a b ne = elim (eqb_tells a b) [ inl same ↦ absurd (ne same.1) | inr other ↦ other.0 ]

both_ways : (a b : ℕ) → nat_eq a b ≡ nat_eq b a
both_ways a b =
    elim (eqb_tells a b) [
      | inl same ↦ same.0 ∙ sym (eq-eqb b a (sym same.1))
      | inr other ↦ other.0 ∙ sym (unequal b a (λ e. eqb-false a b other.0 (sym e)))
    ]

numbers_differ : IsEquivalence nat_eq
numbers_differ = record { refl = λ a. eq-eqb a a refl; symm = both_ways; congr = λ a b c e. ap (λ k. nat_eq k c) (eqb-true a b e) }

set_at : {X : Type 0} (d : ℕ) (es : List (ℕ × X)) (i : ℕ) (x y : X) → IsDistinct nat_eq (keys_of es) → slice_get es i ≡ Some (d, x)
    → set_value_at es i y ≡ set_value (nat_eq d) es y
set_at d [] i x y distinct at = absurd (cc)
set_at d (e ∷ es) zero x y distinct at =
    let same : e.0 ≡ d = cc in
    sym (ap (λ b. cond b ((e.0, y) ∷ es) (e ∷ set_value (nat_eq d) es y)) (eq-eqb d e.0 (sym same)))
set_at d (e ∷ es) (suc i) x y distinct at =
    let other : nat_eq d e.0 ≡ false = both_ways d e.0 ∙ unequal_at e.0 d es i x (IsDistinct-head nat_eq e.0 (keys_of es) distinct) at in
    ap (λ r. e ∷ r) (set_at d es i x y (IsDistinct-tail nat_eq e.0 (keys_of es) distinct) at)
    ∙ sym (ap (λ b. cond b ((e.0, y) ∷ es) (e ∷ set_value (nat_eq d) es y)) other)

module _ {S : Type 0} (m : IndexMap ℕ DomainFrames S) (d i : ℕ) (at : StandsAt m d i) where
  -- as if the number were looked up
  pub written_at : (y : DomainFrames) → IsUnique nat_eq m → WritesThrough nat_eq (nat_eq d) m y (with_value_at m i y)
  written_at y unique = (
    set_at d m.entries i at.domain y unique at.entry,
    keys-with_value_at m i y,
    index_map_len-with_value_at m i y,
    (λ _. updates-with_value_at m i y numbers_differ unique d at.domain at.entry),
    subst (IsDistinct nat_eq) (sym (keys-with_value_at m i y)) unique,
    refl,
    refl,
  )

  -- what stands there
  pub read_at : (x : DomainFrames) → Some x ≡ slice_get (values m) i → get nat_eq m d ≡ Some x
  read_at x e =
      let value = slice_get-map (λ (p : ℕ × DomainFrames). p.1) m.entries i ∙ ap (option_map (λ (p : ℕ × DomainFrames). p.1)) at.entry in
      at.is ∙ sym (e ∙ value)

  -- what stands there, read with its number
  pub read_pair : (k : ℕ) (x : DomainFrames) → slice_get m.entries i ≡ Some (k, x) → get nat_eq m d ≡ Some x
  read_pair k x e =
      let value = slice_get-map (λ (p : ℕ × DomainFrames). p.1) m.entries i ∙ ap (option_map (λ (p : ℕ × DomainFrames). p.1)) e in
      read_at x (sym value)

  pub within_map : i < length m.entries
  within_map = slice_get_within m.entries i _ at.entry
