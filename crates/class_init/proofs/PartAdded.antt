-- A class that has no part gets one.
use Rattle.std.proofs.Common.{◌≡◌, ℕ, ◌∙◌, List, [], ◌∷◌, ◌++◌, map, refl, sym, ap, Bool, true, false, true≢false, None, nat_eq, find}
use Rattle.std.specs.Prelude.{◌==◌}
use Rattle.std.specs.List.{list_any, IsDistinct}
use Rattle.std.proofs.lemmas.Bool.{eq-eqb, ne_eqb}
use Rattle.std.proofs.lemmas.List.{map-append}
use Rattle.jk_model_domains.specs.OwnStates.{ClassPart}
use Rattle.class_init.specs.declared.class_parts.Part.{Part}
use Rattle.class_init.specs.Parts.{AreNumbered, class_part, class_number, part_in}
use Rattle.indexmap.specs.IndexSet.{insert_key}

-- a number that no item has is not among the numbers
absent : {X : Type 0} (key : X → ℕ) (xs : List X) (k : ℕ) → find (λ (e : X). key e == k) xs ≡ None → list_any (nat_eq k) (map key xs) ≡ false
absent key [] k e = refl
absent {X = X} key (x ∷ xs) k e = by_test (key x == k) refl (λ t. absent key xs k (rw t at e))
  where
    by_test : (b : Bool) → key x == k ≡ b → (key x == k ≡ false → list_any (nat_eq k) (map key xs) ≡ false) → list_any (nat_eq k) (map key (x ∷ xs)) ≡ false
    by_test true t later = let s = rw t at e in cc
    by_test false t later =
        let no : nat_eq k (key x) ≡ false = ne_eqb k (key x) (λ s. true≢false (sym (eq-eqb (key x) k (sym s)) ∙ t)) in
        rw no (later t)

numbers_of : (ps : List Part) → map (λ (e : ClassPart). e.class.0) (map class_part ps) ≡ map class_number ps
numbers_of [] = refl
numbers_of (p ∷ ps) = ap (λ (ns : List ℕ). p.class.0 ∷ ns) (numbers_of ps)

pub numbered_more : (ps : List Part) (old new : List ℕ) (p : Part) → AreNumbered ps old → part_in (map class_part ps) p.class ≡ None
    → new ≡ insert_key nat_eq old p.class.0 → IsDistinct nat_eq new → AreNumbered (ps ++ p ∷ []) new
numbered_more ps old new p h none is apart = record {
  are =
      let out : list_any (nat_eq p.class.0) old ≡ false =
      rw (h.are, ← numbers_of ps) (absent (λ (e : ClassPart). e.class.0) (map class_part ps) p.class.0 none) in
      let last : insert_key nat_eq old p.class.0 ≡ old ++ p.class.0 ∷ [] = rw out refl in
      is ∙ last ∙ ap (λ (ns : List ℕ). ns ++ p.class.0 ∷ []) h.are ∙ sym (map-append class_number ps (p ∷ []));
  apart = apart;
}
