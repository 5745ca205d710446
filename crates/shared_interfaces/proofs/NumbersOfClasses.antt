-- A number is that of a system class where the look-up by its name says so.
use Rattle.std.proofs.Common.{◌≡◌, ◌↔◌, ◌⊎◌, inl, inr, ℕ, Bool, true, false, IsTrue, List, codes, option_map, Option, Some, None, sym, ◌∙◌, ap, subst}
use Rattle.std.proofs.lemmas.Option.{same_Some}
use Rattle.jk_model.specs.declared.identifiers.ClassId.{ClassId}
use Rattle.jk_model_classes.specs.declared.records.ClassRecord.{ClassRecord}
use Rattle.jk_model_classes.specs.Classes.{Implements}
use Rattle.jk_model_classes.specs.Stubs.{ImplementsRemote}
use Rattle.shared_interfaces.specs.SystemNames.{IsNumberOf}

pub found_as_class : (n : Option ℕ) (found : Option ClassId) (c : ClassId) → found ≡ option_map (λ m. record { 0 = m }) n → (n ≡ Some c.0) ↔ (found ≡ Some c)
found_as_class None found c e = (λ h. absurd cc, λ h. absurd cc)
found_as_class (Some m) found c e =
    let one : (number : ℕ) → number ≡ m → found ≡ Some (record { 0 = number }) = λ number is. cc in
    (λ h. one c.0 (same_Some c.0 m (sym h)), λ h. ap Some (same_number (same_Some (record { 0 = m }) c (sym e ∙ h))))
  where
    same_number : let x : ClassId = record { 0 = m } in x ≡ c → m ≡ c.0
    same_number h = ap (λ (x : ClassId). x.0) h

-- ---- jk/Remote.

module _ (classes : List ClassRecord) (c : ClassId) (found : Option ClassId) (is : IsNumberOf (codes "jk/Remote") found) where
  pub implements_found : (remote : ClassId) (b : Bool) → found ≡ Some remote → IsTrue b ↔ Implements classes c remote → IsTrue b ↔ ImplementsRemote classes c
  implements_found remote b at h = (λ t. (remote, (is remote).1 at, h.0 t), λ g. h.1 (back g))
    where
      back : ImplementsRemote classes c → Implements classes c remote
      back (other, named, implements) =
          let same : other ≡ remote = same_Some other remote (sym ((is other).0 named) ∙ at) in
          subst (Implements classes c) same implements

  pub none_found : found ≡ None → ImplementsRemote classes c → ⊥
  none_found none (other, named, implements) = let no : None ≡ Some other = sym none ∙ (is other).0 named in cc

-- ---- One of three, where the first two tests are false.

pub third_alone : {A B C X Y Z : Type 0} {a b d : Bool} → (A ↔ X) → (B ↔ Y) → (C ↔ Z) → (IsTrue a ↔ X) → (IsTrue b ↔ Y) → (IsTrue d ↔ Z) → a ≡ false → b ≡ false
    → IsTrue d ↔ (A ⊎ B ⊎ C)
third_alone {A} {B} {C} {X} {Y} {Z} {a} {b} {d} of_a of_b of_c test_a test_b test_c no_a no_b = (λ t. inr (inr (of_c.1 (test_c.0 t))), back)
  where
    back : A ⊎ B ⊎ C → IsTrue d
    back (inl h) = let no : true ≡ false = sym (test_a.1 (of_a.0 h)) ∙ no_a in absurd cc
    back (inr (inl h)) = let no : true ≡ false = sym (test_b.1 (of_b.0 h)) ∙ no_b in absurd cc
    back (inr (inr h)) = test_c.1 (of_c.0 h)
