-- The values of static fields after a class got another state, or a static field another value.
use Rattle.std.proofs.Common.{◌≡◌, inl, inr, ℕ, ◌⊎◌, Bool, true, false, ◌==◌, List, [], ◌∷◌, find, Option, Some, refl, sym, ◌∙◌}
use Rattle.std.specs.Prelude.{option_map, option_and_then}
use Rattle.std.proofs.lemmas.Bool.{eqb-true}
use Rattle.jk_model.specs.declared.identifiers.ClassId.{ClassId}
use Rattle.jk_model.specs.declared.identifiers.MemberId.{MemberId}
use Rattle.jk_model.specs.declared.values.Value.{Value}
use Rattle.model_lemmas.proofs.SameNumbers.{same_class, same_member}
use Rattle.jk_model_domains.specs.declared.states.ClassState.{ClassState}
use Rattle.jk_model_domains.specs.OwnStates.{ClassPart, StaticField, static_in, with_field, with_part}

-- ---- Parts in a list.

abbrev pub value_in : List ClassPart → MemberId → Option Value
value_in ps m = option_and_then (static_in m.index) (find (λ (e : ClassPart). e.class.0 == m.class.0) ps)

abbrev pub stated : ClassState → ClassPart → ClassPart
stated s e = record e { state = s }

abbrev pub valued : MemberId → Value → ClassPart → ClassPart
valued m v e = record e { statics = with_field m.index v e.statics }

pub value-unstated : (ps : List ClassPart) (c : ClassId) (s : ClassState) (m : MemberId) → value_in (with_part c (stated s) ps) m ≡ value_in ps m
value-unstated [] c s m = refl
value-unstated (e ∷ ps) c s m = by_tests (e.class.0 == c.0) (e.class.0 == m.class.0) refl refl (value-unstated ps c s m)
  where
    by_tests : (a b : Bool) → e.class.0 == c.0 ≡ a → e.class.0 == m.class.0 ≡ b → value_in (with_part c (stated s) ps) m ≡ value_in ps m
        → value_in (with_part c (stated s) (e ∷ ps)) m ≡ value_in (e ∷ ps) m
    by_tests true true p q rest = rw (p, q) refl
    by_tests true false p q rest = rw (p, q) rest
    by_tests false true p q rest = rw (p, q) refl
    by_tests false false p q rest = rw (p, q) rest

-- ---- A static field that was given a value.

abbrev field_in : List StaticField → ℕ → Option Value
field_in fs k = option_map (λ (f : StaticField). f.value) (find (λ (f : StaticField). f.index == k) fs)

field-changed : (fs : List StaticField) (n : ℕ) (v : Value) (k : ℕ) (w : Value) → field_in (with_field n v fs) k ≡ Some w
    → (field_in fs k ≡ Some w) ⊎ ((k ≡ n) × (w ≡ v))
field-changed [] n v k w found = inl found
field-changed (f ∷ fs) n v k w found = by_tests (f.index == n) (f.index == k) refl refl (field-changed fs n v k w) found
  where
    by_tests : (a b : Bool) → f.index == n ≡ a → f.index == k ≡ b
        → (field_in (with_field n v fs) k ≡ Some w → (field_in fs k ≡ Some w) ⊎ ((k ≡ n) × (w ≡ v)))
        → field_in (with_field n v (f ∷ fs)) k ≡ Some w → (field_in (f ∷ fs) k ≡ Some w) ⊎ ((k ≡ n) × (w ≡ v))
    by_tests true true p q rest there =
        let now : Some v ≡ Some w = rw (p, q) at there in
        inr (sym (eqb-true f.index k q) ∙ eqb-true f.index n p, cc)
    by_tests true false p q rest there = rw q (rest (rw (p, q) at there))
    by_tests false true p q rest there = inl (rw q (rw (p, q) at there))
    by_tests false false p q rest there = rw q (rest (rw (p, q) at there))

pub value-changed : (ps : List ClassPart) (m : MemberId) (v : Value) (k : MemberId) (w : Value)
    → value_in (with_part m.class (valued m v) ps) k ≡ Some w → (value_in ps k ≡ Some w) ⊎ ((k ≡ m) × (w ≡ v))
value-changed [] m v k w found = inl found
value-changed (e ∷ ps) m v k w found = by_tests (e.class.0 == m.class.0) (e.class.0 == k.class.0) refl refl (value-changed ps m v k w) found
  where
    one : e.class.0 == m.class.0 ≡ true → e.class.0 == k.class.0 ≡ true → (field_in e.statics k.index ≡ Some w) ⊎ ((k.index ≡ m.index) × (w ≡ v))
        → (value_in (e ∷ ps) k ≡ Some w) ⊎ ((k ≡ m) × (w ≡ v))
    one p q (inl old) = inl (rw q old)
    one p q (inr new) =
        inr (same_member k m (same_class k.class m.class (sym (eqb-true e.class.0 k.class.0 q) ∙ eqb-true e.class.0 m.class.0 p)) new.0, new.1)

    by_tests : (a b : Bool) → e.class.0 == m.class.0 ≡ a → e.class.0 == k.class.0 ≡ b
        → (value_in (with_part m.class (valued m v) ps) k ≡ Some w → (value_in ps k ≡ Some w) ⊎ ((k ≡ m) × (w ≡ v)))
        → value_in (with_part m.class (valued m v) (e ∷ ps)) k ≡ Some w → (value_in (e ∷ ps) k ≡ Some w) ⊎ ((k ≡ m) × (w ≡ v))
    by_tests true true p q rest there = one p q (field-changed e.statics m.index v k.index w (rw (p, q) at there))
    by_tests true false p q rest there = rw q (rest (rw (p, q) at there))
    by_tests false true p q rest there = inl (rw q (rw (p, q) at there))
    by_tests false false p q rest there = rw q (rest (rw (p, q) at there))
