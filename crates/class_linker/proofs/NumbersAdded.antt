-- The numbers of classes that are added in turn.
use Rattle.std.proofs.Common.{◌≡◌, ℕ, ◌+◌, ◌<◌, ◌≤◌, ◌⊎◌, inl, inr, List, length, sym, ◌∙◌, subst, arith, Option, Some, Result, Ok, Err, slice_get}
use Rattle.std.specs.Prelude.{OnOk}
use Rattle.std.proofs.lemmas.Bool.{cases_lt}
use Rattle.std.proofs.lemmas.Option.{same_Some, slice_get_within}
use Rattle.jk_model.specs.declared.descriptors.Base.TheVariants.{Class}
use Rattle.jk_model.specs.declared.descriptors.FieldType.{FieldType}
use Rattle.jk_model_classes.specs.Items.{HasItem, HasItemBefore}
use Rattle.jk_model_classes.specs.References.{IsResultOfClass}
use Rattle.class_linker.specs.KnownReferences.{Adds}
use Rattle.class_linker.specs.KnownTypes.{Meaning}

pub on_map : {T E : Type 0} (P Q : Type 0) (r : Result T E) → (P → Q) → OnOk r P → OnOk r Q
on_map P Q (Ok x) f h = f h
on_map P Q (Err e) f h = tt

pub adds_as : (m : Meaning) (P Q : List ℕ → Type 0) (a b : List ℕ) → ((name : List ℕ) → P name → Q name) → ((name : List ℕ) → Q name → P name)
    → Adds m P a b → Adds m Q a b
adds_as m P Q a b to from h = record {
  kept = h.kept;
  each = λ n there. elim (h.each n there) [
    | inl old ↦ inl old
    | inr new ↦ inr (new.0, to new.0 new.1, new.2)
  ];
  all = λ name class q is. h.all name class (from name q) is;
}

pub adds_then : (m : Meaning) (P Q R : List ℕ → Type 0) (a b c : List ℕ) → ((name : List ℕ) → P name → R name) → ((name : List ℕ) → Q name → R name)
    → ((name : List ℕ) → R name → P name ⊎ Q name) → Adds m P a b → Adds m Q b c → Adds m R a c
adds_then m P Q R a b c from_p from_q split first second = record {
  kept = λ n there. second.kept n (first.kept n there);
  each = λ n there. elim (second.each n there) [
    | inl old ↦ elim (first.each n old) [
      | inl older ↦ inl older
      | inr new ↦ inr (new.0, from_p new.0 new.1, new.2)
    ]
    | inr new ↦ inr (new.0, from_q new.0 new.1, new.2)
  ];
  all = λ name class r is. elim (split name r) [
    | inl p ↦ second.kept class.0 (first.all name class p is)
    | inr q ↦ second.all name class q is
  ];
}

-- nothing is added
pub adds_none : (m : Meaning) (P : List ℕ → Type 0) (a : List ℕ) → ((name : List ℕ) → P name → ⊥) → Adds m P a a
adds_none m P a never = record { kept = λ n there. there; each = λ n there. inl there; all = λ name class p is. absurd (never name p) }

-- ---- By places.

module _ (m : Meaning) (By : ℕ → List ℕ → Type 0) where
  pub adds_more : (k : ℕ) (a b c : List ℕ) → Adds m (λ name. (j : ℕ) × (j < k) × By j name) a b → Adds m (By k) b c
      → Adds m (λ name. (j : ℕ) × (j < k + 1) × By j name) a c
  adds_more k a b c first second =
      adds_then m (λ name. (j : ℕ) × (j < k) × By j name) (By k) (λ name. (j : ℕ) × (j < k + 1) × By j name) a b c
      (λ name (j, below, by). (j, omega arith, by)) (λ name by. (k, omega arith, by))
      (λ name (j, below, by). elim (cases_lt j k) [
        | inl less ↦ inl (j, less, by)
        | inr least ↦ let place : j ≡ k = omega arith in inr (subst (λ (n : ℕ). By n name) place by)
      ])
      first second

  pub adds_all : (k : ℕ) (a b : List ℕ) → ((j : ℕ) (name : List ℕ) → By j name → j < k) → Adds m (λ name. (j : ℕ) × (j < k) × By j name) a b
      → Adds m (λ name. (j : ℕ) × By j name) a b
  adds_all k a b within h =
      adds_as m (λ name. (j : ℕ) × (j < k) × By j name) (λ name. (j : ℕ) × By j name) a b (λ name (j, below, by). (j, by))
      (λ name (j, by). (j, within j name by, by)) h

-- ---- Classes in descriptors.

pub result_names : (name : List ℕ) (of : Option FieldType) (t : FieldType) → of ≡ Some t → IsResultOfClass name of → t.base ≡ Class name
result_names name of t is (u, e, k) = subst (λ (x : FieldType). x.base ≡ Class name) (same_Some u t (sym e ∙ is)) k
