-- The first static field of a class is the least number at which it has one.
use Rattle.std.proofs.Common.{◌≡◌, ℕ, ◌+◌, ◌<◌, ◌≤◌, inl, inr, false, true, List, length, Some, None, refl, sym, ◌∙◌, ap, subst, slice_get, Contains, Option, arith}
use Rattle.std.proofs.lemmas.Bool.{cases_lt}
use Rattle.std.proofs.lemmas.Option.{same_Some, slice_get_within}
use Rattle.jk_model.specs.Flags.{has, STATIC}
use Rattle.jk_model.specs.declared.identifiers.ClassId.{ClassId}
use Rattle.jk_model_classes.specs.declared.records.ClassRecord.{ClassRecord}
use Rattle.jk_model_classes.specs.declared.records.FieldRecord.{FieldRecord}
use Rattle.jk_model_classes.specs.declared.sharing.Offer.{Offer}
use Rattle.jk_model_classes.specs.Classes.{record_of}
use Rattle.jk_model_classes.specs.SharedRules.{BreaksC25}
use Rattle.shared_interfaces.specs.Earliest.{IsLeast}
use Rattle.shared_interfaces.specs.Shapes.{IsStaticAt}

module _ (fields : List FieldRecord) where
  pub none_static_yet : (n : ℕ) → n < 0 + 1 → IsStaticAt fields n → ⊥
  none_static_yet n below (i, field, at, is, e) = omega arith

  module _ (i : ℕ) (none : (n : ℕ) → n < i + 1 → IsStaticAt fields n → ⊥) where
    pub none_static_here : (field : FieldRecord) → slice_get fields i ≡ Some field → has field.flags STATIC ≡ false → (n : ℕ)
        → n < i + 1 + 1 → IsStaticAt fields n → ⊥
    none_static_here field at not_so n below (j, other, at_j, is, e) =
        elim (cases_lt j i) [
          | inl less ↦ none n (omega arith) (j, other, at_j, is, e)
          | inr least ↦
              let here : j ≡ i = omega arith in
              let same : other ≡ field = same_Some other field (sym at_j ∙ ap (slice_get fields) here ∙ at) in
              let no : true ≡ false = sym is ∙ ap (λ (f : FieldRecord). has f.flags STATIC) same ∙ not_so in
              cc
        ]

    pub static_here : (field : FieldRecord) → slice_get fields i ≡ Some field → has field.flags STATIC ≡ true → IsLeast (IsStaticAt fields) (Some (i + 1))
    static_here field at so = ((i, field, at, so, refl), none)

    pub none_static : length fields ≤ i → IsLeast (IsStaticAt fields) None
    none_static all n (j, field, at, is, e) = none n (omega (arith, slice_get_within fields j field at)) (j, field, at, is, e)

-- ---- C25.

module _ (classes : List ClassRecord) (first : ClassId) (offers : List Offer) (c : ClassId) (r : ClassRecord)
    (at : record_of classes c ≡ Some r) (low : first.0 ≤ c.0)
  where
    breaks_there : ((o : Offer) × Contains offers o × (o.class ≡ c)) → (n : ℕ) → IsStaticAt r.fields n → BreaksC25 classes first offers c n
    breaks_there shared n (i, field, at_i, is, e) = ((low, slice_get_within classes c.0 r at), shared, (i, field, (r, at, at_i), is, e))

    breaks_only_there : (n : ℕ) → BreaksC25 classes first offers c n → IsStaticAt r.fields n
    breaks_only_there n (of_folder, shared, (i, field, (s, at_s, at_i), is, e)) =
        let same : s ≡ r = same_Some s r (sym at_s ∙ at) in
        (i, field, subst (λ (x : ClassRecord). slice_get x.fields i ≡ Some field) same at_i, is, e)

    pub breaks_by_field : ((o : Offer) × Contains offers o × (o.class ≡ c)) → (found : Option ℕ) → IsLeast (IsStaticAt r.fields) found
        → IsLeast (BreaksC25 classes first offers c) found
    breaks_by_field shared None none = λ n h. none n (breaks_only_there n h)
    breaks_by_field shared (Some n) least = (breaks_there shared n least.0, λ m below h. least.1 m below (breaks_only_there m h))
