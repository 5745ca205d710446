-- The methods of a class that run for another have its name and type, and so they are found by these, one after the other.
use Rattle.std.proofs.Common.{◌≡◌, ℕ, ◌+◌, ◌<◌, ◌≤◌, List, length, Some, None, ap, subst, ◌∙◌, ◌⊎◌, inl, inr, arith}
use Rattle.std.proofs.lemmas.Bool.{cases_eq, cases_lt}
use Rattle.std.proofs.lemmas.Option.{slice_get_within}
use Rattle.jk_model.specs.declared.identifiers.ClassId.{ClassId}
use Rattle.jk_model.specs.declared.identifiers.MemberId.{MemberId}
use Rattle.jk_model_classes.specs.declared.records.ClassRecord.{ClassRecord}
use Rattle.jk_model_classes.specs.declared.records.MethodRecord.{MethodRecord}
use Rattle.jk_model_classes.specs.Classes.{record_of, IsInterface}
use Rattle.jk_model_classes.specs.Lookups.{FindsFrom, IsMethodOf, IsOverriddenIn, MethodIs, RunsFor}
use Rattle.class_lemmas.proofs.OneRecord.{one_method}

-- no method of class d before this place runs for m
abbrev pub NoneBefore : List ClassRecord → MemberId → ClassId → ℕ → Type 0
NoneBefore classes m d from = (i : ℕ) → i < from → RunsFor classes m (record { class = d; index = i }) → ⊥

module _ (classes : List ClassRecord) (m : MemberId) (called : MethodRecord) (is : MethodIs classes m called) where
  namesake_by : (other : MemberId) (method o : MethodRecord) → method ≡ called → MethodIs classes other o
      → (other ≡ m)
      ⊎ ((o.name ≡ method.name) × (o.kind ≡ method.kind) × (IsInterface classes m.class ⊎ IsOverriddenIn classes m method.flags other.class))
      → IsMethodOf classes called.name called.kind other
  namesake_by other method o same at (inl e) =
      let whole : o ≡ called = one_method classes m o called (subst (λ (x : MemberId). MethodIs classes x o) e at) is in
      (o, at, ap (λ (x : MethodRecord). x.name) whole, ap (λ (x : MethodRecord). x.kind) whole)
  namesake_by other method o same at (inr (named, typed, why)) =
      (o, at, named ∙ ap (λ (x : MethodRecord). x.name) same, typed ∙ ap (λ (x : MethodRecord). x.kind) same)

  -- what runs for the method has its name and type
  pub namesake : (other : MemberId) → RunsFor classes m other → IsMethodOf classes called.name called.kind other
  namesake other h = namesake_by other h.method h.other_method (one_method classes m h.method called h.m_is is) h.other_is h.suits

  -- ---- The methods of class d at a place or after it.

  pub none-before_first : (d : ClassId) → NoneBefore classes m d 0
  none-before_first d i lt h = omega arith

  -- the next of that name and type runs for it
  pub first-runner : (d : ClassId) (from i : ℕ) → NoneBefore classes m d from → FindsFrom (IsMethodOf classes called.name called.kind) d from (Some i)
      → RunsFor classes m (record { class = d; index = i }) → FindsFrom (RunsFor classes m) d 0 (Some i)
  first-runner d from i before found runs =
      record {
        suits = runs;
        not_before = omega arith;
        first = λ j low lt h. elim (cases_lt j from) [
          | inl early ↦ before j early h
          | inr late ↦ found.first j late lt (namesake (record { class = d; index = j }) h)
        ];
      }

  -- the next of that name and type doesn't run for it
  pub none-before_next : (d : ClassId) (from i : ℕ) → NoneBefore classes m d from → FindsFrom (IsMethodOf classes called.name called.kind) d from (Some i)
      → (RunsFor classes m (record { class = d; index = i }) → ⊥) → NoneBefore classes m d (i + 1)
  none-before_next d from i before found never j lt h = elim (cases_eq j i) [
    | inl same ↦ never (subst (λ (k : ℕ). RunsFor classes m (record { class = d; index = k })) same h)
    | inr other ↦
        elim (cases_lt j from) [
          | inl early ↦ before j early h
          | inr late ↦ found.first j late (omega arith) (namesake (record { class = d; index = j }) h)
        ]
  ]

  -- there is no further one of that name and type
  pub no-runner : (d : ClassId) (from : ℕ) → NoneBefore classes m d from → FindsFrom (IsMethodOf classes called.name called.kind) d from None
      → FindsFrom (RunsFor classes m) d 0 None
  no-runner d from before none i low h = elim (cases_lt i from) [
    | inl early ↦ before i early h
    | inr late ↦ none i late (namesake (record { class = d; index = i }) h)
  ]

-- a method's place is below 65,535 where no class has more than that many methods
pub place-fits : (classes : List ClassRecord) → ((c : ClassId) (r : ClassRecord) → record_of classes c ≡ Some r
    → (length r.fields ≤ 65535) × (length r.methods ≤ 65535)) → (other : MemberId) (method : MethodRecord) → MethodIs classes other method
    → other.index < 65535
place-fits classes few other method (r, at, there) =
    let within = slice_get_within r.methods other.index method there in
    omega (arith, (few other.class r at).1)
