-- A walk over classes finds the first member that suits, or nothing, where each member suits or doesn't and each class has so many
-- members at most that could.
use Rattle.std.proofs.Common.{◌≡◌, ℕ, zero, suc, ◌<◌, ◌⊎◌, inl, inr, List, [], ◌∷◌, length, Option, Some, None, refl, sym, ap, subst, ◌∙◌, arith}
use Rattle.std.specs.Prelude.{slice_get}
use Rattle.std.proofs.lemmas.Bool.{cases_lt}
use Rattle.std.proofs.lemmas.Option.{same_Some, slice_get_within}
use Rattle.jk_model.specs.declared.descriptors.MethodType.{MethodType}
use Rattle.jk_model.specs.declared.identifiers.ClassId.{ClassId}
use Rattle.jk_model.specs.declared.identifiers.MemberId.{MemberId}
use Rattle.jk_model_classes.specs.declared.records.ClassRecord.{ClassRecord}
use Rattle.jk_model_classes.specs.declared.records.FieldRecord.{FieldRecord}
use Rattle.jk_model_classes.specs.declared.records.MethodRecord.{MethodRecord}
use Rattle.jk_model_classes.specs.declared.records.TypeRef.{TypeRef}
use Rattle.jk_model_classes.specs.Classes.{record_of, field_walk, method_walk, superclasses}
use Rattle.jk_model_classes.specs.Items.{HasItemBefore}
use Rattle.jk_model_classes.specs.Lookups.{Declares, FieldIs, FindsField, FindsMethod, FindsOn, IsFieldOf, IsFirstOf, IsMethodOf, IsUnlessAbstract, MethodIs, RunsFor, Selects}
use Rattle.list_lemmas.proofs.ItemsOfLists.{Contains-cases, Contains-none}
use Rattle.decided_lookups.specs.Decisions.{IsDecided}
use Rattle.decided_lookups.proofs.DecidedRecords.{abstract_decided, field_decided, method_decided, runs_decided}

abbrev pub member_at : ClassId → ℕ → MemberId
member_at c i = record { class = c; index = i }

-- no member of the class suits from a number on
abbrev pub AreFew : (MemberId → Type 0) → ClassId → Type 0
AreFew Suits c = (n : ℕ) × ((i : ℕ) → Suits (member_at c i) → i < n)

module _ (Suits : MemberId → Type 0) (decide : (m : MemberId) → IsDecided (Suits m)) where
  -- of the first n members of a class
  abbrev FirstBelow : ClassId → ℕ → Type 0
  FirstBelow c n =
      ((i : ℕ) × IsFirstOf Suits (member_at c i)) ⊎ ((i : ℕ) → i < n → Suits (member_at c i) → ⊥)

  next_below : (c : ClassId) (n : ℕ) → ((i : ℕ) → i < n → Suits (member_at c i) → ⊥) → IsDecided (Suits (member_at c n)) → FirstBelow c (suc n)
  next_below c n none (inl suits) = inl (n, record { suits = suits; first = none })
  next_below c n none (inr fails) = inr (λ i low suits. elim (cases_lt i n) [
    | inl below ↦ none i below suits
    | inr above ↦
        let last : i ≡ n = omega arith in
        fails (subst (λ (k : ℕ). Suits (member_at c k)) last suits)
  ])

  first_below : (c : ClassId) (n : ℕ) → FirstBelow c n
  first_below c zero = inr (λ i low suits. omega (arith, low))
  first_below c (suc n) = elim (first_below c n) [
    | inl found ↦ inl found
    | inr none ↦ next_below c n none (decide (member_at c n))
  ]

  -- the first member of a class that suits, or none
  first_declared : (c : ClassId) → AreFew Suits c → ((i : ℕ) × IsFirstOf Suits (member_at c i)) ⊎ (Declares Suits c → ⊥)
  first_declared c few = elim (first_below c few.0) [
    | inl found ↦ inl found
    | inr none ↦ inr (λ (i, suits). none i (few.1 i suits) suits)
  ]

  module _ (few : (c : ClassId) → AreFew Suits c) where
    earlier_none : (c : ClassId) (walk : List ClassId) (place : ℕ) → (Declares Suits c → ⊥) → (HasItemBefore place (Declares Suits) walk → ⊥)
        → HasItemBefore (suc place) (Declares Suits) (c ∷ walk) → ⊥
    earlier_none c walk place fails none (zero, d, low, at, declares) = fails (subst (Declares Suits) (sym (same_Some c d at)) declares)
    earlier_none c walk place fails none (suc i, d, low, at, declares) = none (i, d, omega (arith, low), at, declares)

    after_none : (c : ClassId) (walk : List ClassId) → (Declares Suits c → ⊥) → (found : Option MemberId) → FindsOn Suits walk found
        → FindsOn Suits (c ∷ walk) found
    after_none c walk fails None nowhere = λ d on declares. elim (Contains-cases d c walk on) [
      | inl here ↦ fails (subst (Declares Suits) (sym here) declares)
      | inr later ↦ nowhere d later declares
    ]
    after_none c walk fails (Some m) first =
        record {
          member = first.member;
          place = suc first.place;
          visited = first.visited;
          earlier = earlier_none c walk first.place fails first.earlier;
        }

    pub walk_finds : (walk : List ClassId) → (found : Option MemberId) × FindsOn Suits walk found
    walk_finds [] = (None, λ c on declares. Contains-none c on)
    walk_finds (c ∷ walk) = elim (first_declared c (few c)) [
      | inl (i, first) ↦ (
        Some (member_at c i),
        record { member = first; place = 0; visited = refl; earlier = λ (j, d, low, at, declares). omega (arith, low) },
      )
      | inr fails ↦
          let rest = walk_finds walk in
          (rest.0, after_none c walk fails rest.0 rest.1)
    ]

-- ---- Members by their records.

module _ (classes : List ClassRecord) where
  fields_few : (Suits : MemberId → Type 0) → ((m : MemberId) → Suits m → (field : FieldRecord) × FieldIs classes m field)
      → (c : ClassId) (o : Option ClassRecord) → record_of classes c ≡ o → AreFew Suits c
  fields_few Suits has c None is = (0, λ i suits. let (field, (r, is_too, at)) = has (member_at c i) suits in absurd cc)
  fields_few Suits has c (Some r) is = (
    length r.fields,
    λ i suits.
        let (field, (q, is_too, at)) = has (member_at c i) suits in
        let same : r ≡ q = same_Some r q (sym is ∙ is_too) in
        slice_get_within r.fields i field (ap (λ (x : ClassRecord). slice_get x.fields i) same ∙ at),
  )

  methods_few : (Suits : MemberId → Type 0) → ((m : MemberId) → Suits m → (method : MethodRecord) × MethodIs classes m method)
      → (c : ClassId) (o : Option ClassRecord) → record_of classes c ≡ o → AreFew Suits c
  methods_few Suits has c None is = (0, λ i suits. let (method, (r, is_too, at)) = has (member_at c i) suits in absurd cc)
  methods_few Suits has c (Some r) is = (
    length r.methods,
    λ i suits.
        let (method, (q, is_too, at)) = has (member_at c i) suits in
        let same : r ≡ q = same_Some r q (sym is ∙ is_too) in
        slice_get_within r.methods i method (ap (λ (x : ClassRecord). slice_get x.methods i) same ∙ at),
  )

  pub field_found : (c : ClassId) (name : List ℕ) (kind : TypeRef) → (found : Option MemberId) × FindsField classes c name kind found
  field_found c name kind =
      walk_finds (IsFieldOf classes name kind) (field_decided classes name kind)
      (λ d. fields_few (IsFieldOf classes name kind) (λ m suits. (suits.0, suits.1)) d (record_of classes d) refl) (field_walk classes c)

  pub method_found : (c : ClassId) (name : List ℕ) (kind : MethodType) → (found : Option MemberId) × FindsMethod classes c name kind found
  method_found c name kind =
      walk_finds (IsMethodOf classes name kind) (method_decided classes name kind)
      (λ d. methods_few (IsMethodOf classes name kind) (λ m suits. (suits.0, suits.1)) d (record_of classes d) refl) (method_walk classes c)

  pub runner_found : (m : MemberId) (walk : List ClassId) → (found : Option MemberId) × FindsOn (RunsFor classes m) walk found
  runner_found m walk =
      walk_finds (RunsFor classes m) (runs_decided classes m)
      (λ d. methods_few (RunsFor classes m) (λ other suits. (suits.other_method, suits.other_is)) d (record_of classes d) refl) walk

  unless_abstract : (found : Option MemberId) → (selected : Option MemberId) × IsUnlessAbstract classes found selected
  unless_abstract None = (None, refl)
  unless_abstract (Some m) = elim (abstract_decided classes m) [
    | inl abstract ↦ (None, inl (abstract, refl))
    | inr concrete ↦ (Some m, inr (concrete, refl))
  ]

  pub call_selects : (receiver : ClassId) (m : MemberId) → (selected : Option MemberId) × Selects classes receiver m selected
  call_selects receiver m =
      let found = runner_found m (superclasses classes receiver) in
      let selected = unless_abstract found.0 in
      (selected.0, (found.0, found.1, selected.1))
