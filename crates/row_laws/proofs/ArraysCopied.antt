-- arraycopy does something, whatever references and whole numbers it is given.
use Rattle.std.proofs.Common.{inl, inr, ◌≡◌, ℕ, ◌+◌, ◌||◌, ℤ, pos, negsuc, Bool, true, false, List, length, take, drop, Option, Some, None, MatchOption, refl, sym, ap, ◌∙◌, arith}
use Rattle.std.proofs.lemmas.Bool.{cases_lt}
use Rattle.jk_model.specs.declared.values.Value.{Value}
use Rattle.jk_model.specs.declared.values.Value.TheVariants as Held
use Rattle.jk_model_classes.specs.declared.records.BaseRef.{BaseRef}
use Rattle.jk_model_classes.specs.declared.records.TypeRef.{TypeRef}
use Rattle.jk_model_domains.specs.NumberRows.{is_null}
use Rattle.jk_model_domains.specs.Objects.{NamedObject, Object, Array, Plain, Task, Text, object_named}
use Rattle.jk_model_heaps.specs.Heaps.{with_object}
use Rattle.jk_model_heaps.specs.References.{IsHeapArray, IsNullOrInstance}
use Rattle.jk_model_heaps.specs.SystemClasses.{ARRAY_INDEX_EXCEPTION, ARRAY_STORE_EXCEPTION, NULL_POINTER_EXCEPTION}
use Rattle.jk_model_heaps.specs.Workings.{Inside, Setting, with_heap}
use Rattle.jk_model_heaps.proofs.ArraysInHeaps.{one_array}
use Rattle.jk_model_system_rows.specs.Answers.{Answered, fails_by, with_answer}
use Rattle.jk_model_system_rows.specs.ArrayCopies.{ArrayCopy, ArrayPair, CopiesItems, CopyRange, IsFittingFront, IsFront, at_null, copied, copies, copy_answer, number_kind, of_other_kinds, out_of_range}
use Rattle.decided_lookups.specs.Decisions.{IsDecided}
use Rattle.decided_lookups.proofs.DecidedParts.{HasDecidedEquality, either_decided, option_decided, same_decided}
use Rattle.decided_lookups.proofs.DecidedTypes.{type_ref_decided}
use Rattle.decided_lookups.proofs.ListsSearched.{longest_front}
use Rattle.row_laws.proofs.InstancesDecided.{instance_decided}

-- ---- Arrays of one kind.

base_decided : HasDecidedEquality BaseRef
base_decided a b =
    let of : BaseRef → TypeRef = λ (base : BaseRef). record { dims = 0; base = base } in
    same_decided (λ e. ap (λ (t : TypeRef). t.base) e) (λ e. ap of e) (type_ref_decided (of a) (of b))

module _ (heap : List NamedObject) where
  named_decided : (a : ℕ) (o : Option Object) → object_named heap a ≡ o → IsDecided (IsHeapArray heap (Held.Obj a))
  named_decided a (Some (Array t items)) is = inl (record { name = a; refers = refl; element = t; items = items; object = is })
  named_decided a None is = inr (λ h.
      let name : a ≡ h.name = let refers = h.refers in cc in
      let both : None ≡ Some (Array h.element h.items) = sym is ∙ ap (object_named heap) name ∙ h.object in
      absurd cc)
  named_decided a (Some (Plain c fields)) is = inr (λ h.
      let name : a ≡ h.name = let refers = h.refers in cc in
      let both : Some (Plain c fields) ≡ Some (Array h.element h.items) = sym is ∙ ap (object_named heap) name ∙ h.object in
      absurd cc)
  named_decided a (Some (Text units)) is = inr (λ h.
      let name : a ≡ h.name = let refers = h.refers in cc in
      let both : Some (Text units) ≡ Some (Array h.element h.items) = sym is ∙ ap (object_named heap) name ∙ h.object in
      absurd cc)
  named_decided a (Some (Task n)) is = inr (λ h.
      let name : a ≡ h.name = let refers = h.refers in cc in
      let both : Some (Task n) ≡ Some (Array h.element h.items) = sym is ∙ ap (object_named heap) name ∙ h.object in
      absurd cc)

  no_name : (v : Value) → ((a : ℕ) → v ≡ Held.Obj a → ⊥) → IsDecided (IsHeapArray heap v)
  no_name v none = inr (λ h. none h.name h.refers)

  array_decided : (v : Value) → IsDecided (IsHeapArray heap v)
  array_decided (Held.Obj a) = named_decided a (object_named heap a) refl
  array_decided (Held.Int n) = no_name (Held.Int n) (λ a e. absurd cc)
  array_decided (Held.Long n) = no_name (Held.Long n) (λ a e. absurd cc)
  array_decided Held.Null = no_name Held.Null (λ a e. absurd cc)
  array_decided (Held.Cap k) = no_name (Held.Cap k) (λ a e. absurd cc)
  array_decided Held.Unset = no_name Held.Unset (λ a e. absurd cc)

  pair_decided : (c : ArrayCopy) → IsDecided (ArrayPair heap c)
  pair_decided c = elim (array_decided c.source) [
    | inr none ↦ inr (λ p. none p.source)
    | inl source ↦ elim (array_decided c.target) [
      | inr none ↦ inr (λ p. none p.target)
      | inl target ↦ elim (option_decided base_decided (number_kind source.element) (number_kind target.element)) [
        | inl same ↦ inl (record { source = source; target = target; one_kind = same })
        | inr other ↦ inr (λ p. other
            (ap number_kind (one_array heap c.source c.source source p.source refl).element
            ∙ p.one_kind ∙ sym (ap number_kind (one_array heap c.target c.target target p.target refl).element)))
      ]
    ]
  ]

-- ---- Places and counts.

whole : (n : ℤ) → IsDecided ((m : ℕ) × (n ≡ pos m))
whole (pos m) = inl (m, refl)
whole (negsuc m) = inr (λ (k, e). absurd cc)

same_number : (n : ℤ) (j k : ℕ) → n ≡ pos j → n ≡ pos k → j ≡ k
same_number n j k e f = cc

range_decided : {heap : List NamedObject} {c : ArrayCopy} (p : ArrayPair heap c) → IsDecided (CopyRange p)
range_decided {c = c} p = elim (whole c.from) [
  | inr none ↦ inr (λ r. none (r.from, r.is_from))
  | inl (from, is_from) ↦ elim (whole c.to) [
    | inr none ↦ inr (λ r. none (r.to, r.is_to))
    | inl (to, is_to) ↦ elim (whole c.count) [
      | inr none ↦ inr (λ r. none (r.count, r.is_count))
      | inl (count, is_count) ↦ elim (cases_lt (length p.source.items) (from + count)) [
        | inl past ↦ inr (λ r.
            let one = same_number c.from from r.from is_from r.is_from in
            let many = same_number c.count count r.count is_count r.is_count in
            omega (arith, past, one, many, r.in_source))
        | inr in_source ↦ elim (cases_lt (length p.target.items) (to + count)) [
          | inl past ↦ inr (λ r.
              let one = same_number c.to to r.to is_to r.is_to in
              let many = same_number c.count count r.count is_count r.is_count in
              omega (arith, past, one, many, r.in_target))
          | inr in_target ↦ inl (record {
            from = from;
            is_from = is_from;
            to = to;
            is_to = is_to;
            count = count;
            is_count = is_count;
            in_source = in_source;
            in_target = in_target;
          })
        ]
      ]
    ]
  ]
]

-- ---- The items.

module _ (x : Setting) (heap : List NamedObject) where
  null_decided : (v : Value) → IsDecided (v ≡ Held.Null)
  null_decided Held.Null = inl refl
  null_decided (Held.Int n) = inr (λ e. absurd cc)
  null_decided (Held.Long n) = inr (λ e. absurd cc)
  null_decided (Held.Obj a) = inr (λ e. absurd cc)
  null_decided (Held.Cap k) = inr (λ e. absurd cc)
  null_decided Held.Unset = inr (λ e. absurd cc)

  fitting_decided : (t : TypeRef) (v : Value) → IsDecided (IsNullOrInstance x heap v t)
  fitting_decided t v = either_decided (null_decided v) (instance_decided x.classes x.caps heap v t)

  front_by : (t : TypeRef) (items : List Value) (kind : Option BaseRef)
      → (front : ℕ) × MatchOption kind (IsFittingFront x heap t items front) (λ (k : BaseRef). front ≡ length items)
  front_by t items None =
      let longest = longest_front (λ (v : Value). IsNullOrInstance x heap v t) (fitting_decided t) items in
      (longest.0, record { within = longest.1.within; fit = longest.1.each; next = longest.1.ends })
  front_by t items (Some kind) = (length items, refl)

  front_there : (t : TypeRef) (items : List Value) → (front : ℕ) × IsFront x heap t items front
  front_there t items = front_by t items (number_kind t)

-- ---- All of it.

module _ (x : Setting) (c : ArrayCopy) (old : Inside) where
  copies_range : (p : ArrayPair old.heap c) → (done : Answered) × CopiesItems x c old done
  copies_range p = elim (range_decided p) [
    | inr none ↦ (with_answer old (fails_by ARRAY_INDEX_EXCEPTION), out_of_range p none refl)
    | inl r ↦
        let front = front_there x old.heap p.target.element (take r.count (drop r.from p.source.items)) in (
          with_answer
              (with_heap old (with_object p.target.name (Array p.target.element (copied p.source.items r.from p.target.items r.to front.0)) old.heap))
              (copy_answer front.0 r.count),
          copies p r front.0 front.1 refl,
        )
  ]

  copies_by : (b : Bool) → (is_null c.source || is_null c.target) ≡ b → (done : Answered) × CopiesItems x c old done
  copies_by true null = (with_answer old (fails_by NULL_POINTER_EXCEPTION), at_null null refl)
  copies_by false some = elim (pair_decided old.heap c) [
    | inl p ↦ copies_range p
    | inr none ↦ (with_answer old (fails_by ARRAY_STORE_EXCEPTION), of_other_kinds some none refl)
  ]

  pub copy_there : (done : Answered) × CopiesItems x c old done
  copy_there = copies_by (is_null c.source || is_null c.target) refl
