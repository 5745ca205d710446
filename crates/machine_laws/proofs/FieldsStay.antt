-- An object of a class that was there has the same fields with more classes behind, whose types are of classes that were there.
use Rattle.std.proofs.Common.{◌≡◌, ℕ, zero, suc, ◌+◌, Bool, true, false, not, cond, List, [], ◌∷◌, ◌++◌, flat_map, filter, Contains, Option, Some, None, refl, ap, ◌∙◌, inl, inr, arith}
use Rattle.std.specs.Option.{option_map_or}
use Rattle.std.proofs.lemmas.List.Elements.{Contains-append_cases}
use Rattle.list_lemmas.proofs.ItemsOfLists.{Contains-cases, Contains-flat_map_from, Contains-none, Contains-there, each-weaker, flat_map-same}
use Rattle.jk_model.specs.Flags.{has, STATIC}
use Rattle.jk_model.specs.declared.identifiers.ClassId.{ClassId}
use Rattle.jk_model_classes.specs.declared.records.ClassRecord.{ClassRecord}
use Rattle.jk_model_classes.specs.declared.records.FieldRecord.{FieldRecord}
use Rattle.jk_model_classes.specs.Classes.{AreOrdered, HasClass, IsBelow, parents_of, record_of}
use Rattle.class_lemmas.proofs.ClassesBelow.{parents-below}
use Rattle.jk_model_heaps.specs.Heaps.{field_records, field_records_within, own_field_records}
use Rattle.class_growth.specs.ClosedClasses.{HasType, IsClosed}
use Rattle.class_growth.proofs.MoreClasses.{record-kept}

-- ---- They are the same.

module _ (classes more : List ClassRecord) (ordered : AreOrdered classes) where
  abbrev all : List ClassRecord
  all = classes ++ more

  abbrev own_of : Option ClassRecord → List FieldRecord
  own_of o = option_map_or (λ (r : ClassRecord). filter (λ (f : FieldRecord). not (has f.flags STATIC)) r.fields) o []

  abbrev parents_in : Option ClassRecord → List ClassId
  parents_in o = option_map_or (λ (r : ClassRecord). option_map_or (λ p. p ∷ []) r.parent []) o []

  own_same : (c : ClassId) → HasClass classes c → own_field_records all c ≡ own_field_records classes c
  own_same c there = ap own_of (record-kept classes more c there)

  parents_same : (c : ClassId) → HasClass classes c → parents_of all c ≡ parents_of classes c
  parents_same c there = ap parents_in (record-kept classes more c there)

  within_same : (h : ℕ) (c : ClassId) → HasClass classes c → field_records_within h all c ≡ field_records_within h classes c
  within_same zero c there = refl
  within_same (suc h) c there =
      let lower : flat_map (field_records_within h all) (parents_of classes c) ≡ flat_map (field_records_within h classes) (parents_of classes c) =
      flat_map-same (field_records_within h all) (field_records_within h classes) (parents_of classes c)
      (each-weaker (IsBelow c.0) (λ p. field_records_within h all p ≡ field_records_within h classes p)
      (λ p below. within_same h p (omega (arith, below, there))) (parents_of classes c) (parents-below classes ordered c)) in
      ap (λ (ps : List ClassId). flat_map (field_records_within h all) ps ++ own_field_records all c) (parents_same c there)
      ∙ ap (λ (fs : List FieldRecord). fs ++ own_field_records all c) lower
      ∙ ap (λ (fs : List FieldRecord). flat_map (field_records_within h classes) (parents_of classes c) ++ fs) (own_same c there)

  pub field_records_same : (c : ClassId) → HasClass classes c → field_records all c ≡ field_records classes c
  field_records_same c there = within_same (c.0 + 1) c there

-- ---- Their types are of classes that are there.

module _ (classes : List ClassRecord) (closed : IsClosed classes) where
  filtered_by : (f g : FieldRecord) (rest : List FieldRecord) (fs : List FieldRecord) (b : Bool) → (Contains rest f → Contains fs f)
      → Contains (cond b (g ∷ rest) rest) f → Contains (g ∷ fs) f
  filtered_by f g rest fs true later has = elim (Contains-cases f g rest has) [
    | inl same ↦ (0, omega arith, same)
    | inr further ↦ Contains-there f g fs (later further)
  ]
  filtered_by f g rest fs false later has = Contains-there f g fs (later has)

  filtered : (test : FieldRecord → Bool) (fs : List FieldRecord) (f : FieldRecord) → Contains (filter test fs) f → Contains fs f
  filtered test [] f has = has
  filtered test (g ∷ fs) f has = filtered_by f g (filter test fs) fs (test g) (filtered test fs f) has

  own_closed : (c : ClassId) (o : Option ClassRecord) → record_of classes c ≡ o → (f : FieldRecord)
      → Contains (option_map_or (λ (r : ClassRecord). filter (λ (g : FieldRecord). not (has g.flags STATIC)) r.fields) o []) f
      → HasType classes f.kind
  own_closed c None is f on = absurd (Contains-none f on)
  own_closed c (Some r) is f on =
      (closed.each c r is).fields f (filtered (λ (g : FieldRecord). not (has g.flags STATIC)) r.fields f on)

  within_closed : (h : ℕ) (c : ClassId) (f : FieldRecord) → Contains (field_records_within h classes c) f → HasType classes f.kind
  within_closed zero c f has = absurd (Contains-none f has)
  within_closed (suc h) c f has =
      elim (Contains-append_cases (flat_map (field_records_within h classes) (parents_of classes c)) (own_field_records classes c) f has) [
        | inl above ↦
            let from = Contains-flat_map_from (field_records_within h classes) (parents_of classes c) f above in
            within_closed h from.0 f from.2
        | inr own ↦ own_closed c (record_of classes c) refl f own
      ]

  pub fields_closed : (c : ClassId) (f : FieldRecord) → Contains (field_records classes c) f → HasType classes f.kind
  fields_closed c f has = within_closed (c.0 + 1) c f has
