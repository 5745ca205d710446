-- Where a class is put after the others, where later classes are dropped, and where a class gets other links, the lower classes stay
-- as they are, as far as what stands above them and what an object of them is made of are concerned.
use Rattle.std.proofs.Common.{◌≡◌, ℕ, zero, suc, ◌+◌, ◌<◌, List, [], ◌∷◌, ◌++◌, length, take, set, Some, flat_map, refl, sym, ap, ◌∙◌, inl, inr, arith}
use Rattle.std.specs.Option.{option_map_or}
use Rattle.std.proofs.lemmas.Bool.{cases_eq}
use Rattle.std.proofs.lemmas.Option.{slice_get_within}
use Rattle.jk_model.specs.declared.identifiers.ClassId.{ClassId}
use Rattle.jk_model_classes.specs.declared.records.ClassRecord.{ClassRecord}
use Rattle.jk_model_classes.specs.declared.records.Link.{Link}
use Rattle.jk_model_classes.specs.Classes.{record_of, parents_of, listed_interfaces, GetsLinks, IsBelow, StandsAbove, AreOrdered, superclasses_within, superclasses, with_interfaces_within, with_interfaces, own_interfaces, field_walk}
use Rattle.jk_model_classes.specs.Layouts.{own_fields, fields_within, instance_fields}
use Rattle.class_table.specs.OwnFields.{own_of}
use Rattle.list_lemmas.proofs.ItemsByPlace.{slice_get-front, slice_get-take, slice_get-from_take, slice_get-set_same, slice_get-set_other, slice_get-push_cases, slice_get-set_cases}
use Rattle.list_lemmas.proofs.ItemsOfLists.{each-weaker, flat_map-same}
use Rattle.class_lemmas.proofs.ClassesBelow.{parents-below, interfaces-below}
use Rattle.class_lemmas.proofs.LowerClassesDecide.{AgreeAt, AgreeBelow}
use Rattle.class_table.proofs.HeightsAreEnough.{superclasses-below}

agree-from_same : (a b : List ClassRecord) (c : ClassId) → record_of a c ≡ record_of b c → AgreeAt a b c
agree-from_same a b c e =
    record {
      parents = ap (λ o. option_map_or (λ (r : ClassRecord). option_map_or (λ p. p ∷ []) r.parent []) o []) e;
      interfaces = ap (λ o. option_map_or (λ (r : ClassRecord). r.interfaces) o []) e;
      fields = ap (λ o. option_map_or (λ (r : ClassRecord). own_of c r.fields) o []) e;
    }

agree-from_links : (a b : List ClassRecord) (c : ClassId) (r : ClassRecord) (links : List Link) → record_of a c ≡ Some r
    → record_of b c ≡ Some (record r { links = links }) → AgreeAt a b c
agree-from_links a b c r links e f =
    record {
      parents = rw (e, f) refl;
      interfaces = rw (e, f) refl;
      fields = rw (e, f) refl;
    }

-- ---- The three changes.

pub agree-push : (classes : List ClassRecord) (r : ClassRecord) → AgreeBelow (length classes) classes (classes ++ r ∷ [])
agree-push classes r c below = agree-from_same classes (classes ++ r ∷ []) c (sym (slice_get-front classes (r ∷ []) c.0 below))

pub agree-take : (classes : List ClassRecord) (n : ℕ) → AgreeBelow n classes (take n classes)
agree-take classes n c below = agree-from_same classes (take n classes) c (sym (slice_get-take classes n c.0 below))

pub agree-links : (old new : List ClassRecord) (d : ClassId) (links : List Link) → GetsLinks old d links new → (c : ClassId) → AgreeAt old new c
agree-links old new d links (r, is, e) c =
    rw e (elim (cases_eq d.0 c.0) [
      | inl same ↦
          let at : record_of old c ≡ Some r = rw same at is in
          agree-from_links old (set old d.0 (record r { links = links })) c r links at
          (rw same (slice_get-set_same old c.0 (record r { links = links }) (slice_get_within old c.0 r at)))
      | inr other ↦
          agree-from_same old (set old d.0 (record r { links = links })) c (sym (slice_get-set_other old d.0 c.0 (record r { links = links }) other))
    ])

pub ordered-push : (classes : List ClassRecord) (r : ClassRecord) → AreOrdered classes → StandsAbove (length classes) r
    → AreOrdered (classes ++ r ∷ [])
ordered-push classes r ordered above c s e = elim (slice_get-push_cases classes r s c.0 e) [
  | inl front ↦ ordered c s front.1
  | inr last ↦ rw (last.0, ← (last.1)) above
]

pub ordered-take : (classes : List ClassRecord) (n : ℕ) → AreOrdered classes → AreOrdered (take n classes)
ordered-take classes n ordered c s e = ordered c s (slice_get-from_take classes n c.0 s e)

pub ordered-links : (old new : List ClassRecord) (d : ClassId) (links : List Link) → GetsLinks old d links new → AreOrdered old → AreOrdered new
ordered-links old new d links (r, is, e) ordered c s at =
    let changed : ClassRecord = record r { links = links } in
    elim (slice_get-set_cases old d.0 c.0 changed s (rw e at at)) [
      | inl here ↦
          let above : StandsAbove c.0 r = ordered c r (rw (← (here.0)) is) in
          rw (← (here.1)) above
      | inr other ↦ ordered c s other
    ]
