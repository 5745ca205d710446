-- The values with which static fields begin are of their fields' types.
use Rattle.std.proofs.Common.{◌≡◌, ℕ, zero, suc, ◌+◌, ◌==◌, Bool, true, false, cond, List, [], ◌∷◌, map, filter, find, Contains, Option, Some, None, slice_get, refl, sym, ap, subst, ◌∙◌, inl, inr, arith}
use Rattle.std.specs.Prelude.{option_map, option_and_then}
use Rattle.std.specs.List.{enumerate_from}
use Rattle.std.proofs.lemmas.Bool.{eqb-true}
use Rattle.std.proofs.lemmas.Option.{same_Some}
use Rattle.list_lemmas.proofs.FoundItems.{Finds, finds}
use Rattle.list_lemmas.proofs.ItemsOfLists.{Contains-at, Contains-cases, Contains-none}
use Rattle.jk_model.specs.declared.identifiers.MemberId.{MemberId}
use Rattle.jk_model.specs.declared.values.Value.{Value}
use Rattle.jk_model_classes.specs.declared.records.BaseRef.{BaseRef}
use Rattle.jk_model_classes.specs.declared.records.BaseRef.TheVariants as Base
use Rattle.jk_model_classes.specs.declared.records.FieldRecord.{FieldRecord}
use Rattle.jk_model_classes.specs.declared.records.Link.{Link}
use Rattle.jk_model_classes.specs.declared.records.Link.TheVariants as To
use Rattle.jk_model_classes.specs.declared.records.TypeRef.{TypeRef}
use Rattle.jk_model_classes.specs.Lookups.{FieldIs}
use Rattle.jk_model_typing.specs.FrameTypes.{array_type}
use Rattle.jk_model_domains.specs.Objects.{NamedObject}
use Rattle.jk_model_domains.specs.OwnStates.{ClassPart, OwnState, StaticField, first_statics, first_value, is_static_field, part_of, static_in, static_of}
use Rattle.jk_model_openings.specs.OpenedDomains.{IsFirstOwn}
use Rattle.jk_model_sealing.specs.SealedInsides.{Surroundings}
use Rattle.heap_laws.specs.FittingOutcomes.{IsOfType}
use Rattle.heap_laws.specs.SoundCodes.{AreSoundCodes, SuitsType}
use Rattle.heap_laws.proofs.NewObjects.{zero_fits}

-- ---- One value.

module _ (around : Surroundings) (heap : List NamedObject) where
  abbrev Begins : TypeRef → Link → Type 0
  Begins t constant = IsOfType around heap t (first_value t constant)

  int_begins : (dims : ℕ) (base : BaseRef) (n : _) → SuitsType (array_type dims base) (To.Int n) → Begins (array_type dims base) (To.Int n)
  int_begins zero Base.Long n h = absurd h.1
  int_begins zero (Base.Class c) n h = absurd h.1
  int_begins zero base n h = (tt, tt)
  int_begins (suc dims) base n h = let e : suc dims ≡ 0 = h.0 in absurd (omega arith)

  long_begins : (dims : ℕ) (base : BaseRef) (n : _) → SuitsType (array_type dims base) (To.Long n) → Begins (array_type dims base) (To.Long n)
  long_begins zero Base.Long n h = (tt, tt)
  long_begins zero base n h = let e : base ≡ Base.Long = h.1 in absurd cc
  long_begins (suc dims) base n h = let e : suc dims ≡ 0 = h.0 in absurd (omega arith)

  value_begins : (t : TypeRef) (constant : Link) → SuitsType t constant → Begins t constant
  value_begins t (To.Int n) h = int_begins t.dims t.base n h
  value_begins t (To.Long n) h = long_begins t.dims t.base n h
  value_begins t constant h = zero_fits around heap t

-- ---- All static fields of a class.

abbrev begun : ℕ × FieldRecord → StaticField
begun p = record { index = p.0; value = first_value p.1.kind p.1.constant }

abbrev statics_after : ℕ → List FieldRecord → List StaticField
statics_after n fields = map begun (filter is_static_field (enumerate_from n fields))

-- it has the first value of a field, by its index
record BeginsAs (n : ℕ) (fields : List FieldRecord) (f : StaticField) : Type 0 where
  place : ℕ
  field : FieldRecord
  there : slice_get fields place ≡ Some field
  index : f.index ≡ n + place
  value : f.value ≡ first_value field.kind field.constant

one_later : (n : ℕ) (g : FieldRecord) (fields : List FieldRecord) (f : StaticField) → BeginsAs (n + 1) fields f → BeginsAs n (g ∷ fields) f
one_later n g fields f h = record {
  place = suc h.place;
  field = h.field;
  there = h.there;
  index = h.index ∙ omega arith;
  value = h.value;
}

begins_by : (n : ℕ) (g : FieldRecord) (fields : List FieldRecord) (f : StaticField) (b : Bool)
    → (Contains (statics_after (n + 1) fields) f → BeginsAs (n + 1) fields f)
    → Contains
    (map begun (cond b ((n, g) ∷ filter is_static_field (enumerate_from (n + 1) fields)) (filter is_static_field (enumerate_from (n + 1) fields)))) f
    → BeginsAs n (g ∷ fields) f
begins_by n g fields f true rest has = elim (Contains-cases f (begun (n, g)) (statics_after (n + 1) fields) has) [
  | inl same ↦
      record {
        place = 0;
        field = g;
        there = refl;
        index = ap (λ (x : StaticField). x.index) (sym same) ∙ omega arith;
        value = ap (λ (x : StaticField). x.value) (sym same);
      }
  | inr further ↦ one_later n g fields f (rest further)
]
begins_by n g fields f false rest has = one_later n g fields f (rest has)

begins_as : (n : ℕ) (fields : List FieldRecord) (f : StaticField) → Contains (statics_after n fields) f → BeginsAs n fields f
begins_as n [] f has = absurd (Contains-none f has)
begins_as n (g ∷ fields) f has = begins_by n g fields f (is_static_field (n, g)) (begins_as (n + 1) fields f) has

-- ---- The static fields of a domain that was just opened.

module _ (around : Surroundings) (own : OwnState) (codes : AreSoundCodes around.classes) (first : IsFirstOwn around.classes around.table own)
    (heap : List NamedObject) where
  -- one that was found in the part of its class
  found_begins : (m : MemberId) (v : Value) (field : FieldRecord) (e : ClassPart) → Contains own.classes e → e.class.0 ≡ m.class.0
      → FieldIs around.classes m field → (q : Option StaticField) → find (λ (f : StaticField). f.index == m.index) e.statics ≡ q
      → option_map (λ (f : StaticField). f.value) q ≡ Some v → IsOfType around heap field.kind v
  found_begins m v field e has class is None found value = absurd cc
  found_begins m v field e has class (r, of, at) (Some f) found value =
      let there : slice_get around.classes e.class.0 ≡ Some r = subst (λ (i : ℕ). slice_get around.classes i ≡ Some r) (sym class) of in
      let begins : e.statics ≡ first_statics r = first.statics e r has there in
      let place = subst (Finds (λ (x : StaticField). x.index == m.index) e.statics) found (finds (λ (x : StaticField). x.index == m.index) e.statics) in
      let told : BeginsAs 0 r.fields f =
      begins_as 0 r.fields f (subst (λ (fs : List StaticField). Contains fs f) begins (Contains-at e.statics place.0 f place.1)) in
      let index : told.place ≡ m.index = omega (arith, told.index, eqb-true f.index m.index place.2) in
      let here : slice_get r.fields m.index ≡ Some told.field = subst (λ (i : ℕ). slice_get r.fields i ≡ Some told.field) index told.there in
      let field_same : told.field ≡ field = same_Some told.field field (sym here ∙ at) in
      let begun_so : v ≡ first_value field.kind field.constant =
      same_Some v f.value (sym value) ∙ told.value ∙ ap (λ (x : FieldRecord). first_value x.kind x.constant) field_same in
      subst (IsOfType around heap field.kind) (sym begun_so)
      (value_begins around heap field.kind field.constant (codes.constants m field (r, of, at)))

  static_by : (m : MemberId) (v : Value) (field : FieldRecord) (o : Option ClassPart) → FieldIs around.classes m field → part_of own m.class ≡ o
      → option_and_then (static_in m.index) o ≡ Some v → IsOfType around heap field.kind v
  static_by m v field None is part found = absurd cc
  static_by m v field (Some e) is part found =
      let at = subst (Finds (λ (x : ClassPart). x.class.0 == m.class.0) own.classes) part (finds (λ (x : ClassPart). x.class.0 == m.class.0) own.classes) in
      found_begins m v field e (Contains-at own.classes at.0 e at.1) (eqb-true e.class.0 m.class.0 at.2) is
      (find (λ (f : StaticField). f.index == m.index) e.statics) refl found

  pub statics_begin : (m : MemberId) (v : Value) (field : FieldRecord) → static_of own m ≡ Some v → FieldIs around.classes m field
      → IsOfType around heap field.kind v
  statics_begin m v field value is = static_by m v field (part_of own m.class) is refl value
