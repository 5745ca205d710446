-- The static fields of a class in a domain: which there are, and that they hold their constant texts, one field after the other.
use Rattle.std.proofs.Common.{inl, inr, ◌≡◌, ℕ, suc, ◌+◌, ◌==◌, Bool, true, false, cond, List, [], ◌∷◌, map, filter, find, Contains, Option, Some, None, slice_get, option_map, refl, sym, ap, subst, ◌∙◌, arith}
use Rattle.std.specs.Prelude.{IsTrue, option_and_then}
use Rattle.std.specs.List.{enumerate_from}
use Rattle.std.proofs.lemmas.Bool.{eqb-true}
use Rattle.std.proofs.lemmas.Option.{none-some, same_Some}
use Rattle.list_lemmas.proofs.FoundItems.{Finds, finds}
use Rattle.list_lemmas.proofs.ItemsByPlace.{mapped_at}
use Rattle.list_lemmas.proofs.ItemsOfLists.{Contains-at, Contains-cases, Contains-none, place_of}
use Rattle.model_lemmas.proofs.SameNumbers.{same_class}
use Rattle.jk_model.specs.Flags.{has, STATIC}
use Rattle.jk_model.specs.declared.identifiers.ClassId.{ClassId}
use Rattle.jk_model.specs.declared.identifiers.MemberId.{MemberId}
use Rattle.jk_model.specs.declared.values.Value.{Value}
use Rattle.jk_model_classes.specs.declared.records.ClassRecord.{ClassRecord}
use Rattle.jk_model_classes.specs.declared.records.FieldRecord.{FieldRecord}
use Rattle.jk_model_classes.specs.Classes.{record_of}
use Rattle.jk_model_domains.specs.OwnStates.{ClassPart, HasPart, HasState, HasStatic, OwnState, StaticField, first_statics, first_value, is_static_field, static_in}
use Rattle.jk_model_heaps.specs.Workings.{Inside}
use Rattle.jk_model_heap_rows.specs.Constants.{with_constant, with_constants}
use Rattle.jk_model_heap_rows.specs.FieldRows.{IsStaticValue}
use Rattle.jk_model_sealing.specs.SealedInsides.{IsSealedInside, Surroundings}
use Rattle.row_laws.proofs.StaticsNamed.{static_value}
use Rattle.heap_ops.specs.ConstantTexts.{HasStaticsOf}
use Rattle.heap_ops.proofs.StaticsInTurn.{index_stays}

-- ---- Places of static fields.

abbrev places : List StaticField → List ℕ
places fs = map (λ (f : StaticField). f.index) fs

abbrev as_static : ℕ × FieldRecord → StaticField
as_static p = record { index = p.0; value = first_value p.1.kind p.1.constant }

-- a static field stands at a place, and no other there
record IsStaticAt (k : ℕ) (fs : List FieldRecord) (n : ℕ) : Type 0 where
  place : ℕ
  field : FieldRecord
  is : n ≡ k + place
  there : slice_get fs place ≡ Some field
  static : has field.flags STATIC ≡ true

static_later : (k n : ℕ) (f : FieldRecord) (fs : List FieldRecord) → IsStaticAt (k + 1) fs n → IsStaticAt k (f ∷ fs) n
static_later k n f fs at =
    let is = at.is in
    record { place = suc at.place; field = at.field; is = omega (arith, is); there = at.there; static = at.static }

static_by : (k n : ℕ) (f : FieldRecord) (fs : List FieldRecord) (b : Bool) → has f.flags STATIC ≡ b
    → Contains (places (map as_static (cond b ((k, f) ∷ filter is_static_field (enumerate_from (k + 1) fs))
    (filter is_static_field (enumerate_from (k + 1) fs))))) n
    → (Contains (places (map as_static (filter is_static_field (enumerate_from (k + 1) fs)))) n → IsStaticAt (k + 1) fs n) → IsStaticAt k (f ∷ fs) n
static_by k n f fs true static there rest =
    elim (Contains-cases n k (places (map as_static (filter is_static_field (enumerate_from (k + 1) fs)))) there) [
      | inl same ↦ record { place = 0; field = f; is = omega (arith, same); there = refl; static = static }
      | inr later ↦ static_later k n f fs (rest later)
    ]
static_by k n f fs false static there rest = static_later k n f fs (rest there)

static_at : (k n : ℕ) (fs : List FieldRecord) → Contains (places (map as_static (filter is_static_field (enumerate_from k fs)))) n → IsStaticAt k fs n
static_at k n [] there = absurd (Contains-none n there)
static_at k n (f ∷ fs) there = static_by k n f fs (has f.flags STATIC) refl there (static_at (k + 1) n fs)

-- ---- The part of a class.

part_found : (own : OwnState) (c : ClassId) (e : ClassPart) → find (λ (x : ClassPart). x.class.0 == c.0) own.classes ≡ Some e
    → Contains own.classes e × (e.class ≡ c)
part_found own c e found =
    let at = subst (Finds (λ (x : ClassPart). x.class.0 == c.0) own.classes) found (finds (λ (x : ClassPart). x.class.0 == c.0) own.classes) in
    (Contains-at own.classes at.0 e at.1, same_class e.class c (eqb-true e.class.0 c.0 at.2))

-- a class with a part is one of the domain's names, and isn't of the system
pub has_part : (around : Surroundings) (quota : ℕ) (inside : Inside) → IsSealedInside around quota inside → (c : ClassId) (r : ClassRecord)
    → HasState inside.own c → record_of around.classes c ≡ Some r → HasPart around.classes around.table c r
has_part around quota inside sealed c r there is =
    let part = part_found inside.own c there.0 there.1 in
    let of = sealed.own.each there.0 part.0 in
    let same : of.0 ≡ r = same_Some of.0 r (sym of.1.1 ∙ ap (λ (d : ClassId). record_of around.classes d) part.1 ∙ is) in
    subst (λ (d : ClassId). HasPart around.classes around.table d r) part.1
    (subst (HasPart around.classes around.table there.0.class) same of.1)

module _ (around : Surroundings) (quota : ℕ) (inside : Inside) (sealed : IsSealedInside around quota inside) (c : ClassId) (r : ClassRecord)
    (there : HasState inside.own c) (is : record_of around.classes c ≡ Some r) where
  value_by : (m : MemberId) (v : Value) → m.class ≡ c → IsStaticValue around.classes inside.own m v → HasStatic inside.own m
  value_by m v class (inl ((q, is_q, none), out)) =
      let part = has_part around quota inside sealed c r there is in
      let same : q ≡ r = same_Some q r (sym is_q ∙ ap (λ (d : ClassId). record_of around.classes d) class ∙ is) in
      absurd (part.2 (subst (λ (y : ClassRecord). y.home ≡ None) same none))
  value_by m v class (inr (never, static)) = (v, static)

  each_static : (i : ℕ) (f : FieldRecord) → slice_get r.fields i ≡ Some f → IsTrue (has f.flags STATIC)
      → (let m : MemberId = record { class = c; index = i } in HasStatic inside.own m)
  each_static i f at static =
      let m : MemberId = record { class = c; index = i } in
      let named = (has_part around quota inside sealed c r there is).0 in
      let value = static_value around quota inside sealed m f (r, is, at) static named in
      value_by m value.0 refl value.1

  static_here : (e : ClassPart) (g : StaticField) (f : FieldRecord) → Contains inside.own.classes e → e.class ≡ c → Contains e.statics g
      → slice_get r.fields g.index ≡ Some f → IsTrue (has f.flags STATIC)
  static_here e g f among class has_field at =
      let of = sealed.own.each e among in
      let same : of.0 ≡ r = same_Some of.0 r (sym of.1.1 ∙ ap (λ (d : ClassId). record_of around.classes d) class ∙ is) in
      let place = place_of e.statics g has_field in
      let listed : Contains (places e.statics) g.index =
      Contains-at (places e.statics) place.0 g.index (mapped_at (λ (x : StaticField). x.index) e.statics place.0 g place.1) in
      let of_class : Contains (places (first_statics r)) g.index =
      subst (λ (y : ClassRecord). Contains (places (first_statics y)) g.index) same (subst (λ (ns : List ℕ). Contains ns g.index) of.2 listed) in
      let found = static_at 0 g.index r.fields of_class in
      let number : found.place ≡ g.index = omega (arith, found.is) in
      let one : found.field ≡ f =
      same_Some found.field f (sym found.there ∙ ap (λ (n : ℕ). slice_get r.fields n) number ∙ at) in
      subst (λ (x : FieldRecord). IsTrue (has x.flags STATIC)) one found.static

  pub has_statics : HasStaticsOf inside.own c r
  has_statics = record { each = each_static; no_other = static_here }

-- a state with the same classes has the same static fields
pub same_statics : (own new : OwnState) (c : ClassId) (r : ClassRecord) → new.classes ≡ own.classes → HasStaticsOf own c r → HasStaticsOf new c r
same_statics own new c r same h = record {
  each = λ i f at static.
      let m : MemberId = record { class = c; index = i } in
      let value = h.each i f at static in
      (value.0, ap (λ (parts : List ClassPart). option_and_then (static_in m.index) (find (λ (e : ClassPart). e.class.0 == c.0) parts)) same ∙ value.1);
  no_other = λ e g f among class has_field at.
      h.no_other e g f (subst (λ (parts : List ClassPart). Contains parts e) same among) class has_field at;
}

-- ---- A state that holds constants has the static fields that it had.

found_by : {X : Type 0} (f : X → X) (p : X → Bool) (x : X) (o q : Option X) (a b : Bool) → a ≡ b → q ≡ option_map f o
    → cond a (Some (f x)) q ≡ option_map f (cond b (Some x) o)
found_by f p x o q a true e rest = ap (λ (t : Bool). cond t (Some (f x)) q) e
found_by f p x o q a false e rest = ap (λ (t : Bool). cond t (Some (f x)) q) e ∙ rest

find_mapped : {X : Type 0} (f : X → X) (p : X → Bool) → ((x : X) → p (f x) ≡ p x) → (xs : List X) → find p (map f xs) ≡ option_map f (find p xs)
find_mapped f p same [] = refl
find_mapped f p same (x ∷ xs) = found_by f p x (find p xs) (find p (map f xs)) (p (f x)) (p x) (same x) (find_mapped f p same xs)

module _ (own : OwnState) (c : ClassId) (r : ClassRecord) where
  abbrev part_then : Bool → ClassPart → ClassPart
  part_then b e = cond b (record e { statics = map (with_constant own r) e.statics }) e

  abbrev changed : ClassPart → ClassPart
  changed e = part_then (e.class.0 == c.0) e

  class_by : (e : ClassPart) (b : Bool) → (part_then b e).class ≡ e.class
  class_by e true = refl
  class_by e false = refl

  value_of : (n : ℕ) (o : Option StaticField) (v : Value) → option_map (λ (g : StaticField). g.value) o ≡ Some v
      → (w : Value) × (option_map (λ (g : StaticField). g.value) (option_map (with_constant own r) o) ≡ Some w)
  value_of n None v is = absurd (none-some v is)
  value_of n (Some g) v is = ((with_constant own r g).value, refl)

  static_kept_by : (n : ℕ) (e : ClassPart) (b : Bool) (v : Value) → static_in n e ≡ Some v → (w : Value) × (static_in n (part_then b e) ≡ Some w)
  static_kept_by n e false v is = (v, is)
  static_kept_by n e true v is =
      let w = value_of n (find (λ (g : StaticField). g.index == n) e.statics) v is in (
        w.0,
        ap (λ (o : Option StaticField). option_map (λ (g : StaticField). g.value) o)
            (find_mapped (with_constant own r) (λ (g : StaticField). g.index == n) (λ g. ap (λ (k : ℕ). k == n) (index_stays own r g)) e.statics)
            ∙ w.1,
      )

  kept_by : (m : MemberId) (o : Option ClassPart) (v : Value) → option_and_then (static_in m.index) o ≡ Some v
      → (w : Value) × (option_and_then (static_in m.index) (option_map changed o) ≡ Some w)
  kept_by m None v is = absurd (none-some v is)
  kept_by m (Some e) v is = static_kept_by m.index e (e.class.0 == c.0) v is

  pub static_kept : (m : MemberId) → HasStatic own m → HasStatic (with_constants c r own) m
  static_kept m (v, is) =
      let kept = kept_by m (find (λ (e : ClassPart). e.class.0 == m.class.0) own.classes) v is in (
        kept.0,
        ap (λ (o : Option ClassPart). option_and_then (static_in m.index) o)
            (find_mapped changed (λ (e : ClassPart). e.class.0 == m.class.0)
            (λ e. ap (λ (k : ClassId). k.0 == m.class.0) (class_by e (e.class.0 == c.0))) own.classes)
            ∙ kept.1,
      )
