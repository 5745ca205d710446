-- The system classes by themselves are closed: each class that their table names is one of the table.
use Rattle.std.proofs.Common.{◌≡◌, ℕ, ◌<◌, List, [], ◌∷◌, length, map, Option, Some, None, Contains, refl, sym, ap, subst, ◌∙◌, inl, inr, arith}
use Rattle.std.specs.Prelude.{option_map, option_and_then, bytes_eq, position, Bool}
use Rattle.std.proofs.lemmas.List.Quantifiers.{position-Some}
use Rattle.std.proofs.lemmas.Option.{same_Some, slice_get_within}
use Rattle.list_lemmas.proofs.ItemsOfLists.{Contains-cases, Contains-none, place_of}
use Rattle.list_lemmas.proofs.ItemsByPlace.{item_there}
use Rattle.jk_model.specs.declared.descriptors.Base.{Base as ABase}
use Rattle.jk_model.specs.declared.descriptors.Base.TheVariants as Said
use Rattle.jk_model.specs.declared.descriptors.FieldType.{FieldType}
use Rattle.jk_model.specs.declared.identifiers.ClassId.{ClassId}
use Rattle.jk_model.specs.SystemTable.{SystemClass, SystemMethod, system_classes, number_named}
use Rattle.jk_model_classes.specs.declared.records.BaseRef.{BaseRef}
use Rattle.jk_model_classes.specs.declared.records.ClassRecord.{ClassRecord}
use Rattle.jk_model_classes.specs.declared.records.MethodRecord.{MethodRecord}
use Rattle.jk_model_classes.specs.declared.records.TypeRef.{TypeRef}
use Rattle.jk_model_classes.specs.Classes.{HasClass, record_of}
use Rattle.jk_model_classes.specs.SystemRecords.{IsBaseFor, IsTypeFor, AreTypesFor, IsResultFor, IsSystemMethodAt, IsSystemRecord, AreSystemRecords, system_meaning}
use Rattle.class_growth.specs.ClosedClasses.{HasBase, HasType, HasClassesOfMethod, HasClassesOf, IsClosed}

-- ---- Types whose names mean classes that are there.

-- each class that a name means is there
abbrev pub MeansThere : List ClassRecord → (List ℕ → Option ClassId) → Type 0
MeansThere classes meaning = (name : List ℕ) (c : ClassId) → meaning name ≡ Some c → HasClass classes c

module _ (classes : List ClassRecord) (meaning : List ℕ → Option ClassId) (there : MeansThere classes meaning) where
  base_meant : (b : ABase) (base : BaseRef) → IsBaseFor meaning b base → HasBase classes base
  base_meant (Said.Class name) base (c, meant, e) = subst (HasBase classes) (sym e) (there name c meant)
  base_meant Said.Byte base e = subst (HasBase classes) (sym e) tt
  base_meant Said.Char base e = subst (HasBase classes) (sym e) tt
  base_meant Said.Int base e = subst (HasBase classes) (sym e) tt
  base_meant Said.Long base e = subst (HasBase classes) (sym e) tt
  base_meant Said.Short base e = subst (HasBase classes) (sym e) tt
  base_meant Said.Bool base e = subst (HasBase classes) (sym e) tt
  base_meant b base never = absurd never

  pub type-meant : (t : FieldType) (ref : TypeRef) → IsTypeFor meaning t ref → HasType classes ref
  type-meant t ref (dims, base) = base_meant t.base ref.base base

  pub types-meant : (types : List FieldType) (refs : List TypeRef) → AreTypesFor meaning types refs → (ref : TypeRef) → Contains refs ref
      → HasType classes ref
  types-meant types refs are ref on =
      let at = place_of refs ref on in
      let said = item_there types at.0 (rw (← are.as_many) (slice_get_within refs at.0 ref at.1)) in
      type-meant said.0 ref (are.each at.0 said.0 ref said.1 at.1)

  pub result-meant : (o : Option FieldType) (result : Option TypeRef) → IsResultFor meaning o result → (ref : TypeRef) → result ≡ Some ref
      → HasType classes ref
  result-meant None result none ref is = absurd cc
  result-meant (Some t) result (said, e, fits) ref is =
      type-meant t ref (subst (IsTypeFor meaning t) (same_Some said ref (sym e ∙ is)) fits)

-- ---- The classes of the table.

position_within : {X : Type 0} (test : X → Bool) (xs : List X) (i : ℕ) → position test xs ≡ Some i → i < length xs
position_within test [] i e = absurd cc
position_within test (x ∷ xs) i e = (position-Some test (x ∷ xs) i x e).0

parent_name : (o : Option (List ℕ)) (n : ℕ) → Some n ≡ option_and_then number_named o → (name : List ℕ) × (number_named name ≡ Some n)
parent_name None n e = absurd cc
parent_name (Some name) n e = (name, sym e)

interface_name : (interfaces : List ClassId) (names : List (List ℕ)) → map (λ (c : ClassId). Some c.0) interfaces ≡ map number_named names
    → (i : ClassId) → Contains interfaces i → (name : List ℕ) × (number_named name ≡ Some i.0)
interface_name [] names e i on = absurd (Contains-none i on)
interface_name (c ∷ interfaces) [] e i on = absurd cc
interface_name (c ∷ interfaces) (name ∷ names) e i on =
    let here : Some c.0 ≡ number_named name = cc in
    let others : map (λ (c : ClassId). Some c.0) interfaces ≡ map number_named names = cc in
    elim (Contains-cases i c interfaces on) [
      | inl same ↦ (name, sym here ∙ ap (λ (d : ClassId). Some d.0) same)
      | inr later ↦ interface_name interfaces names others i later
    ]

module _ (classes : List ClassRecord) (system : AreSystemRecords classes) where
  named_there : (name : List ℕ) (n : ℕ) → number_named name ≡ Some n → n < length classes
  named_there name n e = rw (system.as_many) (position_within (λ (c : SystemClass). bytes_eq c.name name) system_classes n e)

  meant_by : (name : List ℕ) (c : ClassId) (o : Option ℕ) → number_named name ≡ o → option_map (λ n. record { 0 = n }) o ≡ Some c → HasClass classes c
  meant_by name c None is e = absurd cc
  meant_by name c (Some n) is e =
      let same : record { 0 = n } ≡ c = same_Some (record { 0 = n }) c e in
      subst (HasClass classes) same (named_there name n is)

  meant : MeansThere classes system_meaning
  meant name c e = meant_by name c (number_named name) refl e

  method_there : (number : ℕ) (entry : SystemMethod) (method : MethodRecord) → IsSystemMethodAt number entry method → HasClassesOfMethod classes method
  method_there number entry method is =
      record {
        params = λ t on. types-meant classes system_meaning meant method.kind.params method.params is.params t on;
        result = λ t e. result-meant classes system_meaning meant method.kind.result method.result is.result t e;
        handlers = λ code h linked on c catches. absurd (cc (is.body, linked));
      }

  record_there : (n : ℕ) (entry : SystemClass) (r : ClassRecord) → IsSystemRecord n entry r → HasClassesOf classes r
  record_there n entry r is =
      record {
        parent = λ p e.
            let found = parent_name entry.parent p.0 (sym (ap (option_map (λ (c : ClassId). c.0)) e) ∙ is.parent) in
            named_there found.0 p.0 found.1;
        interfaces = λ i on.
            let found = interface_name r.interfaces entry.interfaces is.interfaces i on in
            named_there found.0 i.0 found.1;
        fields = λ field on.
            let at = place_of r.fields field on in
            let said = item_there entry.fields at.0 (rw (← is.field_count) (slice_get_within r.fields at.0 field at.1)) in
            let of = is.fields at.0 said.0 field said.1 at.1 in
            type-meant classes system_meaning meant of.type field.kind of.kind;
        methods = λ method on.
            let at = place_of r.methods method on in
            let said = item_there entry.methods at.0 (rw (← is.method_count) (slice_get_within r.methods at.0 method at.1)) in
            method_there _ said.0 method (is.methods at.0 said.0 method said.1 at.1);
        links = λ link on. absurd (Contains-none link (rw is.links at on));
      }

  pub system-closed : IsClosed classes
  system-closed =
      record {
        each = λ c r is.
            let entry = item_there system_classes c.0 (rw (← system.as_many) (slice_get_within classes c.0 r is)) in
            record_there c.0 entry.0 r (system.each c.0 entry.0 r entry.1 is);
      }

-- ---- They stand alone.

-- system classes refer to none, and are no domain's
pub system_alone : (classes : List ClassRecord) → AreSystemRecords classes → (c : ClassId) (r : ClassRecord) → record_of classes c ≡ Some r
    → (r.references ≡ []) × (r.home ≡ None)
system_alone classes system c r at =
    let entry = item_there system_classes c.0 (omega (arith, system.as_many, slice_get_within classes c.0 r at)) in
    let is = system.each c.0 entry.0 r entry.1 at in
    (is.references, is.home)
