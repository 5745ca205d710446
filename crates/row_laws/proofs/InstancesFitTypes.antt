-- An instance of a type fits the type as typing reads it.
use Rattle.std.proofs.Common.{inl, inr, ◌≡◌, ◌⊎◌, ℕ, zero, suc, ◌+◌, Bool, true, false, List, [], ◌∷◌, Contains, Option, Some, None, flat_map, refl, sym, ap, subst, ◌∙◌, arith}
use Rattle.std.specs.Prelude.{if◌then◌else◌}
use Rattle.std.specs.Option.{option_map_or}
use Rattle.std.proofs.lemmas.Option.{slice_get_within}
use Rattle.list_lemmas.proofs.ItemsOfLists.{Contains-cases, Contains-flat_map_from, Contains-none}
use Rattle.jk_model.specs.declared.identifiers.CapId.{CapId}
use Rattle.jk_model.specs.declared.identifiers.ClassId.{ClassId}
use Rattle.jk_model.specs.declared.values.Value.{Value}
use Rattle.jk_model.specs.declared.values.Value.TheVariants as Held
use Rattle.jk_model_classes.specs.declared.records.BaseRef.{BaseRef}
use Rattle.jk_model_classes.specs.declared.records.BaseRef.TheVariants as Base
use Rattle.jk_model_classes.specs.declared.records.ClassRecord.{ClassRecord}
use Rattle.jk_model_classes.specs.declared.records.TypeRef.{TypeRef}
use Rattle.jk_model_classes.specs.declared.sharing.Stub.{Stub}
use Rattle.jk_model_classes.specs.Classes.{HasClass, Implements, IsInterface, IsSubclass, OBJECT, is_interface_record, own_interfaces, record_of, superclasses, with_interfaces}
use Rattle.jk_model_typing.specs.FrameTypes.{IsClassBelow, RefFits, STRING, array_type, erased, erased_base, erased_class}
use Rattle.jk_model_domains.specs.Objects.{NamedObject, Object, Array, Plain, Task, Text, CAPABILITY, TASK, class_type, object_named, type_of}
use Rattle.jk_model_domains.specs.ValueTypes.{HoldsDeclared}
use Rattle.jk_model_heaps.specs.Capabilities.{CapabilityIsA, KnownCapabilities, OwnedCapability, ShowsInterface, StandsInFor, capability_numbered}
use Rattle.jk_model_heaps.specs.Instances.{IsA, IsAboveArrays, IsClassA, IsInstance}
use Rattle.jk_model_heaps.specs.SystemClasses.{CLONEABLE, REMOTE, SERIALIZABLE}
use Rattle.class_table.proofs.StandingAbove.{is-own_superclass, superclasses-trans}
use Rattle.heap_laws.specs.SoundCodes.{AreSoundCodes}
use Rattle.row_laws.proofs.BelowObject.{below_object, system_interface, system_there}

-- ---- Classes that are there.

module _ (classes : List ClassRecord) (sound : AreSoundCodes classes) where
  interface_there : (c : ClassId) → IsInterface classes c → HasClass classes c
  interface_there c (r, is, flagged) = slice_get_within classes c.0 r is

  is_read : (c : ClassId) → IsInterface classes c → is_interface_record (record_of classes c) ≡ true
  is_read c (r, is, flagged) = ap (λ (o : Option ClassRecord). is_interface_record o) is ∙ flagged

  read_is : (o : Option ClassRecord) → is_interface_record o ≡ true → (r : ClassRecord) × (o ≡ Some r)
  read_is None e = absurd cc
  read_is (Some r) e = (r, refl)

  flagged_there : (c : ClassId) → is_interface_record (record_of classes c) ≡ true → HasClass classes c
  flagged_there c e = let r = read_is (record_of classes c) e in slice_get_within classes c.0 r.0 r.1

  -- a class that lists an interface is there
  abbrev listed_in : Option ClassRecord → List ClassId
  listed_in x = flat_map (with_interfaces classes) (option_map_or (λ (r : ClassRecord). r.interfaces) x [])

  lister_there : (o : Option ClassRecord) (c d : ClassId) → record_of classes c ≡ o → Contains (own_interfaces classes c) d → HasClass classes c
  lister_there None c d is has = absurd (Contains-none d (subst (λ (x : Option ClassRecord). Contains (listed_in x) d) is has))
  lister_there (Some r) c d is has = slice_get_within classes c.0 r is

  -- what is below a class that is there is below java/lang/Object
  below_there : (c d : ClassId) → IsSubclass classes c d → HasClass classes d → IsSubclass classes c OBJECT
  below_there c d below there = superclasses-trans classes sound.ordered c d OBJECT below (below_object classes sound d there)

  implementer_below : (c i : ClassId) → Implements classes c i → IsSubclass classes c OBJECT
  implementer_below c i (interface, has) =
      let from = Contains-flat_map_from (λ (d : ClassId). d ∷ own_interfaces classes d) (superclasses classes c) i has in
      elim (Contains-cases i from.0 (own_interfaces classes from.0) from.2) [
        | inl same ↦ below_there c from.0 from.1 (subst (HasClass classes) (sym same) (interface_there i interface))
        | inr listed ↦ below_there c from.0 from.1 (lister_there (record_of classes from.0) from.0 i refl listed)
      ]

  -- ---- A class as typing reads it.

  read_class : (c d : ClassId) (b : Bool) → is_interface_record (record_of classes d) ≡ b → IsSubclass classes c d
      → IsSubclass classes c (erased_class classes d)
  read_class c d true e below =
      subst (λ (x : Bool). IsSubclass classes c (if x then OBJECT else d)) (sym e) (below_there c d below (flagged_there d e))
  read_class c d false e below = subst (λ (x : Bool). IsSubclass classes c (if x then OBJECT else d)) (sym e) below

  class_read : (c d : ClassId) → IsSubclass classes c d ⊎ Implements classes c d → IsSubclass classes c (erased_class classes d)
  class_read c d (inl below) = read_class c d (is_interface_record (record_of classes d)) refl below
  class_read c d (inr implements) =
      subst (λ (x : Bool). IsSubclass classes c (if x then OBJECT else d)) (sym (is_read d implements.0)) (implementer_below c d implements)

  base_read : (a b : BaseRef) → IsClassA classes a b → IsClassBelow classes a (erased_base classes b)
  base_read (Base.Class c) (Base.Class d) h = class_read c d h
  base_read a b h = absurd h

  -- ---- Types.

  -- a type fits itself as it is read
  own_read : (dims : ℕ) (base : BaseRef) → RefFits classes (array_type dims base) (erased classes (array_type dims base))
  own_read dims (Base.Class c) = own_by (is_interface_record (record_of classes c)) refl
    where
      own_by : (b : Bool) → is_interface_record (record_of classes c) ≡ b
          → RefFits classes (array_type dims (Base.Class c)) (erased classes (array_type dims (Base.Class c)))
      own_by true e =
          subst (λ (x : Bool). RefFits classes (array_type dims (Base.Class c)) (array_type dims (Base.Class (if x then OBJECT else c)))) (sym e)
          (inr (inl (refl, below_object classes sound c (flagged_there c e))))
      own_by false e =
          subst (λ (x : Bool). RefFits classes (array_type dims (Base.Class c)) (array_type dims (Base.Class (if x then OBJECT else c)))) (sym e)
          (inl refl)
  own_read dims base = inl refl

  -- what every array is of is read as java/lang/Object
  above_read : (base : BaseRef) → IsAboveArrays base → erased_base classes base ≡ Base.Class OBJECT
  above_read base (inl is) = subst (λ (b : BaseRef). erased_base classes b ≡ Base.Class OBJECT) (sym is) object_by
    where
      object_by : erased_base classes (Base.Class OBJECT) ≡ Base.Class OBJECT
      object_by = elim (is_interface_record (record_of classes OBJECT)) as (λ b. Base.Class (if b then OBJECT else OBJECT) ≡ Base.Class OBJECT) [
        | true ↦ refl
        | false ↦ refl
      ]
  above_read base (inr (inl is)) =
      subst (λ (b : BaseRef). erased_base classes b ≡ Base.Class OBJECT) (sym is)
      (ap (λ (x : Bool). Base.Class (if x then OBJECT else SERIALIZABLE)) (system_interface classes sound SERIALIZABLE refl))
  above_read base (inr (inr is)) =
      subst (λ (b : BaseRef). erased_base classes b ≡ Base.Class OBJECT) (sym is)
      (ap (λ (x : Bool). Base.Class (if x then OBJECT else CLONEABLE)) (system_interface classes sound CLONEABLE refl))

  pub instance_fits : (a b : TypeRef) → IsA classes a b → RefFits classes a (erased classes b)
  instance_fits a b (inl same) = subst (λ (t : TypeRef). RefFits classes a (erased classes t)) same (own_read a.dims a.base)
  instance_fits a b (inr (inl (dims, base))) = inr (inl (dims, base_read a.base b.base base))
  instance_fits a b (inr (inr (lower, above))) = inr (inr (lower, above_read b.base above))

  pub class_fits : (c d : ClassId) → IsSubclass classes c d → RefFits classes (class_type c) (erased classes (class_type d))
  class_fits c d below = inr (inl (refl, class_read c d (inl below)))

  -- ---- Capabilities.

  capability_below : IsSubclass classes CAPABILITY OBJECT
  capability_below = below_object classes sound CAPABILITY (system_there classes sound CAPABILITY (omega arith))

  -- an interface is read as java/lang/Object, to which a capability fits
  interface_fits : (c : ClassId) → is_interface_record (record_of classes c) ≡ true
      → RefFits classes (class_type CAPABILITY) (erased classes (class_type c))
  interface_fits c e =
      subst (λ (x : Bool). RefFits classes (class_type CAPABILITY) (array_type 0 (Base.Class (if x then OBJECT else c)))) (sym e)
      (inr (inl (refl, capability_below)))

  -- what a capability is an instance of, where stand-ins show interfaces
  abbrev StandInsShowInterfaces : List Stub → Type 0
  StandInsShowInterfaces stand_ins =
      (s : Stub) (i : ClassId) → Contains stand_ins s → record_of classes s.class ≡ None → Contains s.interfaces i → IsInterface classes i

  shown_fits : (caps : KnownCapabilities) (c : OwnedCapability) (class : ClassId) → StandInsShowInterfaces caps.stand_ins
      → ShowsInterface classes c.capability class ⊎ StandsInFor classes caps.stand_ins c.capability class
      → RefFits classes (class_type CAPABILITY) (erased classes (class_type class))
  shown_fits caps c class shows (inl remote) = interface_fits class (is_read class remote.0.0)
  shown_fits caps c class shows (inr (none, (s, has, same, listed))) =
      interface_fits class (is_read class (shows s class has (subst (λ (d : ClassId). record_of classes d ≡ None) (sym same) none) listed))

  above_fits : (caps : KnownCapabilities) (k : CapId) (class : ClassId) → StandInsShowInterfaces caps.stand_ins
      → (class ≡ OBJECT) ⊎ (class ≡ CAPABILITY) ⊎ (class ≡ REMOTE)
      ⊎ ((c : OwnedCapability) × (capability_numbered caps.ranges k ≡ Some c)
      × (ShowsInterface classes c.capability class ⊎ StandsInFor classes caps.stand_ins c.capability class))
      → RefFits classes (class_type CAPABILITY) (erased classes (class_type class))
  above_fits caps k class shows (inl is) =
      subst (λ (d : ClassId). RefFits classes (class_type CAPABILITY) (erased classes (class_type d))) (sym is)
      (class_fits CAPABILITY OBJECT capability_below)
  above_fits caps k class shows (inr (inl is)) =
      subst (λ (d : ClassId). RefFits classes (class_type CAPABILITY) (erased classes (class_type d))) (sym is)
      (class_fits CAPABILITY CAPABILITY (is-own_superclass classes sound.ordered CAPABILITY))
  above_fits caps k class shows (inr (inr (inl is))) =
      subst (λ (d : ClassId). RefFits classes (class_type CAPABILITY) (erased classes (class_type d))) (sym is)
      (interface_fits REMOTE (system_interface classes sound REMOTE refl))
  above_fits caps k class shows (inr (inr (inr (c, is, how)))) = shown_fits caps c class shows how

  pub capability_fits : (caps : KnownCapabilities) (k : CapId) (t : TypeRef) → StandInsShowInterfaces caps.stand_ins
      → CapabilityIsA classes caps k t → RefFits classes (class_type CAPABILITY) (erased classes t)
  capability_fits caps k t shows h =
      subst (λ (u : TypeRef). RefFits classes (class_type CAPABILITY) (erased classes u)) (sym h.no_array) (above_fits caps k h.class shows h.above)

  -- ---- Values that are instances of a type are of references, and hold it.

  abbrev IsReferenceBase : BaseRef → Type 0
  IsReferenceBase (Base.Class c) = Unit {0}
  IsReferenceBase base = ⊥

  of_class : (c : ClassId) (base : BaseRef) → array_type 0 (Base.Class c) ≡ array_type 0 base → IsReferenceBase base
  of_class c base e = subst IsReferenceBase (ap (λ (t : TypeRef). t.base) e) tt

  same_base : (o : Object) (base : BaseRef) → type_of o ≡ array_type 0 base → IsReferenceBase base
  same_base (Plain c fields) base e = of_class c base e
  same_base (Array element items) base e =
      let dims : element.dims + 1 ≡ 0 = ap (λ (t : TypeRef). t.dims) e in absurd (omega (arith, dims))
  same_base (Text units) base e = of_class STRING base e
  same_base (Task n) base e = of_class TASK base e

  class_base : (a base : BaseRef) → IsClassA classes a base → IsReferenceBase base
  class_base (Base.Class c) (Base.Class d) h = tt
  class_base a base h = absurd h

  above_base : (base : BaseRef) → IsAboveArrays base → IsReferenceBase base
  above_base base (inl is) = subst IsReferenceBase (sym is) tt
  above_base base (inr (inl is)) = subst IsReferenceBase (sym is) tt
  above_base base (inr (inr is)) = subst IsReferenceBase (sym is) tt

  reference_base : (o : Object) (base : BaseRef) → IsA classes (type_of o) (array_type 0 base) → IsReferenceBase base
  reference_base o base (inl same) = same_base o base same
  reference_base o base (inr (inl (dims, below))) = class_base (type_of o).base base below
  reference_base o base (inr (inr (lower, above))) = above_base base above

  object_held : (heap : List NamedObject) (a : ℕ) (o : Object) (dims : ℕ) (base : BaseRef) → object_named heap a ≡ Some o
      → IsA classes (type_of o) (array_type dims base) → HoldsDeclared classes heap (Held.Obj a) (array_type dims base)
  object_held heap a o zero (Base.Class c) is isa = (o, is, instance_fits (type_of o) (array_type 0 (Base.Class c)) isa)
  object_held heap a o zero base is isa = absurd (reference_base o base isa)
  object_held heap a o (suc dims) base is isa = (o, is, instance_fits (type_of o) (array_type (suc dims) base) isa)

  pub instance_held : (caps : KnownCapabilities) (heap : List NamedObject) (v : Value) (t : TypeRef) → StandInsShowInterfaces caps.stand_ins
      → IsInstance classes caps heap v t → HoldsDeclared classes heap v t
  instance_held caps heap (Held.Obj a) t shows (o, is, isa) = object_held heap a o t.dims t.base is isa
  instance_held caps heap (Held.Cap k) t shows h =
      subst (λ (u : TypeRef). HoldsDeclared classes heap (Held.Cap k) u) (sym h.no_array)
      (above_fits caps k h.class shows h.above)
  instance_held caps heap v t shows h = absurd h
