-- What a domain has for itself beside its heap: how far each of its classes is initialised, their static fields, the text
-- objects of its literals, and the objects that stand in its heap from the opening on.
use Rattle.std.specs.Prelude.{◌≡◌, ◌≢◌, ℕ, zero, suc, ◌==◌, ◌⊎◌, Bool, List, [], length, filter, map, find, Contains, Option, Some, None, option_map, option_and_then, slice_get, bytes_eq, replicate, IsPermutation, pos, if◌then◌else◌}
use Rattle.std.specs.List.{enumerate_from}
use Rattle.std.specs.Option.{option_map_or}
use Rattle.jk_model.specs.Flags.{has, STATIC}
use Rattle.jk_model.specs.declared.identifiers.ClassId.{ClassId}
use Rattle.jk_model.specs.declared.identifiers.MemberId.{MemberId}
use Rattle.jk_model.specs.declared.identifiers.ThreadNo.{ThreadNo}
use Rattle.jk_model.specs.declared.steps.Standing.{Standing}
use Rattle.jk_model.specs.declared.steps.Standing.TheVariants as Stands
use Rattle.jk_model.specs.declared.values.Value.{Value}
use Rattle.jk_model.specs.declared.values.Value.TheVariants as Held
use Rattle.jk_model_classes.specs.declared.records.ClassRecord.{ClassRecord}
use Rattle.jk_model_classes.specs.declared.records.FieldRecord.{FieldRecord}
use Rattle.jk_model_classes.specs.declared.records.Link.{Link}
use Rattle.jk_model_classes.specs.declared.records.Link.TheVariants as To
use Rattle.jk_model_classes.specs.declared.records.TypeRef.{TypeRef}
use Rattle.jk_model_classes.specs.declared.records.BaseRef.{BaseRef}
use Rattle.jk_model_classes.specs.declared.records.BaseRef.TheVariants as Base
use Rattle.jk_model_classes.specs.Classes.{record_of}
use Rattle.jk_model_classes.specs.Worlds.{NamedClass, IsNamed}
use Rattle.jk_model_domains.specs.declared.states.ClassState.{ClassState}
use Rattle.jk_model_domains.specs.declared.states.ClassState.TheVariants as State
use Rattle.jk_model_domains.specs.declared.states.LiteralImage.{LiteralImage}
use Rattle.jk_model_domains.specs.declared.states.Look.{Look}
use Rattle.jk_model_domains.specs.declared.states.Look.TheVariants as Sees
use Rattle.jk_model_domains.specs.declared.states.OwnClass.{OwnClass}
use Rattle.jk_model_domains.specs.declared.states.OwnParts.{OwnParts}

-- ---- The state.

-- a static field, by its place among all fields of its class, and its value
pub record StaticField : Type 0 where
  pub index : ℕ
  pub value : Value

-- the part of a class in a domain; its static fields stand in the order of the class file
pub record ClassPart : Type 0 where
  pub class : ClassId
  pub state : ClassState
  pub statics : List StaticField

-- a text, and the name of its object
pub record Literal : Type 0 where
  pub text : List ℕ
  pub name : ℕ

pub record OwnState : Type 0 where
  -- the parts of the classes of its name table that aren't system classes
  pub classes : List ClassPart
  -- the texts that have an object
  pub literals : List Literal
  -- the name of its PrintStream, which is the value of the one static field of a system class, System.out
  pub out : ℕ
  -- the names of its standing throwables, in the order of `Standing`
  pub standing : List ℕ

-- ---- Classes. System classes are done in every domain, and have no part.

abbrev pub part_of : OwnState → ClassId → Option ClassPart
part_of own c = find (λ (e : ClassPart). e.class.0 == c.0) own.classes

abbrev pub HasState : OwnState → ClassId → Type 0
HasState own c = (e : ClassPart) × (part_of own c ≡ Some e)

abbrev pub state_of : OwnState → ClassId → ClassState
state_of own c = option_map_or (λ (e : ClassPart). e.state) (part_of own c) State.Done

-- what a thread meets at a class in this state
abbrev pub IsLook : ThreadNo → ClassState → Look → Type 0
IsLook t State.Untouched look = look ≡ Sees.Untouched
IsLook t (State.InProgress by) look = ((by ≡ t) × (look ≡ Sees.Ready)) ⊎ ((by ≢ t) × (look ≡ Sees.Waits))
IsLook t State.Done look = look ≡ Sees.Ready
IsLook t State.Broken look = look ≡ Sees.Broken

-- the parts with this one changed; a step or a public call that changes one asks that it is there
abbrev pub with_part : ClassId → (ClassPart → ClassPart) → List ClassPart → List ClassPart
with_part c change parts = map (λ (e : ClassPart). if e.class.0 == c.0 then change e else e) parts

abbrev pub with_state : OwnState → ClassId → ClassState → OwnState
with_state own c state = record own { classes = with_part c (λ e. record e { state = state }) own.classes }

-- ---- Static fields.

abbrev pub static_in : ℕ → ClassPart → Option Value
static_in index e = option_map (λ (f : StaticField). f.value) (find (λ (f : StaticField). f.index == index) e.statics)

-- the value of a static field of a class that has a part
abbrev pub static_of : OwnState → MemberId → Option Value
static_of own m = option_and_then (static_in m.index) (part_of own m.class)

abbrev pub HasStatic : OwnState → MemberId → Type 0
HasStatic own m = (v : Value) × (static_of own m ≡ Some v)

abbrev pub with_field : ℕ → Value → List StaticField → List StaticField
with_field index v statics = map (λ (f : StaticField). if f.index == index then record f { value = v } else f) statics

abbrev pub with_static : OwnState → MemberId → Value → OwnState
with_static own m v = record own { classes = with_part m.class (λ e. record e { statics = with_field m.index v e.statics }) own.classes }

-- ---- Literals: the texts to which the pools of the domain's classes and the constants of their fields lead, system
-- classes having none.

-- the pool of a class leads to the text, or it is the constant of one of its fields
abbrev pub IsTextOf : ClassRecord → List ℕ → Type 0
IsTextOf r text = Contains r.links (To.Text text) ⊎ ((f : FieldRecord) × Contains r.fields f × (f.constant ≡ To.Text text))

abbrev pub IsLiteralOf : List ClassRecord → List NamedClass → List ℕ → Type 0
IsLiteralOf classes table text =
    (c : ClassId) × (r : ClassRecord) × IsNamed table c × (record_of classes c ≡ Some r) × IsTextOf r text

-- the name of the object of a literal; nothing where it has none yet
abbrev pub literal_named : OwnState → List ℕ → Option ℕ
literal_named own text = option_map (λ (l : Literal). l.name) (find (λ (l : Literal). bytes_eq l.text text) own.literals)

-- ---- The objects that stand from the opening on.

-- the place of a standing throwable
abbrev pub standing_place : Standing → ℕ
standing_place Stands.OutOfMemoryError = 0
standing_place Stands.StackOverflowError = 1
standing_place Stands.Revoked = 2
standing_place Stands.Quota = 3
standing_place Stands.NotCopiable = 4
standing_place Stands.Remote = 5
standing_place Stands.ThreadDeath = 6
standing_place Stands.Security = 7

-- ---- Which classes have a part, and with what static fields they begin.

-- some name of the domain means the class, and it isn't of the system
abbrev pub HasPart : List ClassRecord → List NamedClass → ClassId → ClassRecord → Type 0
HasPart classes table c r = IsNamed table c × (record_of classes c ≡ Some r) × (r.home ≢ None)

abbrev pub is_static_field : ℕ × FieldRecord → Bool
is_static_field p = has p.1.flags STATIC

-- null, or the whole number 0 of the field's kind
abbrev base_zero : BaseRef → Value
base_zero Base.Long = Held.Long (pos 0)
base_zero (Base.Class c) = Held.Null
base_zero base = Held.Int (pos 0)

abbrev dims_zero : ℕ → BaseRef → Value
dims_zero zero base = base_zero base
dims_zero (suc dims) base = Held.Null

abbrev pub zero_of : TypeRef → Value
zero_of t = dims_zero t.dims t.base

-- the value with which a static field begins: its whole-number constant, or else 0 or null. A constant text is set only
-- when the class is initialised.
abbrev pub first_value : TypeRef → Link → Value
first_value kind (To.Int n) = Held.Int n
first_value kind (To.Long n) = Held.Long n
first_value kind constant = zero_of kind

abbrev pub first_statics : ClassRecord → List StaticField
first_statics r =
    map (λ (p : ℕ × FieldRecord). record { index = p.0; value = first_value p.1.kind p.1.constant })
    (filter is_static_field (enumerate_from 0 r.fields))

-- the part of a class has a value for each of its static fields
abbrev pub IsPartFor : ClassRecord → ClassPart → Type 0
IsPartFor r e = map (λ (f : StaticField). f.index) e.statics ≡ map (λ (f : StaticField). f.index) (first_statics r)

-- ---- The states of a domain whose names have these meanings.

-- Each class that has a part has one, and no other has. No literal has two objects.
pub record IsOwnState (classes : List ClassRecord) (table : List NamedClass) (own : OwnState) : Type 0 where
  pub each : (e : ClassPart) → Contains own.classes e → (r : ClassRecord) × HasPart classes table e.class r × IsPartFor r e
  pub all : (c : ClassId) (r : ClassRecord) → HasPart classes table c r → HasState own c
  pub classes_differ : (i j : ℕ) (a b : ClassPart) → slice_get own.classes i ≡ Some a → slice_get own.classes j ≡ Some b
      → a.class ≡ b.class → i ≡ j
  pub literals_differ : (i j : ℕ) (a b : Literal) → slice_get own.literals i ≡ Some a → slice_get own.literals j ≡ Some b
      → a.text ≡ b.text → i ≡ j
  pub standing : length own.standing ≡ 8

-- No class is touched, the static fields are as they begin, and no literal has an object.
pub record IsFirstState (classes : List ClassRecord) (table : List NamedClass) (own : OwnState) : Type 0 where
  pub state : IsOwnState classes table own
  pub untouched : (e : ClassPart) → Contains own.classes e → e.state ≡ State.Untouched
  pub statics : (e : ClassPart) (r : ClassRecord) → Contains own.classes e → record_of classes e.class ≡ Some r
      → e.statics ≡ first_statics r
  pub no_literals : own.literals ≡ []
  pub out : own.out ≡ 0
  pub standing : own.standing ≡ replicate 8 0

-- ---- The same as plain lists.

-- a class's part as it stands in a list, without the places of its static fields
abbrev pub own_class : ClassPart → OwnClass
own_class e = record { class = e.class; state = e.state; statics = map (λ (f : StaticField). f.value) e.statics }

abbrev pub literal_image : Literal → LiteralImage
literal_image l = record { text = l.text; name = l.name }

-- These are the parts of the state: classes and literals in some order.
pub record ArePartsOf (own : OwnState) (parts : OwnParts) : Type 0 where
  pub classes : IsPermutation (map own_class own.classes) parts.classes
  pub literals : IsPermutation (map literal_image own.literals) parts.literals
  pub out : parts.out ≡ own.out
  pub standing : parts.standing ≡ own.standing
