-- What holds of all classes, and of what names mean in each domain, where every folder was accepted.
use Rattle.std.specs.Prelude.{◌≡◌, ℕ, ⊤, IsTrue, List, [], length, take, Contains, Option, Some, None, slice_get}
use Rattle.std.specs.List.{AllByRecursion}
use Rattle.jk_model.specs.Flags.{has, STATIC}
use Rattle.jk_model.specs.declared.identifiers.ClassId.{ClassId}
use Rattle.jk_model.specs.declared.identifiers.MemberId.{MemberId}
use Rattle.jk_model.specs.declared.instructions.Instr.{Instr}
use Rattle.jk_model.specs.SystemTable.{system_classes}
use Rattle.jk_model.specs.declared.opcodes.TheConstants.{GETSTATIC, INVOKESTATIC}
use Rattle.jk_model_classes.specs.declared.records.BaseRef.{BaseRef}
use Rattle.jk_model_classes.specs.declared.records.BaseRef.TheVariants as Base
use Rattle.jk_model_classes.specs.declared.records.ClassRecord.{ClassRecord}
use Rattle.jk_model_classes.specs.declared.records.FieldRecord.{FieldRecord}
use Rattle.jk_model_classes.specs.declared.records.Link.TheVariants as To
use Rattle.jk_model_classes.specs.declared.records.MethodRecord.{MethodRecord}
use Rattle.jk_model_classes.specs.declared.records.TypeRef.{TypeRef}
use Rattle.jk_model_classes.specs.Classes.{AreOrdered, record_of}
use Rattle.jk_model_classes.specs.Lookups.{MethodIs}
use Rattle.jk_model_classes.specs.Members.{CLINIT}
use Rattle.jk_model_classes.specs.SystemRecords.{AreSystemRecords, AreTypesFor}
use Rattle.jk_model_classes.specs.Worlds.{NamedClass, IsNamed}
use Rattle.jk_model_typing.specs.declared.frames.FrameType.{FrameType}
use Rattle.jk_model_typing.specs.Scopes.{CodeScope, IsScopeOf, is_static}
use Rattle.jk_model_sound_classes.specs.NamedMembers.{NamesField, NamesMethod}
use Rattle.jk_model_sound_classes.specs.VerifiedMethods.{IsVerified}

-- ---- What names mean in one domain: its name table.

-- the class of a type, or of an array's elements, has a name
abbrev pub IsNamedBase : List NamedClass → BaseRef → Type 0
IsNamedBase table (Base.Class c) = IsNamed table c
IsNamedBase table base = ⊤

-- Of a class that a domain knows, the domain knows the parent and the interfaces too, each class to which its pool leads, and the
-- class of each member to which it leads.
pub record KnowsAround (table : List NamedClass) (r : ClassRecord) : Type 0 where
  pub parent : (p : ClassId) → r.parent ≡ Some p → IsNamed table p
  pub interfaces : AllByRecursion (IsNamed table) r.interfaces
  pub classes : (t : TypeRef) → Contains r.links (To.Class t) → IsNamedBase table t.base
  pub fields : (c : ClassId) (m : MemberId) → Contains r.links (To.Field c m) → IsNamed table m.class
  pub methods : (c : ClassId) (m : MemberId) → Contains r.links (To.Method c m) → IsNamed table m.class

-- the classes that a table names are there, and all around them is named too
abbrev pub IsClosedTable : List ClassRecord → List NamedClass → Type 0
IsClosedTable classes table =
    (c : ClassId) → IsNamed table c → (r : ClassRecord) × (record_of classes c ≡ Some r) × KnowsAround table r

-- ---- All classes, and the name tables of all domains.

pub record AreSoundClasses (classes : List ClassRecord) (tables : List (List NamedClass)) : Type 0 where
  pub ordered : AreOrdered classes
  -- the system classes stand in front, and each other class has a parent
  pub system : AreSystemRecords (take (length system_classes) classes)
  pub homed : (c : ClassId) (r : ClassRecord) → record_of classes c ≡ Some r → (r.home ≡ None → ⊥) → (p : ClassId) × (r.parent ≡ Some p)
  pub of_system : (c : ClassId) (r : ClassRecord) → record_of classes c ≡ Some r → r.home ≡ None
      → (slice_get (take (length system_classes) classes) c.0 ≡ Some r)
  -- a method's parameters are those that its descriptor says, by what names mean where it stands
  pub described : (m : MemberId) (method : MethodRecord) → MethodIs classes m method
      → (meaning : List ℕ → Option ClassId) × AreTypesFor meaning method.kind.params method.params
  -- each method with code has a typing
  pub typed : (m : MemberId) (s : CodeScope) → IsScopeOf classes m s → (frames : List (Option FrameType)) × IsVerified classes m frames
  -- what invokestatic calls is static
  pub statics : (m member : MemberId) (s : CodeScope) (i : Instr) (method : MethodRecord) → IsScopeOf classes m s
      → Contains s.code.instrs i → i.op ≡ INVOKESTATIC → NamesMethod s i member method → IsTrue (is_static method)
  -- what getstatic reads is a static field
  pub static_fields : (m member : MemberId) (s : CodeScope) (i : Instr) (field : FieldRecord) → IsScopeOf classes m s
      → Contains s.code.instrs i → i.op ≡ GETSTATIC → NamesField s i member field → IsTrue (has field.flags STATIC)
  -- the initialiser of a class is static, and takes and answers nothing
  pub initialisers : (m : MemberId) (s : CodeScope) → IsScopeOf classes m s → s.method.name ≡ CLINIT
      → IsTrue (is_static s.method) × (s.method.params ≡ []) × (s.method.result ≡ None)
  pub closed : (table : List NamedClass) → Contains tables table → IsClosedTable classes table
