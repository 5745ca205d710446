-- What holds of all classes where every folder was accepted, whatever domains know of them. The rule of loading that asks for a fact
-- stands behind it.
use Rattle.std.specs.Prelude.{◌≡◌, ◌≢◌, ℕ, ◌^◌, ◌<◌, ◌≤◌, ◌⊎◌, ⊤, IsFalse, IsTrue, List, [], length, map, Contains, Option, Some, None}
use Rattle.jk_model.specs.Flags.{has, ABSTRACT, INTERFACE, PRIVATE, PROTECTED, PUBLIC, STATIC}
use Rattle.jk_model.specs.Instructions.{Rises}
use Rattle.jk_model.specs.SystemTable.{system_classes}
use Rattle.jk_model.specs.declared.identifiers.ClassId.{ClassId}
use Rattle.jk_model.specs.declared.identifiers.MemberId.{MemberId}
use Rattle.jk_model.specs.declared.instructions.Instr.{Instr}
use Rattle.jk_model.specs.declared.instructions.SwitchCase.{SwitchCase}
use Rattle.jk_model_classes.specs.declared.records.BaseRef.{BaseRef}
use Rattle.jk_model_classes.specs.declared.records.BaseRef.TheVariants as Base
use Rattle.jk_model_classes.specs.declared.records.Body.{Body}
use Rattle.jk_model_classes.specs.declared.records.Body.TheVariants as Does
use Rattle.jk_model_classes.specs.declared.records.ClassRecord.{ClassRecord}
use Rattle.jk_model_classes.specs.declared.records.FieldRecord.{FieldRecord}
use Rattle.jk_model_classes.specs.declared.records.Link.{Link}
use Rattle.jk_model_classes.specs.declared.records.Link.TheVariants as To
use Rattle.jk_model_classes.specs.declared.records.LinkedCode.{LinkedCode}
use Rattle.jk_model_classes.specs.declared.records.MethodRecord.{MethodRecord}
use Rattle.jk_model_classes.specs.declared.records.TypeRef.{TypeRef}
use Rattle.jk_model_classes.specs.Classes.{AreOrdered, IsInterface, OBJECT, field_walk, method_walk, record_of}
use Rattle.jk_model_classes.specs.Lookups.{FieldIs, MethodIs}
use Rattle.jk_model_classes.specs.Members.{CLINIT, INIT}
use Rattle.jk_model_typing.specs.declared.frames.FrameType.{FrameType}
use Rattle.jk_model_typing.specs.FrameTypes.{STRING}
use Rattle.jk_model_typing.specs.Scopes.{CodeScope, IsScopeOf, is_static}
use Rattle.jk_model_typing.specs.Typing.{IsLeastTyping}
use Rattle.jk_model_domains.specs.Objects.{class_type}
use Rattle.erased_typings.specs.ErasedFrames.{HaveClassParents}
use Rattle.system_facts.specs.ClosedClasses.{HaveOpenParents}
use Rattle.system_facts.specs.SystemTypes.{HaveSystemClasses}
use Rattle.heap_laws.specs.NamedWell.{NamesWell}

-- ---- Constants of fields.

-- the values of the type are ints
abbrev pub IsOfInts : BaseRef → Type 0
IsOfInts Base.Long = ⊥
IsOfInts (Base.Class c) = ⊥
IsOfInts base = ⊤

-- a constant that a field of the type may have (C9)
abbrev pub SuitsType : TypeRef → Link → Type 0
SuitsType kind (To.Int n) = (kind.dims ≡ 0) × IsOfInts kind.base
SuitsType kind (To.Long n) = (kind.dims ≡ 0) × (kind.base ≡ Base.Long)
SuitsType kind (To.Text text) = kind ≡ class_type STRING
SuitsType kind constant = ⊤

-- ---- Code.

-- Its places fit 32 bits, and the keys of each switch rise (C15).
pub record IsDecoded (code : LinkedCode) : Type 0 where
  pub short : length code.instrs < 2 ^ 32
  pub keys : (i : Instr) → Contains code.instrs i → Rises (map (λ (c : SwitchCase). c.key) i.cases)

-- a method runs code, or is one of the system
abbrev pub IsRunnable : Body → Type 0
IsRunnable body = ((code : LinkedCode) × (body ≡ Does.Linked code)) ⊎ ((n : ℕ) × (body ≡ Does.System n))

-- ---- All classes.

pub record AreSoundCodes (classes : List ClassRecord) : Type 0 where
  -- each class stands after its parent and its interfaces; the system classes stand in front, and are the ones without a home
  pub ordered : AreOrdered classes
  pub system : HaveSystemClasses classes
  pub of_system : (c : ClassId) (r : ClassRecord) → record_of classes c ≡ Some r → r.home ≡ None → c.0 < length system_classes
  -- every other class has a parent, which is no interface and isn't closed (C19)
  pub homed : (c : ClassId) (r : ClassRecord) → record_of classes c ≡ Some r → r.home ≢ None → (p : ClassId) × (r.parent ≡ Some p)
  pub class_parents : HaveClassParents classes
  pub open_parents : HaveOpenParents classes
  -- that of an interface is java/lang/Object (C19)
  pub interface_parents : (c : ClassId) (r : ClassRecord) → record_of classes c ≡ Some r → IsTrue (has r.flags INTERFACE)
      → r.parent ≡ Some OBJECT
  -- what a class lists as its interfaces are interfaces (C19)
  pub listed_interfaces : (c i : ClassId) (r : ClassRecord) → record_of classes c ≡ Some r → Contains r.interfaces i → IsInterface classes i
  -- fields of interfaces are static, and their methods abstract, initialisers apart (C6)
  pub interface_fields : (m : MemberId) (field : FieldRecord) → IsInterface classes m.class → FieldIs classes m field
      → IsTrue (has field.flags STATIC)
  pub interface_methods : (m : MemberId) (method : MethodRecord) → IsInterface classes m.class → MethodIs classes m method
      → method.name ≢ CLINIT → IsTrue (has method.flags ABSTRACT)
  pub constants : (m : MemberId) (field : FieldRecord) → FieldIs classes m field → SuitsType field.kind field.constant
  -- a private method is neither public nor protected, and a static one isn't abstract (C6)
  pub private_methods : (m : MemberId) (method : MethodRecord) → MethodIs classes m method → IsTrue (has method.flags PRIVATE)
      → IsFalse (has method.flags PUBLIC) × IsFalse (has method.flags PROTECTED)
  pub static_methods : (m : MemberId) (method : MethodRecord) → MethodIs classes m method → IsTrue (is_static method)
      → IsFalse (has method.flags ABSTRACT)
  -- a method that isn't abstract runs (C9, C13), and one of a folder's classes runs no method of the system
  pub bodies : (m : MemberId) (method : MethodRecord) → MethodIs classes m method → IsFalse (has method.flags ABSTRACT)
      → IsRunnable method.body
  pub system_bodies : (m : MemberId) (method : MethodRecord) (r : ClassRecord) (n : ℕ) → MethodIs classes m method
      → record_of classes m.class ≡ Some r → method.body ≡ Does.System n → r.home ≡ None
  -- the initialiser of a class has code, is static, and takes and answers nothing (C8, C9)
  pub initialisers : (m : MemberId) (method : MethodRecord) → MethodIs classes m method → method.name ≡ CLINIT
      → ((code : LinkedCode) × (method.body ≡ Does.Linked code)) × IsTrue (is_static method) × (method.params ≡ []) × (method.result ≡ None)
  -- a constructor answers nothing, and no method has more parameters than a call can give (C8)
  pub constructors : (m : MemberId) (method : MethodRecord) → MethodIs classes m method → method.name ≡ INIT → method.result ≡ None
  pub few_params : (m : MemberId) (method : MethodRecord) → MethodIs classes m method → length method.params ≤ 255
  -- what the entries of a class's pool lead to: a member stands on the way up from the class that the entry names (C20), and no type has
  -- more dimensions than a class file can say (C7)
  pub found_fields : (c named : ClassId) (r : ClassRecord) (m : MemberId) → record_of classes c ≡ Some r → Contains r.links (To.Field named m)
      → Contains (field_walk classes named) m.class
  pub found_methods : (c named : ClassId) (r : ClassRecord) (m : MemberId) → record_of classes c ≡ Some r
      → Contains r.links (To.Method named m) → Contains (method_walk classes named) m.class
  pub few_dimensions : (c : ClassId) (r : ClassRecord) (t : TypeRef) → record_of classes c ≡ Some r → Contains r.links (To.Class t)
      → t.dims ≤ 255
  -- each method with code has a typing (C23)
  pub decoded : (m : MemberId) (s : CodeScope) → IsScopeOf classes m s → IsDecoded s.code
  pub typed : (m : MemberId) (s : CodeScope) → IsScopeOf classes m s → (frames : List (Option FrameType)) × IsLeastTyping classes m frames
  pub names : (m : MemberId) (s : CodeScope) (i : Instr) → IsScopeOf classes m s → Contains s.code.instrs i → NamesWell s i
