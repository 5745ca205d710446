-- The rules on what a class's references find: C20, members that are missing or not of the needed sort; C21, access; C22,
-- final methods that are overridden. They are read where a folder's classes have records, so that walks upwards are known.
use Rattle.std.specs.Prelude.{◌≡◌, ◌≢◌, ℕ, ◌+◌, ◌<◌, ◌⊎◌, ◌||◌, ◌==◌, Bool, true, not, pos, IsTrue, List, Contains, Option, Some, None, length, slice_get}
use Rattle.jk_model.specs.declared.class_file.ClassFile.{ClassFile}
use Rattle.jk_model.specs.declared.class_file.PoolEntry.{PoolEntry}
use Rattle.jk_model.specs.declared.class_file.Code.{Code}
use Rattle.jk_model.specs.declared.instructions.Instr.{Instr}
use Rattle.jk_model.specs.declared.descriptors.FieldType.{FieldType}
use Rattle.jk_model.specs.declared.descriptors.MethodType.{MethodType}
use Rattle.jk_model.specs.declared.identifiers.ClassId.{ClassId}
use Rattle.jk_model.specs.declared.identifiers.MemberId.{MemberId}
use Rattle.jk_model.specs.Descriptors.{IsFieldText, IsMethodText}
use Rattle.jk_model.specs.Flags.{has, STATIC, FINAL, INTERFACE, ABSTRACT}
use Rattle.jk_model.specs.SystemTable.{SystemClass, system_classes}
use Rattle.jk_model.specs.declared.opcodes.TheConstants.{GETSTATIC, PUTSTATIC, GETFIELD, PUTFIELD, INVOKEVIRTUAL, INVOKESPECIAL, INVOKESTATIC, INVOKEINTERFACE, NEW}
use Rattle.jk_model_classes.specs.declared.records.ClassRecord.{ClassRecord}
use Rattle.jk_model_classes.specs.declared.records.FieldRecord.{FieldRecord}
use Rattle.jk_model_classes.specs.declared.records.MethodRecord.{MethodRecord}
use Rattle.jk_model_classes.specs.declared.records.TypeRef.{TypeRef}
use Rattle.jk_model_classes.specs.declared.records.Member.TheVariants as Found
use Rattle.jk_model_classes.specs.Classes.{record_of, IsInterface, IsSubclass}
use Rattle.jk_model_classes.specs.Items.{HasItem, Spot, Member, Entry}
use Rattle.jk_model_classes.specs.Lookups.{FieldIs, MethodIs, FindsField, FindsMethod, MayAccess, MayAccessClass, IsOverriddenIn}
use Rattle.jk_model_classes.specs.MemberCode.{HasCode, HasInstr}
use Rattle.jk_model_classes.specs.Members.{ClassAt, NameAndTypeAt, MemberKind, Field, Method, InterfaceMethod, reference, INIT}
use Rattle.jk_model_classes.specs.References.{ClassEntryAt}
use Rattle.jk_model_classes.specs.SystemRecords.{IsTypeFor}

-- What the names of the domain mean, its folder's classes included; all classes, these included; and the number of the
-- class whose file is judged.
pub record LinkScope : Type 0 where
  pub meaning : List ℕ → Option ClassId
  pub classes : List ClassRecord
  pub self : ClassId

-- ---- References to members, by the index of their entry.

-- a reference of this kind, to a member with this name and descriptor of the class with this Class entry's name
abbrev pub MemberRefAt : List PoolEntry → ℕ → MemberKind → List ℕ → List ℕ → List ℕ → Type 0
MemberRefAt pool i kind target name descriptor =
    (class : ℕ) × (pair : ℕ) × (slice_get pool i ≡ Some (reference kind class pair))
    × ClassAt pool class target × NameAndTypeAt pool pair name descriptor

-- The field that a FieldRef finds. An array has no name in the domain, and so no fields.
pub record FindsFieldAt (s : LinkScope) (c : ClassFile) (i : ℕ) (m : MemberId) : Type 0 where
  pub target : List ℕ
  pub name : List ℕ
  pub descriptor : List ℕ
  pub is_there : MemberRefAt c.pool i Field target name descriptor
  pub class : ClassId
  pub class_is : s.meaning target ≡ Some class
  pub type : FieldType
  pub text : IsFieldText descriptor type
  pub kind : TypeRef
  pub resolved : IsTypeFor s.meaning type kind
  pub found : FindsField s.classes class name kind (Some m)

-- a MethodRef is to name a class, an InterfaceMethodRef an interface
abbrev pub NamesRightSort : List ClassRecord → MemberKind → ClassId → Type 0
NamesRightSort classes Field class = ⊥
NamesRightSort classes Method class = IsInterface classes class → ⊥
NamesRightSort classes InterfaceMethod class = IsInterface classes class

-- The method that a MethodRef or an InterfaceMethodRef finds, also where it names a class of the other sort.
pub record FindsMethodAt (s : LinkScope) (c : ClassFile) (i : ℕ) (m : MemberId) : Type 0 where
  pub kind : MemberKind
  pub of_method : kind ≢ Field
  pub target : List ℕ
  pub name : List ℕ
  pub descriptor : List ℕ
  pub is_there : MemberRefAt c.pool i kind target name descriptor
  pub class : ClassId
  pub class_is : s.meaning target ≡ Some class
  pub type : MethodType
  pub text : IsMethodText descriptor type
  pub found : FindsMethod s.classes class name type (Some m)

-- a reference to a member stands at this index
abbrev pub IsReferenceAt : ClassFile → ℕ → Type 0
IsReferenceAt c i =
    (kind : MemberKind) × (target : List ℕ) × (name : List ℕ) × (descriptor : List ℕ) × MemberRefAt c.pool i kind target name descriptor

-- ---- What an instruction finds by its first operand.

abbrev pub UsesField : LinkScope → ClassFile → Instr → MemberId → FieldRecord → Type 0
UsesField s c instr m field = (i : ℕ) × (instr.a ≡ pos i) × FindsFieldAt s c i m × FieldIs s.classes m field

abbrev pub UsesMethod : LinkScope → ClassFile → Instr → MemberId → MethodRecord → Type 0
UsesMethod s c instr m method = (i : ℕ) × (instr.a ≡ pos i) × FindsMethodAt s c i m × MethodIs s.classes m method

-- getstatic and putstatic; getfield and putfield
abbrev pub is_static_access : ℕ → Bool
is_static_access op = op == GETSTATIC || op == PUTSTATIC

abbrev pub is_instance_access : ℕ → Bool
is_instance_access op = op == GETFIELD || op == PUTFIELD

-- putstatic and putfield
abbrev pub is_put : ℕ → Bool
is_put op = op == PUTSTATIC || op == PUTFIELD

-- invokevirtual, invokespecial, invokeinterface
abbrev pub is_instance_call : ℕ → Bool
is_instance_call op = op == INVOKEVIRTUAL || op == INVOKESPECIAL || op == INVOKEINTERFACE

-- ---- C20.

-- an instruction finds a static field where it needs an instance's, or the reverse
abbrev pub FindsWrongField : LinkScope → ClassFile → Instr → Type 0
FindsWrongField s c instr =
    (m : MemberId) × (field : FieldRecord) × UsesField s c instr m field
    × ((IsTrue (is_static_access instr.op) × IsTrue (not (has field.flags STATIC)))
    ⊎ (IsTrue (is_instance_access instr.op) × IsTrue (has field.flags STATIC)))

-- the same of methods; and invokespecial finds an abstract one
abbrev pub FindsWrongMethod : LinkScope → ClassFile → Instr → Type 0
FindsWrongMethod s c instr =
    (m : MemberId) × (method : MethodRecord) × UsesMethod s c instr m method
    × (((instr.op ≡ INVOKESTATIC) × IsTrue (not (has method.flags STATIC)))
    ⊎ (IsTrue (is_instance_call instr.op) × IsTrue (has method.flags STATIC))
    ⊎ ((instr.op ≡ INVOKESPECIAL) × IsTrue (has method.flags ABSTRACT)))

-- The two parts are read apart: an instruction may be at fault, and so may the reference that it names.
abbrev pub MissesMember : LinkScope → ClassFile → Spot → Type 0
MissesMember s c (Member n) = HasCode (HasInstr (λ instr. FindsWrongField s c instr ⊎ FindsWrongMethod s c instr)) c n
MissesMember s c (Entry i) =
    IsReferenceAt c i × ((m : MemberId) → FindsFieldAt s c i m → ⊥)
    × ((m : MemberId) (f : FindsMethodAt s c i m) → NamesRightSort s.classes f.kind f.class → ⊥)

-- ---- C21.

-- a put to a final field outside its class; its own class may put in any method
abbrev pub PutsFinal : LinkScope → ClassFile → Instr → Type 0
PutsFinal s c instr =
    (m : MemberId) × (field : FieldRecord) × UsesField s c instr m field × IsTrue (is_put instr.op) × IsTrue (has field.flags FINAL)
    × (m.class ≢ s.self)

-- a closed class of the system, without a constructor
abbrev pub HasNoConstructor : List ℕ → Type 0
HasNoConstructor name =
    HasItem (λ (e : SystemClass). (e.name ≡ name) × (e.closed ≡ true) × (HasItem (λ m. m.name ≡ INIT) e.methods → ⊥)) system_classes

-- `new` of an interface, of an abstract class, or of a closed class without a constructor
abbrev pub MakesWhatItMayNot : LinkScope → ClassFile → Instr → Type 0
MakesWhatItMayNot s c instr =
    (i : ℕ) × (name : List ℕ) × (class : ClassId) × (r : ClassRecord) × (instr.op ≡ NEW) × (instr.a ≡ pos i) × ClassAt c.pool i name
    × (s.meaning name ≡ Some class) × (record_of s.classes class ≡ Some r)
    × (IsTrue (has r.flags INTERFACE) ⊎ IsTrue (has r.flags ABSTRACT) ⊎ HasNoConstructor name)

abbrev pub IsAccessRefused : LinkScope → ClassFile → Spot → Type 0
IsAccessRefused s c (Member n) = HasCode (HasInstr (λ instr. PutsFinal s c instr ⊎ MakesWhatItMayNot s c instr)) c n
IsAccessRefused s c (Entry i) =
    ((name : List ℕ) × (class : ClassId) × ClassEntryAt c.pool i name × (s.meaning name ≡ Some class)
    × (MayAccessClass s.classes s.self class → ⊥))
    ⊎ ((m : MemberId) × FindsFieldAt s c i m × (MayAccess s.classes s.self (Found.Field m) → ⊥))
    ⊎ ((m : MemberId) × FindsMethodAt s c i m × (MayAccess s.classes s.self (Found.Method m) → ⊥))

-- ---- C22: a method overrides a final one of a class above.

abbrev pub OverridesFinal : LinkScope → MethodRecord → Type 0
OverridesFinal s method =
    (m : MemberId) × (final : MethodRecord) × MethodIs s.classes m final × IsSubclass s.classes s.self m.class × (m.class ≢ s.self)
    × (final.name ≡ method.name) × (final.kind ≡ method.kind) × IsTrue (has final.flags FINAL)
    × IsOverriddenIn s.classes m final.flags s.self

abbrev pub HasFinalOverridden : LinkScope → Spot → Type 0
HasFinalOverridden s (Member n) =
    (r : ClassRecord) × (i : ℕ) × (method : MethodRecord) × (record_of s.classes s.self ≡ Some r)
    × (slice_get r.methods i ≡ Some method) × (n ≡ length r.fields + i + 1) × OverridesFinal s method
HasFinalOverridden s (Entry i) = ⊥
