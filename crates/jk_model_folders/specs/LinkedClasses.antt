-- The record of a class file: names of classes become numbers, and what its pool names is looked up.
use Rattle.std.specs.Prelude.{◌≡◌, ◌≢◌, ℕ, ◌%◌, ◌<◌, ◌⊎◌, ◌||◌, not, IsTrue, ℤ, pos, List, [], ◌∷◌, length, Contains, Some, None, slice_get}
use Rattle.std.specs.Int.{w8, w16, w32, w64, cast_signed}
use Rattle.jk_model.specs.declared.class_file.Attribute.{Attribute}
use Rattle.jk_model.specs.declared.class_file.ClassFile.{ClassFile}
use Rattle.jk_model.specs.declared.class_file.Code.{Code}
use Rattle.jk_model.specs.declared.class_file.Handler.{Handler}
use Rattle.jk_model.specs.declared.class_file.MemberInfo.{MemberInfo}
use Rattle.jk_model.specs.declared.class_file.PoolEntry.{PoolEntry}
use Rattle.jk_model.specs.declared.class_file.PoolEntry.TheVariants as Entry
use Rattle.jk_model.specs.declared.descriptors.FieldType.{FieldType}
use Rattle.jk_model.specs.declared.identifiers.ClassId.{ClassId}
use Rattle.jk_model.specs.declared.identifiers.DomainId.{DomainId}
use Rattle.jk_model.specs.declared.identifiers.MemberId.{MemberId}
use Rattle.jk_model.specs.declared.instructions.Instr.{Instr}
use Rattle.jk_model.specs.declared.instructions.SwitchCase.{SwitchCase}
use Rattle.jk_model.specs.ClassFile.{u2, AreInterfaces, CodeLayout, interfaces_bytes}
use Rattle.jk_model.specs.Descriptors.{IsClassName, IsFieldText, IsMethodText}
use Rattle.jk_model.specs.Flags.{has, ABSTRACT, STATIC}
use Rattle.jk_model.specs.Instructions.{Decodes}
use Rattle.jk_model_classes.specs.declared.records.BaseRef.{BaseRef}
use Rattle.jk_model_classes.specs.declared.records.BaseRef.TheVariants as Base
use Rattle.jk_model_classes.specs.declared.records.Body.{Body}
use Rattle.jk_model_classes.specs.declared.records.Body.TheVariants as Does
use Rattle.jk_model_classes.specs.declared.records.Caught.{Caught}
use Rattle.jk_model_classes.specs.declared.records.ClassRecord.{ClassRecord}
use Rattle.jk_model_classes.specs.declared.records.FieldRecord.{FieldRecord}
use Rattle.jk_model_classes.specs.declared.records.Link.{Link}
use Rattle.jk_model_classes.specs.declared.records.Link.TheVariants as To
use Rattle.jk_model_classes.specs.declared.records.LinkedCode.{LinkedCode}
use Rattle.jk_model_classes.specs.declared.records.MethodRecord.{MethodRecord}
use Rattle.jk_model_classes.specs.declared.records.TypeRef.{TypeRef}
use Rattle.jk_model_classes.specs.ClassFlags.{MethodFlags}
use Rattle.jk_model_classes.specs.ClassNames.{HasText}
use Rattle.jk_model_classes.specs.LinkRules.{LinkScope, FindsFieldAt, FindsMethodAt}
use Rattle.jk_model_classes.specs.MemberAttributes.{IsCodeAttribute, IsConstantValue, IsExceptions}
use Rattle.jk_model_classes.specs.MemberCode.{is_jump, is_switch}
use Rattle.jk_model_classes.specs.Members.{ClassAt, TextAt}
use Rattle.jk_model_classes.specs.References.{RefersAt, IsCalledClass}
use Rattle.jk_model_classes.specs.SystemRecords.{AreTypesFor, IsResultFor, IsTypeFor}

-- Two lists go along: as many items, and those at equal places belong together.
pub record GoAlong {X Y : Type 0} (Belong : X → Y → Type 0) (xs : List X) (ys : List Y) : Type 0 where
  pub as_many : length ys ≡ length xs
  pub each : (i : ℕ) (x : X) (y : Y) → slice_get xs i ≡ Some x → slice_get ys i ≡ Some y → Belong x y

-- ---- Names of classes.

-- the Class entry at this index is of the class with this number
abbrev pub NamesClassAt : LinkScope → ClassFile → ℕ → ClassId → Type 0
NamesClassAt s c i class = (name : List ℕ) × ClassAt c.pool i name × (s.meaning name ≡ Some class)

-- the type that the name of a Class entry says: a class, or an array
abbrev pub IsEntryType : LinkScope → List ℕ → TypeRef → Type 0
IsEntryType s name t =
    (IsClassName name × ((class : ClassId) × (s.meaning name ≡ Some class) × (t ≡ record { dims = 0; base = Base.Class class })))
    ⊎ ((type : FieldType) × (type.dims ≢ 0) × IsFieldText name type × IsTypeFor s.meaning type t)

-- ---- Constants. A number stands as a store into a static field of the type would leave it.

abbrev pub kept_bits : BaseRef → ℕ → ℤ
kept_bits Base.Byte n = cast_signed w8 (n % 256)
kept_bits Base.Char n = pos (n % 65536)
kept_bits Base.Short n = cast_signed w16 (n % 65536)
kept_bits Base.Bool n = pos (n % 2)
kept_bits base n = cast_signed w32 n

-- what the entry that a ConstantValue names leaves in a field of this type
abbrev pub IsConstantFrom : List PoolEntry → TypeRef → PoolEntry → Link → Type 0
IsConstantFrom pool kind (Entry.Integer n) constant = constant ≡ To.Int (kept_bits kind.base n)
IsConstantFrom pool kind (Entry.Long n) constant = constant ≡ To.Long (cast_signed w64 n)
IsConstantFrom pool kind (Entry.Str text) constant = (units : List ℕ) × TextAt pool text units × (constant ≡ To.Text units)
IsConstantFrom pool kind entry constant = ⊥

-- one of the attributes is a ConstantValue that names this entry
abbrev pub HasConstantEntry : List PoolEntry → List Attribute → PoolEntry → Type 0
HasConstantEntry pool attributes entry =
    (a : Attribute) × (index : ℕ) × Contains attributes a × IsConstantValue pool a × (a.body ≡ u2 index) × (slice_get pool index ≡ Some entry)

-- a static field has the constant that its ConstantValue names; one without it, and an instance field, has none
abbrev pub IsConstantOfField : List PoolEntry → MemberInfo → TypeRef → Link → Type 0
IsConstantOfField pool info kind constant =
    (IsTrue (has info.flags STATIC) × ((entry : PoolEntry) × HasConstantEntry pool info.attributes entry × IsConstantFrom pool kind entry constant))
    ⊎ ((IsTrue (has info.flags STATIC) → (entry : PoolEntry) → HasConstantEntry pool info.attributes entry → ⊥) × (constant ≡ To.Nothing))

-- ---- Fields.

pub record IsFieldFor (s : LinkScope) (c : ClassFile) (info : MemberInfo) (field : FieldRecord) : Type 0 where
  pub name : TextAt c.pool info.name field.name
  pub flags : field.flags ≡ info.flags
  pub type : FieldType
  pub text : HasText (λ units. IsFieldText units type) c.pool info.descriptor
  pub kind : IsTypeFor s.meaning type field.kind
  pub constant : IsConstantOfField c.pool info field.kind field.constant

-- ---- Code. Places in bytes become places in the list of instructions.

-- the instruction that begins at this byte stands at this place
abbrev pub IsPlaceOf : List Instr → ℤ → ℕ → Type 0
IsPlaceOf instrs at n = (i : Instr) × (slice_get instrs n ≡ Some i) × (pos i.at ≡ at)

abbrev pub IsCaseFor : List Instr → SwitchCase → SwitchCase → Type 0
IsCaseFor instrs decoded placed = (placed.key ≡ decoded.key) × ((n : ℕ) × IsPlaceOf instrs decoded.target n × (placed.target ≡ pos n))

-- jumps and switches lead to places, and all else stays
pub record IsInstrFor (instrs : List Instr) (decoded placed : Instr) : Type 0 where
  pub at : placed.at ≡ decoded.at
  pub op : placed.op ≡ decoded.op
  pub b : placed.b ≡ decoded.b
  pub leads : IsTrue (is_jump decoded.op || is_switch decoded.op) → (n : ℕ) × IsPlaceOf instrs decoded.a n × (placed.a ≡ pos n)
  pub names : IsTrue (not (is_jump decoded.op || is_switch decoded.op)) → placed.a ≡ decoded.a
  pub cases : GoAlong (IsCaseFor instrs) decoded.cases placed.cases

-- the end of a catch entry: an instruction's place, or the number of instructions where it is the code's end
abbrev pub IsEndFor : Code → List Instr → ℕ → ℕ → Type 0
IsEndFor code instrs end n = IsPlaceOf instrs (pos end) n ⊎ ((end ≡ length code.code) × (n ≡ length instrs))

pub record IsCaughtFor (s : LinkScope) (c : ClassFile) (code : Code) (instrs : List Instr) (h : Handler) (caught : Caught) : Type 0 where
  pub start : IsPlaceOf instrs (pos h.start) caught.start
  pub end : IsEndFor code instrs h.end caught.end
  pub handler : IsPlaceOf instrs (pos h.handler) caught.handler
  pub any : h.catch ≡ 0 → caught.class ≡ None
  pub class : h.catch ≢ 0 → (class : ClassId) × NamesClassAt s c h.catch class × (caught.class ≡ Some class)

pub record IsLinkedCode (s : LinkScope) (c : ClassFile) (code : Code) (linked : LinkedCode) : Type 0 where
  pub stack : linked.max_stack ≡ code.max_stack
  pub locals : linked.max_locals ≡ code.max_locals
  pub decoded : List Instr
  pub decodes : Decodes code.code decoded
  pub instrs : GoAlong (IsInstrFor decoded) decoded linked.instrs
  pub handlers : GoAlong (IsCaughtFor s c code decoded) code.handlers linked.handlers

-- ---- Methods.

-- an abstract method has no body, and each other the code of its Code attribute
abbrev pub IsBodyFor : LinkScope → ClassFile → MemberInfo → ℕ → Body → Type 0
IsBodyFor s c info flags body =
    (IsTrue (has flags ABSTRACT) × (body ≡ Does.Absent))
    ⊎ (IsTrue (not (has flags ABSTRACT))
    × ((a : Attribute) × (code : Code) × (linked : LinkedCode) × Contains info.attributes a × IsCodeAttribute c.pool a
    × CodeLayout a.body code × IsLinkedCode s c code linked × (body ≡ Does.Linked linked)))

pub record IsMethodFor (s : LinkScope) (c : ClassFile) (info : MemberInfo) (method : MethodRecord) : Type 0 where
  pub name : TextAt c.pool info.name method.name
  pub flags : MethodFlags c info method.flags
  pub kind : HasText (λ units. IsMethodText units method.kind) c.pool info.descriptor
  pub params : AreTypesFor s.meaning method.kind.params method.params
  pub result : IsResultFor s.meaning method.kind.result method.result
  pub body : IsBodyFor s c info method.flags method.body

-- ---- What the entries of the pool lead to.

-- a reference that finds nothing leads to nothing
abbrev pub IsFieldLink : LinkScope → ClassFile → ℕ → Link → Type 0
IsFieldLink s c i link =
    ((m : MemberId) × (f : FindsFieldAt s c i m) × (link ≡ To.Field f.class m))
    ⊎ (((m : MemberId) → FindsFieldAt s c i m → ⊥) × (link ≡ To.Nothing))

abbrev pub IsMethodLink : LinkScope → ClassFile → ℕ → Link → Type 0
IsMethodLink s c i link =
    ((m : MemberId) × (f : FindsMethodAt s c i m) × (link ≡ To.Method f.class m))
    ⊎ (((m : MemberId) → FindsMethodAt s c i m → ⊥) × (link ≡ To.Nothing))

abbrev pub IsLinkFor : LinkScope → ClassFile → ℕ → PoolEntry → Link → Type 0
IsLinkFor s c i (Entry.Integer n) link = link ≡ To.Int (cast_signed w32 n)
IsLinkFor s c i (Entry.Long n) link = link ≡ To.Long (cast_signed w64 n)
IsLinkFor s c i (Entry.Str text) link = (units : List ℕ) × TextAt c.pool text units × (link ≡ To.Text units)
IsLinkFor s c i (Entry.Class name) link =
    (units : List ℕ) × (t : TypeRef) × TextAt c.pool name units × IsEntryType s units t × (link ≡ To.Class t)
IsLinkFor s c i (Entry.FieldRef class pair) link = IsFieldLink s c i link
IsLinkFor s c i (Entry.MethodRef class pair) link = IsMethodLink s c i link
IsLinkFor s c i (Entry.InterfaceMethodRef class pair) link = IsMethodLink s c i link
IsLinkFor s c i entry link = link ≡ To.Nothing

pub record AreLinksFor (s : LinkScope) (c : ClassFile) (links : List Link) : Type 0 where
  pub as_many : length links ≡ length c.pool
  pub each : (i : ℕ) (entry : PoolEntry) (link : Link) → slice_get c.pool i ≡ Some entry → slice_get links i ≡ Some link
      → IsLinkFor s c i entry link

-- ---- The record without its links.

-- the classes to which the class file refers, in rising number and each once
pub record AreReferences (s : LinkScope) (c : ClassFile) (references : List ClassId) : Type 0 where
  pub each : (class : ClassId) → Contains references class → (i : ℕ) × (name : List ℕ) × RefersAt c i name × (s.meaning name ≡ Some class)
  pub all : (i : ℕ) (name : List ℕ) (class : ClassId) → RefersAt c i name → s.meaning name ≡ Some class → Contains references class
  pub rising : (j k : ℕ) (a b : ClassId) → j < k → slice_get references j ≡ Some a → slice_get references k ≡ Some b → a.0 < b.0

-- The scope's classes may be any here: they are looked up for links alone.
pub record IsRecordFor (s : LinkScope) (home : DomainId) (c : ClassFile) (r : ClassRecord) : Type 0 where
  pub name : IsCalledClass c r.name
  pub at_home : r.home ≡ Some home
  pub flags : r.flags ≡ c.flags
  pub parent : (p : ClassId) × NamesClassAt s c c.super_class p × (r.parent ≡ Some p)
  pub interfaces : GoAlong (NamesClassAt s c) c.interfaces r.interfaces
  pub fields : GoAlong (IsFieldFor s c) c.fields r.fields
  pub methods : GoAlong (IsMethodFor s c) c.methods r.methods
  pub references : AreReferences s c r.references

-- the record before the pool's links stand
abbrev pub without_links : ClassRecord → ClassRecord
without_links r = record r { links = [] }

-- ---- What a method says it throws, arrays left out, in the order of the file.

abbrev pub IsThrown : LinkScope → ClassFile → List ℕ → List ClassId → Type 0
IsThrown s c [] thrown = thrown ≡ []
IsThrown s c (i ∷ more) thrown =
    (name : List ℕ) × (rest : List ClassId) × ClassAt c.pool i name × IsThrown s c more rest
    × ((IsClassName name × ((class : ClassId) × (s.meaning name ≡ Some class) × (thrown ≡ class ∷ rest)))
    ⊎ ((IsClassName name → ⊥) × (thrown ≡ rest)))

-- the classes of the method's Exceptions; none where it has no such attribute
abbrev pub AreThrownBy : LinkScope → ClassFile → MemberInfo → List ClassId → Type 0
AreThrownBy s c info thrown =
    ((a : Attribute) × (indices : List ℕ) × Contains info.attributes a × IsExceptions c.pool a × AreInterfaces indices
    × (a.body ≡ interfaces_bytes indices) × IsThrown s c indices thrown)
    ⊎ (((a : Attribute) → Contains info.attributes a → IsExceptions c.pool a → ⊥) × (thrown ≡ []))
