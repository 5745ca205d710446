-- The rules on the code of methods: C10 to C15 (the Java Virtual Machine Specification, 4.8 and chapter 6). A code
-- that doesn't decode has no instructions. The codes of a native method are not looked at.
use Rattle.std.specs.Prelude.{◌≡◌, ℕ, ◌+◌, ◌<◌, ◌≤◌, ◌≢◌, ◌⊎◌, ◌&&◌, ◌||◌, ◌==◌, ⊤, ℤ, pos, ◌<ℤ◌, Bool, not, List, IsTrue, length, nat_le}
use Rattle.jk_model.specs.declared.class_file.ClassFile.{ClassFile}
use Rattle.jk_model.specs.declared.class_file.PoolEntry.{PoolEntry}
use Rattle.jk_model.specs.declared.class_file.PoolEntry.TheVariants.{Integer, Float, Long, Double, Str, FieldRef, MethodRef, InterfaceMethodRef}
use Rattle.jk_model.specs.declared.class_file.MemberInfo.{MemberInfo}
use Rattle.jk_model.specs.declared.class_file.Attribute.{Attribute}
use Rattle.jk_model.specs.declared.class_file.Code.{Code}
use Rattle.jk_model.specs.declared.class_file.Handler.{Handler}
use Rattle.jk_model.specs.declared.instructions.Instr.{Instr}
use Rattle.jk_model.specs.declared.instructions.SwitchCase.{SwitchCase}
use Rattle.jk_model.specs.declared.descriptors.FieldType.{FieldType}
use Rattle.jk_model.specs.declared.descriptors.MethodType.{MethodType}
use Rattle.jk_model.specs.ClassFile.{NamesEntry, IsClassEntry, CodeLayout}
use Rattle.jk_model.specs.Descriptors.{IsFieldText, IsMethodText, method_slots}
use Rattle.jk_model.specs.Flags.{STATIC, SYNCHRONIZED, NATIVE, ABSTRACT, has}
use Rattle.jk_model.specs.Instructions.{Decodes, Fault, IllegalOpcode, BadSwitch, BadOperand, FloatOpcode, Subroutine, Monitor, HasFault, IsCutAt}
use Rattle.jk_model.specs.declared.opcodes.TheConstants.{LDC_W, LDC2_W, ILOAD, LLOAD, ALOAD, ISTORE, LSTORE, ASTORE, IINC, IFEQ, GOTO, TABLESWITCH, LOOKUPSWITCH, GETSTATIC, PUTFIELD, INVOKEVIRTUAL, INVOKESPECIAL, INVOKESTATIC, INVOKEINTERFACE, NEW, ANEWARRAY, CHECKCAST, INSTANCEOF, MULTIANEWARRAY, IFNULL, IFNONNULL}
use Rattle.jk_model_classes.specs.ClassFlags.{MethodFlags}
use Rattle.jk_model_classes.specs.ClassNames.{HasText, NamesClass, BeginsArray}
use Rattle.jk_model_classes.specs.Items.{HasItem, MethodAt, Spot, Member, Entry}
use Rattle.jk_model_classes.specs.MemberAttributes.{IsCodeAttribute}
use Rattle.jk_model_classes.specs.MemberDescriptors.{HasFloatDescriptor}
use Rattle.jk_model_classes.specs.Members.{ClassAt, MemberKind, ReferenceAt, INIT}

-- ---- The code of a method, and its instructions.

-- The method at this number is neither abstract nor native, and this is its code.
pub record CodeAt (c : ClassFile) (n : ℕ) (code : Code) : Type 0 where
  pub method : MemberInfo
  pub at : MethodAt c n method
  pub flags : ℕ
  pub counted : MethodFlags c method flags
  pub concrete : IsTrue (not (has flags ABSTRACT) && not (has flags NATIVE))
  pub body : HasItem (λ (a : Attribute). IsCodeAttribute c.pool a × CodeLayout a.body code) method.attributes

-- one of the instructions of the code is so
abbrev pub HasInstr : (Instr → Type 0) → Code → Type 0
HasInstr P code = (instrs : List Instr) × Decodes code.code instrs × HasItem P instrs

-- the code shows this fault, at whatever place
abbrev pub Shows : Fault → Code → Type 0
Shows fault code = (place : ℕ) × HasFault code.code fault place

-- the code of the method at this number is so
abbrev pub HasCode : (Code → Type 0) → ClassFile → ℕ → Type 0
HasCode P c n = (code : Code) × CodeAt c n code × P code

-- an entry of this kind stands at the index that is the instruction's first operand
abbrev pub UsesEntry : (PoolEntry → Type 0) → List PoolEntry → Instr → Type 0
UsesEntry kind pool instr = (i : ℕ) × (instr.a ≡ pos i) × NamesEntry kind pool i

-- ---- C10, as far as code goes: an opcode of float or double, or a constant of them.

abbrev pub IsFloatEntry : PoolEntry → Type 0
IsFloatEntry (Float n) = ⊤
IsFloatEntry _ = ⊥

abbrev pub IsDoubleEntry : PoolEntry → Type 0
IsDoubleEntry (Double n) = ⊤
IsDoubleEntry _ = ⊥

abbrev pub LoadsFloat : List PoolEntry → Instr → Type 0
LoadsFloat pool instr =
    ((instr.op ≡ LDC_W) × UsesEntry IsFloatEntry pool instr) ⊎ ((instr.op ≡ LDC2_W) × UsesEntry IsDoubleEntry pool instr)

abbrev pub UsesFloat : ClassFile → Spot → Type 0
UsesFloat c (Member n) =
    HasFloatDescriptor c (Member n)
    ⊎ HasCode (λ code. Shows FloatOpcode code ⊎ HasInstr (LoadsFloat c.pool) code) c n
UsesFloat c (Entry i) = HasFloatDescriptor c (Entry i)

-- ---- C11 to C14: what is left out.

abbrev pub UsesSubroutine : ClassFile → Spot → Type 0
UsesSubroutine c (Member n) = HasCode (Shows Subroutine) c n
UsesSubroutine c (Entry i) = ⊥

-- the method at this number has this flag
abbrev pub HasMethodFlag : ℕ → ClassFile → ℕ → Type 0
HasMethodFlag flag c n =
    (method : MemberInfo) × (flags : ℕ) × MethodAt c n method × MethodFlags c method flags × IsTrue (has flags flag)

abbrev pub UsesMonitor : ClassFile → Spot → Type 0
UsesMonitor c (Member n) = HasCode (Shows Monitor) c n ⊎ HasMethodFlag SYNCHRONIZED c n
UsesMonitor c (Entry i) = ⊥

abbrev pub IsNative : ClassFile → Spot → Type 0
IsNative c (Member n) = HasMethodFlag NATIVE c n
IsNative c (Entry i) = ⊥

abbrev pub LoadsClass : ClassFile → Spot → Type 0
LoadsClass c (Member n) = HasCode (HasInstr (λ instr. (instr.op ≡ LDC_W) × UsesEntry IsClassEntry c.pool instr)) c n
LoadsClass c (Entry i) = ⊥

-- ---- C15. What decoding refuses.

abbrev pub IsUndecodable : Code → Type 0
IsUndecodable code =
    Shows IllegalOpcode code ⊎ Shows BadSwitch code ⊎ Shows BadOperand code ⊎ ((place : ℕ) × IsCutAt code.code place)

-- ---- Places: where an instruction leads, and where handlers stand.

-- an instruction begins at this place
abbrev pub BeginsAt : Code → ℤ → Type 0
BeginsAt code place = HasInstr (λ instr. pos instr.at ≡ place) code

-- ifeq to goto, ifnull and ifnonnull
abbrev pub is_jump : ℕ → Bool
is_jump op = (nat_le IFEQ op && nat_le op GOTO) || op == IFNULL || op == IFNONNULL

-- tableswitch and lookupswitch
abbrev pub is_switch : ℕ → Bool
is_switch op = op == TABLESWITCH || op == LOOKUPSWITCH

-- the instruction may go on at this place, other than by going on to the next
abbrev pub LeadsTo : Instr → ℤ → Type 0
LeadsTo instr place =
    (IsTrue (is_jump instr.op || is_switch instr.op) × (place ≡ instr.a))
    ⊎ HasItem (λ (s : SwitchCase). place ≡ s.target) instr.cases

abbrev pub LeadsNowhere : Code → Instr → Type 0
LeadsNowhere code instr = (place : ℤ) × LeadsTo instr place × (BeginsAt code place → ⊥)

-- A handler covers instructions from its start up to its end, which may be the code's, and is at an instruction.
-- What it catches is a class that isn't an array's, or all, where its index is 0.
pub record IsGoodHandler (pool : List PoolEntry) (code : Code) (h : Handler) : Type 0 where
  pub start : BeginsAt code (pos h.start)
  pub end : BeginsAt code (pos h.end) ⊎ (h.end ≡ length code.code)
  pub order : h.start < h.end
  pub place : BeginsAt code (pos h.handler)
  pub catch : (h.catch ≡ 0) ⊎ NamesClass pool h.catch

-- ---- Operands that are pool indices.

-- the entries that an instruction may name
abbrev pub IsConstantEntry : PoolEntry → Type 0
IsConstantEntry (Integer n) = ⊤
IsConstantEntry (Str text) = ⊤
IsConstantEntry _ = ⊥

abbrev pub IsLongEntry : PoolEntry → Type 0
IsLongEntry (Long n) = ⊤
IsLongEntry _ = ⊥

abbrev pub IsFieldEntry : PoolEntry → Type 0
IsFieldEntry (FieldRef class pair) = ⊤
IsFieldEntry _ = ⊥

abbrev pub IsMethodEntry : PoolEntry → Type 0
IsMethodEntry (MethodRef class pair) = ⊤
IsMethodEntry _ = ⊥

abbrev pub IsInterfaceMethodEntry : PoolEntry → Type 0
IsInterfaceMethodEntry (InterfaceMethodRef class pair) = ⊤
IsInterfaceMethodEntry _ = ⊥

-- getstatic, putstatic, getfield, putfield
abbrev pub is_field_access : ℕ → Bool
is_field_access op = nat_le GETSTATIC op && nat_le op PUTFIELD

-- invokevirtual, invokespecial, invokestatic
abbrev pub is_call : ℕ → Bool
is_call op = nat_le INVOKEVIRTUAL op && nat_le op INVOKESTATIC

-- new, anewarray, checkcast, instanceof, multianewarray
abbrev pub is_of_class : ℕ → Bool
is_of_class op = op == NEW || op == ANEWARRAY || op == CHECKCAST || op == INSTANCEOF || op == MULTIANEWARRAY

-- the entry that the instruction names is missing, or of another kind than it needs
abbrev pub NeedsEntry : (PoolEntry → Type 0) → List PoolEntry → Instr → Type 0
NeedsEntry kind pool instr = UsesEntry kind pool instr → ⊥

abbrev pub HasBadEntry : List PoolEntry → Instr → Type 0
HasBadEntry pool instr =
    ((instr.op ≡ LDC_W) × NeedsEntry IsConstantEntry pool instr)
    ⊎ ((instr.op ≡ LDC2_W) × NeedsEntry IsLongEntry pool instr)
    ⊎ (IsTrue (is_field_access instr.op) × NeedsEntry IsFieldEntry pool instr)
    ⊎ (IsTrue (is_call instr.op) × NeedsEntry IsMethodEntry pool instr)
    ⊎ ((instr.op ≡ INVOKEINTERFACE) × NeedsEntry IsInterfaceMethodEntry pool instr)
    ⊎ (IsTrue (is_of_class instr.op) × NeedsEntry IsClassEntry pool instr)

-- ---- Locals.

-- iload, aload, istore, astore, iinc
abbrev pub is_of_local : ℕ → Bool
is_of_local op = op == ILOAD || op == ALOAD || op == ISTORE || op == ASTORE || op == IINC

-- lload, lstore
abbrev pub is_of_long_local : ℕ → Bool
is_of_long_local op = op == LLOAD || op == LSTORE

-- its local, or a long's second half, isn't one of so many locals
abbrev pub HasBadLocal : ℕ → Instr → Type 0
HasBadLocal max_locals instr =
    (local : ℕ) × (instr.a ≡ pos local)
    × ((IsTrue (is_of_local instr.op) × (max_locals ≤ local))
    ⊎ (IsTrue (is_of_long_local instr.op) × (max_locals ≤ local + 1)))

-- the arguments, the receiver included where the method isn't static, have more slots than the code has locals
abbrev pub HasManyArguments : ClassFile → ℕ → Code → Type 0
HasManyArguments c n code =
    (method : MemberInfo) × (flags : ℕ) × (t : MethodType) × MethodAt c n method × MethodFlags c method flags
    × HasText (λ units. IsMethodText units t) c.pool method.descriptor
    × (code.max_locals < method_slots t (not (has flags STATIC)))

-- ---- Classes that instructions name.

-- the instruction's first operand is the index of a Class entry with this name
abbrev pub NamesClassOf : List PoolEntry → Instr → List ℕ → Type 0
NamesClassOf pool instr units = (i : ℕ) × (instr.a ≡ pos i) × ClassAt pool i units

-- an array type with at least so many dimensions
abbrev pub HasDimensions : List ℕ → ℤ → Type 0
HasDimensions units n = (t : FieldType) × (1 ≤ t.dims) × IsFieldText units t × ((pos t.dims <ℤ n) → ⊥)

-- `new` of an array; multianewarray of more dimensions than its type has; anewarray of what would have over 255
abbrev pub MakesBadArray : List PoolEntry → Instr → Type 0
MakesBadArray pool instr =
    (units : List ℕ) × NamesClassOf pool instr units
    × (((instr.op ≡ NEW) × BeginsArray units)
    ⊎ ((instr.op ≡ MULTIANEWARRAY) × (HasDimensions units instr.b → ⊥))
    ⊎ ((instr.op ≡ ANEWARRAY) × HasDimensions units (pos 255)))

-- an instruction other than invokespecial names `<init>`
abbrev pub CallsInit : List PoolEntry → Instr → Type 0
CallsInit pool instr =
    IsTrue (is_field_access instr.op || is_call instr.op || instr.op == INVOKEINTERFACE) × (instr.op ≢ INVOKESPECIAL)
    × ((i : ℕ) × (kind : MemberKind) × (descriptor : List ℕ) × (instr.a ≡ pos i) × ReferenceAt pool i kind INIT descriptor)

abbrev pub IsBadInstr : List PoolEntry → Code → Instr → Type 0
IsBadInstr pool code instr =
    LeadsNowhere code instr ⊎ HasBadEntry pool instr ⊎ HasBadLocal code.max_locals instr ⊎ MakesBadArray pool instr
    ⊎ CallsInit pool instr

abbrev pub HasBadCode : ClassFile → Spot → Type 0
HasBadCode c (Member n) =
    HasCode (λ code.
    IsUndecodable code ⊎ HasInstr (IsBadInstr c.pool code) code
    ⊎ ((instrs : List Instr) × Decodes code.code instrs × HasItem (λ (h : Handler). IsGoodHandler c.pool code h → ⊥) code.handlers)
    ⊎ HasManyArguments c n code) c n
HasBadCode c (Entry i) = ⊥
