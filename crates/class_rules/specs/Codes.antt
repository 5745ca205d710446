-- What the rules ask of one method's code, and what is answered of it.
use Rattle.std.specs.Prelude.{◌≡◌, ◌≢◌, ℕ, ◌<◌, ◌≤◌, ◌⊎◌, ◌↔◌, ◌==◌, ◌||◌, ℤ, pos, ◌<ℤ◌, Bool, true, false, IsTrue, List, Option, Some, None, slice_get, if◌then◌else◌}
use Rattle.jk_model.specs.declared.class_file.PoolEntry.{PoolEntry}
use Rattle.jk_model.specs.declared.class_file.Code.{Code}
use Rattle.jk_model.specs.declared.class_file.Handler.{Handler}
use Rattle.jk_model.specs.declared.instructions.Instr.{Instr}
use Rattle.jk_model.specs.ClassFile.{IsClassEntry}
use Rattle.jk_model.specs.Instructions.{Decodes, Fault, FloatOpcode, Subroutine, Monitor, HasFault, IsCutAt}
use Rattle.jk_model.specs.declared.opcodes.TheConstants.{LDC_W, LDC2_W, INVOKESPECIAL, INVOKEINTERFACE, NEW, ANEWARRAY, MULTIANEWARRAY}
use Rattle.jk_model_classes.specs.Items.{HasItem}
use Rattle.jk_model_classes.specs.Members.{MemberKind, ReferenceAt, INIT}
use Rattle.jk_model_classes.specs.MemberCode.{HasInstr, Shows, UsesEntry, IsFloatEntry, IsDoubleEntry, LoadsFloat, IsUndecodable, BeginsAt, is_jump, is_switch, LeadsTo, IsGoodHandler, IsConstantEntry, IsLongEntry, IsFieldEntry, IsMethodEntry, IsInterfaceMethodEntry, is_field_access, is_call, is_of_class, HasBadLocal, MakesBadArray, CallsInit, IsBadInstr}
use Rattle.jk_opcodes.specs.declared.errors.CodeError.{CodeError}
use Rattle.jk_opcodes.specs.declared.errors.CodeError.TheVariants as errors
use Rattle.jk_opcodes.specs.Errors.{error_of}
use Rattle.class_rules.specs.declared.texts.FieldShape.{FieldShape}
use Rattle.class_rules.specs.declared.texts.TextFacts.{TextFacts}
use Rattle.class_rules.specs.declared.codes.CodeJudgment.{CodeJudgment}
use Rattle.class_rules.specs.declared.codes.operands.EntryKind.{EntryKind}
use Rattle.class_rules.specs.declared.codes.operands.EntryKind.TheVariants as kinds

-- ---- What is asked of a code, rule by rule.

-- C10
abbrev pub UsesFloatIn : List PoolEntry → Code → Type 0
UsesFloatIn pool code = Shows FloatOpcode code ⊎ HasInstr (LoadsFloat pool) code

-- C14
abbrev pub LoadsClassBy : List PoolEntry → Instr → Type 0
LoadsClassBy pool instr = (instr.op ≡ LDC_W) × UsesEntry IsClassEntry pool instr

-- C15: a handler of a code that decodes is bad
abbrev pub HasBadHandler : List PoolEntry → Code → Type 0
HasBadHandler pool code =
    (instrs : List Instr) × Decodes code.code instrs × HasItem (λ (h : Handler). IsGoodHandler pool code h → ⊥) code.handlers

-- C15, where the arguments of the method take so many slots
abbrev pub IsBadCode : List PoolEntry → ℕ → Code → Type 0
IsBadCode pool arguments code =
    IsUndecodable code ⊎ HasInstr (IsBadInstr pool code) code ⊎ HasBadHandler pool code ⊎ (code.max_locals < arguments)

-- What is answered of a code: which of the rules it breaks.
pub record IsJudgment (pool : List PoolEntry) (arguments : ℕ) (code : Code) (j : CodeJudgment) : Type 0 where
  pub has_float : IsTrue j.has_float ↔ UsesFloatIn pool code
  pub has_subroutine : IsTrue j.has_subroutine ↔ Shows Subroutine code
  pub has_monitor : IsTrue j.has_monitor ↔ Shows Monitor code
  pub loads_class : IsTrue j.loads_class ↔ HasInstr (LoadsClassBy pool) code
  pub is_bad : IsTrue j.is_bad ↔ IsBadCode pool arguments code

-- The code has this reading, and no other answer.
pub record IsReading (code : Code) (instrs : List Instr) : Type 0 where
  pub read : Decodes code.code instrs
  pub only : (others : List Instr) → Decodes code.code others → instrs ≡ others
  pub no_fault : (f : Fault) (place : ℕ) → HasFault code.code f place → ⊥
  pub no_cut : (place : ℕ) → IsCutAt code.code place → ⊥

-- The code has no reading, and this error says why.
pub record IsRefusal (code : Code) (e : CodeError) : Type 0 where
  pub unread : (instrs : List Instr) → Decodes code.code instrs → e ≡ errors.OutOfMemory
  pub fault : (f : Fault) (place : ℕ) → e ≡ error_of f place → HasFault code.code f place
  pub only_fault : (f : Fault) (place : ℕ) → HasFault code.code f place → (e ≡ error_of f place) ⊎ (e ≡ errors.OutOfMemory)
  pub cut : (place : ℕ) → e ≡ errors.CutInstruction place → IsCutAt code.code place
  pub only_cut : (place : ℕ) → IsCutAt code.code place → (e ≡ errors.CutInstruction place) ⊎ (e ≡ errors.OutOfMemory)

-- the part of C15 on one instruction that asks no places and no kind of entry
abbrev pub IsMisuse : List PoolEntry → ℕ → Instr → Type 0
IsMisuse pool max_locals instr = HasBadLocal max_locals instr ⊎ MakesBadArray pool instr ⊎ CallsInit pool instr

-- C15 of a code with these instructions
abbrev pub IsBadIn : List PoolEntry → ℕ → Code → List Instr → Type 0
IsBadIn pool arguments code instrs =
    (code.max_locals < arguments) ⊎ HasItem (IsBadInstr pool code) instrs
    ⊎ HasItem (λ (h : Handler). IsGoodHandler pool code h → ⊥) code.handlers

-- What is answered of a code that is refused with this error. The last is whether it has too few locals.
abbrev pub refused_judgment : CodeError → Bool → CodeJudgment
refused_judgment (errors.FloatOpcode place) few =
    record { has_float = true; has_subroutine = false; has_monitor = false; loads_class = false; is_bad = few }
refused_judgment (errors.Subroutine place) few =
    record { has_float = false; has_subroutine = true; has_monitor = false; loads_class = false; is_bad = few }
refused_judgment (errors.Monitor place) few =
    record { has_float = false; has_subroutine = false; has_monitor = true; loads_class = false; is_bad = few }
refused_judgment _ few =
    record { has_float = false; has_subroutine = false; has_monitor = false; loads_class = false; is_bad = true }

abbrev pub IsMemoryError : CodeError → Type 0
IsMemoryError errors.OutOfMemory = Unit {0}
IsMemoryError _ = ⊥

-- ---- A table of places, with a true for each at which an instruction begins.

abbrev pub HasPlace : List Bool → ℤ → Type 0
HasPlace places place = (i : ℕ) × (place ≡ pos i) × (slice_get places i ≡ Some true)

-- it is the table of these instructions
abbrev pub ArePlacesOf : List Instr → List Bool → Type 0
ArePlacesOf instrs places = (place : ℤ) → HasPlace places place ↔ HasItem (λ (instr : Instr). pos instr.at ≡ place) instrs

-- it is the table of the instructions of this code
abbrev pub ArePlaces : Code → List Bool → Type 0
ArePlaces code places = (place : ℤ) → HasPlace places place ↔ BeginsAt code place

-- it is a jump or a switch, and its first operand is none of these places
abbrev pub IsBadBranch : List Bool → Instr → Type 0
IsBadBranch places instr = IsTrue (is_jump instr.op || is_switch instr.op) × (HasPlace places instr.a → ⊥)

abbrev pub LeadsOut : List Bool → Instr → Type 0
LeadsOut places instr = (place : ℤ) × LeadsTo instr place × (HasPlace places place → ⊥)

-- the instructions begin within so many bytes
abbrev pub BeginWithin : ℕ → List Instr → Type 0
BeginWithin long instrs = (i : ℕ) (instr : Instr) → slice_get instrs i ≡ Some instr → instr.at < long

-- ---- Which entry an instruction needs.

abbrev pub IsOfKind : EntryKind → PoolEntry → Type 0
IsOfKind kinds.Constant e = IsConstantEntry e
IsOfKind kinds.Long e = IsLongEntry e
IsOfKind kinds.Float e = IsFloatEntry e
IsOfKind kinds.Double e = IsDoubleEntry e
IsOfKind kinds.Class e = IsClassEntry e
IsOfKind kinds.Field e = IsFieldEntry e
IsOfKind kinds.Method e = IsMethodEntry e
IsOfKind kinds.InterfaceMethod e = IsInterfaceMethodEntry e

unfoldable pub needed_kind : ℕ → Option EntryKind
needed_kind op =
    if op == LDC_W then Some kinds.Constant else
    if op == LDC2_W then Some kinds.Long else
    if is_field_access op then Some kinds.Field else
    if is_call op then Some kinds.Method else
    if op == INVOKEINTERFACE then Some kinds.InterfaceMethod else
    if is_of_class op then Some kinds.Class else None

-- ---- Classes and members that an instruction names.

-- the shape of an array type with at least so many dimensions
abbrev pub HasShapeDimensions : Option FieldShape → ℤ → Type 0
HasShapeDimensions None n = ⊥
HasShapeDimensions (Some shape) n = (1 ≤ shape.dims) × ((pos shape.dims <ℤ n) → ⊥)

-- the class of whose name this is known isn't right for the instruction
abbrev pub IsWrongArray : Instr → TextFacts → Type 0
IsWrongArray instr name =
    ((instr.op ≡ NEW) × IsTrue name.begins_array) ⊎ ((instr.op ≡ MULTIANEWARRAY) × (HasShapeDimensions name.field instr.b → ⊥))
    ⊎ ((instr.op ≡ ANEWARRAY) × HasShapeDimensions name.field (pos 255))

-- a reference to a member called `<init>` stands at this index
abbrev pub RefersToInit : List PoolEntry → ℕ → Type 0
RefersToInit pool i = (kind : MemberKind) × (descriptor : List ℕ) × ReferenceAt pool i kind INIT descriptor

-- the instruction may name a member, but none called `<init>`
abbrev pub MayNotNameInit : ℕ → Type 0
MayNotNameInit op = IsTrue (is_field_access op || is_call op || op == INVOKEINTERFACE) × (op ≢ INVOKESPECIAL)
