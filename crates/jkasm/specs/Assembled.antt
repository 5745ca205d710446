-- What a record has where it is the class that an outline says: all of it in order, and nothing else; and which
-- bytes a text is assembled to.
use Rattle.std.specs.Prelude.{◌≡◌, ◌≢◌, ℕ, ◌⊎◌, ⊤, List, [], ◌∷◌, ◌++◌, length, Option, Some, None, codes}
use Rattle.jk_model.specs.declared.class_file.ClassFile.{ClassFile}
use Rattle.jk_model.specs.declared.class_file.PoolEntry.{PoolEntry}
use Rattle.jk_model.specs.declared.class_file.MemberInfo.{MemberInfo}
use Rattle.jk_model.specs.declared.class_file.Attribute.{Attribute}
use Rattle.jk_model.specs.declared.class_file.Code.{Code}
use Rattle.jk_model.specs.declared.class_file.Handler.{Handler}
use Rattle.jk_model.specs.ClassFile.{u2, CodeLayout, IsClass, interfaces_bytes, AreInterfaces}
use Rattle.asm_reader.specs.declared.items.CatchLine.{CatchLine}
use Rattle.asm_reader.specs.declared.items.ClassLine.{ClassLine}
use Rattle.asm_reader.specs.declared.items.CodeLine.{CodeLine}
use Rattle.asm_reader.specs.declared.items.Constant.{Constant}
use Rattle.asm_reader.specs.declared.items.FieldLine.{FieldLine}
use Rattle.asm_reader.specs.declared.items.LineReading.{LineReading}
use Rattle.asm_reader.specs.Readings.{AreReadings}
use Rattle.asm_reader.specs.Words.{text_lines}
use Rattle.jkasm.specs.CodePlaces.{label_place}
use Rattle.jkasm.specs.Constants.{PoolConstant, Value, Says, Utf8At, ClassAt, HasJust, needed_first}
use Rattle.jkasm.specs.GoodLines.{AreGoodBefore}
use Rattle.jkasm.specs.Outline.{MethodText, Outline, outline, items_of}
use Rattle.jkasm.specs.Written.{AreWritten}

-- lists of equal length, whose items at equal places go together
abbrev pub Agree : {X Y : Type 0} → (X → Y → Type 0) → List X → List Y → Type 0
Agree R [] [] = ⊤
Agree R (x ∷ xs) (y ∷ ys) = R x y × Agree R xs ys
Agree R _ _ = ⊥

-- ---- Code.

-- what a handler catches: all, by the index 0, or a class
abbrev pub IsCaught : List PoolEntry → ℕ → Option (List ℕ) → Type 0
IsCaught pool i None = i ≡ 0
IsCaught pool i (Some class) = ClassAt pool i class

pub record IsHandlerOf (pool : List PoolEntry) (lines : List CodeLine) (line : CatchLine) (h : Handler) : Type 0 where
  pub start : label_place 0 lines line.from ≡ Some h.start
  pub end : label_place 0 lines line.to ≡ Some h.end
  pub place : label_place 0 lines line.handler ≡ Some h.handler
  pub caught : IsCaught pool h.catch line.class

pub record IsCodeOf (pool : List PoolEntry) (m : MethodText) (body : List ℕ) : Type 0 where
  pub code : Code
  pub layout : CodeLayout body code
  pub limits : (code.max_stack ≡ m.line.stack) × (code.max_locals ≡ m.line.locals)
  pub bytes : AreWritten pool m.codes 0 m.codes code.code
  pub handlers : Agree (IsHandlerOf pool m.codes) m.catches code.handlers
  pub plain : code.attributes ≡ []

-- ---- Members.

-- an attribute of this name, whose body is so
abbrev pub IsAttributeOf : List PoolEntry → List ℕ → (List ℕ → Type 0) → Attribute → Type 0
IsAttributeOf pool name P a = Utf8At pool a.name name × P a.body

abbrev pub HasConstantAttribute : List PoolEntry → Option Constant → List Attribute → Type 0
HasConstantAttribute pool None attributes = attributes ≡ []
HasConstantAttribute pool (Some constant) attributes =
    (a : Attribute) × (attributes ≡ a ∷ [])
    × IsAttributeOf pool (codes "ConstantValue") (λ body. (i : ℕ) × Says pool i (Value constant) × (body ≡ u2 i)) a

pub record IsFieldOf (pool : List PoolEntry) (line : FieldLine) (m : MemberInfo) : Type 0 where
  pub flags : m.flags ≡ line.flags
  pub name : Utf8At pool m.name line.name
  pub descriptor : Utf8At pool m.descriptor line.descriptor
  pub attributes : HasConstantAttribute pool line.constant m.attributes

-- a method without lines has no Code
abbrev pub HasCodeAttribute : List PoolEntry → MethodText → List Attribute → Type 0
HasCodeAttribute pool m attributes =
    ((m.codes ≡ []) × (m.catches ≡ []) × (attributes ≡ []))
    ⊎ ((m.codes ≢ []) × ((a : Attribute) × (attributes ≡ a ∷ []) × IsAttributeOf pool (codes "Code") (IsCodeOf pool m) a))

abbrev pub HasThrowsAttribute : List PoolEntry → List (List ℕ) → List Attribute → Type 0
HasThrowsAttribute pool [] attributes = attributes ≡ []
HasThrowsAttribute pool classes attributes =
    (a : Attribute) × (attributes ≡ a ∷ [])
    × IsAttributeOf pool (codes "Exceptions")
    (λ body. (indices : List ℕ) × AreInterfaces indices × Agree (λ class i. ClassAt pool i class) classes indices
    × (body ≡ interfaces_bytes indices)) a

-- Code stands before Exceptions.
pub record IsMethodOf (pool : List PoolEntry) (text : MethodText) (m : MemberInfo) : Type 0 where
  pub flags : m.flags ≡ text.line.flags
  pub name : Utf8At pool m.name text.line.name
  pub descriptor : Utf8At pool m.descriptor text.line.descriptor
  pub code : List Attribute
  pub thrown : List Attribute
  pub has_code : HasCodeAttribute pool text code
  pub has_thrown : HasThrowsAttribute pool text.line.throws thrown
  pub attributes : m.attributes ≡ code ++ thrown

-- ---- The class.

-- version 48.0
pub record SaysClass (line : ClassLine) (o : Outline) (constants : List PoolConstant) (c : ClassFile) : Type 0 where
  pub version : (c.major ≡ 48) × (c.minor ≡ 0)
  pub pool : HasJust c.pool constants
  pub flags : c.flags ≡ line.flags
  pub name : ClassAt c.pool c.this_class line.name
  pub parent : ClassAt c.pool c.super_class line.parent
  pub interfaces : Agree (λ class i. ClassAt c.pool i class) line.interfaces c.interfaces
  pub fields : Agree (IsFieldOf c.pool) o.fields c.fields
  pub methods : Agree (IsMethodOf c.pool) o.methods c.methods
  pub attributes : c.attributes ≡ []

-- ---- The file of a text in which no line is at fault.

pub record IsAssembled (text bytes : List ℕ) : Type 0 where
  pub readings : List LineReading
  pub read : AreReadings (text_lines text) readings
  pub good : AreGoodBefore readings (length readings)
  pub outlined : Outline
  pub outline_is : outline (items_of readings) ≡ Some outlined
  pub line : ClassLine
  pub class_is : outlined.class ≡ Some line
  pub ended : outlined.unfinished ≡ None
  pub class : ClassFile
  pub is_class : IsClass bytes class
  pub says : SaysClass line outlined (needed_first (length readings) readings) class
