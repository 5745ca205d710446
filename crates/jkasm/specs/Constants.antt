-- Constants of a pool, by what they say and not by indices, and which of them the lines of a text need.
use Rattle.std.specs.Prelude.{◌≡◌, ◌≢◌, ℕ, zero, suc, Bool, true, false, List, [], ◌∷◌, ◌++◌, flat_map, Option, Some, None, slice_get, codes}
use Rattle.std.specs.Int.{w32, w64, cast_unsigned}
use Rattle.jk_model.specs.declared.class_file.PoolEntry.{PoolEntry}
use Rattle.jk_model.specs.declared.class_file.PoolEntry.TheVariants as entries
use Rattle.asm_reader.specs.declared.items.Constant.{Constant}
use Rattle.asm_reader.specs.declared.items.Constant.TheVariants.{Int, Long, Text}
use Rattle.asm_reader.specs.declared.items.Item.{Item}
use Rattle.asm_reader.specs.declared.items.Item.TheVariants as item
use Rattle.asm_reader.specs.declared.items.LineReading.{LineReading}
use Rattle.asm_reader.specs.declared.items.LineReading.TheVariants as reading
use Rattle.asm_reader.specs.declared.items.MemberKind.{MemberKind}
use Rattle.asm_reader.specs.declared.items.MemberKind.TheVariants.{Field, Method, InterfaceMethod}
use Rattle.asm_reader.specs.declared.items.Statement.{Statement}
use Rattle.asm_reader.specs.declared.items.Statement.TheVariants.{Load, OnMember, OnClass, NewArrays}
use Rattle.jk_model_classes.specs.Items.{HasItem}

pub data PoolConstant : Type 0 where
  Utf8 : List ℕ → PoolConstant
  Class : List ℕ → PoolConstant
  Value : Constant → PoolConstant
  NameAndType : List ℕ → List ℕ → PoolConstant
  Reference : MemberKind → List ℕ → List ℕ → List ℕ → PoolConstant

-- ---- What an entry says.

abbrev pub Utf8At : List PoolEntry → ℕ → List ℕ → Type 0
Utf8At pool i bytes = slice_get pool i ≡ Some (entries.Utf8 bytes)

abbrev pub NameAndTypeAt : List PoolEntry → ℕ → List ℕ → List ℕ → Type 0
NameAndTypeAt pool i name descriptor =
    (n : ℕ) × (d : ℕ) × (slice_get pool i ≡ Some (entries.NameAndType n d)) × Utf8At pool n name × Utf8At pool d descriptor

abbrev pub ClassAt : List PoolEntry → ℕ → List ℕ → Type 0
ClassAt pool i name = (n : ℕ) × (slice_get pool i ≡ Some (entries.Class n)) × Utf8At pool n name

abbrev pub reference : MemberKind → ℕ → ℕ → PoolEntry
reference Field class pair = entries.FieldRef class pair
reference Method class pair = entries.MethodRef class pair
reference InterfaceMethod class pair = entries.InterfaceMethodRef class pair

-- the entry at an index says this
abbrev pub Says : List PoolEntry → ℕ → PoolConstant → Type 0
Says pool i (Utf8 bytes) = Utf8At pool i bytes
Says pool i (Class name) = ClassAt pool i name
Says pool i (Value (Int n)) = slice_get pool i ≡ Some (entries.Integer (cast_unsigned w32 n))
Says pool i (Value (Long n)) = slice_get pool i ≡ Some (entries.Long (cast_unsigned w64 n))
Says pool i (Value (Text text)) = (n : ℕ) × (slice_get pool i ≡ Some (entries.Str n)) × Utf8At pool n text
Says pool i (NameAndType name descriptor) = NameAndTypeAt pool i name descriptor
Says pool i (Reference kind class name descriptor) =
    (k : ℕ) × (n : ℕ) × (slice_get pool i ≡ Some (reference kind k n)) × ClassAt pool k class × NameAndTypeAt pool n name descriptor

-- ---- What a constant needs: those that it names, and itself.

abbrev pub for_class : List ℕ → List PoolConstant
for_class name = Utf8 name ∷ Class name ∷ []

abbrev pub for_value : Constant → List PoolConstant
for_value (Text text) = Utf8 text ∷ Value (Text text) ∷ []
for_value constant = Value constant ∷ []

abbrev pub for_pair : List ℕ → List ℕ → List PoolConstant
for_pair name descriptor = Utf8 name ∷ Utf8 descriptor ∷ NameAndType name descriptor ∷ []

abbrev pub for_reference : MemberKind → List ℕ → List ℕ → List ℕ → List PoolConstant
for_reference kind class name descriptor =
    for_class class ++ for_pair name descriptor ++ Reference kind class name descriptor ∷ []

-- ---- What a line needs. An attribute's name is needed with its member's line.

abbrev pub for_statement : Option Statement → List PoolConstant
for_statement (Some (Load constant)) = for_value constant
for_statement (Some (OnMember op kind class name descriptor)) = for_reference kind class name descriptor
for_statement (Some (OnClass op class)) = for_class class
for_statement (Some (NewArrays class dims)) = for_class class
for_statement _ = []

abbrev pub for_constant : Option Constant → List PoolConstant
for_constant None = []
for_constant (Some constant) = Utf8 (codes "ConstantValue") ∷ for_value constant

abbrev pub for_throws : List (List ℕ) → List PoolConstant
for_throws [] = []
for_throws classes = Utf8 (codes "Exceptions") ∷ flat_map for_class classes

abbrev pub for_caught : Option (List ℕ) → List PoolConstant
for_caught None = []
for_caught (Some class) = for_class class

-- the first line that isn't empty is there, and is no `end`
abbrev pub goes_on : List LineReading → Bool
goes_on [] = false
goes_on (reading.Empty ∷ readings) = goes_on readings
goes_on (reading.Short item.End ∷ readings) = false
goes_on _ = true

abbrev pub for_code : Bool → List PoolConstant
for_code true = Utf8 (codes "Code") ∷ []
for_code false = []

-- what an item needs, with these lines after it
abbrev pub for_item : Item → List LineReading → List PoolConstant
for_item (item.Class line) later = for_class line.name ++ for_class line.parent ++ flat_map for_class line.interfaces
for_item (item.Field line) later = Utf8 line.name ∷ Utf8 line.descriptor ∷ for_constant line.constant
for_item (item.Method line) later =
    Utf8 line.name ∷ Utf8 line.descriptor ∷ for_code (goes_on later) ++ for_throws line.throws
for_item (item.Code line) later = for_statement line.statement
for_item (item.Catch line) later = for_caught line.class
for_item item.End later = []

abbrev pub for_reading : LineReading → List LineReading → List PoolConstant
for_reading (reading.Short i) later = for_item i later
for_reading (reading.Long i) later = for_item i later
for_reading _ later = []

-- what the first lines need, so many of them
abbrev pub needed_first : ℕ → List LineReading → List PoolConstant
needed_first zero readings = []
needed_first (suc n) [] = []
needed_first (suc n) (r ∷ readings) = for_reading r readings ++ needed_first n readings

-- ---- The pool has these constants, each once, and nothing else.

pub record HasJust (pool : List PoolEntry) (constants : List PoolConstant) : Type 0 where
  pub all : (constant : PoolConstant) → HasItem (λ k. k ≡ constant) constants → (i : ℕ) × Says pool i constant
  pub once : (constant : PoolConstant) (i j : ℕ) → Says pool i constant → Says pool j constant → i ≡ j
  pub only : (i : ℕ) (e : PoolEntry) → slice_get pool i ≡ Some e → e ≢ entries.Unusable
      → (constant : PoolConstant) × HasItem (λ k. k ≡ constant) constants × Says pool i constant
