-- How much of a class is built while the lines of its text are read.
use Rattle.std.specs.Prelude.{◌≡◌, ◌≢◌, ℕ, ◌≤◌, ◌⊎◌, ⊤, true, false, List, [], ◌++◌, length, Option, Some, None, codes}
use Rattle.std.specs.List.{AllByRecursion}
use Rattle.jk_model.specs.declared.class_file.PoolEntry.{PoolEntry}
use Rattle.jk_model.specs.ClassFile.{AreAttributes, AreMembers, AreInterfaces, AreBytes, IsHandler}
use Rattle.asm_reader.specs.declared.items.ClassLine.{ClassLine}
use Rattle.asm_reader.specs.declared.items.CodeLine.{CodeLine}
use Rattle.asm_reader.specs.declared.items.LineReading.{LineReading}
use Rattle.jkasm.specs.declared.class_builder.ClassBuilder.{ClassBuilder}
use Rattle.jkasm.specs.declared.class_builder.Header.{Header}
use Rattle.jkasm.specs.declared.method_builder.MethodBuilder.{MethodBuilder}
use Rattle.jkasm.specs.Assembled.{Agree, IsHandlerOf, IsFieldOf, IsMethodOf, HasThrowsAttribute}
use Rattle.jkasm.specs.CodePlaces.{place_after}
use Rattle.jkasm.specs.Constants.{Utf8At, ClassAt, goes_on}
use Rattle.jkasm.specs.LabelTables.{IsLabelsOf, AreSeenOf}
use Rattle.jkasm.specs.Limits.{MAX_COUNT}
use Rattle.jkasm.specs.Outline.{MethodText, Outline, items_of, codes_to_end}
use Rattle.jkasm.specs.Written.{AreWritten}

-- ---- A method that has not ended.

-- the name of Code stands at this index
abbrev pub IsCodeName : List PoolEntry → Option ℕ → Type 0
IsCodeName pool None = ⊤
IsCodeName pool (Some i) = Utf8At pool i (codes "Code")

-- all code lines of a method, of which these readings are still to come
abbrev pub all_codes : MethodText → List LineReading → List CodeLine
all_codes m later = m.codes ++ codes_to_end (items_of later)

-- the name is there exactly where the method has lines or will have some
abbrev pub IsNamed : MethodText → List LineReading → Option ℕ → Type 0
IsNamed m later None = (m.codes ≡ []) × (m.catches ≡ []) × (goes_on later ≡ false)
IsNamed m later (Some i) = (m.codes ≢ []) ⊎ (m.catches ≢ []) ⊎ (goes_on later ≡ true)

-- This much of a method is built. That the bytes of its code and its handlers are right is known where the whole
-- code is not too long.
pub record IsMethodSoFar (pool : List PoolEntry) (m : MethodText) (later : List LineReading) (b : MethodBuilder) : Type 0 where
  pub flags : b.flags ≡ m.line.flags
  pub limits : (b.stack ≡ m.line.stack) × (b.locals ≡ m.line.locals)
  pub name : Utf8At pool b.name m.line.name
  pub descriptor : Utf8At pool b.descriptor m.line.descriptor
  pub thrown : HasThrowsAttribute pool m.line.throws b.thrown
  pub thrown_fits : AreAttributes b.thrown
  pub code_name : IsCodeName pool b.code_name
  pub named : IsNamed m later b.code_name
  pub labels : IsLabelsOf (all_codes m later) b.labels
  pub seen : AreSeenOf m.codes b.seen
  pub size : length b.code ≡ place_after 0 m.codes
  pub short : length b.code ≤ MAX_COUNT
  pub bytes : AreBytes b.code
  pub written : place_after 0 (all_codes m later) ≤ MAX_COUNT → AreWritten pool (all_codes m later) 0 m.codes b.code
  pub count : length b.handlers ≡ length m.catches
  pub handler_places : AllByRecursion IsHandler b.handlers
  pub handlers : place_after 0 (all_codes m later) ≤ MAX_COUNT → Agree (IsHandlerOf pool (all_codes m later)) m.catches b.handlers

-- ---- A class that is not complete.

pub record IsHeaderOf (pool : List PoolEntry) (line : ClassLine) (h : Header) : Type 0 where
  pub flags : h.flags ≡ line.flags
  pub name : ClassAt pool h.this_class line.name
  pub parent : ClassAt pool h.super_class line.parent
  pub interfaces : Agree (λ class i. ClassAt pool i class) line.interfaces h.interfaces
  pub fits : AreInterfaces h.interfaces

abbrev pub IsHeader : List PoolEntry → Option ClassLine → Option Header → Type 0
IsHeader pool None h = h ≡ None
IsHeader pool (Some line) None = ⊥
IsHeader pool (Some line) (Some h) = IsHeaderOf pool line h

abbrev pub IsUnfinished : List PoolEntry → Option MethodText → List LineReading → Option MethodBuilder → Type 0
IsUnfinished pool None later b = b ≡ None
IsUnfinished pool (Some m) later None = ⊥
IsUnfinished pool (Some m) later (Some b) = IsMethodSoFar pool m later b

-- This much of a class is built, of what an outline says.
pub record IsBuilt (o : Outline) (later : List LineReading) (b : ClassBuilder) : Type 0 where
  pub header : IsHeader b.pool o.class b.header
  -- methods stand in a class
  pub order : o.class ≡ None → o.unfinished ≡ None
  pub fields : Agree (IsFieldOf b.pool) o.fields b.fields
  pub fields_fit : AreMembers b.fields
  pub methods : Agree (IsMethodOf b.pool) o.methods b.methods
  pub methods_fit : AreMembers b.methods
  pub unfinished : IsUnfinished b.pool o.unfinished later b.unfinished
