-- How far the class of a text is built at a line, and what a complete class says.
use Rattle.std.specs.Prelude.{◌≡◌, ℕ, List, take, drop, ⊤, Some, None}
use Rattle.jk_model.specs.declared.class_file.ClassFile.{ClassFile}
use Rattle.asm_reader.specs.declared.items.ClassLine.{ClassLine}
use Rattle.asm_reader.specs.declared.items.Item.{Item}
use Rattle.asm_reader.specs.declared.items.LineReading.{LineReading}
use Rattle.asm_reader.specs.declared.items.LineReading.TheVariants.{Empty, Short, Long, Bad}
use Rattle.jkasm.specs.declared.assembler.AsmError.{AsmError}
use Rattle.jkasm.specs.declared.assembler.AsmError.TheVariants as error
use Rattle.jkasm.specs.declared.class_builder.ClassBuilder.{ClassBuilder}
use Rattle.jkasm.specs.declared.code_writer.LineStop.{LineStop}
use Rattle.jkasm.specs.declared.code_writer.LineStop.TheVariants as stop
use Rattle.jkasm.specs.Assembled.{SaysClass}
use Rattle.jkasm.specs.Building.{IsBuilt}
use Rattle.jkasm.specs.ConstantRanges.{AreInRange}
use Rattle.jkasm.specs.Constants.{PoolConstant, HasJust, for_item, needed_first}
use Rattle.jkasm.specs.GoodLines.{AreGoodBefore}
use Rattle.jkasm.specs.Limits.{IsWithinLimits}
use Rattle.jkasm.specs.Outline.{Outline, outline, items_of}
use Rattle.jkasm.specs.Texts.{HasPoolTexts}

-- the error where a line was not taken
abbrev pub error_at : LineStop → ℕ → AsmError
error_at stop.AtFault line = error.Line line
error_at stop.OutOfMemory line = error.OutOfMemory

-- numbers that an item needs in the pool are within their types
abbrev pub HasNumbersInRange : Item → Type 0
HasNumbersInRange item = (later : List LineReading) → AreInRange (for_item item later)

-- what holds of each reading of a line: texts of a short item may stand in a pool, and numbers are within their types
abbrev pub IsSoundReading : LineReading → Type 0
IsSoundReading Empty = ⊤
IsSoundReading (Short item) = HasPoolTexts item × HasNumbersInRange item
IsSoundReading (Long item) = HasNumbersInRange item
IsSoundReading Bad = ⊤

-- So many of these lines are good, and this is built of them.
pub record IsBuiltSoFar (readings : List LineReading) (i : ℕ) (b : ClassBuilder) : Type 0 where
  pub good : AreGoodBefore readings i
  pub so_far : Outline
  pub outline_is : outline (items_of (take i readings)) ≡ Some so_far
  pub built : IsBuilt so_far (drop i readings) b
  pub limits : IsWithinLimits so_far
  pub pool : HasJust b.pool (needed_first i readings)

-- The class file is the one of a complete outline, with just these constants.
pub record SaysOutline (o : Outline) (constants : List PoolConstant) (c : ClassFile) : Type 0 where
  pub line : ClassLine
  pub class_is : o.class ≡ Some line
  pub ended : o.unfinished ≡ None
  pub says : SaysClass line o constants c
