-- Lines that read as items have texts that may stand in a pool, and numbers within their types.
use Rattle.std.proofs.Common.{ℕ, Bool, true, false, List, [], ◌∷◌, Option, Some, None}
use Rattle.std.specs.List.{AllByRecursion, flat_map}
use Rattle.jk_model.proofs.EachItem.{all_append}
use Rattle.asm_reader.specs.declared.items.Constant.{Constant}
use Rattle.asm_reader.specs.declared.items.Constant.TheVariants.{Int, Long, Text}
use Rattle.asm_reader.specs.declared.items.Item.{Item}
use Rattle.asm_reader.specs.declared.items.Item.TheVariants as item
use Rattle.asm_reader.specs.declared.items.LineReading.{LineReading}
use Rattle.asm_reader.specs.declared.items.LineReading.TheVariants as reading
use Rattle.asm_reader.specs.declared.items.Statement.{Statement}
use Rattle.asm_reader.specs.declared.items.Statement.TheVariants.{Simple, Push, Load, OnLocal, Increment, Jump, OnMember, OnClass, NewArray, NewArrays, Switch}
use Rattle.asm_reader.specs.Readings.{IsReading, AreReadings}
use Rattle.asm_reader.proofs.TextsAndNumbers.{HasShortTexts, ConstantFits, StatementFits, HasFittingNumbers, short_texts, fitting_numbers}
use Rattle.jkasm.specs.ConstantRanges.{IsInRange, AreInRange}
use Rattle.jkasm.specs.Constants.{for_class, for_statement, for_constant, for_throws, for_caught, for_code, goes_on}
use Rattle.jkasm.specs.Texts.{HasPoolTexts}
use Rattle.jkasm.specs.WholeText.{HasNumbersInRange, IsSoundReading}

-- ---- Texts.

pool_texts : (i : Item) → HasShortTexts i → HasPoolTexts i
pool_texts (item.Class line) h = h
pool_texts (item.Field line) h = h
pool_texts (item.Method line) h = h
pool_texts (item.Code line) h = h
pool_texts (item.Catch line) h = h
pool_texts item.End h = h

-- ---- Numbers.

class_numbers : (classes : List (List ℕ)) → AreInRange (flat_map for_class classes)
class_numbers [] = tt
class_numbers (class ∷ classes) = (tt, (tt, class_numbers classes))

throws_numbers : (classes : List (List ℕ)) → AreInRange (for_throws classes)
throws_numbers [] = tt
throws_numbers (class ∷ classes) = (tt, class_numbers (class ∷ classes))

constant_numbers : (constant : Option Constant) → ConstantFits constant → AreInRange (for_constant constant)
constant_numbers None h = tt
constant_numbers (Some (Int n)) h = (tt, (h, tt))
constant_numbers (Some (Long n)) h = (tt, (h, tt))
constant_numbers (Some (Text text)) h = (tt, (tt, (tt, tt)))

statement_numbers : (s : Option Statement) → StatementFits s → AreInRange (for_statement s)
statement_numbers None h = tt
statement_numbers (Some (Simple op)) h = tt
statement_numbers (Some (Push n)) h = tt
statement_numbers (Some (Load (Int n))) h = (h, tt)
statement_numbers (Some (Load (Long n))) h = (h, tt)
statement_numbers (Some (Load (Text text))) h = (tt, (tt, tt))
statement_numbers (Some (OnLocal op local)) h = tt
statement_numbers (Some (Increment local step)) h = tt
statement_numbers (Some (Jump op label)) h = tt
statement_numbers (Some (OnMember op kind class name descriptor)) h = (tt, (tt, (tt, (tt, (tt, (tt, tt))))))
statement_numbers (Some (OnClass op class)) h = (tt, (tt, tt))
statement_numbers (Some (NewArray kind)) h = tt
statement_numbers (Some (NewArrays class dims)) h = (tt, (tt, tt))
statement_numbers (Some (Switch default cases)) h = tt

caught_numbers : (class : Option (List ℕ)) → AreInRange (for_caught class)
caught_numbers None = tt
caught_numbers (Some class) = (tt, (tt, tt))

code_numbers : (b : Bool) → AreInRange (for_code b)
code_numbers true = (tt, tt)
code_numbers false = tt

numbers_in_range : (i : Item) → HasFittingNumbers i → HasNumbersInRange i
numbers_in_range (item.Class line) h later = (tt, (tt, (tt, (tt, class_numbers line.interfaces))))
numbers_in_range (item.Field line) h later = (tt, (tt, constant_numbers line.constant h))
numbers_in_range (item.Method line) h later =
    let code = code_numbers (goes_on later) in
    let thrown = throws_numbers line.throws in
    (tt, (tt, all_append IsInRange (for_code (goes_on later)) (for_throws line.throws) code thrown))
numbers_in_range (item.Code line) h later = statement_numbers line.statement h
numbers_in_range (item.Catch line) h later = caught_numbers line.class
numbers_in_range item.End h later = tt

-- ---- Lines.

sound_reading : (line : List ℕ) (r : LineReading) → IsReading line r → IsSoundReading r
sound_reading line reading.Empty h = tt
sound_reading line (reading.Short i) h = (pool_texts i (short_texts line i h), numbers_in_range i (fitting_numbers line i true h))
sound_reading line (reading.Long i) h = numbers_in_range i (fitting_numbers line i false h)
sound_reading line reading.Bad h = tt

pub sound_readings : (lines : List (List ℕ)) (readings : List LineReading) → AreReadings lines readings → AllByRecursion IsSoundReading readings
sound_readings [] [] h = tt
sound_readings (line ∷ lines) (r ∷ readings) h = (sound_reading line r h.0, sound_readings lines readings h.1)
sound_readings [] (r ∷ readings) h = absurd h
sound_readings (line ∷ lines) [] h = absurd h
