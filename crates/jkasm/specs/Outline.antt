-- What the items of a text say so far: its class, the fields and methods of that, and the method that has not ended.
use Rattle.std.specs.Prelude.{List, [], ◌∷◌, ◌++◌, Option, Some, None}
use Rattle.std.specs.Option.{option_and_then}
use Rattle.asm_reader.specs.declared.items.ClassLine.{ClassLine}
use Rattle.asm_reader.specs.declared.items.FieldLine.{FieldLine}
use Rattle.asm_reader.specs.declared.items.MethodLine.{MethodLine}
use Rattle.asm_reader.specs.declared.items.CodeLine.{CodeLine}
use Rattle.asm_reader.specs.declared.items.CatchLine.{CatchLine}
use Rattle.asm_reader.specs.declared.items.Item.{Item}
use Rattle.asm_reader.specs.declared.items.Item.TheVariants.{Class, Field, Method, Code, Catch, End}
use Rattle.asm_reader.specs.declared.items.LineReading.{LineReading}
use Rattle.asm_reader.specs.declared.items.LineReading.TheVariants.{Short, Long}

-- a method, with its code lines and catches in order
pub record MethodText : Type 0 where
  pub line : MethodLine
  pub codes : List CodeLine
  pub catches : List CatchLine

pub record Outline : Type 0 where
  pub class : Option ClassLine
  pub fields : List FieldLine
  -- those that have ended
  pub methods : List MethodText
  pub unfinished : Option MethodText

abbrev pub nothing_yet : Outline
nothing_yet = record { class = None; fields = []; methods = []; unfinished = None }

-- ---- Where an item may stand, and what it adds. None where it may not.

-- in a class and outside of its methods
abbrev with_member : Option ClassLine → Option MethodText → Outline → Option Outline
with_member (Some class) None next = Some next
with_member _ _ next = None

abbrev with_unfinished : Outline → Option MethodText → Option Outline
with_unfinished o (Some method) = Some (record o { unfinished = Some method })
with_unfinished o None = None

abbrev ended : Outline → Option MethodText → Option Outline
ended o (Some method) = Some (record o { methods = o.methods ++ method ∷ []; unfinished = None })
ended o None = None

abbrev with_code : CodeLine → Option MethodText → Option MethodText
with_code line (Some m) = Some (record m { codes = m.codes ++ line ∷ [] })
with_code line None = None

abbrev with_catch : CatchLine → Option MethodText → Option MethodText
with_catch line (Some m) = Some (record m { catches = m.catches ++ line ∷ [] })
with_catch line None = None

abbrev begun : Outline → Option ClassLine → ClassLine → Option Outline
begun o None line = Some (record o { class = Some line })
begun o (Some other) line = None

-- The class comes once and before all else, code and catches stand in a method, and other members don't.
abbrev pub after_item : Outline → Item → Option Outline
after_item o (Class line) = begun o o.class line
after_item o (Field line) = with_member o.class o.unfinished (record o { fields = o.fields ++ line ∷ [] })
after_item o (Method line) = with_member o.class o.unfinished (record o { unfinished = Some (record { line = line; codes = []; catches = [] }) })
after_item o (Code line) = with_unfinished o (with_code line o.unfinished)
after_item o (Catch line) = with_unfinished o (with_catch line o.unfinished)
after_item o End = ended o o.unfinished

abbrev pub after_items : Outline → List Item → Option Outline
after_items o [] = Some o
after_items o (item ∷ items) = option_and_then (λ next. after_items next items) (after_item o item)

-- what items say, where each may stand where it does
abbrev pub outline : List Item → Option Outline
outline items = after_items nothing_yet items

-- ---- The items of lines, in order. Empty lines and bad ones have none.

abbrev pub items_of : List LineReading → List Item
items_of [] = []
items_of (Short item ∷ readings) = item ∷ items_of readings
items_of (Long item ∷ readings) = item ∷ items_of readings
items_of (_ ∷ readings) = items_of readings

-- the code lines up to the end of the method, or of the text
abbrev pub codes_to_end : List Item → List CodeLine
codes_to_end [] = []
codes_to_end (End ∷ items) = []
codes_to_end (Code line ∷ items) = line ∷ codes_to_end items
codes_to_end (_ ∷ items) = codes_to_end items
