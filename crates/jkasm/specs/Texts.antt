-- The texts of an item that stand in a pool.
use Rattle.std.specs.Prelude.{ℕ, List, [], ◌∷◌, Option, Some, None}
use Rattle.std.specs.List.{AllByRecursion}
use Rattle.asm_reader.specs.declared.items.Constant.{Constant}
use Rattle.asm_reader.specs.declared.items.Constant.TheVariants.{Text}
use Rattle.asm_reader.specs.declared.items.Item.{Item}
use Rattle.asm_reader.specs.declared.items.Item.TheVariants.{Class, Field, Method, Code, Catch, End}
use Rattle.asm_reader.specs.declared.items.Statement.{Statement}
use Rattle.asm_reader.specs.declared.items.Statement.TheVariants.{Load, OnMember, OnClass, NewArrays}
use Rattle.jkasm.specs.PoolGrowth.{IsPoolText}

abbrev pub texts_of_constant : Option Constant → List (List ℕ)
texts_of_constant (Some (Text text)) = text ∷ []
texts_of_constant _ = []

abbrev pub texts_of_statement : Option Statement → List (List ℕ)
texts_of_statement (Some (Load constant)) = texts_of_constant (Some constant)
texts_of_statement (Some (OnMember op kind class name descriptor)) = class ∷ name ∷ descriptor ∷ []
texts_of_statement (Some (OnClass op class)) = class ∷ []
texts_of_statement (Some (NewArrays class dims)) = class ∷ []
texts_of_statement _ = []

abbrev texts_of_class : Option (List ℕ) → List (List ℕ)
texts_of_class None = []
texts_of_class (Some class) = class ∷ []

abbrev pub texts_of : Item → List (List ℕ)
texts_of (Class line) = line.name ∷ line.parent ∷ line.interfaces
texts_of (Field line) = line.name ∷ line.descriptor ∷ texts_of_constant line.constant
texts_of (Method line) = line.name ∷ line.descriptor ∷ line.throws
texts_of (Code line) = texts_of_statement line.statement
texts_of (Catch line) = texts_of_class line.class
texts_of End = []

-- each of them may stand in a pool
abbrev pub HasPoolTexts : Item → Type 0
HasPoolTexts item = AllByRecursion IsPoolText (texts_of item)
