-- Constants that are values of a program: a number is within its type.
use Rattle.std.specs.Prelude.{⊤, List}
use Rattle.std.specs.Int.{w32, w64}
use Rattle.std.specs.Int.RustNames.{FitsSigned}
use Rattle.std.specs.List.{AllByRecursion}
use Rattle.asm_reader.specs.declared.items.Constant.TheVariants.{Int, Long}
use Rattle.jkasm.specs.Constants.{PoolConstant, Value}

abbrev pub IsInRange : PoolConstant → Type 0
IsInRange (Value (Int n)) = FitsSigned w32 n
IsInRange (Value (Long n)) = FitsSigned w64 n
IsInRange constant = ⊤

abbrev pub AreInRange : List PoolConstant → Type 0
AreInRange constants = AllByRecursion IsInRange constants
