-- Places, names and method numbers of the table, for the laws that hold of all of it.
use Rattle.std.specs.Prelude.{◌≡◌, ℕ, ◌<◌, List, [], Option, Some, None, length, slice_get}
use Rattle.std.specs.List.{range_with_len}
use Rattle.jk_model.specs.SystemTable as Table
use Rattle.jk_model.specs.SystemTable.{system_classes, number_named, first_method_number}

abbrev pub Class : Type 0
Class = Table.SystemClass

-- the class at a place of the table
abbrev pub IsAt : Class → ℕ → Type 0
IsAt c n = slice_get system_classes n ≡ Some c

-- a class of this name is in the table, and in front of this place
abbrev pub IsInFront : List ℕ → ℕ → Type 0
IsInFront name n = (k : ℕ) × (number_named name ≡ Some k) × (k < n)

abbrev pub numbers_from : ℕ → Option Class → List ℕ
numbers_from first None = []
numbers_from first (Some c) = range_with_len first (length c.methods)

-- the numbers of the methods of the class at a place
abbrev pub method_numbers_of : ℕ → List ℕ
method_numbers_of n = numbers_from (first_method_number n) (slice_get system_classes n)
