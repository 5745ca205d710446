-- Numbers of classes.
use Rattle.std.specs.Prelude.{ℕ}
use Rattle.jk_model.specs.declared.identifiers.ClassId.{ClassId}

-- the class of a number of the table
abbrev pub numbered : ℕ → ClassId
numbered n = record { 0 = n }
