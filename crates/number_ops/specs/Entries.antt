-- Entries that were taken off an operand stack together, as a list.
use Rattle.std.specs.Prelude.{List, [], ◌∷◌}
use Rattle.jk_model.specs.declared.values.Value.{Value}
use Rattle.number_ops.specs.declared.moves.Entries.{Entries}
use Rattle.number_ops.specs.declared.moves.Entries.TheVariants.{Nothing, One, Two}

abbrev pub entries_of : Entries → List Value
entries_of Nothing = []
entries_of (One v) = v ∷ []
entries_of (Two v w) = v ∷ w ∷ []
