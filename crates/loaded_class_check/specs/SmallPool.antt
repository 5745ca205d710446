-- The pool that the tests ask.
use Rattle.std.specs.Prelude.{List, [], ◌∷◌}
use Rattle.jk_model.specs.declared.class_file.PoolEntry.{PoolEntry}
use Rattle.jk_model.specs.declared.class_file.PoolEntry.TheVariants.{Unusable, Utf8, Class}

-- nothing, the text `A`, and the class of that name
abbrev pub small_pool : List PoolEntry
small_pool = Unusable ∷ Utf8 (65 ∷ []) ∷ Class 1 ∷ []
