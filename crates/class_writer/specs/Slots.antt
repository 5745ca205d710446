-- Which entries say that an index is unusable.
use Rattle.std.specs.Prelude.{Bool, true, false}
use Rattle.jk_model.specs.declared.class_file.PoolEntry.{PoolEntry}
use Rattle.jk_model.specs.declared.class_file.PoolEntry.TheVariants.{Unusable, Long, Double}

abbrev pub is_unusable : PoolEntry → Bool
is_unusable Unusable = true
is_unusable _ = false

-- a Long or a Double, after which an index is unusable
abbrev pub is_wide : PoolEntry → Bool
is_wide (Long n) = true
is_wide (Double n) = true
is_wide _ = false
