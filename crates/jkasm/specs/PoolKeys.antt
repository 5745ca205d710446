-- The content of an entry, by which the index of a pool is ordered.
use Rattle.std.specs.Prelude.{List, [], ◌∷◌}
use Rattle.jk_model.specs.declared.class_file.PoolEntry.{PoolEntry}
use Rattle.jk_model.specs.declared.class_file.PoolEntry.TheVariants as entries
use Rattle.jkasm.specs.declared.pool.key.Key.{Key}
use Rattle.jkasm.specs.declared.pool.key.Key.TheVariants as keys

-- the entry of a content
abbrev pub entry_of : Key → PoolEntry
entry_of (keys.Utf8 bytes) = entries.Utf8 bytes.items
entry_of (keys.Integer n) = entries.Integer n
entry_of (keys.Long n) = entries.Long n
entry_of (keys.Class name) = entries.Class name
entry_of (keys.Str text) = entries.Str text
entry_of (keys.NameAndType name descriptor) = entries.NameAndType name descriptor
entry_of (keys.Field class pair) = entries.FieldRef class pair
entry_of (keys.Method class pair) = entries.MethodRef class pair
entry_of (keys.InterfaceMethod class pair) = entries.InterfaceMethodRef class pair

-- what stands in the pool for this content: the entry, and the index after a long
abbrev pub slots_of : Key → List PoolEntry
slots_of (keys.Long n) = entries.Long n ∷ entries.Unusable ∷ []
slots_of key = entry_of key ∷ []
