-- A pool of a class file stays one as it gets an entry that has room and names what it should.
use Rattle.std.proofs.Common.{ℕ, ◌+◌, ◌≤◌, List, [], ◌∷◌, ◌++◌, length, arith, length-append}
use Rattle.std.specs.List.{AllByRecursion}
use Rattle.jk_model.specs.declared.class_file.PoolEntry.{PoolEntry}
use Rattle.jk_model.specs.declared.class_file.PoolEntry.TheVariants as entries
use Rattle.jk_model.specs.ClassFile.{AreSlots, BeginsUnusable, IsEntry, IsGoodEntry, NamesEntry, IsUtf8Entry, IsClassEntry, IsPairEntry}
use Rattle.jk_model.proofs.EachItem.{all_append, all_weaker}
use Rattle.jkasm.specs.declared.pool.key.Key.{Key}
use Rattle.jkasm.specs.declared.pool.key.Key.TheVariants as keys
use Rattle.jkasm.specs.PoolGrowth.{IsFilePool}
use Rattle.jkasm.specs.PoolKeys.{entry_of, slots_of}
use Rattle.jkasm.proofs.ItemsOfBoth.{get_front}
use Rattle.jkasm.proofs.SlotsInTurn.{append_slots}

names_later : (kind : PoolEntry → Type 0) (pool more : List PoolEntry) (i : ℕ) → NamesEntry kind pool i → NamesEntry kind (pool ++ more) i
names_later kind pool more i (e, at, is) = (e, get_front pool more i e at, is)

good_later : (pool more : List PoolEntry) (e : PoolEntry) → IsGoodEntry pool e → IsGoodEntry (pool ++ more) e
good_later pool more entries.Unusable h = tt
good_later pool more (entries.Utf8 text) h = h
good_later pool more (entries.Integer n) h = tt
good_later pool more (entries.Float n) h = tt
good_later pool more (entries.Long n) h = tt
good_later pool more (entries.Double n) h = tt
good_later pool more (entries.Class name) h = names_later IsUtf8Entry pool more name h
good_later pool more (entries.Str text) h = names_later IsUtf8Entry pool more text h
good_later pool more (entries.FieldRef class pair) (h, k) = (names_later IsClassEntry pool more class h, names_later IsPairEntry pool more pair k)
good_later pool more (entries.MethodRef class pair) (h, k) = (names_later IsClassEntry pool more class h, names_later IsPairEntry pool more pair k)
good_later pool more (entries.InterfaceMethodRef class pair) (h, k) = (names_later IsClassEntry pool more class h, names_later IsPairEntry pool more pair k)
good_later pool more (entries.NameAndType name descriptor) (h, k) = (names_later IsUtf8Entry pool more name h, names_later IsUtf8Entry pool more descriptor k)

-- ---- What an entry brings.

slots_are_slots : (key : Key) → AreSlots (slots_of key)
slots_are_slots (keys.Utf8 bytes) = tt
slots_are_slots (keys.Integer n) = tt
slots_are_slots (keys.Long n) = tt
slots_are_slots (keys.Class name) = tt
slots_are_slots (keys.Str text) = tt
slots_are_slots (keys.NameAndType name descriptor) = tt
slots_are_slots (keys.Field class pair) = tt
slots_are_slots (keys.Method class pair) = tt
slots_are_slots (keys.InterfaceMethod class pair) = tt

-- what holds of the entry and of an unusable index holds of all that it brings
all_slots : (P : PoolEntry → Type 0) (key : Key) → P (entry_of key) → P entries.Unusable → AllByRecursion P (slots_of key)
all_slots P (keys.Utf8 bytes) h u = (h, tt)
all_slots P (keys.Integer n) h u = (h, tt)
all_slots P (keys.Long n) h u = (h, (u, tt))
all_slots P (keys.Class name) h u = (h, tt)
all_slots P (keys.Str text) h u = (h, tt)
all_slots P (keys.NameAndType name descriptor) h u = (h, tt)
all_slots P (keys.Field class pair) h u = (h, tt)
all_slots P (keys.Method class pair) h u = (h, tt)
all_slots P (keys.InterfaceMethod class pair) h u = (h, tt)

begins_longer : (pool more : List PoolEntry) → BeginsUnusable AreSlots pool → AreSlots more → BeginsUnusable AreSlots (pool ++ more)
begins_longer [] more h k = absurd h
begins_longer (entries.Unusable ∷ rest) more h k = append_slots rest more h k
begins_longer (_ ∷ rest) more h k = absurd h

pub file_pool_grows : (pool : List PoolEntry) (key : Key) → IsFilePool pool → IsEntry (entry_of key) → IsGoodEntry pool (entry_of key)
    → length pool + length (slots_of key) ≤ 65535 → IsFilePool (pool ++ slots_of key)
file_pool_grows pool key file entry good few =
    let (begins, short, all) = file.layout in record {
      layout = (
        begins_longer pool (slots_of key) begins (slots_are_slots key),
        omega (arith, length-append pool (slots_of key)),
        all_append IsEntry pool (slots_of key) all (all_slots IsEntry key entry tt),
      );
      good = all_append (IsGoodEntry (pool ++ slots_of key)) pool (slots_of key)
          (all_weaker (IsGoodEntry pool) (IsGoodEntry (pool ++ slots_of key)) pool (good_later pool (slots_of key)) (file.good))
          (all_slots (IsGoodEntry (pool ++ slots_of key)) key (good_later pool (slots_of key) (entry_of key) good) tt);
    }
