-- In a good pool an entry that is named as a text is one, and one that is named as a class is one.
use Rattle.std.proofs.Common.{◌≡◌, ℕ, List, Some}
use Rattle.std.specs.Prelude.{slice_get}
use Rattle.std.specs.List.{AllByRecursion}
use Rattle.jk_model.specs.declared.class_file.PoolEntry.{PoolEntry}
use Rattle.jk_model.specs.declared.class_file.PoolEntry.TheVariants.{Utf8, Class}
use Rattle.jk_model.specs.ClassFile.{IsGoodEntry, NamesEntry, IsUtf8Entry, IsClassEntry}
use Rattle.jk_model.proofs.EachItem.{all_at}
use Rattle.jk_model_classes.specs.Members.{TextAt, ClassAt}

abbrev pub AreGood : List PoolEntry → Type 0
AreGood pool = AllByRecursion (IsGoodEntry pool) pool

pub text_of : (pool : List PoolEntry) (i : ℕ) (e : PoolEntry) → slice_get pool i ≡ Some e → IsGoodEntry pool e → IsUtf8Entry e
    → (units : List ℕ) × TextAt pool i units
text_of pool i (Utf8 bytes) at good k = (good.0, (bytes, at, good.1))
text_of pool i _ at good k = absurd k

-- an entry that is named as a text is one
pub text_there : (pool : List PoolEntry) (i : ℕ) → AreGood pool → NamesEntry IsUtf8Entry pool i → (units : List ℕ) × TextAt pool i units
text_there pool i good (e, at, k) = text_of pool i e at (all_at (IsGoodEntry pool) pool i e good at) k

pub class_of : (pool : List PoolEntry) (i : ℕ) (e : PoolEntry) → AreGood pool → slice_get pool i ≡ Some e → IsGoodEntry pool e → IsClassEntry e
    → (units : List ℕ) × ClassAt pool i units
class_of pool i (Class name) all at good k = let text = text_there pool name all good in (text.0, (name, at, text.1))
class_of pool i _ all at good k = absurd k

-- an entry that is named as a class is one
pub class_there : (pool : List PoolEntry) (i : ℕ) → AreGood pool → NamesEntry IsClassEntry pool i → (units : List ℕ) × ClassAt pool i units
class_there pool i good (e, at, k) = class_of pool i e good at (all_at (IsGoodEntry pool) pool i e good at) k
