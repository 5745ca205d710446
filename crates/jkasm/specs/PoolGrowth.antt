-- How a pool grows as constants are put into it.
use Rattle.std.specs.Prelude.{◌≡◌, ℕ, ◌≤◌, ◌&&◌, Bool, IsTrue, List, ◌++◌, length, nat_le}
use Rattle.std.specs.List.{list_all, AllByRecursion}
use Rattle.jk_model.specs.declared.class_file.PoolEntry.{PoolEntry}
use Rattle.jk_model.specs.ClassFile.{IsPool, IsGoodEntry}
use Rattle.asm_reader.specs.declared.items.Constant.{Constant}
use Rattle.asm_reader.specs.declared.items.Constant.TheVariants.{Int, Long, Text}
use Rattle.jkasm.specs.Constants.{PoolConstant, HasJust}
use Rattle.jkasm.specs.Limits.{FitPool}

-- the pool has more entries after those that it had
abbrev pub Extends : List PoolEntry → List PoolEntry → Type 0
Extends old new = (more : List PoolEntry) × (new ≡ old ++ more)

-- these constants are in the pool too
pub record Takes (old new : List PoolEntry) (constants : List PoolConstant) : Type 0 where
  pub extends : Extends old new
  pub just : (before : List PoolConstant) → HasJust old before → HasJust new (before ++ constants)

-- no pool has these constants too
abbrev pub HasNoRoom : List PoolEntry → List PoolConstant → Type 0
HasNoRoom old constants = (before : List PoolConstant) → HasJust old before → FitPool (before ++ constants) → ⊥

-- the pool of a class file: each index has its place, and each entry names those that it should
pub record IsFilePool (pool : List PoolEntry) : Type 0 where
  pub layout : IsPool pool
  pub good : AllByRecursion (IsGoodEntry pool) pool

-- ---- Texts: up to 65,535 bytes from 32 to 126.

abbrev pub is_text_byte : ℕ → Bool
is_text_byte b = nat_le 32 b && nat_le b 126

abbrev pub IsPoolText : List ℕ → Type 0
IsPoolText bytes = (length bytes ≤ 65535) × IsTrue (list_all is_text_byte bytes)

abbrev pub HasPoolText : Constant → Type 0
HasPoolText (Text text) = IsPoolText text
HasPoolText (Int n) = Unit {0}
HasPoolText (Long n) = Unit {0}
