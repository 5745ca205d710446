-- Constants of fields that break no rule.
use Rattle.std.specs.Prelude.{◌≡◌, ℕ, ⊤, List, Some, slice_get}
use Rattle.jk_model.specs.declared.class_file.PoolEntry.{PoolEntry}
use Rattle.jk_model.specs.declared.class_file.PoolEntry.TheVariants.{Integer, Long, Str}
use Rattle.jk_model.specs.declared.class_file.Attribute.{Attribute}
use Rattle.jk_model.specs.ClassFile.{IsU2, u2}
use Rattle.jk_model_classes.specs.MemberAttributes.{IsConstantValue}
use Rattle.class_linker.specs.KnownDescriptors.{HasSomeText}

-- the entry is a constant of some type
abbrev pub IsConstantKind : PoolEntry → Type 0
IsConstantKind (Integer n) = ⊤
IsConstantKind (Long n) = ⊤
IsConstantKind (Str text) = ⊤
IsConstantKind _ = ⊥

-- the text that it names, if it names one, can't but be there
abbrev pub HasTextOf : List PoolEntry → PoolEntry → Type 0
HasTextOf pool (Str text) = HasSomeText pool text
HasTextOf pool _ = ⊤

-- the body names this constant
pub record IsEntryOf (pool : List PoolEntry) (body : List ℕ) (entry : PoolEntry) : Type 0 where
  pub index : ℕ
  pub fits : IsU2 index
  pub bytes : body ≡ u2 index
  pub at : slice_get pool index ≡ Some entry
  pub constant : IsConstantKind entry

-- the body can't but name a constant
abbrev pub NamesConstant : List PoolEntry → List ℕ → Type 0
NamesConstant pool body = ((entry : PoolEntry) → IsEntryOf pool body entry → ⊥) → ⊥

-- no ConstantValue among the attributes names none
abbrev pub HasNoBadConstant : List PoolEntry → List Attribute → Type 0
HasNoBadConstant pool attributes = (k : ℕ) (a : Attribute) → slice_get attributes k ≡ Some a → IsConstantValue pool a → NamesConstant pool a.body
