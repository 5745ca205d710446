-- The rule C9 on attributes of classes, fields and methods (the Java Virtual Machine Specification, 4.7): which
-- of them are missing, there twice, or have a body that they may not have. Attributes of other names are passed over.
use Rattle.std.specs.Prelude.{◌≡◌, ℕ, ◌⊎◌, ⊤, not, List, IsTrue, codes}
use Rattle.std.specs.List.{AllByRecursion}
use Rattle.jk_model.specs.declared.class_file.ClassFile.{ClassFile}
use Rattle.jk_model.specs.declared.class_file.PoolEntry.{PoolEntry}
use Rattle.jk_model.specs.declared.class_file.PoolEntry.TheVariants.{Integer, Long as LongEntry, Str}
use Rattle.jk_model.specs.declared.class_file.MemberInfo.{MemberInfo}
use Rattle.jk_model.specs.declared.class_file.Attribute.{Attribute}
use Rattle.jk_model.specs.declared.class_file.Code.{Code}
use Rattle.jk_model.specs.declared.descriptors.Base.{Base}
use Rattle.jk_model.specs.declared.descriptors.Base.TheVariants.{Byte, Char, Int, Long, Short, Bool as Boolean, Class}
use Rattle.jk_model.specs.ClassFile.{u2, IsU2, interfaces_bytes, AreInterfaces, NamesEntry, IsUtf8Entry, IsClassEntry, CodeLayout}
use Rattle.jk_model.specs.Descriptors.{IsFieldText}
use Rattle.jk_model.specs.Flags.{STATIC, NATIVE, ABSTRACT, has}
use Rattle.jk_model_classes.specs.ClassFlags.{MethodFlags}
use Rattle.jk_model_classes.specs.Items.{HasItem, HasTwoItems, FieldAt, MethodAt, Spot, Member, Entry}
use Rattle.jk_model_classes.specs.Members.{TextAt, IsCalled}

-- the name of one of these attributes is no Utf8 entry
abbrev pub HasUnnamed : List PoolEntry → List Attribute → Type 0
HasUnnamed pool attributes = HasItem (λ (a : Attribute). NamesEntry IsUtf8Entry pool a.name → ⊥) attributes

-- ---- Fields. On one that isn't static, ConstantValue is ignored.

-- the entry is of the kind that a constant of this type needs; the types that have no kind have no constants
abbrev pub IsConstantOf : Base → PoolEntry → Type 0
IsConstantOf Byte (Integer n) = ⊤
IsConstantOf Char (Integer n) = ⊤
IsConstantOf Int (Integer n) = ⊤
IsConstantOf Short (Integer n) = ⊤
IsConstantOf Boolean (Integer n) = ⊤
IsConstantOf Long (LongEntry n) = ⊤
IsConstantOf (Class name) (Str text) = name ≡ codes "java/lang/String"
IsConstantOf _ _ = ⊥

-- The body of a ConstantValue: two bytes that name an entry of the kind that the field's type needs.
pub record IsConstant (pool : List PoolEntry) (field : MemberInfo) (body : List ℕ) : Type 0 where
  pub units : List ℕ
  pub descriptor : TextAt pool field.descriptor units
  pub base : Base
  pub type : IsFieldText units (record { dims = 0; base = base })
  pub index : ℕ
  pub bytes : IsU2 index × (body ≡ u2 index)
  pub entry : NamesEntry (IsConstantOf base) pool index

abbrev pub IsConstantValue : List PoolEntry → Attribute → Type 0
IsConstantValue pool attribute = IsCalled pool (codes "ConstantValue") attribute

abbrev pub HasBadConstant : List PoolEntry → MemberInfo → Type 0
HasBadConstant pool field =
    IsTrue (has field.flags STATIC)
    × (HasTwoItems (IsConstantValue pool) field.attributes
    ⊎ HasItem (λ (a : Attribute). IsConstantValue pool a × (IsConstant pool field a.body → ⊥)) field.attributes)

-- ---- Methods.

abbrev pub IsCodeAttribute : List PoolEntry → Attribute → Type 0
IsCodeAttribute pool attribute = IsCalled pool (codes "Code") attribute

-- Code stands exactly once where the method is neither abstract nor native, and not at all where it is abstract.
abbrev pub MissesCode : ClassFile → MemberInfo → Type 0
MissesCode c method =
    (flags : ℕ) × MethodFlags c method flags
    × ((IsTrue (not (has flags ABSTRACT)) × IsTrue (not (has flags NATIVE))
    × ((HasItem (IsCodeAttribute c.pool) method.attributes → ⊥) ⊎ HasTwoItems (IsCodeAttribute c.pool) method.attributes))
    ⊎ (IsTrue (has flags ABSTRACT) × HasItem (IsCodeAttribute c.pool) method.attributes))

-- the body of a Code isn't laid out as one, or an attribute in it has no name
abbrev pub IsBadCode : List PoolEntry → Attribute → Type 0
IsBadCode pool attribute =
    IsCodeAttribute pool attribute
    × (((code : Code) → CodeLayout attribute.body code → ⊥)
    ⊎ ((code : Code) × CodeLayout attribute.body code × HasUnnamed pool code.attributes))

-- the body of an Exceptions: a count, and so many indices of Class entries
abbrev pub AreThrown : List PoolEntry → List ℕ → Type 0
AreThrown pool body =
    (indices : List ℕ) × AreInterfaces indices × (body ≡ interfaces_bytes indices)
    × AllByRecursion (NamesEntry IsClassEntry pool) indices

abbrev pub IsExceptions : List PoolEntry → Attribute → Type 0
IsExceptions pool attribute = IsCalled pool (codes "Exceptions") attribute

abbrev pub HasBadExceptions : List PoolEntry → MemberInfo → Type 0
HasBadExceptions pool method =
    HasTwoItems (IsExceptions pool) method.attributes
    ⊎ HasItem (λ (a : Attribute). IsExceptions pool a × (AreThrown pool a.body → ⊥)) method.attributes

-- ---- C9.

abbrev pub HasBadAttribute : ClassFile → Spot → Type 0
HasBadAttribute c (Member n) =
    ((n ≡ 0) × HasUnnamed c.pool c.attributes)
    ⊎ ((field : MemberInfo) × FieldAt c n field × (HasUnnamed c.pool field.attributes ⊎ HasBadConstant c.pool field))
    ⊎ ((method : MemberInfo) × MethodAt c n method
    × (HasUnnamed c.pool method.attributes ⊎ MissesCode c method ⊎ HasItem (IsBadCode c.pool) method.attributes
    ⊎ HasBadExceptions c.pool method))
HasBadAttribute c (Entry i) = ⊥
