-- What the rule C9 asks of the attributes of one field and of one method, in the parts in which it is answered.
use Rattle.std.specs.Prelude.{◌≡◌, ℕ, ◌<◌, ◌^◌, ◌⊎◌, ◌&&◌, ⊤, Bool, not, IsTrue, List, [], Some, length, slice_get}
use Rattle.std.specs.List.{AllByRecursion}
use Rattle.jk_model.specs.declared.class_file.ClassFile.{ClassFile}
use Rattle.jk_model.specs.declared.class_file.PoolEntry.{PoolEntry}
use Rattle.jk_model.specs.declared.class_file.PoolEntry.TheVariants.{Integer, Long as LongEntry, Str}
use Rattle.jk_model.specs.declared.class_file.MemberInfo.{MemberInfo}
use Rattle.jk_model.specs.declared.class_file.Attribute.{Attribute}
use Rattle.jk_model.specs.ClassFile.{NamesEntry, IsUtf8Entry, IsClassEntry}
use Rattle.jk_model.specs.Flags.{STATIC, NATIVE, ABSTRACT, has}
use Rattle.jk_model_classes.specs.Items.{HasItem, HasTwoItems}
use Rattle.jk_model_classes.specs.Members.{TextAt, CLINIT, IsCalled}
use Rattle.jk_model_classes.specs.MemberAttributes.{HasUnnamed, HasBadConstant, IsConstantValue, IsConstant, MissesCode, IsBadCode, IsExceptions, AreThrown, HasBadExceptions}
use Rattle.class_rules.specs.declared.texts.Kind.{Kind}
use Rattle.class_rules.specs.declared.texts.Kind.TheVariants as kinds
use Rattle.class_rules.specs.declared.texts.Word.{Word}
use Rattle.class_rules.specs.declared.texts.Word.TheVariants.{Code, ConstantValue, Exceptions}
use Rattle.class_rules.specs.Texts.{word_text}

-- its name is no Utf8 entry
abbrev pub IsUnnamed : List PoolEntry → Attribute → Type 0
IsUnnamed pool a = NamesEntry IsUtf8Entry pool a.name → ⊥

-- its name is this word
abbrev pub IsCalledBy : List PoolEntry → Word → Attribute → Type 0
IsCalledBy pool word a = IsCalled pool (word_text word) a

-- the entry is a constant of this kind
abbrev pub IsOfConstantKind : Kind → PoolEntry → Type 0
IsOfConstantKind kinds.Int (Integer n) = ⊤
IsOfConstantKind kinds.Long (LongEntry n) = ⊤
IsOfConstantKind kinds.Text (Str text) = ⊤
IsOfConstantKind _ _ = ⊥

-- a ConstantValue whose body is none
abbrev pub IsBadConstant : List PoolEntry → MemberInfo → Attribute → Type 0
IsBadConstant pool field a = IsConstantValue pool a × (IsConstant pool field a.body → ⊥)

-- two ConstantValues among these attributes, or a bad one
abbrev pub HasWrongConstant : List PoolEntry → MemberInfo → List Attribute → Type 0
HasWrongConstant pool field attributes =
    HasTwoItems (IsCalledBy pool ConstantValue) attributes ⊎ HasItem (IsBadConstant pool field) attributes

-- C9 of a field
abbrev pub HasBadFieldAttributes : List PoolEntry → MemberInfo → Type 0
HasBadFieldAttributes pool field = HasUnnamed pool field.attributes ⊎ HasBadConstant pool field

-- ---- Methods.

-- the flags that count of a method
abbrev pub CountFlags : List PoolEntry → MemberInfo → ℕ → Type 0
CountFlags pool method flags =
    (TextAt pool method.name CLINIT × (flags ≡ STATIC)) ⊎ ((TextAt pool method.name CLINIT → ⊥) × (flags ≡ method.flags))

-- neither abstract nor native
abbrev pub needs_code : ℕ → Bool
needs_code flags = not (has flags ABSTRACT) && not (has flags NATIVE)

-- there isn't exactly one Code
abbrev pub LacksCode : List PoolEntry → List Attribute → Type 0
LacksCode pool attributes = (HasItem (IsCalledBy pool Code) attributes → ⊥) ⊎ HasTwoItems (IsCalledBy pool Code) attributes

abbrev pub HasUselessCode : List PoolEntry → ℕ → List Attribute → Type 0
HasUselessCode pool flags attributes = IsTrue (has flags ABSTRACT) × HasItem (IsCalledBy pool Code) attributes

abbrev pub IsCodeMissed : List PoolEntry → ℕ → List Attribute → Type 0
IsCodeMissed pool flags attributes =
    (IsTrue (not (has flags ABSTRACT)) × IsTrue (not (has flags NATIVE)) × LacksCode pool attributes) ⊎ HasUselessCode pool flags attributes

abbrev pub AreClasses : List PoolEntry → List ℕ → Type 0
AreClasses pool indices = AllByRecursion (NamesEntry IsClassEntry pool) indices

abbrev pub AreAllClasses : List PoolEntry → List ℕ → List ℕ → Type 0
AreAllClasses pool indices rest = (rest ≡ []) × AreClasses pool indices

-- an Exceptions whose body is none
abbrev pub AreBadExceptions : List PoolEntry → Attribute → Type 0
AreBadExceptions pool a = IsExceptions pool a × (AreThrown pool a.body → ⊥)

-- two Exceptions among these attributes, or a bad one
abbrev pub HasWrongExceptions : List PoolEntry → List Attribute → Type 0
HasWrongExceptions pool attributes = HasTwoItems (IsCalledBy pool Exceptions) attributes ⊎ HasItem (AreBadExceptions pool) attributes

-- all of C9 but for Exceptions, of a method with these flags and attributes
abbrev pub HasWrongCode : List PoolEntry → ℕ → List Attribute → Type 0
HasWrongCode pool flags attributes = HasUnnamed pool attributes ⊎ IsCodeMissed pool flags attributes ⊎ HasItem (IsBadCode pool) attributes

-- C9 of a method
abbrev pub HasBadMethodAttributes : ClassFile → MemberInfo → Type 0
HasBadMethodAttributes c method =
    HasUnnamed c.pool method.attributes ⊎ MissesCode c method ⊎ HasItem (IsBadCode c.pool) method.attributes
    ⊎ HasBadExceptions c.pool method

-- the bodies of attributes are shorter than 2^31 bytes, as they are in each class file that was read
abbrev pub AreShort : List Attribute → Type 0
AreShort attributes = (i : ℕ) (a : Attribute) → slice_get attributes i ≡ Some a → length a.body < 2 ^ 31

abbrev pub HaveShort : List MemberInfo → Type 0
HaveShort methods = (i : ℕ) (m : MemberInfo) → slice_get methods i ≡ Some m → AreShort m.attributes
