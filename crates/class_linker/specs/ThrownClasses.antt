-- What the parts of `thrown_classes` answer.
use Rattle.std.specs.Prelude.{◌≡◌, ℕ, List, Option, Some, None, slice_get}
use Rattle.jk_model.specs.declared.class_file.Attribute.{Attribute}
use Rattle.jk_model.specs.declared.class_file.ClassFile.{ClassFile}
use Rattle.jk_model.specs.declared.class_file.MemberInfo.{MemberInfo}
use Rattle.jk_model.specs.declared.class_file.PoolEntry.{PoolEntry}
use Rattle.jk_model.specs.declared.identifiers.ClassId.{ClassId}
use Rattle.jk_model.specs.ClassFile.{AreInterfaces, interfaces_bytes}
use Rattle.jk_model.specs.Descriptors.{IsClassName}
use Rattle.jk_model_classes.specs.Items.{HasItem}
use Rattle.jk_model_classes.specs.LinkRules.{LinkScope}
use Rattle.jk_model_classes.specs.MemberAttributes.{IsExceptions}
use Rattle.jk_model_classes.specs.Members.{ClassAt}
use Rattle.jk_model_classes.specs.Worlds.{NamedClass, class_named}
use Rattle.jk_model_folders.specs.LinkedClasses.{AreThrownBy, IsThrown}
use Rattle.class_linker.specs.LinkedFiles.{HasNames}

-- the class of this name; nothing where it is an array's
abbrev pub IsClassOfName : List NamedClass → List ℕ → Option ClassId → Type 0
IsClassOfName names name None = IsClassName name → ⊥
IsClassOfName names name (Some class) = IsClassName name × (class_named names name ≡ Some class)

-- the class of the Class entry at this index; nothing where it is of an array
abbrev pub IsClassOfEntry : List NamedClass → List PoolEntry → ℕ → Option ClassId → Type 0
IsClassOfEntry names pool i class = (name : List ℕ) × ClassAt pool i name × IsClassOfName names name class

-- the classes of these Class entries, arrays left out
abbrev pub AreClassesOf : List NamedClass → ClassFile → List ℕ → List ClassId → Type 0
AreClassesOf names c indices thrown = (s : LinkScope) → HasNames names s → IsThrown s c indices thrown

-- the classes that the body of an Exceptions says
abbrev pub AreClassesIn : List NamedClass → ClassFile → List ℕ → List ClassId → Type 0
AreClassesIn names c body thrown =
    (indices : List ℕ) × AreInterfaces indices × (body ≡ interfaces_bytes indices) × AreClassesOf names c indices thrown

abbrev pub AreClassesThrown : List NamedClass → ClassFile → MemberInfo → List ClassId → Type 0
AreClassesThrown names c info thrown = (s : LinkScope) → HasNames names s → AreThrownBy s c info thrown

-- the first of the attributes that is an Exceptions; none where none is
abbrev pub IsExceptionsOf : List PoolEntry → List Attribute → Option Attribute → Type 0
IsExceptionsOf pool attributes None = HasItem (IsExceptions pool) attributes → ⊥
IsExceptionsOf pool attributes (Some a) = (i : ℕ) × (slice_get attributes i ≡ Some a) × IsExceptions pool a

-- one of the items is this one
abbrev pub IsItemOf : {X : Type 0} → List X → X → Type 0
IsItemOf {X} items x = (i : ℕ) × (slice_get items i ≡ Some x)
