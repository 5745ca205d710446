-- The rules on descriptors: C8, which are none or may not be; and the part of C10 on them, float and double.
use Rattle.std.specs.Prelude.{◌≡◌, ℕ, ◌≤◌, ◌⊎◌, Bool, true, not, List, Option, Some, None, codes, bytes_eq}
use Rattle.jk_model.specs.declared.class_file.ClassFile.{ClassFile}
use Rattle.jk_model.specs.declared.class_file.MemberInfo.{MemberInfo}
use Rattle.jk_model.specs.declared.descriptors.Base.{Base}
use Rattle.jk_model.specs.declared.descriptors.Base.TheVariants.{Float, Double}
use Rattle.jk_model.specs.declared.descriptors.FieldType.{FieldType}
use Rattle.jk_model.specs.declared.descriptors.MethodType.{MethodType}
use Rattle.jk_model.specs.Descriptors.{IsFieldText, IsFieldDescriptor, IsMethodText, method_slots}
use Rattle.jk_model.specs.Flags.{STATIC, has}
use Rattle.jk_model_classes.specs.ClassFlags.{MethodFlags}
use Rattle.jk_model_classes.specs.ClassNames.{HasText}
use Rattle.jk_model_classes.specs.Items.{HasItem, FieldAt, MethodAt, Spot, Member, Entry}
use Rattle.jk_model_classes.specs.Members.{TextAt, ClassAt, MemberKind, Field, Method, InterfaceMethod, ReferenceAt, IsInit, IsClinit, INIT}

-- ---- C8.

-- how many slots the arguments of a method may take, its receiver included
abbrev pub MAX_SLOTS : ℕ
MAX_SLOTS = 255

-- A method's descriptor: it is one, its arguments take few slots, the receiver included where it isn't static,
-- `<init>` has no result, and `<clinit>` has neither parameters nor a result.
pub record HasMethodType (c : ClassFile) (method : MemberInfo) (t : MethodType) : Type 0 where
  pub text : HasText (λ units. IsMethodText units t) c.pool method.descriptor
  pub flags : ℕ
  pub counted : MethodFlags c method flags
  pub few : method_slots t (not (has flags STATIC)) ≤ MAX_SLOTS
  pub init : IsInit c method → t.result ≡ None
  pub clinit : IsClinit c method → TextAt c.pool method.descriptor (codes "()V")

-- The descriptor in a reference to a method. A receiver is counted at an InterfaceMethodRef, and at `<init>`.
pub record IsReferenceType (receiver : Bool) (name descriptor : List ℕ) (t : MethodType) : Type 0 where
  pub text : IsMethodText descriptor t
  pub few : method_slots t receiver ≤ MAX_SLOTS
  pub init : name ≡ INIT → t.result ≡ None

abbrev pub IsReferenceDescriptor : MemberKind → List ℕ → List ℕ → Type 0
IsReferenceDescriptor Field name descriptor = IsFieldDescriptor descriptor
IsReferenceDescriptor Method name descriptor = (t : MethodType) × IsReferenceType (bytes_eq name INIT) name descriptor t
IsReferenceDescriptor InterfaceMethod name descriptor = (t : MethodType) × IsReferenceType true name descriptor t

-- An array's Class entry is no case here: what begins with `[` and is no descriptor has no name's form.
abbrev pub HasBadDescriptor : ClassFile → Spot → Type 0
HasBadDescriptor c (Member n) =
    ((field : MemberInfo) × FieldAt c n field × (HasText IsFieldDescriptor c.pool field.descriptor → ⊥))
    ⊎ ((method : MemberInfo) × MethodAt c n method × ((t : MethodType) → HasMethodType c method t → ⊥))
HasBadDescriptor c (Entry i) =
    (kind : MemberKind) × (name : List ℕ) × (descriptor : List ℕ) × ReferenceAt c.pool i kind name descriptor
    × (IsReferenceDescriptor kind name descriptor → ⊥)

-- ---- C10, as far as descriptors go.

abbrev pub IsFloatBase : Base → Type 0
IsFloatBase base = (base ≡ Float) ⊎ (base ≡ Double)

abbrev pub IsFloatType : FieldType → Type 0
IsFloatType t = IsFloatBase t.base

abbrev pub IsFloatResult : Option FieldType → Type 0
IsFloatResult None = ⊥
IsFloatResult (Some t) = IsFloatType t

-- a field's descriptor of float or double, or of an array of them
abbrev pub IsFloatField : List ℕ → Type 0
IsFloatField units = (t : FieldType) × IsFieldText units t × IsFloatType t

-- the name of a Class entry, of an array of them
abbrev pub IsFloatArray : List ℕ → Type 0
IsFloatArray units = (t : FieldType) × (1 ≤ t.dims) × IsFieldText units t × IsFloatType t

-- a method's descriptor with such a parameter or result
abbrev pub IsFloatMethod : List ℕ → Type 0
IsFloatMethod units = (t : MethodType) × IsMethodText units t × (HasItem IsFloatType t.params ⊎ IsFloatResult t.result)

abbrev pub IsFloatReference : MemberKind → List ℕ → Type 0
IsFloatReference Field descriptor = IsFloatField descriptor
IsFloatReference _ descriptor = IsFloatMethod descriptor

abbrev pub HasFloatDescriptor : ClassFile → Spot → Type 0
HasFloatDescriptor c (Member n) =
    ((field : MemberInfo) × FieldAt c n field × HasText IsFloatField c.pool field.descriptor)
    ⊎ ((method : MemberInfo) × MethodAt c n method × HasText IsFloatMethod c.pool method.descriptor)
HasFloatDescriptor c (Entry i) =
    ((units : List ℕ) × ClassAt c.pool i units × IsFloatArray units)
    ⊎ ((kind : MemberKind) × (name : List ℕ) × (descriptor : List ℕ) × ReferenceAt c.pool i kind name descriptor
    × IsFloatReference kind descriptor)
