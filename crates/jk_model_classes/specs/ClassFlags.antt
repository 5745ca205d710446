-- What flags of classes and members may stand together (the Java Virtual Machine Specification, 4.1, 4.5, 4.6): the rule C6.
use Rattle.std.specs.Prelude.{◌≡◌, ℕ, ◌⊎◌, ◌&&◌, ◌||◌, ◌==◌, Bool, not, IsTrue, bit_and}
use Rattle.jk_model.specs.Flags.{has, PUBLIC, PRIVATE, PROTECTED, STATIC, FINAL, SYNCHRONIZED, VOLATILE, NATIVE, INTERFACE, ABSTRACT, STRICT}
use Rattle.jk_model.specs.declared.class_file.ClassFile.{ClassFile}
use Rattle.jk_model.specs.declared.class_file.MemberInfo.{MemberInfo}
use Rattle.jk_model_classes.specs.Items.{FieldAt, MethodAt, Spot, Member, Entry}
use Rattle.jk_model_classes.specs.Members.{IsInit, IsClinit}

-- The flags that count of a method: `<clinit>` counts as static without other flags.
abbrev pub MethodFlags : ClassFile → MemberInfo → ℕ → Type 0
MethodFlags c method flags =
    (IsClinit c method × (flags ≡ STATIC)) ⊎ ((IsClinit c method → ⊥) × (flags ≡ method.flags))

-- ---- C6.

-- final, and also an interface or abstract
abbrev pub is_final_and_open : ℕ → Bool
is_final_and_open flags = has flags FINAL && (has flags INTERFACE || has flags ABSTRACT)

-- two of public, private and protected
abbrev pub has_two_marks : ℕ → Bool
has_two_marks flags =
    (has flags PUBLIC && has flags PRIVATE) || (has flags PUBLIC && has flags PROTECTED) || (has flags PRIVATE && has flags PROTECTED)

abbrev pub is_final_and_volatile : ℕ → Bool
is_final_and_volatile flags = has flags FINAL && has flags VOLATILE

abbrev pub is_constant : ℕ → Bool
is_constant flags = has flags PUBLIC && has flags STATIC && has flags FINAL

abbrev pub is_bad_field : ℕ → ℕ → Bool
is_bad_field class_flags flags =
    has_two_marks flags || is_final_and_volatile flags || (has class_flags INTERFACE && not (is_constant flags))

-- abstract, and also private, static, final, native, synchronized or strict
abbrev pub is_abstract_and_more : ℕ → Bool
is_abstract_and_more flags =
    has flags ABSTRACT
    && (has flags PRIVATE || has flags STATIC || has flags FINAL || has flags NATIVE || has flags SYNCHRONIZED || has flags STRICT)

abbrev pub is_bad_method : ℕ → ℕ → Bool
is_bad_method class_flags flags =
    has_two_marks flags || is_abstract_and_more flags
    || (has class_flags INTERFACE && not (has flags PUBLIC && has flags ABSTRACT))

-- an `<init>` that is static, final, abstract, native or synchronized, or stands in an interface
abbrev pub is_bad_init : ℕ → ℕ → Bool
is_bad_init class_flags flags =
    has class_flags INTERFACE || has flags STATIC || has flags FINAL || has flags ABSTRACT || has flags NATIVE || has flags SYNCHRONIZED

abbrev pub HasBadMethodFlags : ClassFile → MemberInfo → Type 0
HasBadMethodFlags c method =
    (IsClinit c method → ⊥)
    × (IsTrue (is_bad_method c.flags method.flags) ⊎ (IsInit c method × IsTrue (is_bad_init c.flags method.flags)))

-- The flags of the class, or of this member, may not stand together.
abbrev pub HasBadFlags : ClassFile → Spot → Type 0
HasBadFlags c (Member n) =
    ((n ≡ 0) × IsTrue (is_final_and_open c.flags))
    ⊎ ((field : MemberInfo) × FieldAt c n field × IsTrue (is_bad_field c.flags field.flags))
    ⊎ ((method : MemberInfo) × MethodAt c n method × HasBadMethodFlags c method)
HasBadFlags c (Entry i) = ⊥
