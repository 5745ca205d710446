-- Each descriptor of the table is what is written of a type: of one of a few, which are all types.
use Rattle.std.proofs.Common.{◌≡◌, ◌≢◌, ℕ, ◌==◌, ◌&&◌, ◌<◌, inl, inr, subst, List, [], ◌∷◌, refl, sym, arith, Bool, true, false, not, nat_lt, Option, Some, None, bytes_eq, codes, ltb-true}
use Rattle.std.specs.List.{list_all, list_any, AllByRecursion, join_with_byte}
use Rattle.std.proofs.lemmas.Bool.{and_parts, or_cases, not-true, eqb-false}
use Rattle.std.proofs.lemmas.Slice.Eq.{bytes_eq-Decides}
use Rattle.jk_model.specs.Descriptors.{IsFieldDescriptor, IsMethodDescriptor, IsNameUnit, IsName, IsClassName, IsBase, IsFieldType, IsResult, IsMethodType, field_text, method_text}
use Rattle.jk_model.specs.declared.descriptors.Base.{Base}
use Rattle.jk_model.specs.declared.descriptors.Base.TheVariants.{Byte, Char, Double, Float, Int, Long, Short, Bool as Boolean, Class as Named}
use Rattle.jk_model.specs.declared.descriptors.FieldType.{FieldType}
use Rattle.jk_model.specs.declared.descriptors.MethodType.{MethodType}
use Rattle.system_table.specs.Laws.{Class, IsAt}
use Rattle.jk_model.proofs.EachItem.{all_from_test}
use Rattle.system_table.proofs.LawsOfTheTable.{each}

-- ---- Names of classes.

-- the names of the classes, part by part
abbrev pub class_names : List (List (List ℕ))
class_names =
    (codes "java" ∷ codes "lang" ∷ codes "Object" ∷ [])
    ∷ (codes "java" ∷ codes "lang" ∷ codes "String" ∷ [])
    ∷ (codes "java" ∷ codes "lang" ∷ codes "StringBuffer" ∷ [])
    ∷ (codes "java" ∷ codes "lang" ∷ codes "StringBuilder" ∷ [])
    ∷ (codes "java" ∷ codes "io" ∷ codes "PrintStream" ∷ [])
    ∷ (codes "jk" ∷ codes "Remote" ∷ [])
    ∷ (codes "jk" ∷ codes "Capability" ∷ [])
    ∷ (codes "jk" ∷ codes "Task" ∷ [])
    ∷ []

differs : (a b : ℕ) → not (a == b) ≡ true → a ≢ b
differs a b h = eqb-false a b (not-true (a == b) h)

abbrev pub is_name_unit : ℕ → Bool
is_name_unit u = not (u == 46) && (not (u == 59) && (not (u == 91) && not (u == 47)))

name_unit : (u : ℕ) → is_name_unit u ≡ true → IsNameUnit u
name_unit u h =
    let one = and_parts (not (u == 46)) (not (u == 59) && (not (u == 91) && not (u == 47))) h in
    let two = and_parts (not (u == 59)) (not (u == 91) && not (u == 47)) one.1 in
    let three = and_parts (not (u == 91)) (not (u == 47)) two.1 in
    (differs u 46 one.0, differs u 59 two.0, differs u 91 three.0, differs u 47 three.1)

abbrev pub is_name : List ℕ → Bool
is_name [] = false
is_name (u ∷ us) = list_all is_name_unit (u ∷ us)

name : (units : List ℕ) → is_name units ≡ true → IsName units
name [] h = absurd cc
name (u ∷ us) h = (λ e. absurd cc, all_from_test IsNameUnit is_name_unit name_unit (u ∷ us) h)

abbrev pub are_names : List (List ℕ) → Bool
are_names [] = false
are_names (n ∷ ns) = list_all is_name (n ∷ ns)

class_name : (names : List (List ℕ)) → are_names names ≡ true → IsClassName (join_with_byte 47 names)
class_name [] h = absurd cc
class_name (n ∷ ns) h = (n ∷ ns, λ e. absurd cc, all_from_test IsName is_name name (n ∷ ns) h, refl)

-- ---- One of a list.

pub one_of : {X : Type 0} (Q : X → Type 0) (test : X → Bool) (xs : List X) → AllByRecursion Q xs → list_any test xs ≡ true → (x : X) × Q x × (test x ≡ true)
one_of Q test [] all h = absurd cc
one_of Q test (x ∷ xs) (here, others) h = elim (or_cases (test x) (list_any test xs) h) [
  | inl now ↦ (x, here, now)
  | inr later ↦ one_of Q test xs others later
]

-- ---- Types.

abbrev pub is_class_name : List ℕ → Bool
is_class_name units = list_any (λ parts. bytes_eq (join_with_byte 47 parts) units) class_names

known_class_name : (units : List ℕ) → is_class_name units ≡ true → IsClassName units
known_class_name units h =
    let all = all_from_test (λ parts. IsClassName (join_with_byte 47 parts)) are_names class_name class_names refl in
    let (parts, is, same) = one_of (λ parts. IsClassName (join_with_byte 47 parts)) (λ parts. bytes_eq (join_with_byte 47 parts) units) class_names all h in
    subst IsClassName ((bytes_eq-Decides (join_with_byte 47 parts) units).0 same) is

abbrev pub is_base : Base → Bool
is_base (Named units) = is_class_name units
is_base _ = true

base : (b : Base) → is_base b ≡ true → IsBase b
base (Named units) h = known_class_name units h
base Byte h = tt
base Char h = tt
base Double h = tt
base Float h = tt
base Int h = tt
base Long h = tt
base Short h = tt
base Boolean h = tt

abbrev pub is_field_type : FieldType → Bool
is_field_type t = nat_lt t.dims 256 && is_base t.base

pub field_type : (t : FieldType) → is_field_type t ≡ true → IsFieldType t
field_type t h =
    let parts = and_parts (nat_lt t.dims 256) (is_base t.base) h in
    let dims : t.dims < 256 = ltb-true t.dims 256 parts.0 in
    (omega (arith, dims), base t.base parts.1)

abbrev pub is_result : Option FieldType → Bool
is_result None = true
is_result (Some t) = is_field_type t

result_type : (r : Option FieldType) → is_result r ≡ true → IsResult r
result_type None h = tt
result_type (Some t) h = field_type t h

abbrev pub is_method_type : MethodType → Bool
is_method_type m = list_all is_field_type m.params && is_result m.result

pub method_type : (m : MethodType) → is_method_type m ≡ true → IsMethodType m
method_type m h =
    let parts = and_parts (list_all is_field_type m.params) (is_result m.result) h in
    (all_from_test IsFieldType is_field_type field_type m.params parts.0, result_type m.result parts.1)

-- ---- The types of the table.

abbrev pub plain : Base → FieldType
plain b = record { dims = 0; base = b }

abbrev pub class : List ℕ → FieldType
class units = plain (Named units)

abbrev pub text : FieldType
text = class (codes "java/lang/String")

abbrev pub object : FieldType
object = class (codes "java/lang/Object")

abbrev pub capability : FieldType
capability = class (codes "jk/Capability")

abbrev pub int : FieldType
int = plain Int

abbrev pub gives : List FieldType → FieldType → MethodType
gives params result = record { params = params; result = Some result }

abbrev pub takes : List FieldType → MethodType
takes params = record { params = params; result = None }

abbrev pub field_types : List FieldType
field_types = text ∷ class (codes "java/io/PrintStream") ∷ []

-- the kinds of values that are printed, appended and written as texts
abbrev pub of_each : (FieldType → MethodType) → List MethodType → List MethodType
of_each of others = of int ∷ of (plain Long) ∷ of (plain Char) ∷ of (plain Boolean) ∷ others

abbrev pub appends : List ℕ → List MethodType → List MethodType
appends own others = gives (text ∷ []) (class own) ∷ of_each (λ t. gives (t ∷ []) (class own)) others

abbrev pub method_types : List MethodType
method_types =
    takes []
    ∷ takes (text ∷ [])
    ∷ gives [] text
    ∷ gives [] int
    ∷ gives (object ∷ []) (plain Boolean)
    ∷ gives (int ∷ []) (plain Char)
    ∷ gives (text ∷ []) text
    ∷ gives (int ∷ int ∷ []) text
    ∷ gives (text ∷ []) int
    ∷ takes (object ∷ int ∷ object ∷ int ∷ int ∷ [])
    ∷ gives (class (codes "jk/Remote") ∷ []) capability
    ∷ takes (text ∷ capability ∷ [])
    ∷ gives (text ∷ []) capability
    ∷ gives [] (class (codes "jk/Task"))
    ∷ of_each (λ t. takes (t ∷ []))
    (of_each (λ t. gives (t ∷ []) text)
    (appends (codes "java/lang/StringBuffer")
    (appends (codes "java/lang/StringBuilder") [])))

-- ---- The laws.

abbrev pub is_field_descriptor : List ℕ → Bool
is_field_descriptor units = list_any (λ t. bytes_eq (field_text t) units) field_types

field_descriptor : (units : List ℕ) → is_field_descriptor units ≡ true → IsFieldDescriptor units
field_descriptor units h =
    let (t, is, same) =
    one_of IsFieldType (λ t. bytes_eq (field_text t) units) field_types (all_from_test IsFieldType is_field_type field_type field_types refl) h in
    (t, (is, sym ((bytes_eq-Decides (field_text t) units).0 same)))

abbrev pub is_method_descriptor : List ℕ → Bool
is_method_descriptor units = list_any (λ m. bytes_eq (method_text m) units) method_types

method_descriptor : (units : List ℕ) → is_method_descriptor units ≡ true → IsMethodDescriptor units
method_descriptor units h =
    let (m, is, same) =
    one_of IsMethodType (λ m. bytes_eq (method_text m) units) method_types
    (all_from_test IsMethodType is_method_type method_type method_types refl) h in
    (m, (is, sym ((bytes_eq-Decides (method_text m) units).0 same)))

pub fields : (n : ℕ) (c : Class) → IsAt c n → AllByRecursion (λ f. IsFieldDescriptor f.descriptor) c.fields
fields n c at =
    all_from_test (λ f. IsFieldDescriptor f.descriptor) (λ f. is_field_descriptor f.descriptor) (λ f. field_descriptor f.descriptor) c.fields
    (each (λ _ d. list_all (λ f. is_field_descriptor f.descriptor) d.fields) refl n c at)

pub methods : (n : ℕ) (c : Class) → IsAt c n → AllByRecursion (λ m. IsMethodDescriptor m.descriptor) c.methods
methods n c at =
    all_from_test (λ m. IsMethodDescriptor m.descriptor) (λ m. is_method_descriptor m.descriptor) (λ m. method_descriptor m.descriptor) c.methods
    (each (λ _ d. list_all (λ m. is_method_descriptor m.descriptor) d.methods) refl n c at)
