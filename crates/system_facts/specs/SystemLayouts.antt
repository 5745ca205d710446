-- What objects of system classes are made of, as the table lists fields and parents, and that each throwable's message comes first.
use Rattle.std.specs.Prelude.{◌≡◌, ℕ, zero, suc, ◌+◌, ◌<◌, Bool, not, List, [], ◌∷◌, ◌++◌, length, map, filter, Some, slice_get, option_and_then, codes}
use Rattle.std.specs.List.{enumerate_from}
use Rattle.std.specs.Option.{option_map_or}
use Rattle.jk_model.specs.Flags.{has, STATIC}
use Rattle.jk_model.specs.declared.identifiers.ClassId.{ClassId}
use Rattle.jk_model.specs.SystemTable.{SystemClass, SystemField, number_named, parent_number, system_classes}
use Rattle.jk_model_classes.specs.declared.records.ClassRecord.{ClassRecord}
use Rattle.jk_model_classes.specs.declared.records.TypeRef.{TypeRef}
use Rattle.jk_model_classes.specs.Classes.{AreOrdered, IsSubclass}
use Rattle.jk_model_classes.specs.Layouts.{InstanceField, instance_fields, type_words}
use Rattle.jk_model_classes.specs.Stubs.{IsSystemNamed}
use Rattle.system_facts.specs.DescriptorReader.{field_kind}
use Rattle.system_facts.specs.SystemTypes.{HaveSystemClasses}

-- ---- By the table.

abbrev pub class_at : ℕ → ClassId
class_at n = record { 0 = n }

abbrev pub words_said : SystemField → ℕ
words_said entry = option_map_or (λ (kind : TypeRef). type_words kind) (field_kind entry.descriptor) 1

abbrev pub is_listed_instance : ℕ × SystemField → Bool
is_listed_instance p = not (has p.1.flags STATIC)

-- the instance fields that the class at place n lists itself
abbrev pub listed_own : ℕ → List InstanceField
listed_own n =
    option_map_or
    (λ (class : SystemClass). map
    (λ (p : ℕ × SystemField). record { member = record { class = class_at n; index = p.0 }; words = words_said p.1 })
    (filter is_listed_instance (enumerate_from 0 class.fields)))
    (slice_get system_classes n) []

abbrev pub listed_within : ℕ → ℕ → List InstanceField
listed_within zero n = []
listed_within (suc height) n = option_map_or (listed_within height) (option_and_then parent_number (slice_get system_classes n)) [] ++ listed_own n

-- its parent's, and then its own
abbrev pub listed_fields : ℕ → List InstanceField
listed_fields n = listed_within (n + 1) n

abbrev pub LayoutsAreListed : Type 0
LayoutsAreListed =
    (classes : List ClassRecord) (c : ClassId) → AreOrdered classes → HaveSystemClasses classes → c.0 < length system_classes
    → instance_fields classes c ≡ listed_fields c.0

-- ---- What that comes to.

-- the one field that a class declares, a text
abbrev pub text_field : ℕ → InstanceField
text_field n = record { member = record { class = class_at n; index = 0 }; words = 1 }

-- objects of the system class of this name have no fields
abbrev pub ListsNone : List ℕ → Type 0
ListsNone name = (n : ℕ) → number_named name ≡ Some n → listed_fields n ≡ []

-- .. have a text alone
abbrev pub ListsText : List ℕ → Type 0
ListsText name = (n : ℕ) → number_named name ≡ Some n → listed_fields n ≡ text_field n ∷ []

-- Objects of a class that is java/lang/Throwable, or stands below it, begin with their message.
abbrev pub MessagesComeFirst : Type 0
MessagesComeFirst =
    (classes : List ClassRecord) (c throwable : ClassId) → AreOrdered classes → HaveSystemClasses classes
    → IsSystemNamed (codes "java/lang/Throwable") throwable → IsSubclass classes c throwable
    → (rest : List InstanceField) × (instance_fields classes c ≡ text_field throwable.0 ∷ rest)
