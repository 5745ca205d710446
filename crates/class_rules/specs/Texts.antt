-- What is known of the texts of a pool, once each was judged.
use Rattle.std.specs.Prelude.{◌≡◌, ℕ, ◌<◌, ◌||◌, ◌↔◌, ◌==◌, Bool, true, false, List, length, IsTrue, ⊤, Option, Some, None, is_some, slice_get, codes, bytes_eq, if◌then◌else◌}
use Rattle.std.specs.List.{list_any}
use Rattle.jk_model.specs.declared.class_file.PoolEntry.{PoolEntry}
use Rattle.jk_model.specs.declared.class_file.PoolEntry.TheVariants.{Utf8}
use Rattle.jk_model.specs.declared.descriptors.Base.{Base}
use Rattle.jk_model.specs.declared.descriptors.Base.TheVariants as bases
use Rattle.jk_model.specs.declared.descriptors.FieldType.{FieldType}
use Rattle.jk_model.specs.declared.descriptors.MethodType.{MethodType}
use Rattle.jk_model.specs.Descriptors.{IsName, IsClassName, IsFieldText, IsMethodText, method_slots}
use Rattle.jk_model.specs.Text.{Spells}
use Rattle.jk_model_classes.specs.ClassNames.{BeginsArray}
use Rattle.jk_model_classes.specs.Members.{TextAt, INIT, CLINIT}
use Rattle.class_rules.specs.declared.texts.FieldShape.{FieldShape}
use Rattle.class_rules.specs.declared.texts.Kind.{Kind}
use Rattle.class_rules.specs.declared.texts.Kind.TheVariants as kinds
use Rattle.class_rules.specs.declared.texts.MethodShape.{MethodShape}
use Rattle.class_rules.specs.declared.texts.TextFacts.{TextFacts}
use Rattle.class_rules.specs.declared.texts.Word.{Word}
use Rattle.class_rules.specs.declared.texts.Word.TheVariants.{Init, Clinit, Code, ConstantValue, Exceptions, NothingToNothing}

-- ---- Shapes of types.

abbrev pub kind_of : Base → Kind
kind_of bases.Byte = kinds.Int
kind_of bases.Char = kinds.Int
kind_of bases.Double = kinds.Double
kind_of bases.Float = kinds.Float
kind_of bases.Int = kinds.Int
kind_of bases.Long = kinds.Long
kind_of bases.Short = kinds.Int
kind_of bases.Bool = kinds.Int
kind_of (bases.Class name) = if bytes_eq name (codes "java/lang/String") then kinds.Text else kinds.Other

abbrev pub field_shape : FieldType → FieldShape
field_shape t = record { dims = t.dims; kind = kind_of t.base }

abbrev pub is_float_base : Base → Bool
is_float_base bases.Float = true
is_float_base bases.Double = true
is_float_base _ = false

abbrev pub has_float_result : Option FieldType → Bool
has_float_result None = false
has_float_result (Some t) = is_float_base t.base

abbrev pub method_shape : MethodType → MethodShape
method_shape t = record {
  slots = method_slots t false;
  has_result = is_some t.result;
  has_float = list_any (λ (p : FieldType). is_float_base p.base) t.params || has_float_result t.result;
}

-- the shape of the type that units are a descriptor of, or none where they are none
abbrev pub IsFieldShape : List ℕ → Option FieldShape → Type 0
IsFieldShape units None = (t : FieldType) → IsFieldText units t → ⊥
IsFieldShape units (Some shape) = (t : FieldType) × IsFieldText units t × (shape ≡ field_shape t)

abbrev pub IsMethodShape : List ℕ → Option MethodShape → Type 0
IsMethodShape units None = (t : MethodType) → IsMethodText units t → ⊥
IsMethodShape units (Some shape) = (t : MethodType) × IsMethodText units t × (shape ≡ method_shape t)

-- ---- Words.

abbrev pub word_text : Word → List ℕ
word_text Init = INIT
word_text Clinit = CLINIT
word_text Code = codes "Code"
word_text ConstantValue = codes "ConstantValue"
word_text Exceptions = codes "Exceptions"
word_text NothingToNothing = codes "()V"

-- the word that units are, or none where they are none
abbrev pub IsWord : List ℕ → Option Word → Type 0
IsWord units None = (word : Word) → units ≡ word_text word → ⊥
IsWord units (Some word) = units ≡ word_text word

-- ---- Texts of a pool.

-- at this index stands the first text of these units
abbrev pub IsFirstAt : List PoolEntry → List ℕ → ℕ → Type 0
IsFirstAt pool units n = TextAt pool n units × ((i : ℕ) → i < n → TextAt pool i units → ⊥)

-- what is known of a text of these units
pub record AreFactsOf (pool : List PoolEntry) (units : List ℕ) (facts : TextFacts) : Type 0 where
  pub first : IsFirstAt pool units facts.first
  pub word : IsWord units facts.word
  pub is_name : IsTrue facts.is_name ↔ IsName units
  pub has_angle : facts.has_angle ≡ list_any (λ u. u == 60 || u == 62) units
  pub begins_array : IsTrue facts.begins_array ↔ BeginsArray units
  pub is_class_name : IsTrue facts.is_class_name ↔ IsClassName units
  pub field : IsFieldShape units facts.field
  pub method : IsMethodShape units facts.method

-- what is known at an index: of a text all of that, of any other entry nothing
abbrev pub AreFactsAt : List PoolEntry → PoolEntry → Option TextFacts → Type 0
AreFactsAt pool (Utf8 bytes) (Some facts) = (units : List ℕ) × Spells bytes units × AreFactsOf pool units facts
AreFactsAt pool (Utf8 bytes) None = ⊥
AreFactsAt pool _ (Some facts) = ⊥
AreFactsAt pool _ None = ⊤

-- what is known of all texts of a pool, by their indices
pub record AreFacts (pool : List PoolEntry) (table : List (Option TextFacts)) : Type 0 where
  pub long : length table ≡ length pool
  pub at : (i : ℕ) (e : PoolEntry) (found : Option TextFacts)
      → slice_get pool i ≡ Some e → slice_get table i ≡ Some found → AreFactsAt pool e found
