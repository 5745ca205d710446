-- The texts that are constants of static fields and have no object in a domain yet, and what their objects cost together.
use Rattle.std.specs.Prelude.{◌≡◌, ℕ, ◌-◌, ◌^◌, ◌↔◌, Bool, true, false, IsTrue, List, [], ◌∷◌, Contains, None, Some, min, nat_eq, slice_get, sum_by}
use Rattle.std.specs.Map.{lookup}
use Rattle.jk_model.specs.Flags.{has, STATIC}
use Rattle.jk_model_classes.specs.declared.records.FieldRecord.{FieldRecord}
use Rattle.jk_model_classes.specs.declared.records.Link.TheVariants as To
use Rattle.jk_model_domains.specs.Objects.{Text, object_words}
use Rattle.jk_model_domains.specs.OwnStates.{OwnState, literal_named}

-- the constant of a static field is this text
pub record HasTextConstant (f : FieldRecord) (text : List ℕ) : Type 0 where
  pub static : IsTrue (has f.flags STATIC)
  pub is : f.constant ≡ To.Text text

-- the text is the constant of a static field among these, and has no object in the domain yet
pub record IsMissing (own : OwnState) (fields : List FieldRecord) (text : List ℕ) : Type 0 where
  pub field : FieldRecord
  pub among : Contains fields field
  pub has : HasTextConstant field text
  pub no_object : literal_named own text ≡ None

-- the texts of which this holds, each once
pub record AreMissing (own : OwnState) (fields : List FieldRecord) (texts : List (List ℕ)) : Type 0 where
  pub each : (text : List ℕ) → Contains texts text ↔ IsMissing own fields text
  pub differ : (i j : ℕ) (text : List ℕ) → slice_get texts i ≡ Some text → slice_get texts j ≡ Some text → i ≡ j

-- the words of a text's object, which are the same whatever classes there are
abbrev pub text_words : List ℕ → ℕ
text_words text = object_words [] (Text text)

-- what objects of the missing texts cost together, or the most that 64 bits say where it is more
pub record IsCostOfMissing (own : OwnState) (fields : List FieldRecord) (words : ℕ) : Type 0 where
  pub texts : List (List ℕ)
  pub are : AreMissing own fields texts
  pub sum : words ≡ min (sum_by text_words texts) (2 ^ 64 - 1)

-- ---- How they are found: by a mark for each text that is known, and names by the places of texts.

-- at this place stands the text that is the constant of a static field, and the place has no name
pub record IsMissingAt (texts : List (List ℕ)) (names : List (ℕ × ℕ)) (f : FieldRecord) (place : ℕ) : Type 0 where
  pub text : List ℕ
  pub there : slice_get texts place ≡ Some text
  pub has : HasTextConstant f text
  pub free : lookup (nat_eq place) names ≡ None

-- it is this place alone
abbrev pub IsMissingPlace : List (List ℕ) → List (ℕ × ℕ) → FieldRecord → ℕ → Type 0
IsMissingPlace texts names f place = (k : ℕ) → IsMissingAt texts names f k ↔ (k ≡ place)

-- it is so of one of these fields
abbrev pub IsMissingOfSome : List (List ℕ) → List (ℕ × ℕ) → List FieldRecord → ℕ → Type 0
IsMissingOfSome texts names fields place = (f : FieldRecord) × Contains fields f × IsMissingAt texts names f place

-- the texts that are marked
abbrev pub marked : List (List ℕ) → List Bool → List (List ℕ)
marked [] marks = []
marked (text ∷ texts) [] = []
marked (text ∷ texts) (true ∷ marks) = text ∷ marked texts marks
marked (text ∷ texts) (false ∷ marks) = marked texts marks
