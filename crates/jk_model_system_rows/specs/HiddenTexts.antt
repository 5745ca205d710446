-- Objects that begin with a hidden text: buffers, whose text it is, and throwables, whose message it is. It is the value of the first
-- field, and may be null.
use Rattle.std.specs.Prelude.{◌≡◌, ◌≢◌, ℕ, ◌⊎◌, pos, List, [], ◌∷◌, ◌++◌, length, Some, MatchBool}
use Rattle.jk_model.specs.declared.identifiers.ClassId.{ClassId}
use Rattle.jk_model.specs.declared.values.Value.{Value}
use Rattle.jk_model.specs.declared.values.Value.TheVariants as Held
use Rattle.jk_model_domains.specs.NumberRows.{is_null}
use Rattle.jk_model_domains.specs.Objects.{NamedObject, Plain, Text, object_named}
use Rattle.jk_model_heaps.specs.Heaps.{with_object}
use Rattle.jk_model_heaps.specs.SystemClasses.{NULL_POINTER_EXCEPTION}
use Rattle.jk_model_heaps.specs.Workings.{Inside, Setting, with_heap}
use Rattle.jk_model_system_rows.specs.declared.meanings.Shown.{Shown}
use Rattle.jk_model_system_rows.specs.Answers.{Answer, Answered, Answers, AnswersNew, MakesAnd, fails_by, gives_int, gives_nothing, gives_value, with_answer}
use Rattle.jk_model_system_rows.specs.Texts.{IsText, ReadsAs}

-- The value is an object that begins with this text; after it come the object's other fields.
pub record TextHolder (heap : List NamedObject) (v : Value) : Type 0 where
  pub name : ℕ
  pub names : v ≡ Held.Obj name
  pub class : ClassId
  pub text : Value
  pub others : List Value
  pub object : object_named heap name ≡ Some (Plain class (text ∷ others))

-- these objects, of which the holder begins with another text
abbrev pub with_text : {heap : List NamedObject} {v : Value} → TextHolder heap v → Value → List NamedObject → List NamedObject
with_text h text objects = with_object h.name (Plain h.class (text ∷ h.others)) objects

-- the units of a hidden text; a null one counts as an empty one
abbrev pub HidesUnits : List NamedObject → Value → List ℕ → Type 0
HidesUnits heap Held.Null units = units ≡ []
HidesUnits heap v units = IsText heap v units

-- the holder begins with this from now on
abbrev pub SetsText : (old : Inside) {v : Value} → TextHolder old.heap v → Value → Answered → Type 0
SetsText old h text done = done ≡ with_answer (with_heap old (with_text h text old.heap)) gives_nothing

-- the holder begins with a new text from now on, and this is the answer
abbrev pub SetsNewText : Setting → (old : Inside) {v : Value} → TextHolder old.heap v → List ℕ → Answer → Answered → Type 0
SetsNewText x old h units answer done =
    MakesAnd x old (Text units) (λ a heap. with_answer (with_heap old (with_text h (Held.Obj a) heap)) answer) done

-- ---- Buffers.

abbrev pub BeginsBuffer : Setting → List Value → Inside → Answered → Type 0
BeginsBuffer x (receiver ∷ []) old done = (h : TextHolder old.heap receiver) × SetsNewText x old h [] gives_nothing done
BeginsBuffer x given old done = ⊥

-- the argument itself is the text
abbrev pub BeginsBufferWith : List Value → Inside → Answered → Type 0
BeginsBufferWith (receiver ∷ v ∷ []) old done =
    ((v ≡ Held.Null) × Answers old (fails_by NULL_POINTER_EXCEPTION) done)
    ⊎ ((v ≢ Held.Null) × ((h : TextHolder old.heap receiver) × SetsText old h v done))
BeginsBufferWith given old done = ⊥

abbrev pub GivesBufferLength : List Value → Inside → Answered → Type 0
GivesBufferLength (receiver ∷ []) old done =
    (h : TextHolder old.heap receiver) × (units : List ℕ) × HidesUnits old.heap h.text units
    × Answers old (gives_int (pos (length units))) done
GivesBufferLength given old done = ⊥

-- the text itself; in the place of a null one a new empty text, which the buffer doesn't get
abbrev pub GivesBufferText : Setting → List Value → Inside → Answered → Type 0
GivesBufferText x (receiver ∷ []) old done =
    (h : TextHolder old.heap receiver)
    × MatchBool (is_null h.text) (AnswersNew x old (Text []) done) (Answers old (gives_value h.text) done)
GivesBufferText x given old done = ⊥

-- a new text takes the place of the old one, and the receiver is the answer
abbrev pub AppendsTo : Setting → Shown → List Value → Inside → Answered → Type 0
AppendsTo x shown (receiver ∷ v ∷ []) old done =
    (h : TextHolder old.heap receiver) × (units : List ℕ) × (added : List ℕ) × HidesUnits old.heap h.text units
    × ReadsAs old.heap shown v added × SetsNewText x old h (units ++ added) (gives_value receiver) done
AppendsTo x shown given old done = ⊥

-- ---- Messages.

-- the message given may be null
abbrev pub SetsMessage : List Value → Inside → Answered → Type 0
SetsMessage (receiver ∷ v ∷ []) old done = (h : TextHolder old.heap receiver) × SetsText old h v done
SetsMessage given old done = ⊥

abbrev pub GivesMessage : List Value → Inside → Answered → Type 0
GivesMessage (receiver ∷ []) old done = (h : TextHolder old.heap receiver) × Answers old (gives_value h.text) done
GivesMessage given old done = ⊥
