-- Methods that compare and read: java/lang/Object.equals, those of java/lang/String, java/io/PrintStream.println and
-- java/lang/Integer.parseInt. A text never changes, and each text that is answered here is a new one, one that equals the receiver too.
use Rattle.std.specs.Prelude.{◌≡◌, ℕ, ◌⊎◌, ℤ, pos, List, [], ◌∷◌, ◌++◌, length, Option, Some, None, MatchOption}
use Rattle.jk_model.specs.declared.values.Value.{Value}
use Rattle.jk_model.specs.declared.values.Value.TheVariants as Held
use Rattle.jk_model_domains.specs.NumberRows.{is_same_reference}
use Rattle.jk_model_domains.specs.Objects.{Text}
use Rattle.jk_model_heaps.specs.SystemClasses.{NULL_POINTER_EXCEPTION, NUMBER_FORMAT_EXCEPTION, STRING_INDEX_EXCEPTION}
use Rattle.jk_model_heaps.specs.Workings.{Inside, Setting}
use Rattle.jk_model_system_rows.specs.declared.meanings.Shown.{Shown}
use Rattle.jk_model_system_rows.specs.Answers.{Answer, Answered, Answers, AnswersNew, Tells, fails_by, gives_int, gives_truth}
use Rattle.jk_model_system_rows.specs.ParsedNumbers.{parsed}
use Rattle.jk_model_system_rows.specs.Texts.{IsText, ReadsAs, is_equal_text, substring, unit_at}

-- ---- What is read.

-- the same object, or the same capability; null is neither, since a receiver isn't null
abbrev pub TellsSame : List Value → Inside → Answered → Type 0
TellsSame (receiver ∷ v ∷ []) old done = Answers old (gives_truth (is_same_reference receiver v)) done
TellsSame given old done = ⊥

abbrev pub GivesTextLength : List Value → Inside → Answered → Type 0
GivesTextLength (receiver ∷ []) old done =
    (units : List ℕ) × IsText old.heap receiver units × Answers old (gives_int (pos (length units))) done
GivesTextLength given old done = ⊥

abbrev pub unit_answer : Option ℕ → Answer
unit_answer None = fails_by STRING_INDEX_EXCEPTION
unit_answer (Some u) = gives_int (pos u)

abbrev pub GivesUnit : List Value → Inside → Answered → Type 0
GivesUnit (receiver ∷ Held.Int i ∷ []) old done =
    (units : List ℕ) × IsText old.heap receiver units × Answers old (unit_answer (unit_at units i)) done
GivesUnit given old done = ⊥

abbrev pub TellsEqual : List Value → Inside → Answered → Type 0
TellsEqual (receiver ∷ v ∷ []) old done =
    (units : List ℕ) × IsText old.heap receiver units × Answers old (gives_truth (is_equal_text old.heap units v)) done
TellsEqual given old done = ⊥

-- ---- New texts.

abbrev pub JoinsTexts : Setting → List Value → Inside → Answered → Type 0
JoinsTexts x (receiver ∷ v ∷ []) old done =
    (units : List ℕ) × IsText old.heap receiver units
    × (((v ≡ Held.Null) × Answers old (fails_by NULL_POINTER_EXCEPTION) done)
    ⊎ ((more : List ℕ) × IsText old.heap v more × AnswersNew x old (Text (units ++ more)) done))
JoinsTexts x given old done = ⊥

-- the places are asked before there is room for the part
abbrev pub CutsText : Setting → List Value → Inside → Answered → Type 0
CutsText x (receiver ∷ Held.Int b ∷ Held.Int e ∷ []) old done =
    (units : List ℕ) × IsText old.heap receiver units
    × MatchOption (substring units b e) (Answers old (fails_by STRING_INDEX_EXCEPTION) done)
    (λ (part : List ℕ). AnswersNew x old (Text part) done)
CutsText x given old done = ⊥

abbrev pub WritesText : Setting → Shown → List Value → Inside → Answered → Type 0
WritesText x shown (v ∷ []) old done = (text : List ℕ) × ReadsAs old.heap shown v text × AnswersNew x old (Text text) done
WritesText x shown given old done = ⊥

-- ---- Lines. Nothing is read of the stream.

abbrev pub PrintsText : Shown → List Value → Inside → Answered → Type 0
PrintsText shown (stream ∷ v ∷ []) old done = (text : List ℕ) × ReadsAs old.heap shown v text × Answers old (Tells text) done
PrintsText shown given old done = ⊥

-- ---- Numbers.

-- null is no number either
abbrev pub number_answer : Option ℤ → Answer
number_answer None = fails_by NUMBER_FORMAT_EXCEPTION
number_answer (Some n) = gives_int n

abbrev pub ReadsNumber : List Value → Inside → Answered → Type 0
ReadsNumber (v ∷ []) old done =
    ((v ≡ Held.Null) × Answers old (number_answer None) done)
    ⊎ ((units : List ℕ) × IsText old.heap v units × Answers old (number_answer (parsed units)) done)
ReadsNumber given old done = ⊥
