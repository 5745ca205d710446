-- The buffer and the throwable are the object 1, which begins with null.
use Rattle.std.proofs.Common.{◌≡◌, ℕ, ◌≤◌, List, [], ◌∷◌, ◌++◌, length, codes, pos, inl, inr, refl, ap, subst, ◌∙◌, arith}
use Rattle.std.specs.Fmt.{digits}
use Rattle.std.specs.Prelude.{MatchBool}
use Rattle.jk_model.specs.declared.values.Value.{Value}
use Rattle.jk_model.specs.declared.values.Value.TheVariants as Held
use Rattle.jk_model_typing.specs.FrameTypes.{THROWABLE}
use Rattle.jk_model_domains.specs.NumberRows.{is_null}
use Rattle.jk_model_domains.specs.Objects.{Text}
use Rattle.jk_model_heaps.specs.Heaps.{named}
use Rattle.jk_model_heaps.specs.SystemClasses.{STRING_BUFFER}
use Rattle.jk_model_heaps.proofs.OneIsMade.{one_is_made}
use Rattle.jk_model_system_rows.specs.Answers.{Answers, AnswersNew, gives_int, gives_value, with_answer}
use Rattle.jk_model_system_rows.specs.Examples.{bare_and_empty, bare_buffer, classes, no_message, setting}
use Rattle.jk_model_system_rows.specs.HiddenTexts.{HidesUnits, TextHolder}
use Rattle.jk_model_system_rows.proofs.OneHolder.{that_holder}
use Rattle.jk_model_system_rows.proofs.examples.hidden_texts_that_are_null.Goals as goal

abbrev buffer : TextHolder bare_buffer.heap (Held.Obj 1)
buffer = record { name = 1; names = refl; class = STRING_BUFFER; text = Held.Null; others = []; object = refl }

pub returns-clause-length : goal.returns-clause-length
returns-clause-length c = λ done (h, units, hides, answers).
    let none : units ≡ [] =
    subst (λ (v : Value). HidesUnits bare_buffer.heap v units) (that_holder bare_buffer.heap 1 STRING_BUFFER Held.Null [] refl h).text hides in
    answers ∙ ap (λ (us : List ℕ). with_answer bare_buffer (gives_int (pos (length us)))) none

pub returns-clause-appended : goal.returns-clause-appended
unfolding digits
returns-clause-appended c = (
  buffer,
  [],
  codes "7",
  refl,
  refl,
  inl (
    2,
    bare_buffer.heap ++ named 2 (Text (codes "7")) ∷ [],
    one_is_made classes 10 bare_buffer.heap 2 (Text (codes "7")) refl (omega arith),
    refl,
  ),
)

pub returns-clause-text : goal.returns-clause-text
returns-clause-text c =
    (buffer, inl (2, bare_and_empty.heap, one_is_made classes 9 bare_buffer.heap 2 (Text []) refl (omega arith), refl))

pub returns-clause-lacks : goal.returns-clause-lacks
returns-clause-lacks c = λ done (h, answers).
    let empty : AnswersNew (setting 8) bare_buffer (Text []) done =
    subst
    (λ (v : Value). MatchBool (is_null v) (AnswersNew (setting 8) bare_buffer (Text []) done) (Answers bare_buffer (gives_value v) done))
    (that_holder bare_buffer.heap 1 STRING_BUFFER Held.Null [] refl h).text answers in
    elim empty [
      | inl (a, heap, makes, left) ↦ let words : 9 ≤ 8 = makes.fits in absurd (omega (arith, words))
      | inr (lacks, fails) ↦ fails
    ]

pub returns-clause-message : goal.returns-clause-message
returns-clause-message c = λ done (h, answers).
    answers
    ∙ ap (λ (v : Value). with_answer no_message (gives_value v)) (that_holder no_message.heap 1 THROWABLE Held.Null [] refl h).text
