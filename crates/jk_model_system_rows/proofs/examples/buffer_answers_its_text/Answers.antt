-- The text that the buffer begins with.
use Rattle.std.proofs.Common.{[], subst, refl}
use Rattle.std.specs.Prelude.{MatchBool}
use Rattle.jk_model.specs.declared.values.Value.{Value}
use Rattle.jk_model.specs.declared.values.Value.TheVariants as Held
use Rattle.jk_model_domains.specs.NumberRows.{is_null}
use Rattle.jk_model_domains.specs.Objects.{Text}
use Rattle.jk_model_heaps.specs.SystemClasses.{STRING_BUFFER}
use Rattle.jk_model_system_rows.specs.Answers.{Answers, AnswersNew, gives_value}
use Rattle.jk_model_system_rows.specs.Examples.{buffer_after, buffer_before, setting}
use Rattle.jk_model_system_rows.proofs.OneHolder.{that_holder}
use Rattle.jk_model_system_rows.proofs.examples.buffer_answers_its_text.Goals as goal

pub returns-clause-again : goal.returns-clause-again
returns-clause-again c = λ done (h, answers).
    subst
    (λ (v : Value). MatchBool (is_null v) (AnswersNew (setting 64) buffer_before (Text []) done) (Answers buffer_before (gives_value v) done))
    (that_holder buffer_before.heap 1 STRING_BUFFER (Held.Obj 2) [] refl h).text answers

pub returns-clause-after : goal.returns-clause-after
returns-clause-after c = λ done (h, answers).
    subst
    (λ (v : Value). MatchBool (is_null v) (AnswersNew (setting 64) buffer_after (Text []) done) (Answers buffer_after (gives_value v) done))
    (that_holder buffer_after.heap 1 STRING_BUFFER (Held.Obj 3) [] refl h).text answers
