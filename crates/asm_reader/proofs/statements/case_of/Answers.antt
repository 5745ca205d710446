-- A word that is a case has one key and one label.
use Rattle.std.proofs.Common.{sym, ◌∙◌}
use Rattle.std.proofs.lemmas.Bool.{false≢true}
use Rattle.asm_reader.proofs.CasesAreWrittenOnce.{no_key, no_label}
use Rattle.asm_reader.proofs.statements.case_of.Goals as goal

pub returns-in_default-int_number : goal.returns-in_default-int_number
returns-in_default-int_number c =
    rw c.in-Plain.is
    (no_key c.in-Plain.word c.in-Some.key.now c.in-Some.label.now c.in-Some.ensures.0 (sym c.as_slice.ensures ∙ c.in-Some.ensures.1)
    c.in_default-int_number.ensures)

pub returns-then-not-is_label : goal.returns-then-not-is_label
returns-then-not-is_label c =
    rw c.in-Plain.is
    (no_label c.in-Plain.word c.in-Some.key.now c.in-Some.label.now c.in-Some.ensures.0 (sym c.as_slice.ensures ∙ c.in-Some.ensures.1)
    (λ is. false≢true (c.if-not-is_label.ensures.1 is)))
