-- A minus sign in front, or none.
use Rattle.std.proofs.Common.{◌∙◌, sym}
use Rattle.system_calls.proofs.NumbersRead.{parsed_above, parsed_below}
use Rattle.system_calls.proofs.int_texts.int_in.Goals as goal

pub returns-then-unit_at-eq-MINUS : goal.returns-then-unit_at-eq-MINUS
returns-then-unit_at-eq-MINUS g c = λ units live.
    c.signed_in.ensures units live (sym (c.text_len-len.ensures units live))
    ∙ parsed_below units c.unit_at.result (c.unit_at.ensures units live) c.if-unit_at-eq-MINUS.true

pub returns-else-unit_at-eq-MINUS : goal.returns-else-unit_at-eq-MINUS
returns-else-unit_at-eq-MINUS g c = λ units live.
    c.signed_in-else-unit_at-eq-MINUS.ensures units live (sym (c.text_len-len.ensures units live))
    ∙ parsed_above units c.unit_at.result (c.unit_at.ensures units live) c.if-unit_at-eq-MINUS.false
