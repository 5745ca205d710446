-- The locals, an instruction or a handler, each where the ones before it are right.
use Rattle.std.proofs.Common.{inl, inr, refl}
use Rattle.class_rules.proofs.Decisions.{or_else}
use Rattle.class_rules.proofs.codes.is_bad_code.Goals as goal

pub returns-then-has_few_locals : goal.returns-then-has_few_locals
returns-then-has_few_locals c = (λ t. inl (c.has_few_locals.ensures.0 c.if-has_few_locals.true), λ h. refl)

pub returns-then-has_bad_instr : goal.returns-then-has_bad_instr
returns-then-has_bad_instr c = (λ t. inr (inl (c.has_bad_instr.ensures.0 c.if-has_bad_instr.true)), λ h. c.if-has_bad_instr.true)

pub returns-else-has_bad_instr : goal.returns-else-has_bad_instr
returns-else-has_bad_instr c =
    or_else c.has_few_locals.result c.has_bad_handler.result c.if-has_few_locals.false c.has_few_locals.ensures
    (or_else c.has_bad_instr.result c.has_bad_handler.result c.if-has_bad_instr.false c.has_bad_instr.ensures
    (rw c.as_slice.ensures at c.has_bad_handler.ensures))
