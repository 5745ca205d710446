-- A local, an array or a call of `<init>`, each where the ones before it are right.
use Rattle.std.proofs.Common.{inl, inr, refl}
use Rattle.class_rules.proofs.Decisions.{or_else}
use Rattle.class_rules.proofs.codes.is_misuse.Goals as goal

pub returns-then-has_bad_local : goal.returns-then-has_bad_local
returns-then-has_bad_local c = (λ t. inl (c.has_bad_local.ensures.0 c.if-has_bad_local.true), λ h. refl)

pub returns-then-makes_bad_array : goal.returns-then-makes_bad_array
returns-then-makes_bad_array c = (λ t. inr (inl (c.makes_bad_array.ensures.0 c.if-makes_bad_array.true)), λ h. c.if-makes_bad_array.true)

pub returns-else-makes_bad_array : goal.returns-else-makes_bad_array
returns-else-makes_bad_array c =
    or_else c.has_bad_local.result c.calls_init.result c.if-has_bad_local.false c.has_bad_local.ensures
    (or_else c.makes_bad_array.result c.calls_init.result c.if-makes_bad_array.false c.makes_bad_array.ensures c.calls_init.ensures)
