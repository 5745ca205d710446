-- A text has a byte or more for each unit.
use Rattle.std.proofs.Common.{arith}
use Rattle.model_lemmas.proofs.TextsAreLong.{units_within}
use Rattle.class_rules.proofs.texts.units_of_text.Goals as goal

pub returns-in-Ok-clause-short : goal.returns-in-Ok-clause-short
returns-in-Ok-clause-short c = omega (arith, units_within c.args.bytes.now c.in-Ok.units c.in-Ok.ensures.read)
