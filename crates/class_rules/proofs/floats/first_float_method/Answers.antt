-- The first method that passes is the least whose type has a float or double.
use Rattle.std.proofs.Common.{rules}
use Rattle.class_rules.proofs.FirstItems.{least_item}
use Rattle.class_rules.proofs.KnownTexts.{of_entries}
use Rattle.class_rules.proofs.FloatsReadEach.{HasFloatSignature}
use Rattle.class_rules.proofs.floats.first_float_method.Goals as goal

pub returns-clause-least : goal.returns-clause-least
returns-clause-least c =
    least_item (HasFloatSignature c.args.c.now.pool) _ _ _ _ _ c.as_slice.ensures c.first_at.ensures.first
    (λ x b h. of_entries (λ p. HasFloatSignature p x.now) c.of-pool.result.entries.now c.args.c.now.pool b c.of-pool.ensures.entries (search rules))
