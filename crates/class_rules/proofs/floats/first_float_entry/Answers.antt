-- The first entry that passes is the least of float or double.
use Rattle.std.proofs.Common.{rules}
use Rattle.class_rules.specs.Entries.{IsFloatEntry}
use Rattle.class_rules.proofs.FirstItems.{least_item}
use Rattle.class_rules.proofs.KnownTexts.{of_entries}
use Rattle.class_rules.proofs.floats.first_float_entry.Goals as goal

pub returns-clause-least : goal.returns-clause-least
returns-clause-least c =
    least_item (IsFloatEntry c.args.c.now.pool) _ _ _ _ _ c.as_slice.ensures c.first_at.ensures.first
    (λ x b h. of_entries (λ p. IsFloatEntry p x.now) c.of-pool.result.entries.now c.args.c.now.pool b c.of-pool.ensures.entries (search rules))
