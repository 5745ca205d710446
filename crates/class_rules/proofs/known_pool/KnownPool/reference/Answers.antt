-- What is known of a reference is known of its name and descriptor.
use Rattle.class_rules.proofs.KnownEntries.{reference_unknown}
use Rattle.class_rules.proofs.known_pool.KnownPool.reference.Goals as goal

pub returns-in_err-name : goal.returns-in_err-name
returns-in_err-name c =
    reference_unknown c.args.self.now.entries.now c.args.entry.now c.in_ok-kind.kind c.in_ok-kind.pair _ c.from_residual-in_err-name.ensures
    c.in_ok-kind.ensures c.in_err-name.ensures
