-- A method's flags have one value.
use Rattle.class_rules.proofs.FlagsReadEach.{is_flagged}
use Rattle.class_rules.proofs.flag_rules.is_flagged.Goals as goal

pub returns : goal.returns
returns c =
    is_flagged c.has.result c.args.pool.now.entries.now c.args.flag.0 c.method_flags.result c.args.method.now c.method_flags.ensures c.has.ensures
