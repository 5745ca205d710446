-- The units begin with the name, and the rest is `.class`.
use Rattle.std.proofs.Common.{codes}
use Rattle.class_rules.proofs.PrefixByUnits.{is_both, is_none}
use Rattle.class_rules.proofs.path.is_path_of.Goals as goal

pub returns-then-starts_with : goal.returns-then-starts_with
returns-then-starts_with c =
    is_both c.args.path.now c.args.name.now (codes ".class") c.starts_with.result c.is_text.result
    c.starts_with.ensures.value c.if-starts_with.true c.is_text.ensures

pub returns-else-starts_with : goal.returns-else-starts_with
returns-else-starts_with c =
    is_none c.args.path.now c.args.name.now (codes ".class") c.starts_with.result c.starts_with.ensures.value c.if-starts_with.false
