-- Before the first line nothing is brought in.
use Rattle.resolver_rules.proofs.LinesBringIn.{none_brought}
use Rattle.resolver_rules.proofs.imports.imported_names.Goals as goal

pub loop-place-init : goal.loop-place-init
loop-place-init c = rw c.new-names.ensures (none_brought c.args.folder.now c.args.w.now c.args.into.now c.args.lines.now)
