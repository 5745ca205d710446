-- Texts of one length agree as far as both go only if they are the same.
use Rattle.std.proofs.Common.{◌∙◌}
use Rattle.system_table.proofs.FirstOfAName.{agree_whole}
use Rattle.system_table.proofs.find.is_text.Goals as goal

pub returns-then-text-units : goal.returns-then-text-units
returns-then-text-units c = c.agree.ensures ∙ agree_whole c.args.text.now c.args.units.now c.if-text-units.true
