-- It overrides none where none was met.
use Rattle.std.proofs.Common.{◌≡◌, false, true}
use Rattle.link_rules.proofs.FinalsMet.{overridden_met}
use Rattle.link_rules.proofs.folder_finals.overrides_met.Goals as goal

pub returns-then-not-may_override : goal.returns-then-not-may_override
returns-then-not-may_override c = (
  λ t. absurd cc,
  λ over.
      let met = overridden_met c.args.above.now c.requires.0 c.requires.1 c.args.method.now over in
      let both : false ≡ true = rw c.if-not-may_override.true at (c.may_override.ensures met) in
      absurd cc,
)
