-- It was met up to there, or is from now on.
use Rattle.std.proofs.Common.{◌≡◌, false, true}
use Rattle.link_rules.proofs.MetByKeys.{raised_grows, raised_met}
use Rattle.link_rules.specs.MetFinals.{IsMet}
use Rattle.link_rules.proofs.met_finals.raise.Goals as goal

pub returns-clause-grows : goal.returns-clause-grows
returns-clause-grows c =
    raised_grows c.args.met.now c.insert.new.self c.args.key c.args.until c.in_ok-insert.ensures.updates
    (λ (met : IsMet c.args.met.now c.args.key c.args.until). let both : false ≡ true = rw c.if-is_met.false at (c.is_met.ensures.1 met) in cc)

pub returns-clause-met : goal.returns-clause-met
returns-clause-met c = raised_met c.args.met.now c.insert.new.self c.args.key c.args.until c.in_ok-insert.ensures.updates
