-- The method is kept in its package, or in none.
use Rattle.link_rules.proofs.MetByKeys.{kept_none, kept_one}
use Rattle.link_rules.proofs.met_finals.keep.Goals as goal

pub returns-in_default-clause-kept : goal.returns-in_default-clause-kept
returns-in_default-clause-kept c = kept_none c.args.met.now c.args.until c.args.package_number c.args.method.now c.in_default.ensures.none

pub returns-clause-kept : goal.returns-clause-kept
returns-clause-kept c =
    kept_one c.raise.new.met c.args.until c.args.package_number c.in-Some.own c.args.method.now c.key_in-key.result c.in-Some.ensures.some c.key_in-key.ensures
    c.in_ok-raise.ensures.met
