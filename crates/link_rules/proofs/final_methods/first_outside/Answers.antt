-- The class stands before the other, or isn't asked.
use Rattle.std.proofs.Common.{arith}
use Rattle.link_rules.specs.FinalMethods.{IsOutside, OverridesIn, OverridesSo}
use Rattle.link_rules.proofs.FirstPlaces.{first-same}
use Rattle.link_rules.proofs.final_methods.first_outside.Goals as goal

pub returns : goal.returns
returns c =
    first-same c.args.methods.now (OverridesIn c.args.t.now c.args.class c.args.d)
    (OverridesSo (IsOutside c.args.before) c.args.t.now c.args.class c.args.d) c.first_below.result (λ x over. (omega arith, over)) (λ x so. so.1)
    c.first_below.ensures
