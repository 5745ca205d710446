-- One is found, or none is there.
use Rattle.std.proofs.Common.{arith}
use Rattle.link_rules.proofs.FinalsOfAClass.{told_by}
use Rattle.link_rules.proofs.final_methods.overrides_inside.Goals as goal

pub returns : goal.returns
returns c =
    let tells = told_by c.args.t.now c.args.class c.args.d c.args.method.now c.own_final.result c.own_final.ensures c.is_some.result c.is_some.ensures in
    (λ t. (omega arith, tells.0 t), λ so. tells.1 so.1)
