-- A node that saw nothing before.
use Rattle.std.proofs.Common.{refl}
use Rattle.type_verifier.proofs.NodesUnseen.{first-rise}
use Rattle.type_verifier.proofs.handing.raise_node.Goals as goal

pub returns-in_ok-from_slice-in_default-clause-rises :
    goal.returns-in_ok-from_slice-in_default-clause-rises
returns-in_ok-from_slice-in_default-clause-rises c =
    first-rise c.args.t.now c.args.slot.now c.args.at.locals.now c.args.at.fresh _ _ c.in_default.not-Some
    c.in_ok-from_slice-in_default.ensures refl refl
