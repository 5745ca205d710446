-- The kind is known, or learnt.
use Rattle.std.proofs.Common.{inl}
use Rattle.graph_copy.proofs.KindsKnown.{kind_by_class}
use Rattle.graph_copy.proofs.kinds.kind_of.Goals as goal

pub returns-in-Some-clause-kind : goal.returns-in-Some-clause-kind
returns-in-Some-clause-kind c =
    kind_by_class c.args.t.now c.args.last.now c.args.shape.now c.in-Some.kind c.requires.known c.in-Some.ensures

pub returns-in-Some-clause-learnt : goal.returns-in-Some-clause-learnt
returns-in-Some-clause-learnt c = λ k is. inl is
