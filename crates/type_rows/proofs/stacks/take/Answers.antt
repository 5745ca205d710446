-- One more entry is taken, or none meets the demand.
use Rattle.std.proofs.Common.{arith}
use Rattle.type_rows.specs.CodeViews.{scope_of}
use Rattle.type_rows.proofs.EntriesTaken.{one_more, none_more}
use Rattle.type_rows.proofs.stacks.take.Goals as goal

pub returns-then-not-take_one : goal.returns-then-not-take_one
returns-then-not-take_one c =
    none_more (scope_of c.args.view.now) _ _ _ _ _ _ _ c.loop-k.invariant (omega arith) c.at.ensures (c.take_one.ensures.fails cc)

pub loop-k-preserved : goal.loop-k-preserved
loop-k-preserved c =
    let met = c.take_one.ensures.holds cc in
    one_more (scope_of c.args.view.now) _ _ _ _ met.0 _ _ _ c.loop-k.invariant (omega arith) c.at.ensures met.1 met.2
