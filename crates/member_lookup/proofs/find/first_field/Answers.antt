-- The first class that answers is the first of the walk that has such a field.
use Rattle.std.proofs.Common.{arith}
use Rattle.jk_model_classes.specs.Lookups.{IsFieldOf}
use Rattle.member_lookup.proofs.FirstOnWalk.{on-at, none-at, on-nowhere}
use Rattle.member_lookup.proofs.find.first_field.Goals as goal

pub returns-in-Some : goal.returns-in-Some
returns-in-Some c =
    on-at (IsFieldOf c.args.t.now c.args.key.now.name c.args.key.now.kind) c.args.walk.now _ _ (omega arith)
    (rw c.in-Some.is at c.own_field.ensures) c.loop-d.invariant

pub loop-d-preserved : goal.loop-d-preserved
loop-d-preserved c =
    none-at (IsFieldOf c.args.t.now c.args.key.now.name c.args.key.now.kind) c.args.walk.now _ (omega arith)
    (rw c.in_default.is at c.own_field.ensures) c.loop-d.invariant

pub returns : goal.returns
returns c =
    on-nowhere (IsFieldOf c.args.t.now c.args.key.now.name c.args.key.now.kind) c.args.walk.now _ (omega arith) c.loop-d.invariant
