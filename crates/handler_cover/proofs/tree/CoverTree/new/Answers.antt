-- One entry after another.
use Rattle.std.proofs.Common.{◌≡◌, length, arith}
use Rattle.handler_cover.proofs.EntriesInTurn.{HoldsFirst, all_hold, next_more, none_yet}
use Rattle.handler_cover.proofs.tree.CoverTree.new.Goals as goal

pub loop-x-init : goal.loop-x-init
loop-x-init c = none_yet c.args.places c.args.handlers.now c.in_ok-tree.tree c.in_ok-tree.ensures

pub loop-x-preserved : goal.loop-x-preserved
loop-x-preserved c =
    next_more c.args.places c.args.handlers.now c.loop-x.x _ c.loop-x.tree c.note_entry.new.self c.loop-x.invariant c.loop-x-test.true
    c.in_ok-note_entry.ensures

pub returns : goal.returns
returns c =
    let over : length c.args.handlers.now ≡ c.loop-x.x = omega arith
    in let first : HoldsFirst c.args.places c.args.handlers.now (length c.args.handlers.now) c.loop-x.tree = rw over c.loop-x.invariant
    in all_hold c.args.places c.args.handlers.now c.loop-x.tree first
