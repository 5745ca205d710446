-- One method more is kept.
use Rattle.std.proofs.Common.{arith}
use Rattle.list_lemmas.proofs.ItemsByPlace.{item_read}
use Rattle.link_rules.proofs.MetByKeys.{kept_all, kept_first, kept_next}
use Rattle.link_rules.proofs.met_finals.keep_finals.Goals as goal

pub loop-i-init : goal.loop-i-init
loop-i-init c = kept_first c.args.met.now c.args.until c.args.package_number c.args.methods.now

pub loop-i-preserved : goal.loop-i-preserved
loop-i-preserved c =
    kept_next c.args.met.now c.loop-i.met c.keep.new.met c.args.until c.args.package_number c.args.methods.now c.loop-i.i c.index-methods-i.result
    (item_read c.args.methods.now c.loop-i.i c.index-methods-i.result (omega arith) c.index-methods-i.is) c.loop-i.invariant
    c.in_ok-keep.ensures.grows c.in_ok-keep.ensures.kept

pub returns-clause-grows : goal.returns-clause-grows
returns-clause-grows c = c.loop-i.invariant.grows

pub returns-clause-kept : goal.returns-clause-kept
returns-clause-kept c = kept_all c.args.met.now c.loop-i.met c.args.until c.args.package_number c.args.methods.now c.loop-i.i (omega arith) c.loop-i.invariant
