-- One more doesn't miss its member, or does.
use Rattle.std.proofs.Common.{ap, arith, length}
use Rattle.list_lemmas.proofs.ItemsByPlace.{item_read}
use Rattle.link_rules.proofs.MissingByLinks.{missing_found, none_missing_more, nothing_missing}
use Rattle.link_rules.proofs.missing_members.first_missing.Goals as goal

pub loop-i-init : goal.loop-i-init
loop-i-init c = λ s same h j low miss. omega arith

pub bounds-links-i : goal.bounds-links-i
bounds-links-i c =
    let (s, same, h) = c.requires.links in
    omega (arith, h.as_many, ap length c.as_slice-pool.ensures, ap length c.as_slice-links.ensures)

pub loop-i-preserved : goal.loop-i-preserved
loop-i-preserved c =
    let (s, same, h) = c.requires.links in
    none_missing_more c.args.t.now c.args.c.now c.as_slice-pool.result.now c.as_slice-links.result.now c.args.links.now c.loop-i.i c.index-pool-i.result
    c.index-links-i.result c.is_missing.result c.requires.good c.as_slice-pool.ensures c.as_slice-links.ensures
    (item_read c.as_slice-pool.result.now c.loop-i.i c.index-pool-i.result (omega arith) c.index-pool-i.is)
    (item_read c.as_slice-links.result.now c.loop-i.i c.index-links-i.result
    (omega (arith, h.as_many, ap length c.as_slice-pool.ensures, ap length c.as_slice-links.ensures)) c.index-links-i.is)
    c.is_missing.ensures c.if-is_missing.false c.loop-i.invariant

pub returns-then-is_missing : goal.returns-then-is_missing
returns-then-is_missing c =
    let (s, same, h) = c.requires.links in
    missing_found c.args.t.now c.args.c.now c.as_slice-pool.result.now c.as_slice-links.result.now c.args.links.now c.loop-i.i c.index-pool-i.result
    c.index-links-i.result c.is_missing.result c.requires.good c.as_slice-pool.ensures c.as_slice-links.ensures
    (item_read c.as_slice-pool.result.now c.loop-i.i c.index-pool-i.result (omega arith) c.index-pool-i.is)
    (item_read c.as_slice-links.result.now c.loop-i.i c.index-links-i.result
    (omega (arith, h.as_many, ap length c.as_slice-pool.ensures, ap length c.as_slice-links.ensures)) c.index-links-i.is)
    c.is_missing.ensures c.if-is_missing.true c.loop-i.invariant

pub returns : goal.returns
returns c =
    nothing_missing c.args.t.now c.args.c.now c.as_slice-pool.result.now c.args.links.now c.loop-i.i c.as_slice-pool.ensures (omega arith)
    c.loop-i.invariant
