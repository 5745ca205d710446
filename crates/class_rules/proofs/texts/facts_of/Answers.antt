-- One more entry is known.
use Rattle.std.proofs.Common.{◌≡◌, ◌+◌, Some, length, slice_get, refl, subst, sym, arith}
use Rattle.std.proofs.lemmas.Option.{slice_get_read}
use Rattle.class_rules.specs.SeenTexts.{known_of}
use Rattle.class_rules.proofs.TextsSoFar.{next_entry, table_more, IsTable}
use Rattle.class_rules.proofs.texts.facts_of.Goals as goal

pub loop-i-preserved : goal.loop-i-preserved
loop-i-preserved c =
    let e = c.index-pool-i.result in
    let facts = c.in_ok-facts_at.field-0 in
    let at : slice_get c.args.pool.now c.loop-i.i ≡ Some e =
    slice_get_read c.args.pool.now (length c.args.pool.now) c.loop-i.i e refl (omega arith) c.index-pool-i.is in
    let next = next_entry c.args.pool.now c.loop-i.i e facts (known_of c.loop-i.seen) (known_of c.facts_at.new.seen) at
    c.in_ok-facts_at.ensures c.loop-i.invariant.0 in
    let table = table_more c.args.pool.now c.loop-i.i c.loop-i.table e facts at next.1 c.loop-i.invariant.1 in
    (next.0, subst (IsTable c.args.pool.now (c.loop-i.i + 1)) (sym c.in_ok-push.ensures.ok) table)
