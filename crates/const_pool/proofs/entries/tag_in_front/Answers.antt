-- A byte in front is the tag, or there is none.
use Rattle.const_pool.specs.Reading.{tag_number}
use Rattle.const_pool.proofs.EntriesMakePool.{front_is, nothing_read}
use Rattle.const_pool.proofs.entries.tag_in_front.Goals as goal

pub returns-in_default : goal.returns-in_default
returns-in_default c = nothing_read c.args.index c.args.count c.args.bytes.now c.requires c.in_default.len_below

pub returns : goal.returns
returns c =
    let front = front_is c.args.bytes.now (tag_number c.in-Some.tag) c.in-len1-up.len_at_least c.in-Some.ensures in
    (front, c.has_room.ensures.0 c.if-not-has_room.false)
