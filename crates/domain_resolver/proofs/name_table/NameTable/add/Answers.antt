-- The indexes have the new name too.
use Rattle.std.proofs.Common.{◌≡◌, ◌∙◌, arith, length}
use Rattle.domain_resolver.proofs.EntryOfAName.{lacks_from_none}
use Rattle.domain_resolver.proofs.NameIndexKept.{index_added}
use Rattle.domain_resolver.proofs.name_table.NameTable.add.Goals as goal

pub invariant_of-self-2 : goal.invariant_of-self-2
invariant_of-self-2 c =
    let es = c.self.inside.entries.items in
    let place : c.len-place.result ≡ length es =
    omega (arith, c.len-place.ensures, c.in_ok-reserve.ensures.len, c.self.inside.entries.ok.0) in
    let puts = c.in_ok-before.ensures.updates.0 in
    let adds = c.insert_reserved.ensures in
    rw (c.push_reserved.ensures.items, c.in_ok-reserve.ensures.items)
    (index_added es c.self.inside.newest.entries c.insert.new.self.entries c.self.inside.classes.keys
    c.insert_reserved.new.numbers.keys (record { name = c.args.name; class = c.args.class; before = c.in_ok-before.before })
    c.self.invariant (lacks_from_none es c.args.name (rw c.self.view_is c.requires))
    (c.in_ok-before.ensures.old ∙ rw c.fingerprint.ensures)
    (rw (← c.fingerprint.ensures, ← place) puts)
    (rw (← c.in_ok-reserve-2.ensures.keys) adds))
