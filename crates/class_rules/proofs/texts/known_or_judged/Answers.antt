-- Units that the map doesn't have are judged and put in.
use Rattle.std.proofs.Common.{sym}
use Rattle.class_rules.proofs.KnownByUnits.{was_judged}
use Rattle.class_rules.proofs.texts.known_or_judged.Goals as goal

pub returns : goal.returns
returns c =
    was_judged c.args.seen.now c.insert.new.self c.in_ok-from_slice.field-0 c.args.units.now c.args.index c.in_ok-facts.facts
    c.in_ok-from_slice.ensures.items (sym (rw c.in_default.is at c.get.ensures.value)) c.in_ok-facts.ensures c.in_ok-insert.ensures.updates
