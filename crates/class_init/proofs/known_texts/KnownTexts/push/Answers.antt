-- The index has the new text too.
use Rattle.std.proofs.Common.{◌≡◌, ◌∙◌, arith, length, map}
use Rattle.std.specs.Prelude.{Contains}
use Rattle.class_init.specs.Texts.{text_of}
use Rattle.class_init.proofs.PlaceOfAText.{lacks_from_absent}
use Rattle.class_init.proofs.TextAdded.{index_added}
use Rattle.class_init.proofs.known_texts.KnownTexts.push.Goals as goal

pub invariant_of-self-2 : goal.invariant_of-self-2
invariant_of-self-2 c =
    let es = c.self.inside.entries.items in
    let place : c.len-place.result ≡ length es =
    omega (arith, c.len-place.ensures, c.in_ok-reserve.ensures.len, c.self.inside.entries.ok.0) in
    let puts = c.in_ok-before.ensures.updates.0 in
    let absent : Contains (map text_of es) c.args.text → ⊥ = rw c.self.view_is c.requires in
    rw (c.push_reserved.ensures.items, c.in_ok-reserve.ensures.items)
    (index_added es c.self.inside.newest.entries c.insert.new.self.entries (record { text = c.args.text; before = c.in_ok-before.before })
    c.self.invariant (lacks_from_absent es c.args.text absent)
    (c.in_ok-before.ensures.old ∙ rw c.fingerprint.ensures)
    (rw (← c.fingerprint.ensures, ← place) puts))
