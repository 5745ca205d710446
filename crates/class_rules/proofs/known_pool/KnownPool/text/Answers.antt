-- A table of what is known has something at the texts alone.
use Rattle.std.proofs.Common.{◌≡◌, refl, rules, length, get_or, ◌<◌, ◌≤◌}
use Rattle.std.proofs.lemmas.Option.{slice_get_read}
use Rattle.class_rules.proofs.KnownTexts.{known_text, past_texts}
use Rattle.class_rules.proofs.known_pool.KnownPool.text.Goals as goal

pub returns-in-Some : goal.returns-in-Some
returns-in-Some c =
    let below : c.args.i < length c.args.self.now.texts.now = search rules in
    let read : c.in-Some.facts.now ≡ get_or c.args.self.now.texts.now c.args.i c.in-Some.facts.now = search rules in
    known_text c.args.self.now.entries.now c.args.self.now.texts.now c.args.i c.in-Some.facts.now c.requires
    (slice_get_read c.args.self.now.texts.now _ c.args.i c.in-Some.facts.now refl below read)

pub returns-in-None : goal.returns-in-None
returns-in-None c =
    let past : length c.args.self.now.texts.now ≤ c.args.i = search rules in
    past_texts c.args.self.now.entries.now c.args.self.now.texts.now c.args.i c.requires past
