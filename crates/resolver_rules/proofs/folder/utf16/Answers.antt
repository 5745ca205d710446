-- At the end of the loop all characters were yielded.
use Rattle.std.proofs.Common.{◌∙◌, ap, sym, flat_map}
use Rattle.std.specs.Char.Escape.{encode_utf16}
use Rattle.std.proofs.lemmas.Iterator.{YieldsList-from_chars}
use Rattle.std.proofs.lemmas.Iterator.Consumers.{YieldsList-end}
use Rattle.std.proofs.lemmas.List.{map-id}
use Rattle.resolver_rules.proofs.folder.utf16.Goals as goal

pub returns : goal.returns
returns c =
    let characters = YieldsList-from_chars c.args.text.now c.utf8.text cc in
    let t = YieldsList-end characters c.loop-c.yielded _ c.loop-c.yielded_by _ _ c.in-None.is c.next.ensures.steps in
    c.loop-c.invariant ∙ ap (flat_map encode_utf16) (sym (map-id c.loop-c.yielded) ∙ t.0)
