-- The text at the index is one name.
use Rattle.name_rules.specs.BadHierarchies.{folder_scope}
use Rattle.name_rules.proofs.BadParts.{text_bad_tells}
use Rattle.name_rules.proofs.hierarchies.text_is_bad.Goals as goal

pub returns-in-Some : goal.returns-in-Some
returns-in-Some c =
    text_bad_tells (folder_scope c.args.x.now) c.args.f.now.file c.args.n c.as_slice.result.now c.in-Some.name.now c.is_no_interface.result
    c.as_slice.ensures ((c.requires.read.texts.each c.args.n c.in-Some.name.now).1 c.in-Some.ensures) c.is_no_interface.ensures

pub returns-in-None : goal.returns-in-None
returns-in-None c =
    (λ t. absurd cc, λ (name, text, bad). absurd (c.in-None.ensures name ((c.requires.read.texts.each c.args.n name).0 text)))
