-- The descriptor is the text at the index.
use Rattle.std.proofs.Common.{◌<◌, ◌^◌, ℕ, List, length, sym, subst}
use Rattle.list_lemmas.proofs.AnswersTold.{ok_map}
use Rattle.jk_model_classes.specs.References.{Mentions}
use Rattle.class_lemmas.proofs.OneText.{few_units}
use Rattle.name_rules.specs.KnownNames.{DescriptorSays}
use Rattle.name_rules.proofs.NamesLacking.{Tells, descriptor_tells, no_text_tells}
use Rattle.name_rules.proofs.known_names.text_at_lacks.Goals as goal

pub descriptor_lacks-requires : goal.descriptor_lacks-requires
descriptor_lacks-requires c =
    let text = c.in-Some.text.now in
    subst (λ (w : List ℕ). length w < 2 ^ 31) (sym c.as_slice.ensures)
    (few_units c.args.f.now.file c.args.i text c.requires.writable ((c.requires.texts.each c.args.i text).1 c.in-Some.ensures))

pub returns-in-Some : goal.returns-in-Some
returns-in-Some c =
    let x = c.args.names.now in
    let pool = c.args.f.now.file.pool in
    let text = c.in-Some.text.now in
    let units = c.as_slice.result.now in
    ok_map (Tells x (Mentions units)) (Tells x (DescriptorSays pool c.args.i)) c.descriptor_lacks.result
    (λ r h. descriptor_tells x pool c.args.i text r ((c.requires.texts.each c.args.i text).1 c.in-Some.ensures)
    (subst (λ (us : List ℕ). Tells x (Mentions us) r) c.as_slice.ensures h)) c.descriptor_lacks.ensures

pub returns-in-None : goal.returns-in-None
returns-in-None c =
    (no_text_tells c.args.names.now c.args.f.now.file.pool c.args.i
    (λ units text. c.in-None.ensures units ((c.requires.texts.each c.args.i units).0 text))).1
