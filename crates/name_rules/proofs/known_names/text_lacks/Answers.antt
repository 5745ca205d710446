-- The name is the text at the index.
use Rattle.std.proofs.Common.{◌<◌, ◌^◌, ℕ, List, length, sym, subst}
use Rattle.list_lemmas.proofs.AnswersTold.{ok_map}
use Rattle.jk_model_classes.specs.ClassNames.{IsClassEntryName}
use Rattle.class_lemmas.proofs.OneText.{few_units}
use Rattle.name_rules.specs.KnownNames.{IsNamedBy, IsSaidBy}
use Rattle.name_rules.proofs.NamesLacking.{Tells, entry_name_form, no_text_tells, text_tells}
use Rattle.name_rules.proofs.known_names.text_lacks.Goals as goal

pub name_lacks-requires-clause-short : goal.name_lacks-requires-clause-short
name_lacks-requires-clause-short c =
    let text = c.in-Some.text.now in
    let read = c.requires.read in
    subst (λ (w : List ℕ). length w < 2 ^ 31) (sym c.as_slice.ensures)
    (few_units c.args.f.now.file c.args.n text read.writable ((read.texts.each c.args.n text).1 c.in-Some.ensures))

pub name_lacks-requires-clause-form : goal.name_lacks-requires-clause-form
name_lacks-requires-clause-form c =
    let text = c.in-Some.text.now in
    let read = c.requires.read in
    subst (λ (w : List ℕ). (IsClassEntryName w → ⊥) → ⊥) (sym c.as_slice.ensures)
    (entry_name_form c.args.f.now.file read.path c.args.n text read.alone c.requires.name ((read.texts.each c.args.n text).1 c.in-Some.ensures))

pub returns-in-Some : goal.returns-in-Some
returns-in-Some c =
    let x = c.args.names.now in
    let pool = c.args.f.now.file.pool in
    let text = c.in-Some.text.now in
    let units = c.as_slice.result.now in
    let read = c.requires.read in
    ok_map (Tells x (IsNamedBy units)) (Tells x (IsSaidBy pool c.args.n)) c.name_lacks.result
    (λ r h. text_tells x pool c.args.n text r ((read.texts.each c.args.n text).1 c.in-Some.ensures)
    (subst (λ (us : List ℕ). Tells x (IsNamedBy us) r) c.as_slice.ensures h)) c.name_lacks.ensures

pub returns-in-None : goal.returns-in-None
returns-in-None c =
    let read = c.requires.read in
    (no_text_tells c.args.names.now c.args.f.now.file.pool c.args.n
    (λ units text. c.in-None.ensures units ((read.texts.each c.args.n units).0 text))).0
