-- A text that breaks no rule has names that are known; where none stands, nothing refers.
use Rattle.std.proofs.Common.{◌<◌, ◌^◌, ◌⊎◌, ℕ, List, IsTrue, length, subst, sym}
use Rattle.jk_model_classes.specs.References.{Mentions}
use Rattle.jk_model_classes.specs.Worlds.{class_named}
use Rattle.class_linker.specs.KnownReferences.{Adds, AreKnown, IsGoodName, IsNamedBy, RefersBy}
use Rattle.class_linker.proofs.GoodMembers.{short_text}
use Rattle.class_linker.proofs.NamesOfEntries.{adds_text, good_name, known_descriptor}
use Rattle.class_linker.proofs.NumbersAdded.{adds_none, on_map}
use Rattle.class_linker.proofs.references.add_at.Goals as goal

pub add_text-requires-clause-short : goal.add_text-requires-clause-short
add_text-requires-clause-short c =
    let file = c.args.scope.now.file.now in
    let text = c.in-Some.text.now in
    let at = (c.requires.scope.texts.each c.args.i text).1 c.in-Some.ensures in
    subst (λ (us : List ℕ). length us < 2 ^ 31) (sym c.as_slice.ensures)
    (short_text file c.args.scope.now.names.now c.requires.scope.linkable c.args.i text at)

pub add_text-requires-clause-good : goal.add_text-requires-clause-good
add_text-requires-clause-good c = λ t.
    let file = c.args.scope.now.file.now in
    let names = c.args.scope.now.names.now in
    let text = c.in-Some.text.now in
    let at = (c.requires.scope.texts.each c.args.i text).1 c.in-Some.ensures in
    subst (λ (us : List ℕ). IsGoodName (class_named names) us) (sym c.as_slice.ensures)
    (good_name file names c.requires.scope.linkable c.args.i text at (c.requires.name.0 t))

pub add_text-requires-clause-known : goal.add_text-requires-clause-known
add_text-requires-clause-known c = λ t.
    let file = c.args.scope.now.file.now in
    let names = c.args.scope.now.names.now in
    let text = c.in-Some.text.now in
    let at = (c.requires.scope.texts.each c.args.i text).1 c.in-Some.ensures in
    subst (λ (us : List ℕ). AreKnown (class_named names) (Mentions us)) (sym c.as_slice.ensures)
    (known_descriptor file names c.requires.scope.linkable c.args.i text at (c.requires.descriptor.0 t))

pub returns-in-Some : goal.returns-in-Some
returns-in-Some c =
    let m = class_named c.args.scope.now.names.now in
    let file = c.args.scope.now.file.now in
    let text = c.in-Some.text.now in
    let read = c.as_slice.result.now in
    let at = (c.requires.scope.texts.each c.args.i text).1 c.in-Some.ensures in
    let P = λ (name : List ℕ). (IsTrue c.args.is_name × IsNamedBy read name) ⊎ (IsTrue c.args.is_descriptor × Mentions read name) in
    let a = c.args.numbers.now.items in
    let b = c.add_text.new.numbers.items in
    on_map (Adds m P a b) (Adds m (RefersBy file c.args.i) a b) c.add_text.result
    (adds_text m file c.args.i text read c.args.is_name c.args.is_descriptor a b at c.as_slice.ensures c.requires.name c.requires.descriptor)
    c.add_text.ensures

pub returns-in-None : goal.returns-in-None
returns-in-None c =
    adds_none (class_named c.args.scope.now.names.now) (RefersBy c.args.scope.now.file.now c.args.i) c.args.numbers.now.items
    (λ name (units, at, by). c.in-None.ensures units ((c.requires.scope.texts.each c.args.i units).0 at))
