-- The classes of a name are added, or there is nothing to add.
use Rattle.std.proofs.Common.{ℕ, List, IsTrue}
use Rattle.jk_model_classes.specs.Worlds.{class_named}
use Rattle.class_linker.specs.KnownReferences.{Adds, IsNamedBy}
use Rattle.class_linker.proofs.NumbersAdded.{adds_as, adds_none, on_map}
use Rattle.class_linker.proofs.references.add_if_name.Goals as goal

pub returns-then-is_name : goal.returns-then-is_name
returns-then-is_name c =
    let m = class_named c.args.scope.now.names.now in
    let P = IsNamedBy c.args.text.now in
    let Q = λ (name : List ℕ). IsTrue c.args.is_name × IsNamedBy c.args.text.now name in
    let a = c.args.numbers.now.items in
    let b = c.add_named.new.numbers.items in
    on_map (Adds m P a b) (Adds m Q a b) c.add_named.result (adds_as m P Q a b (λ name h. (c.if-is_name.true, h)) (λ name h. h.1)) c.add_named.ensures

pub returns-else-is_name : goal.returns-else-is_name
returns-else-is_name c =
    adds_none (class_named c.args.scope.now.names.now) (λ (name : List ℕ). IsTrue c.args.is_name × IsNamedBy c.args.text.now name)
    c.args.numbers.now.items (λ name (t, is). let f = c.if-is_name.false in absurd cc)
