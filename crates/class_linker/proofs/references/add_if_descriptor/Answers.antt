-- The classes of a descriptor are added, or there is nothing to add.
use Rattle.std.proofs.Common.{ℕ, List, IsTrue}
use Rattle.jk_model_classes.specs.References.{Mentions}
use Rattle.jk_model_classes.specs.Worlds.{class_named}
use Rattle.class_linker.specs.KnownReferences.{Adds}
use Rattle.class_linker.proofs.NumbersAdded.{adds_as, adds_none, on_map}
use Rattle.class_linker.proofs.references.add_if_descriptor.Goals as goal

pub returns-then-is_descriptor : goal.returns-then-is_descriptor
returns-then-is_descriptor c =
    let m = class_named c.args.scope.now.names.now in
    let P = Mentions c.args.text.now in
    let Q = λ (name : List ℕ). IsTrue c.args.is_descriptor × Mentions c.args.text.now name in
    let a = c.args.numbers.now.items in
    let b = c.add_descriptor.new.numbers.items in
    on_map (Adds m P a b) (Adds m Q a b) c.add_descriptor.result (adds_as m P Q a b (λ name h. (c.if-is_descriptor.true, h)) (λ name h. h.1))
    c.add_descriptor.ensures

pub returns-else-is_descriptor : goal.returns-else-is_descriptor
returns-else-is_descriptor c =
    adds_none (class_named c.args.scope.now.names.now) (λ (name : List ℕ). IsTrue c.args.is_descriptor × Mentions c.args.text.now name)
    c.args.numbers.now.items (λ name (t, is). let f = c.if-is_descriptor.false in absurd cc)
