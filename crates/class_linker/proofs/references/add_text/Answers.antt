-- The classes of the name, and then those of the descriptor.
use Rattle.std.proofs.Common.{◌⊎◌, ℕ, List, IsTrue, inl, inr}
use Rattle.jk_model_classes.specs.References.{Mentions}
use Rattle.jk_model_classes.specs.Worlds.{class_named}
use Rattle.class_linker.specs.KnownReferences.{Adds, IsNamedBy}
use Rattle.class_linker.proofs.NumbersAdded.{adds_then, on_map}
use Rattle.class_linker.proofs.references.add_text.Goals as goal

pub returns : goal.returns
returns c =
    let m = class_named c.args.scope.now.names.now in
    let P = λ (name : List ℕ). IsTrue c.args.is_name × IsNamedBy c.args.text.now name in
    let Q = λ (name : List ℕ). IsTrue c.args.is_descriptor × Mentions c.args.text.now name in
    let R = λ (name : List ℕ). P name ⊎ Q name in
    let a = c.args.numbers.now.items in
    let b = c.add_if_name.new.numbers.items in
    let d = c.add_if_descriptor.new.numbers.items in
    on_map (Adds m Q b d) (Adds m R a d) c.add_if_descriptor.result
    (adds_then m P Q R a b d (λ name h. inl h) (λ name h. inr h) (λ name h. h) c.in_ok-add_if_name.ensures) c.add_if_descriptor.ensures
