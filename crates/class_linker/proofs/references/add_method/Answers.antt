-- The classes in a method's descriptor are those of its parameters and of what it returns.
use Rattle.std.proofs.Common.{ℕ, List, inl, inr, subst}
use Rattle.jk_model.specs.declared.descriptors.FieldType.{FieldType}
use Rattle.jk_model_classes.specs.Items.{HasItem}
use Rattle.jk_model_classes.specs.References.{IsOfClass, IsResultOfClass, Mentions}
use Rattle.jk_model_classes.specs.Worlds.{class_named}
use Rattle.class_lemmas.proofs.ClassesInDescriptors.{method_mentions}
use Rattle.class_linker.specs.KnownReferences.{Adds}
use Rattle.class_linker.proofs.NumbersAdded.{adds_then, on_map}
use Rattle.class_linker.proofs.references.add_method.Goals as goal

pub returns-in_ok-add_types-in-Ok : goal.returns-in_ok-add_types-in-Ok
returns-in_ok-add_types-in-Ok c =
    let m = class_named c.args.scope.now.names.now in
    let units = c.args.units.now in
    let kind = c.in-Ok.kind in
    let P = λ (name : List ℕ). HasItem (IsOfClass name) kind.params in
    let Q = λ (name : List ℕ). IsResultOfClass name kind.result in
    let a = c.args.numbers.now.items in
    let b = c.add_types.new.numbers.items in
    let d = c.add_result.new.numbers.items in
    let first : Adds m P a b =
    subst (λ (types : List FieldType). Adds m (λ (name : List ℕ). HasItem (IsOfClass name) types) a b) c.as_slice.ensures c.in_ok-add_types-in-Ok.ensures in
    on_map (Adds m Q b d) (Adds m (Mentions units) a d) c.add_result.result
    (adds_then m P Q (Mentions units) a b d (λ name h. inr (kind, c.in-Ok.ensures.read, inl h)) (λ name h. inr (kind, c.in-Ok.ensures.read, inr h))
    (λ name. method_mentions units name kind c.in-Ok.ensures.read) first) c.add_result.ensures
