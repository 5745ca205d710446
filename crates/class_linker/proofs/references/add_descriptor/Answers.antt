-- The class in a field's descriptor is that of its type.
use Rattle.std.proofs.Common.{◌≡◌, ℕ, List, inl}
use Rattle.jk_model.specs.declared.descriptors.Base.TheVariants.{Class}
use Rattle.jk_model_classes.specs.References.{Mentions}
use Rattle.jk_model_classes.specs.Worlds.{class_named}
use Rattle.class_lemmas.proofs.ClassesInDescriptors.{field_mentions}
use Rattle.class_linker.specs.KnownReferences.{Adds}
use Rattle.class_linker.proofs.NumbersAdded.{adds_as, on_map}
use Rattle.class_linker.proofs.references.add_descriptor.Goals as goal

pub returns-in-Ok : goal.returns-in-Ok
returns-in-Ok c =
    let m = class_named c.args.scope.now.names.now in
    let units = c.args.units.now in
    let P = λ (name : List ℕ). c.in-Ok.t.base ≡ Class name in
    let a = c.args.numbers.now.items in
    let b = c.add_base.new.numbers.items in
    on_map (Adds m P a b) (Adds m (Mentions units) a b) c.add_base.result
    (adds_as m P (Mentions units) a b (λ name e. inl (c.in-Ok.t, c.in-Ok.ensures.read, e)) (λ name. field_mentions units name c.in-Ok.t c.in-Ok.ensures.read))
    c.add_base.ensures
