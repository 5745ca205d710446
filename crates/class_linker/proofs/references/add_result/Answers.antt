-- The class of what a method returns is that of its type.
use Rattle.std.proofs.Common.{◌≡◌, ℕ, List}
use Rattle.jk_model.specs.declared.descriptors.Base.TheVariants.{Class}
use Rattle.jk_model_classes.specs.References.{IsResultOfClass}
use Rattle.jk_model_classes.specs.Worlds.{class_named}
use Rattle.class_linker.specs.KnownReferences.{Adds}
use Rattle.class_linker.proofs.NumbersAdded.{adds_as, on_map, result_names}
use Rattle.class_linker.proofs.references.add_result.Goals as goal

pub returns-in-Some : goal.returns-in-Some
returns-in-Some c =
    let m = class_named c.args.names.now in
    let P = λ (name : List ℕ). c.in-Some.t.base ≡ Class name in
    let Q = λ (name : List ℕ). IsResultOfClass name c.args.of.now in
    let a = c.args.numbers.now.items in
    let b = c.add_base.new.numbers.items in
    on_map (Adds m P a b) (Adds m Q a b) c.add_base.result
    (adds_as m P Q a b (λ name e. (c.in-Some.t, c.in-Some.is, e)) (λ name. result_names name c.args.of.now c.in-Some.t c.in-Some.is)) c.add_base.ensures
