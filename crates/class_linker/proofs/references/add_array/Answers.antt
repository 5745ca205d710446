-- The name of an array says a type, and the class of that is added.
use Rattle.std.proofs.Common.{◌≡◌, ℕ, List}
use Rattle.jk_model.specs.declared.descriptors.Base.TheVariants.{Class}
use Rattle.jk_model_classes.specs.Worlds.{class_named}
use Rattle.class_linker.specs.KnownReferences.{Adds, IsNamedBy}
use Rattle.class_linker.proofs.NamesOfEntries.{adds_array, array_form, array_names}
use Rattle.class_linker.proofs.NumbersAdded.{on_map}
use Rattle.class_linker.proofs.references.add_array.Goals as goal

pub array_type-requires-clause-some : goal.array_type-requires-clause-some
array_type-requires-clause-some c =
    array_form (class_named c.args.scope.now.names.now) c.args.name.now c.requires.good c.requires.array

pub add_base-requires : goal.add_base-requires
add_base-requires c = λ name is.
    c.requires.good.known name (array_names c.args.name.now c.in_ok-t.t name c.requires.array c.in_ok-t.ensures is)

pub returns : goal.returns
returns c =
    let m = class_named c.args.scope.now.names.now in
    let units = c.args.name.now in
    let a = c.args.numbers.now.items in
    let b = c.add_base.new.numbers.items in
    on_map (Adds m (λ (name : List ℕ). c.in_ok-t.t.base ≡ Class name) a b) (Adds m (IsNamedBy units) a b) c.add_base.result
    (adds_array m units c.in_ok-t.t a b c.requires.array c.in_ok-t.ensures) c.add_base.ensures
