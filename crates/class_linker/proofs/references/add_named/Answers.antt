-- A name that isn't an array's is a class's.
use Rattle.std.proofs.Common.{◌≡◌, ℕ, List, inl, refl}
use Rattle.jk_model_classes.specs.ClassNames.{BeginsArray}
use Rattle.jk_model_classes.specs.Worlds.{class_named}
use Rattle.class_linker.specs.KnownReferences.{Adds, IsNamedBy}
use Rattle.class_linker.proofs.NamesOfEntries.{adds_name, class_form}
use Rattle.class_linker.proofs.NumbersAdded.{on_map}
use Rattle.class_linker.proofs.references.add_named.Goals as goal

pub add_array-requires-clause-array : goal.add_array-requires-clause-array
add_array-requires-clause-array c = c.begins_array.ensures.0 c.if-begins_array.true

pub add_class-requires : goal.add_class-requires
add_class-requires c =
    let plain : BeginsArray c.args.name.now → ⊥ = λ b. let t = c.begins_array.ensures.1 b in let f = c.if-begins_array.false in absurd cc in
    c.requires.good.known c.args.name.now (inl (class_form (class_named c.args.scope.now.names.now) c.args.name.now c.requires.good plain, refl))

pub returns-else-begins_array : goal.returns-else-begins_array
returns-else-begins_array c =
    let plain : BeginsArray c.args.name.now → ⊥ = λ b. let t = c.begins_array.ensures.1 b in let f = c.if-begins_array.false in absurd cc in
    let m = class_named c.args.scope.now.names.now in
    let units = c.args.name.now in
    let a = c.args.numbers.now.items in
    let b = c.add_class.new.numbers.items in
    on_map (Adds m (λ (name : List ℕ). name ≡ units) a b) (Adds m (IsNamedBy units) a b) c.add_class.result
    (adds_name m units a b c.requires.good plain) c.add_class.ensures
