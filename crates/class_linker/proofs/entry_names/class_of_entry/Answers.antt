-- A Class entry has a name, of an array or of a class.
use Rattle.std.proofs.Common.{◌≡◌, List, ℕ, sym, subst}
use Rattle.jk_model.specs.declared.class_file.PoolEntry.{PoolEntry}
use Rattle.jk_model.specs.Descriptors.{IsClassName}
use Rattle.jk_model_classes.specs.ClassNames.{BeginsArray}
use Rattle.jk_model_classes.specs.Members.{ClassAt}
use Rattle.class_lemmas.proofs.ArraysHaveNoNames.{no_array}
use Rattle.class_lemmas.proofs.EntriesAreGood.{class_there}
use Rattle.class_lemmas.proofs.OneText.{one_class}
use Rattle.class_linker.proofs.EntriesAreGood.{class_by_front, good_entries}
use Rattle.class_linker.proofs.entry_names.class_of_entry.Goals as goal

pub class-requires-clause-named : goal.class-requires-clause-named
class-requires-clause-named c = λ never.
    let pool = c.args.scope.now.file.now.pool in
    let name = c.in-Some.name.now in
    let at : ClassAt pool c.args.i name = subst (λ (es : List PoolEntry). ClassAt es c.args.i name) c.as_slice.ensures c.in-Some.ensures in
    let plain : BeginsArray name → ⊥ = λ b.
    let told = c.begins_array.ensures.1 (subst (λ (us : List ℕ). BeginsArray us) (sym c.as_slice-in-Some.ensures) b) in
    let off = c.if-begins_array.false in
    absurd cc in
    never (name, at, plain)

pub returns-then-begins_array : goal.returns-then-begins_array
returns-then-begins_array c =
    let pool = c.args.scope.now.file.now.pool in
    let name = c.in-Some.name.now in
    let at : ClassAt pool c.args.i name = subst (λ (es : List PoolEntry). ClassAt es c.args.i name) c.as_slice.ensures c.in-Some.ensures in
    let array : BeginsArray name =
    subst (λ (us : List ℕ). BeginsArray us) c.as_slice-in-Some.ensures (c.begins_array.ensures.0 c.if-begins_array.true) in
    (name, at, no_array name array)

pub returns-else-begins_array : goal.returns-else-begins_array
returns-else-begins_array c =
    let file = c.args.scope.now.file.now in
    let names = c.args.scope.now.names.now in
    let name = c.in-Some.name.now in
    let at : ClassAt file.pool c.args.i name = subst (λ (es : List PoolEntry). ClassAt es c.args.i name) c.as_slice.ensures c.in-Some.ensures in
    let plain : BeginsArray name → ⊥ = λ b.
    let told = c.begins_array.ensures.1 (subst (λ (us : List ℕ). BeginsArray us) (sym c.as_slice-in-Some.ensures) b) in
    let off = c.if-begins_array.false in
    absurd cc in
    let own : IsClassName name = class_by_front file names c.requires.scope.linkable c.args.i name at plain in
    let class = c.class.ensures in
    let same : name ≡ class.0 = one_class file.pool c.args.i name class.0 at class.1 in
    (class.0, class.1, (subst (λ (us : List ℕ). IsClassName us) same own, class.2))

pub unreachable-requires : goal.unreachable-requires
unreachable-requires c =
    let pool = c.args.scope.now.file.now.pool in
    let there = class_there pool c.args.i (good_entries c.args.scope.now.file.now c.args.scope.now.names.now c.requires.scope.linkable) c.requires.class in
    c.in-None.ensures there.0 (subst (λ (entries : List PoolEntry). ClassAt entries c.args.i there.0) (sym c.as_slice.ensures) there.1)
