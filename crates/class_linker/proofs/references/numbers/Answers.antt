-- The marks tell names and descriptors; one more text, or all of them.
use Rattle.std.proofs.Common.{◌<◌, ℕ, List, [], arith, sym, subst}
use Rattle.jk_model_classes.specs.References.{IsDescriptorEntry}
use Rattle.jk_model_classes.specs.Worlds.{class_named}
use Rattle.class_linker.specs.KnownReferences.{Adds, IsNameEntry, RefersBy}
use Rattle.class_linker.proofs.MarkedEntries.{marked_is}
use Rattle.class_linker.proofs.NamesOfEntries.{refers_within}
use Rattle.class_linker.proofs.NumbersAdded.{adds_all, adds_more, adds_none}
use Rattle.class_linker.proofs.references.numbers.Goals as goal

pub loop-i-init : goal.loop-i-init
loop-i-init c =
    let P = λ (name : List ℕ). (j : ℕ) × (j < 0) × RefersBy c.args.scope.now.file.now j name in
    subst (λ (ns : List ℕ). Adds (class_named c.args.scope.now.names.now) P [] ns) (sym c.new-numbers.ensures.items)
    (adds_none (class_named c.args.scope.now.names.now) P [] (λ name (j, below, by). omega arith))

pub add_at-requires-clause-name : goal.add_at-requires-clause-name
add_at-requires-clause-name c =
    let pool = c.args.scope.now.file.now.pool in
    marked_is (IsNameEntry pool) pool c.in_ok-names.names.items c.as_slice.result.now c.loop-i.i c.is_marked-is_name.result c.in_ok-names.ensures
    c.as_slice.ensures.value (omega arith) c.is_marked-is_name.ensures

pub add_at-requires-clause-descriptor : goal.add_at-requires-clause-descriptor
add_at-requires-clause-descriptor c =
    let file = c.args.scope.now.file.now in
    marked_is (IsDescriptorEntry file) file.pool c.in_ok-descriptors.descriptors.items c.as_slice-in-loop-i.result.now c.loop-i.i
    c.is_marked-is_descriptor.result
    c.in_ok-descriptors.ensures c.as_slice-in-loop-i.ensures.value (omega arith) c.is_marked-is_descriptor.ensures

pub loop-i-preserved : goal.loop-i-preserved
loop-i-preserved c =
    adds_more (class_named c.args.scope.now.names.now) (RefersBy c.args.scope.now.file.now) c.loop-i.i [] c.loop-i.numbers.items c.add_at.new.numbers.items
    c.loop-i.invariant c.in_ok-add_at.ensures

pub returns : goal.returns
returns c =
    adds_all (class_named c.args.scope.now.names.now) (RefersBy c.args.scope.now.file.now) c.loop-i.i [] c.loop-i.numbers.items
    (λ j name by. let below = refers_within c.args.scope.now.file.now j name by in omega arith) c.loop-i.invariant
