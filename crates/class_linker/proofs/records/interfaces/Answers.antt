-- One more interface.
use Rattle.std.proofs.Common.{ℕ, List, arith, subst}
use Rattle.list_lemmas.proofs.ItemByItem.{zip_more}
use Rattle.jk_model_classes.specs.ClassNames.{NamesClass}
use Rattle.jk_model_folders.specs.LinkedClasses.{GoAlong, NamesClassAt}
use Rattle.class_linker.proofs.GoodMembers.{names_interface}
use Rattle.class_linker.proofs.ItemByItem.{along_all, read_at}
use Rattle.class_linker.proofs.NamesOfScope.{class_for}
use Rattle.class_linker.proofs.records.interfaces.Goals as goal

pub class-requires-clause-named : goal.class-requires-clause-named
class-requires-clause-named c =
    let file = c.args.scope.now.file.now in
    read_at (λ (i : ℕ). (NamesClass file.pool i → ⊥) → ⊥) c.as_slice-i-items.result.now file.interfaces c.as_slice-i-items.ensures
    (λ k i at. names_interface file c.args.scope.now.names.now c.requires.linkable k i at) c.loop-i.i-index _ (omega arith)

pub loop-i-preserved : goal.loop-i-preserved
loop-i-preserved c = λ s names.
    let file = c.args.scope.now.file.now in
    zip_more (NamesClassAt s file) c.as_slice-i-items.result.now c.loop-i.classes _ c.loop-i.i-index _ c.class.result (omega arith) (c.loop-i.invariant s names)
    (class_for file c.args.scope.now.names.now _ c.class.result s names c.class.ensures) c.in_ok-push.ensures.ok

pub returns : goal.returns
returns c = λ s names.
    let R = NamesClassAt s c.args.scope.now.file.now in
    subst (λ (is : List ℕ). GoAlong R is c.loop-i.classes) c.as_slice-i-items.ensures
    (along_all R c.as_slice-i-items.result.now c.loop-i.classes c.loop-i.i-index (omega arith) (c.loop-i.invariant s names))
