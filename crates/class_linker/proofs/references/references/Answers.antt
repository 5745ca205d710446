-- The numbers are sorted, and each stays once.
use Rattle.std.proofs.Common.{◌≡◌, eqb, ◌∙◌}
use Rattle.std.specs.Prelude.{map}
use Rattle.std.proofs.lemmas.List.Filters.{dedup_is}
use Rattle.list_lemmas.proofs.AnswersTold.{ok_map}
use Rattle.jk_model.specs.declared.identifiers.ClassId.{ClassId}
use Rattle.jk_model_classes.specs.LinkRules.{LinkScope}
use Rattle.jk_model_folders.specs.LinkedClasses.{AreReferences}
use Rattle.class_linker.specs.LinkedFiles.{HasNames}
use Rattle.class_linker.proofs.SortedReferences.{references_sorted}
use Rattle.class_linker.proofs.references.references.Goals as goal

pub returns : goal.returns
returns c =
    let file = c.args.scope.now.file.now in
    let names = c.args.scope.now.names.now in
    let sorted = c.sort.new.self.items in
    let once = c.as_slice.result.now in
    ok_map (λ list. map (λ (class : ClassId). class.0) list ≡ once) (λ list. (s : LinkScope) → HasNames names s → AreReferences s file list) c.classes_of.result
    (λ list. references_sorted file names c.in_ok-numbers.numbers.items sorted once list c.in_ok-numbers.ensures c.in_ok-sort.ensures.permutation
    c.in_ok-sort.ensures.sorted (c.as_slice.ensures.value ∙ dedup_is eqb sorted _ c.dedup.ensures.filtered))
    c.classes_of.ensures
