-- Arrays that are made in a store are those of multianewarray, where the heap uses as many words as its objects cost.
use Rattle.std.proofs.Common.{◌≡◌, ℕ, List, Some, ◌∙◌, arith}
use Rattle.jk_model.specs.declared.identifiers.DomainId.{DomainId}
use Rattle.jk_model.specs.declared.values.Value.TheVariants as Held
use Rattle.jk_model_classes.specs.declared.records.TypeRef.{TypeRef}
use Rattle.jk_model_domains.specs.Objects.{NamedObject}
use Rattle.jk_model_heaps.specs.Heaps.{heap_words}
use Rattle.jk_model_heaps.specs.Workings.{Setting}
use Rattle.jk_model_heap_rows.specs.ArrayTrees.{IsTree, MakesTree}
use Rattle.object_store.specs.HeapContents.{HeapContent, IsHeapContent}
use Rattle.heap_loops.specs.ObjectsMade.{MakesObjects}

pub makes_tree : (x : Setting) (old new : HeapContent) (d : DomainId) (t : TypeRef) (counts : List ℕ) (a : ℕ) (made : List NamedObject)
    → IsTree t counts (record { value = Held.Obj a; objects = made }) → MakesObjects old new x.classes d made → IsHeapContent new
    → old.quota d ≡ Some x.quota → old.used d ≡ heap_words x.classes (old.heap d) → MakesTree x t counts a (old.heap d) (new.heap d)
makes_tree x old new d t counts a made is_tree makes holds quota used = record {
  made = made;
  is_tree = is_tree;
  makes = record {
    fresh = makes.fresh;
    differ = makes.differ;
    fits =
        let within = holds.within d x.quota (makes.becomes.domains.quota d ∙ quota) in
        let uses = makes.becomes.uses in
        omega (arith, within.0, uses, used);
    grown = makes.becomes.becomes;
  };
}
