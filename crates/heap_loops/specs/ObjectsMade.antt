-- Objects that are made together in a store of objects.
use Rattle.std.specs.Prelude.{◌≡◌, ℕ, ◌+◌, List, ◌++◌, Contains, Some, None, slice_get}
use Rattle.jk_model.specs.declared.identifiers.DomainId.{DomainId}
use Rattle.jk_model_classes.specs.declared.records.ClassRecord.{ClassRecord}
use Rattle.jk_model_domains.specs.Objects.{NamedObject, object_named}
use Rattle.jk_model_heaps.specs.Heaps.{heap_words}
use Rattle.object_store.specs.HeapContents.{HeapBecomes, HeapContent}

-- These objects are made, under names that the heap lacks and that differ from one another; all else in the store is as before.
pub record MakesObjects (old new : HeapContent) (classes : List ClassRecord) (d : DomainId) (made : List NamedObject) : Type 0 where
  pub fresh : (e : NamedObject) → Contains made e → object_named (old.heap d) e.name ≡ None
  pub differ : (i j : ℕ) (x y : NamedObject) → slice_get made i ≡ Some x → slice_get made j ≡ Some y → x.name ≡ y.name → i ≡ j
  pub becomes : HeapBecomes old new d (old.heap d ++ made) (old.used d + heap_words classes made)
