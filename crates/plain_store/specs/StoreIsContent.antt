-- What holds of each content holds of a store's.
use Rattle.std.proofs.Common.{inl, ◌≡◌, ℕ, ◌^◌, ◌<◌, ◌≤◌, ◌+◌, List, [], Option, Some, None, slice_get, refl, sym, ◌∙◌, arith}
use Rattle.std.specs.Option.{option_map, option_map_or}
use Rattle.jk_model_domains.specs.Objects.{NamedObject, Object, object_named}
use Rattle.object_store.specs.HeapContents.{IsHeapContent, IsStored, size_of}
use Rattle.plain_store.specs.declared.domain_heap.DomainHeap.{DomainHeap}
use Rattle.plain_store.specs.HeapMoves.{mark_of, objects_of}
use Rattle.plain_store.specs.StoreContents.{content_of, heap_at}
use Rattle.plain_store.specs.StoredObjects.{object_by_place, object_sized, object_small, object_stored, object_unmarked}

-- ---- Of a domain, which has a heap or none.

within_by : (o : Option DomainHeap) (q : ℕ) → option_map (λ (x : DomainHeap). x.words) o ≡ Some q
    → (option_map_or (λ (x : DomainHeap). x.used) o 0 ≤ q) × (1 ≤ q) × (q ≤ 16777216)
within_by None q e = absurd cc
within_by (Some x) q e =
    let same : x.words ≡ q = cc in
    (omega (arith, x.ok.within), omega (arith, x.ok.least), omega (arith, x.ok.most))

none_by : (o : Option DomainHeap) → option_map (λ (x : DomainHeap). x.words) o ≡ None
    → (option_map_or (λ (x : DomainHeap). x.used) o 0 ≡ 0) × (option_map_or objects_of o [] ≡ [])
    × ((a : ℕ) → option_map_or (λ (x : DomainHeap). mark_of x a) o 0 ≡ 0)
none_by None e = (refl, refl, λ a. refl)
none_by (Some x) e = absurd cc

unmarked_by : (o : Option DomainHeap) (a : ℕ) → object_named (option_map_or objects_of o []) a ≡ None
    → option_map_or (λ (x : DomainHeap). mark_of x a) o 0 ≡ 0
unmarked_by None a e = refl
unmarked_by (Some x) a e = object_unmarked x a e

name_by : (o : Option DomainHeap) (i : ℕ) (e : NamedObject) → slice_get (option_map_or objects_of o []) i ≡ Some e → e.name ≡ i
name_by None i e at = absurd cc
name_by (Some x) i e at = object_by_place x i e at

small_by : (o : Option DomainHeap) (a : ℕ) (object : Object) → object_named (option_map_or objects_of o []) a ≡ Some object → a < 2 ^ 30
small_by None a object is = absurd cc
small_by (Some x) a object is = object_small x a object is

sized_by : (o : Option DomainHeap) (a : ℕ) (object : Object) → object_named (option_map_or objects_of o []) a ≡ Some object
    → size_of object + 4 ≤ option_map_or (λ (x : DomainHeap). x.used) o 0
sized_by None a object is = absurd cc
sized_by (Some x) a object is = object_sized x a object is

stored_by : (o : Option DomainHeap) (a : ℕ) (object : Object) → object_named (option_map_or objects_of o []) a ≡ Some object → IsStored object
stored_by None a object is = absurd cc
stored_by (Some x) a object is = object_stored x a object is

-- ---- Of a store.

pub store_holds : (heaps : List (Option DomainHeap)) → IsHeapContent (content_of heaps)
store_holds heaps =
    record {
      within = λ d q e. within_by (heap_at heaps d.0) q e;
      unused =
          λ d e.
          let none = none_by (heap_at heaps d.0) e in
          (record { unused = none.0; heap = none.1; mark = none.2 }, refl);
      unmarked = λ d a e. unmarked_by (heap_at heaps d.0) a e;
      differ =
          λ d i j a b at bt same.
          sym (name_by (heap_at heaps d.0) i a at) ∙ same ∙ name_by (heap_at heaps d.0) j b bt;
      small = λ d a object live. small_by (heap_at heaps d.0) a object live;
      sized = λ d a object live. sized_by (heap_at heaps d.0) a object live;
      stored = λ d a object live. stored_by (heap_at heaps d.0) a object live;
      placed = λ d q e. inl (refl, refl);
    }
