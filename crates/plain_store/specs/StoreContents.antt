-- What a store over vectors holds: the heaps of its domains, each at its domain's number.
use Rattle.std.specs.Prelude.{◌≡◌, ◌≢◌, ℕ, List, [], Option, Some, None, false, option_map, slice_get}
use Rattle.std.specs.Option.{option_map_or}
use Rattle.object_store.specs.HeapContents.{HeapContent}
use Rattle.plain_store.specs.declared.domain_heap.DomainHeap.{DomainHeap}
use Rattle.plain_store.specs.HeapMoves.{mark_of, objects_of}

-- the heap of a number; none where it has no domain
abbrev pub heap_at : List (Option DomainHeap) → ℕ → Option DomainHeap
heap_at heaps d = option_map_or (λ (o : Option DomainHeap). o) (slice_get heaps d) None

abbrev pub content_of : List (Option DomainHeap) → HeapContent
content_of heaps =
    record {
      pages = None;
      took_all = false;
      quota = λ d. option_map (λ (x : DomainHeap). x.words) (heap_at heaps d.0);
      first_page = λ _. None;
      used = λ d. option_map_or (λ (x : DomainHeap). x.used) (heap_at heaps d.0) 0;
      heap = λ d. option_map_or objects_of (heap_at heaps d.0) [];
      mark = λ d a. option_map_or (λ (x : DomainHeap). mark_of x a) (heap_at heaps d.0) 0;
    }

-- The heap of a number is this one, and those of others are as before.
pub record Enters (old new : List (Option DomainHeap)) (d : ℕ) (x : DomainHeap) : Type 0 where
  pub is : heap_at new d ≡ Some x
  pub others : (e : ℕ) → e ≢ d → heap_at new e ≡ heap_at old e
