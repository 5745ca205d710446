-- The heap that stands at a number is that of the number, and what is written there is that of the number afterwards.
use Rattle.std.proofs.Common.{◌≡◌, ◌≢◌, ℕ, zero, suc, ◌+◌, ◌<◌, List, [], ◌∷◌, ◌++◌, length, replicate, set, Option, Some, None, IsSome, slice_get, refl, sym, ap, ◌∙◌, length-append, arith}
use Rattle.std.proofs.lemmas.List.{length-replicate}
use Rattle.std.specs.Option.{option_map_or}
use Rattle.std.proofs.lemmas.Option.{slice_get_within}
use Rattle.list_lemmas.proofs.ItemsByPlace.{slice_get-set_other, slice_get-set_same}
use Rattle.plain_store.specs.declared.domain_heap.DomainHeap.{DomainHeap}
use Rattle.plain_store.specs.StoreContents.{Enters, heap_at}

abbrev heap_in : Option (Option DomainHeap) → Option DomainHeap
heap_in p = option_map_or (λ (o : Option DomainHeap). o) p None

-- what stands at the number of a domain
stands_by : (p : Option (Option DomainHeap)) → IsSome (heap_in p) → (x : DomainHeap) × (p ≡ Some (Some x))
stands_by None has = absurd cc
stands_by (Some None) has = absurd cc
stands_by (Some (Some x)) has = (x, refl)

pub within_heaps : (heaps : List (Option DomainHeap)) (d : ℕ) → IsSome (heap_at heaps d) → d < length heaps
within_heaps heaps d has = let x = stands_by (slice_get heaps d) has in slice_get_within heaps d (Some x.0) x.1

-- as it was read
pub read_at : (heaps : List (Option DomainHeap)) (d : ℕ) (o : Option DomainHeap) → slice_get heaps d ≡ Some o → heap_at heaps d ≡ o
read_at heaps d o at = ap heap_in at

pub written_at : (heaps : List (Option DomainHeap)) (d : ℕ) (x : DomainHeap) → d < length heaps → Enters heaps (set heaps d (Some x)) d x
written_at heaps d x within = record {
  is = ap heap_in (slice_get-set_same heaps d (Some x) within);
  others = λ e ne. ap heap_in (slice_get-set_other heaps d e (Some x) (λ same. ne (sym same)));
}

pub closed_at : (heaps : List (Option DomainHeap)) (d : ℕ) → d < length heaps → heap_at (set heaps d None) d ≡ None
closed_at heaps d within = ap heap_in (slice_get-set_same heaps d None within)

pub others_at : (heaps : List (Option DomainHeap)) (d : ℕ) (o : Option DomainHeap) (e : ℕ) → e ≢ d → heap_at (set heaps d o) e ≡ heap_at heaps e
others_at heaps d o e ne = ap heap_in (slice_get-set_other heaps d e o (λ same. ne (sym same)))

-- numbers without a domain are added
padded : (heaps : List (Option DomainHeap)) (n e : ℕ) → heap_at (heaps ++ replicate n None) e ≡ heap_at heaps e
padded [] zero e = refl
padded [] (suc n) zero = refl
padded [] (suc n) (suc e) = padded [] n e
padded (x ∷ heaps) n zero = refl
padded (x ∷ heaps) n (suc e) = padded heaps n e

pub entered_at : (heaps : List (Option DomainHeap)) (n d : ℕ) (x : DomainHeap) → d < length heaps + n
    → Enters heaps (set (heaps ++ replicate n None) d (Some x)) d x
entered_at heaps n d x within =
    let there : d < length (heaps ++ replicate n None) =
    omega (arith, within, length-append heaps (replicate n None), length-replicate {A = Option DomainHeap} n None) in
    let written = written_at (heaps ++ replicate n None) d x there in
    record { is = written.is; others = λ e ne. written.others e ne ∙ padded heaps n e }
