-- Where a domain was admitted to a store and closed at once, all in the store is as before.
use Rattle.std.proofs.Common.{◌≡◌, ◌≢◌, ℕ, Option, Some, None, IsSome, refl, sym, ap, subst, ◌∙◌, inl, inr}
use Rattle.jk_model.specs.declared.identifiers.DomainId.{DomainId}
use Rattle.jk_model.specs.declared.identifiers.SegmentNo.{SegmentNo}
use Rattle.object_store.specs.HeapContents.{HeapContent, IsHeapContent}
use Rattle.object_store.specs.HeapContents.{Admits as AdmitsHeap, Closes as ClosesHeap, IsSame as IsSameHeap}
use Rattle.frame_store.specs.FrameContents.{FrameContent, IsContent, IsLeftOf, StoredSegment}
use Rattle.frame_store.specs.FrameContents.{Admits as AdmitsStack, Closes as ClosesStack, IsSame as IsSameStack}
use Rattle.kernel_openings.proofs.PartsByPlace.{this_or_other}

-- ---- Heaps.

module _ (old mid new : HeapContent) (d : DomainId) (words : ℕ) (holds : IsHeapContent old) (none : old.quota d ≡ None)
    (admits : AdmitsHeap old mid d words) (closes : ClosesHeap mid new d) where
  same_by : {X : Type 0} (part : HeapContent → DomainId → X) → part new d ≡ part old d
      → ((e : DomainId) → e ≢ d → part new e ≡ part mid e) → ((e : DomainId) → e ≢ d → part mid e ≡ part old e) → (e : DomainId)
      → part new e ≡ part old e
  same_by part here second first e = elim (this_or_other d e) [
    | inl is ↦ ap (part new) is ∙ here ∙ ap (part old) (sym is)
    | inr other ↦ second e other ∙ first e other
  ]

  pub heap_again : IsSameHeap old new
  heap_again =
      let unused = holds.unused d none in
      record {
        domains = record {
          pages = closes.pages ∙ admits.pages;
          took_all = closes.took_all ∙ admits.took_all;
          quota = same_by (λ c. c.quota) (closes.quota ∙ sym none) closes.others.quota admits.others.quota;
          first_page = same_by (λ c. c.first_page) (closes.place ∙ sym unused.1) closes.others.first_page admits.others.first_page;
        };
        used = same_by (λ c. c.used) (closes.empty.unused ∙ sym unused.0.unused) closes.others.used admits.others.used;
        heap = same_by (λ c. c.heap) (closes.empty.heap ∙ sym unused.0.heap) closes.others.heap admits.others.heap;
        mark = λ e a.
            same_by (λ c x. c.mark x a) (closes.empty.mark a ∙ sym (unused.0.mark a)) (λ x other. closes.others.mark x a other)
            (λ x other. admits.others.mark x a other) e;
      }

-- ---- Stacks.

none_isnt : (o : Option ℕ) → o ≡ None → IsSome o → ⊥
none_isnt None is some = absurd cc
none_isnt (Some x) is some = absurd cc

module _ (old mid new : FrameContent) (d : DomainId) (chunks : ℕ) (holds : IsContent old) (none : old.quota d ≡ None)
    (admits : AdmitsStack old mid d chunks) (closes : ClosesStack mid new d) where
  stack_by : {X : Type 0} (part : FrameContent → DomainId → X) → part new d ≡ part old d
      → ((e : DomainId) → e ≢ d → part new e ≡ part mid e) → ((e : DomainId) → e ≢ d → part mid e ≡ part old e) → (e : DomainId)
      → part new e ≡ part old e
  stack_by part here second first e = elim (this_or_other d e) [
    | inl is ↦ ap (part new) is ∙ here ∙ ap (part old) (sym is)
    | inr other ↦ second e other ∙ first e other
  ]

  -- no segment was of the domain
  of_another : (s : SegmentNo) (g : StoredSegment) → old.segment s ≡ Some g → g.domain ≡ d → ⊥
  of_another s g there same =
      let admitted : IsSome (old.quota g.domain) = (holds.owned s g there).0 in
      none_isnt (old.quota g.domain) (ap old.quota same ∙ none) admitted

  segment_by : (s : SegmentNo) (before : Option StoredSegment) → old.segment s ≡ before → IsLeftOf d before (new.segment s) → new.segment s ≡ before
  segment_by s None is left = left
  segment_by s (Some g) is (inl gone) = absurd (of_another s g is gone.0)
  segment_by s (Some g) is (inr stays) = stays.1

  pub stack_again : IsSameStack old new
  stack_again =
      let unused = holds.unused d none in
      record {
        domains = record {
          pages = closes.pages ∙ admits.pages;
          took_all = closes.took_all ∙ admits.took_all;
          quota = stack_by (λ c. c.quota) (closes.quota ∙ sym none) closes.other_quotas admits.other_quotas;
          first_page = stack_by (λ c. c.first_page) (closes.place ∙ sym unused.1) closes.other_places admits.other_places;
        };
        used = stack_by (λ c. c.used) (closes.unused ∙ sym unused.0) closes.other_uses admits.other_uses;
        segment = λ s. segment_by s (old.segment s) refl
            (subst (λ (o : Option StoredSegment). IsLeftOf d o (new.segment s)) (admits.segment s) (closes.segment s));
      }
