-- What the caller has on its stack, and what stays as it was.
use Rattle.std.proofs.Common.{◌≡◌, ◌≢◌, ℕ, suc, ◌<◌, ◌≤◌, inl, inr, [], ◌∷◌, ◌++◌, append_assoc, Some, None, refl, sym, ap, ◌∙◌, arith}
use Rattle.std.proofs.Math.Nat.{lt_of_not-le}
use Rattle.std.proofs.lemmas.Bool.{cases_eq}
use Rattle.jk_model.specs.declared.identifiers.DomainId.{DomainId}
use Rattle.jk_model.specs.declared.identifiers.SegmentNo.{SegmentNo}
use Rattle.jk_model_frames.specs.Frames.{FrameState}
use Rattle.object_store.specs.HeapContents.{HeapContent, IsSame}
use Rattle.frame_store.specs.FrameContents.{FrameContent, SetsTop, TopFrame, free_chunks}
use Rattle.domain_crossing.specs.declared.callees.Callee.{Callee}
use Rattle.domain_crossing.specs.EnteringCalls.{chunks_for}
use Rattle.domain_crossing.specs.MovedArguments.{HasOnTop, StandsToCall}

-- a top frame that is set costs what it costs
pub used_stays : (a b : FrameContent) (n : SegmentNo) (g : FrameState) → SetsTop a b n g → (d : DomainId) → b.used d ≡ a.used d
used_stays a b n g sets d = elim (cases_eq d.0 sets.1.segment.domain.0) [
  | inl same ↦
      let number : d ≡ sets.1.segment.domain = (λ i. record { 0 = same i }) in
      ap b.used number ∙ sets.2.uses ∙ ap a.used (sym number)
  | inr differ ↦ sets.2.other_domains d (λ e. differ (ap (λ (x : DomainId). x.0) e))
]

-- where not too few chunks are left, enough are
pub enough_left : (c : FrameContent) (callee : Callee) → (free_chunks c callee.owner < chunks_for callee → ⊥)
    → chunks_for callee ≤ free_chunks c callee.owner
enough_left c callee enough = less (free_chunks c callee.owner) (chunks_for callee) enough
  where
    less : (free wanted : ℕ) → (free < wanted → ⊥) → wanted ≤ free
    less free wanted enough = (let over : wanted < suc free = lt_of_not-le (λ low. enough low) in omega (arith, over))

-- a heap in which nothing was done
pub heap_same : (h : HeapContent) → IsSame h h
heap_same h = record {
  domains = record { pages = refl; took_all = refl; quota = λ d. refl; first_page = λ d. refl };
  used = λ d. refl;
  heap = λ d. refl;
  mark = λ d a. refl;
}

module _ (c : FrameContent) (s : SegmentNo) (call : StandsToCall c s) where
  pub caller_on_top : TopFrame c s call.frame
  caller_on_top = record { segment = call.stood; is_there = call.is_there; lower = call.callers; frames = call.are_frames }

  -- a segment that isn't there is another one
  pub apart_from : (n : SegmentNo) → c.segment n ≡ None → s ≢ n
  apart_from n none same = (let never : None ≡ Some call.stood = sym none ∙ ap c.segment (sym same) ∙ call.is_there in cc)

  pub all_on_top : HasOnTop c s (call.receiver ∷ call.given)
  all_on_top = record { frame = call.frame; top = caller_on_top; below = call.below; stack = call.stack }

  pub given_on_top : HasOnTop c s call.given
  given_on_top = record {
    frame = call.frame;
    top = caller_on_top;
    below = call.below ++ call.receiver ∷ [];
    stack = call.stack ∙ sym (append_assoc call.below (call.receiver ∷ []) call.given);
  }
