-- Segments of a form without what they have besides: what is done to a stack of them is done to the stack of their shared parts.
use Rattle.std.proofs.Common.{◌≡◌, ◌∙◌, Bool, true, false, cond, List, [], ◌∷◌, map, refl, ap}
use Rattle.jk_model.specs.declared.identifiers.DomainId.{DomainId}
use Rattle.jk_model.specs.declared.identifiers.SegmentNo.{SegmentNo}
use Rattle.jk_model_sharing.specs.Segments.{SegmentForm, SharedSegment, as_orphan, changed, is_numbered, is_of, left_above, segments_left, shared_form, top_is_of, with_revoked, with_segment, with_top}

module _ {S : Type 0} (form : SegmentForm S) (kept : (new : SharedSegment) (s : S) → form.shared (form.with_shared new s) ≡ new) where
  abbrev erased : List S → List SharedSegment
  erased segments = map form.shared segments

  -- ---- Flags of one segment.

  flagged : (change : SharedSegment → SharedSegment) (b : Bool) (s : S)
      → form.shared (cond b (changed form change s) s) ≡ cond b (change (form.shared s)) (form.shared s)
  flagged change true s = kept (change (form.shared s)) s
  flagged change false s = refl

  pub erased_flags : (n : SegmentNo) (change : SharedSegment → SharedSegment) (segments : List S)
      → erased (with_segment form n change segments) ≡ with_segment shared_form n change (erased segments)
  erased_flags n change [] = refl
  erased_flags n change (s ∷ more) = rw (flagged change (is_numbered form n s) s, erased_flags n change more) refl

  -- ---- The end of a domain.

  above_step : (d : DomainId) (gap b : Bool) (s : S) (more : List S)
      → erased (left_above form d true more) ≡ left_above shared_form d true (erased more)
      → erased (left_above form d false more) ≡ left_above shared_form d false (erased more)
      → erased (cond b (left_above form d true more) (cond gap (changed form as_orphan s) s ∷ left_above form d false more))
      ≡ cond b (left_above shared_form d true (erased more))
      (cond gap (as_orphan (form.shared s)) (form.shared s) ∷ left_above shared_form d false (erased more))
  above_step d gap true s more behind beside = behind
  above_step d gap false s more behind beside = rw (flagged as_orphan gap s, beside) refl

  erased_above : (d : DomainId) (gap : Bool) (segments : List S)
      → erased (left_above form d gap segments) ≡ left_above shared_form d gap (erased segments)
  erased_above d gap [] = refl
  erased_above d gap (s ∷ more) = above_step d gap (is_of form d s) s more (erased_above d true more) (erased_above d false more)

  erased_top : (change : SharedSegment → SharedSegment) (segments : List S)
      → erased (with_top (changed form change) segments) ≡ with_top (changed shared_form change) (erased segments)
  erased_top change [] = refl
  erased_top change (s ∷ []) = rw (kept (change (form.shared s)) s) refl
  erased_top change (s ∷ above ∷ more) = rw (erased_top change (above ∷ more)) refl

  same_top : (d : DomainId) (segments : List S) → top_is_of form d segments ≡ top_is_of shared_form d (erased segments)
  same_top d [] = refl
  same_top d (s ∷ []) = refl
  same_top d (s ∷ above ∷ more) = same_top d (above ∷ more)

  left_step : (d : DomainId) (b : Bool) (segments : List S)
      → erased (cond b (with_top (changed form (with_revoked true)) (left_above form d false segments)) (left_above form d false segments))
      ≡ cond b (with_top (changed shared_form (with_revoked true)) (left_above shared_form d false (erased segments)))
      (left_above shared_form d false (erased segments))
  left_step d true segments =
      erased_top (with_revoked true) (left_above form d false segments)
      ∙ ap (with_top (changed shared_form (with_revoked true))) (erased_above d false segments)
  left_step d false segments = erased_above d false segments

  pub erased_left : (d : DomainId) (segments : List S) → erased (segments_left form d segments) ≡ segments_left shared_form d (erased segments)
  erased_left d segments = rw (← same_top d segments) (left_step d (top_is_of form d segments) segments)
