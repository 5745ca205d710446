-- The numbers of the segments that are left at the end of a domain are those of the segments that aren't the domain's.
use Rattle.std.proofs.Common.{◌≡◌, ◌∙◌, Bool, true, false, cond, not, List, [], ◌∷◌, filter, map, refl}
use Rattle.jk_model.specs.declared.identifiers.DomainId.{DomainId}
use Rattle.jk_model.specs.declared.identifiers.SegmentNo.{SegmentNo}
use Rattle.jk_model_sharing.specs.Segments.{SharedSegment, as_orphan, changed, is_of, left_above, segments_left, shared_form, top_is_of, with_revoked, with_top}

abbrev number : SharedSegment → SegmentNo
number s = s.number

abbrev others : DomainId → List SharedSegment → List SharedSegment
others d segments = filter (λ (s : SharedSegment). not (is_of shared_form d s)) segments

-- a mark leaves the number
same_number : (gap : Bool) (s : SharedSegment) → number (cond gap (as_orphan s) s) ≡ number s
same_number true s = refl
same_number false s = refl

-- what is left of a stack whose lowest segment is or isn't the domain's
step : (d : DomainId) (gap : Bool) (s : SharedSegment) (more : List SharedSegment) (b : Bool)
    → map number (left_above shared_form d true more) ≡ map number (others d more)
    → map number (left_above shared_form d false more) ≡ map number (others d more)
    → map number (cond b (left_above shared_form d true more) (cond gap (as_orphan s) s ∷ left_above shared_form d false more))
    ≡ map number (cond (not b) (s ∷ others d more) (others d more))
step d gap s more true behind beside = behind
step d gap s more false behind beside = rw (same_number gap s, beside) refl

left_numbers : (d : DomainId) (gap : Bool) (segments : List SharedSegment) → map number (left_above shared_form d gap segments) ≡ map number (others d segments)
left_numbers d gap [] = refl
left_numbers d gap (s ∷ more) = step d gap s more (is_of shared_form d s) (left_numbers d true more) (left_numbers d false more)

top_numbers : (segments : List SharedSegment) → map number (with_top (changed shared_form (with_revoked true)) segments) ≡ map number segments
top_numbers [] = refl
top_numbers (s ∷ []) = refl
top_numbers (s ∷ above ∷ more) = rw (top_numbers (above ∷ more)) refl

pub others_left : (d : DomainId) (segments : List SharedSegment) → map number (segments_left shared_form d segments) ≡ map number (others d segments)
others_left d segments = by_test (top_is_of shared_form d segments)
  where
    by_test : (b : Bool)
        → map number (cond b (with_top (changed shared_form (with_revoked true)) (left_above shared_form d false segments))
        (left_above shared_form d false segments))
        ≡ map number (others d segments)
    by_test true = top_numbers (left_above shared_form d false segments) ∙ left_numbers d false segments
    by_test false = left_numbers d false segments
