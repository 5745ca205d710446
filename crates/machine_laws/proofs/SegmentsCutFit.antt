-- The segments of a domain are taken out of a thread: those that are left fit in a machine in which that domain has ended, and answer each other.
use Rattle.std.proofs.Common.{◌≡◌, ◌≢◌, ◌⊎◌, inl, inr, Bool, true, false, cond, List, [], ◌∷◌, refl, sym, ◌∙◌}
use Rattle.jk_model.specs.declared.identifiers.DomainId.{DomainId}
use Rattle.jk_model_classes.specs.declared.records.ClassRecord.{ClassRecord}
use Rattle.jk_model_sealing.specs.AnsweringFrames.{FramesAnswer}
use Rattle.jk_model_sharing.specs.Segments.{as_orphan, changed, is_of, left_above, segments_left, top_is_of, with_revoked, with_top}
use Rattle.jk_model_machine_state.specs.Machines.{Machine, Segment, segment_form}
use Rattle.jk_model_runs.specs.AnsweredCalls.{SegmentAnswers, SegmentsAnswer}
use Rattle.jk_model_runs.specs.Sealed.{CallerFits, IsSealedSegment, SegmentsFit, TopFits}

abbrev flag : Segment → Segment
flag s = changed segment_form (with_revoked true) s

abbrev orphan_if : Bool → Segment → Segment
orphan_if gap s = cond gap (changed segment_form as_orphan s) s

-- ---- That they fit.

-- a segment of another domain fits in the one machine as it fits in the other, whatever its flags are but that a RevokedException pending stays so
pub record FitsOn (n : DomainId) (m new : Machine) : Type 0 where
  pub top : (s : Segment) → is_of segment_form n s ≡ false → IsSealedSegment m (λ inside f. TopFits m inside s f) s
      → IsSealedSegment new (λ inside f. TopFits new inside s f) s
  pub caller : (s : Segment) → is_of segment_form n s ≡ false → IsSealedSegment m (CallerFits m) s → IsSealedSegment new (CallerFits new) s
  -- one that has called a segment that is gone
  pub left : (s : Segment) → is_of segment_form n s ≡ false → IsSealedSegment m (CallerFits m) s
      → IsSealedSegment new (λ inside f. TopFits new inside (flag s) f) (flag s)
  -- an orphan
  pub top_orphan : (s : Segment) → IsSealedSegment new (λ inside f. TopFits new inside s f) s
      → IsSealedSegment new (λ inside f. TopFits new inside (changed segment_form as_orphan s) f) (changed segment_form as_orphan s)
  pub caller_orphan : (s : Segment) → IsSealedSegment new (CallerFits new) s → IsSealedSegment new (CallerFits new) (changed segment_form as_orphan s)

module _ (n : DomainId) (m new : Machine) (on : FitsOn n m new) where
  orphan_top : (gap : Bool) (s : Segment) → IsSealedSegment new (λ inside f. TopFits new inside s f) s
      → IsSealedSegment new (λ inside f. TopFits new inside (orphan_if gap s) f) (orphan_if gap s)
  orphan_top true s h = on.top_orphan s h
  orphan_top false s h = h

  orphan_caller : (gap : Bool) (s : Segment) → IsSealedSegment new (CallerFits new) s → IsSealedSegment new (CallerFits new) (orphan_if gap s)
  orphan_caller true s h = on.caller_orphan s h
  orphan_caller false s h = h

  -- with the flag, the segment on top that has called may also be an orphan
  orphan_left : (gap : Bool) (s : Segment) → IsSealedSegment new (λ inside f. TopFits new inside (flag s) f) (flag s)
      → IsSealedSegment new (λ inside f. TopFits new inside (flag (orphan_if gap s)) f) (flag (orphan_if gap s))
  orphan_left true s h = on.top_orphan (flag s) h
  orphan_left false s h = h

  caller_on : (s : Segment) (rest : List Segment) → IsSealedSegment new (CallerFits new) s → (rest ≢ []) → SegmentsFit new rest
      → SegmentsFit new (s ∷ rest)
  caller_on s [] h some fit = absurd (some refl)
  caller_on s (a ∷ rest) h some fit = (h, fit)

  -- where the top one stays
  record Fits (segments : List Segment) : Type 0 where
    some : segments ≢ []
    fit : SegmentsFit new segments

  fits_by : (gap b : Bool) (s : Segment) (gone stays : List Segment) → is_of segment_form n s ≡ b → IsSealedSegment m (CallerFits m) s → Fits gone
      → Fits stays → Fits (cond b gone (orphan_if gap s ∷ stays))
  fits_by gap true s gone stays is h x y = x
  fits_by gap false s gone stays is h x y =
      record { some = λ none. cc; fit = caller_on (orphan_if gap s) stays (orphan_caller gap s (on.caller s is h)) y.some y.fit }

  above_fits : (gap : Bool) (segments : List Segment) → top_is_of segment_form n segments ≡ false → SegmentsFit m segments
      → Fits (left_above segment_form n gap segments)
  above_fits gap [] e h = absurd h
  above_fits gap (s ∷ []) e h = by (is_of segment_form n s) refl
    where
      by : (b : Bool) → is_of segment_form n s ≡ b → Fits (cond b [] (orphan_if gap s ∷ []))
      by true is = let both : true ≡ false = sym is ∙ e in absurd cc
      by false is = record { some = λ none. cc; fit = orphan_top gap s (on.top s is h) }
  above_fits gap (s ∷ a ∷ more) e h =
      fits_by gap (is_of segment_form n s) s (left_above segment_form n true (a ∷ more)) (left_above segment_form n false (a ∷ more)) refl h.0
      (above_fits true (a ∷ more) e h.1) (above_fits false (a ∷ more) e h.1)

  -- where the top one is taken out
  CutFits : List Segment → Type 0
  CutFits segments = (segments ≡ []) ⊎ SegmentsFit new (with_top (changed segment_form (with_revoked true)) segments)

  cut_on : (s : Segment) (rest : List Segment) → IsSealedSegment new (CallerFits new) s
      → IsSealedSegment new (λ inside f. TopFits new inside (flag s) f) (flag s) → CutFits rest → CutFits (s ∷ rest)
  unfolding CutFits
  cut_on s [] caller left h = inr left
  cut_on s (a ∷ rest) caller left (inl none) = absurd cc
  cut_on s (a ∷ []) caller left (inr fit) = inr (caller, fit)
  cut_on s (a ∷ b ∷ rest) caller left (inr fit) = inr (caller, fit)

  cut_by : (gap b : Bool) (s : Segment) (gone stays : List Segment) → is_of segment_form n s ≡ b → IsSealedSegment m (CallerFits m) s → CutFits gone
      → CutFits stays → CutFits (cond b gone (orphan_if gap s ∷ stays))
  cut_by gap true s gone stays is h x y = x
  cut_by gap false s gone stays is h x y =
      cut_on (orphan_if gap s) stays (orphan_caller gap s (on.caller s is h)) (orphan_left gap s (on.left s is h)) y

  cut_fits : (gap : Bool) (segments : List Segment) → top_is_of segment_form n segments ≡ true → SegmentsFit m segments
      → CutFits (left_above segment_form n gap segments)
  unfolding CutFits
  cut_fits gap [] e h = absurd h
  cut_fits gap (s ∷ []) e h = by (is_of segment_form n s) refl
    where
      by : (b : Bool) → is_of segment_form n s ≡ b → CutFits (cond b [] (orphan_if gap s ∷ []))
      by true is = inl refl
      by false is = let both : false ≡ true = sym is ∙ e in absurd cc
  cut_fits gap (s ∷ a ∷ more) e h =
      cut_by gap (is_of segment_form n s) s (left_above segment_form n true (a ∷ more)) (left_above segment_form n false (a ∷ more)) refl h.0
      (cut_fits true (a ∷ more) e h.1) (cut_fits false (a ∷ more) e h.1)

  pub left_fit : (segments : List Segment) → SegmentsFit m segments
      → (segments_left segment_form n segments ≡ []) ⊎ SegmentsFit new (segments_left segment_form n segments)
  unfolding CutFits
  left_fit segments h = by (top_is_of segment_form n segments) refl
    where
      cut : (xs : List Segment) → CutFits xs
          → (with_top (changed segment_form (with_revoked true)) xs ≡ []) ⊎ SegmentsFit new (with_top (changed segment_form (with_revoked true)) xs)
      cut [] h = inl refl
      cut (x ∷ xs) (inl none) = absurd cc
      cut (x ∷ xs) (inr fit) = inr fit

      by : (b : Bool) → top_is_of segment_form n segments ≡ b
          → (cond b (with_top (changed segment_form (with_revoked true)) (left_above segment_form n false segments))
          (left_above segment_form n false segments) ≡ [])
          ⊎ SegmentsFit new
          (cond b (with_top (changed segment_form (with_revoked true)) (left_above segment_form n false segments))
          (left_above segment_form n false segments))
      by true e = cut (left_above segment_form n false segments) (cut_fits false segments e h)
      by false e = inr (above_fits false segments e h).fit

-- ---- That they answer.

module _ (n : DomainId) (classes : List ClassRecord) where
  -- the first of what is left above a gap is an orphan
  first_orphan : List Segment → Type 0
  first_orphan [] = Unit {0}
  first_orphan (s ∷ more) = s.shared.orphan ≡ true

  orphan_by : (b : Bool) (s : Segment) (gone stays : List Segment) → first_orphan gone → first_orphan (cond b gone (orphan_if true s ∷ stays))
  unfolding first_orphan
  orphan_by true s gone stays h = h
  orphan_by false s gone stays h = refl

  above_orphan : (segments : List Segment) → first_orphan (left_above segment_form n true segments)
  unfolding first_orphan
  above_orphan [] = tt
  above_orphan (s ∷ more) =
      orphan_by (is_of segment_form n s) s (left_above segment_form n true more) (left_above segment_form n false more) (above_orphan more)

  -- the one below, and what is left above it
  Answered : Segment → List Segment → Type 0
  Answered s [] = Unit {0}
  Answered s (r ∷ rest) = (r.shared.orphan ≡ true) ⊎ SegmentAnswers classes s r

  answers_with : (s : Segment) (rest : List Segment) → FramesAnswer classes s.frames → Answered s rest → SegmentsAnswer classes rest
      → SegmentsAnswer classes (s ∷ rest)
  unfolding Answered
  answers_with s [] frames a h = frames
  answers_with s (r ∷ rest) frames a h = (frames, a, h)

  by_orphan : (s : Segment) (rest : List Segment) → first_orphan rest → Answered s rest
  unfolding Answered first_orphan
  by_orphan s [] h = tt
  by_orphan s (r ∷ rest) h = inl h

  orphan_answers : (gap : Bool) (s : Segment) (rest : List Segment) → Answered s rest → Answered (orphan_if gap s) rest
  unfolding Answered
  orphan_answers gap s [] h = tt
  orphan_answers gap s (r ∷ rest) (inl orphan) = inl orphan
  orphan_answers true s (r ∷ rest) (inr a) =
      inr (record {
        callers = a.callers;
        caller = a.caller;
        are_below = a.are_below;
        lowest = a.lowest;
        others = a.others;
        are_above = a.are_above;
        answers = a.answers;
      })
  orphan_answers false s (r ∷ rest) (inr a) = inr a

  frames_if : (gap : Bool) (s : Segment) → FramesAnswer classes s.frames → FramesAnswer classes (orphan_if gap s).frames
  frames_if true s h = h
  frames_if false s h = h

  -- what a segment answers it answers whatever its flags are
  first_left : (s a : Segment) (more : List Segment) → (a.shared.orphan ≡ true) ⊎ SegmentAnswers classes s a
      → Answered s (left_above segment_form n false (a ∷ more))
  unfolding Answered
  first_left s a more h = by (is_of segment_form n a)
    where
      by : (b : Bool) → Answered s (cond b (left_above segment_form n true more) (a ∷ left_above segment_form n false more))
      by true = by_orphan s (left_above segment_form n true more) (above_orphan more)
      by false = h

  answers_by : (gap b : Bool) (s : Segment) (gone stays : List Segment) → FramesAnswer classes s.frames → Answered s stays → SegmentsAnswer classes gone
      → SegmentsAnswer classes stays → SegmentsAnswer classes (cond b gone (orphan_if gap s ∷ stays))
  answers_by gap true s gone stays frames a x y = x
  answers_by gap false s gone stays frames a x y = answers_with (orphan_if gap s) stays (frames_if gap s frames) (orphan_answers gap s stays a) y

  above_answers : (gap : Bool) (segments : List Segment) → SegmentsAnswer classes segments → SegmentsAnswer classes (left_above segment_form n gap segments)
  above_answers gap [] h = h
  above_answers gap (s ∷ []) h = by (is_of segment_form n s)
    where
      by : (b : Bool) → SegmentsAnswer classes (cond b [] (orphan_if gap s ∷ []))
      by true = tt
      by false = frames_if gap s h
  above_answers gap (s ∷ a ∷ more) h =
      answers_by gap (is_of segment_form n s) s (left_above segment_form n true (a ∷ more)) (left_above segment_form n false (a ∷ more)) h.0
      (first_left s a more h.1) (above_answers true (a ∷ more) h.2) (above_answers false (a ∷ more) h.2)

  flagged_answers : (rest : List Segment) → SegmentsAnswer classes rest → SegmentsAnswer classes (with_top (changed segment_form (with_revoked true)) rest)
  flagged_answers [] h = h
  flagged_answers (r ∷ []) h = h
  flagged_answers (r ∷ a ∷ []) h = (h.0, again h.1, h.2)
    where
      again : (a.shared.orphan ≡ true) ⊎ SegmentAnswers classes r a → (a.shared.orphan ≡ true) ⊎ SegmentAnswers classes r (flag a)
      again (inl orphan) = inl orphan
      again (inr x) =
          inr (record {
            callers = x.callers;
            caller = x.caller;
            are_below = x.are_below;
            lowest = x.lowest;
            others = x.others;
            are_above = x.are_above;
            answers = x.answers;
          })
  flagged_answers (r ∷ a ∷ b ∷ rest) h = (h.0, h.1, flagged_answers (a ∷ b ∷ rest) h.2)

  pub left_answer : (segments : List Segment) → SegmentsAnswer classes segments → SegmentsAnswer classes (segments_left segment_form n segments)
  left_answer segments h = by (top_is_of segment_form n segments)
    where
      by : (b : Bool)
          → SegmentsAnswer classes
          (cond b (with_top (changed segment_form (with_revoked true)) (left_above segment_form n false segments))
          (left_above segment_form n false segments))
      by true = flagged_answers (left_above segment_form n false segments) (above_answers false segments h)
      by false = above_answers false segments h
