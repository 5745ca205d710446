-- A flag of the segment of a number is set or cleared in a sealed machine, whatever stands above it: the machine is sealed, and calls stay answered.
use Rattle.std.proofs.Common.{◌≡◌, ◌⊎◌, inl, inr, Bool, true, false, cond, List, [], ◌∷◌, ◌++◌, map, refl, sym, ap, subst, ◌∙◌, arith}
use Rattle.jk_model.specs.declared.identifiers.ClassId.{ClassId}
use Rattle.jk_model.specs.declared.identifiers.DomainId.{DomainId}
use Rattle.jk_model.specs.declared.identifiers.SegmentNo.{SegmentNo}
use Rattle.jk_model_classes.specs.declared.records.ClassRecord.{ClassRecord}
use Rattle.jk_model_sealing.specs.AnsweringFrames.{FramesAnswer}
use Rattle.jk_model_sharing.specs.Segments.{SharedSegment, changed, is_numbered, with_revoked, with_segment, with_stop, with_suspended}
use Rattle.jk_model_machine_state.specs.Machines.{Machine, Segment, Thread, chunks_of, segment_form}
use Rattle.jk_model_runs.specs.AnsweredCalls.{AreCallsAnswered, SegmentAnswers, SegmentsAnswer}
use Rattle.jk_model_runs.specs.Sealed.{CallerFits, IsSealed, IsSealedSegment, SegmentsFit, TopFits, segment_initialisers}
use Rattle.list_lemmas.proofs.ItemsByPlace.{comes_from}
use Rattle.list_lemmas.proofs.ItemsOfLists.{Contains-at, place_of}
use Rattle.machine_laws.proofs.ChangedItems.{sums_stay}
use Rattle.machine_laws.proofs.ThreadsThinned.{Thins, sealed_thinned, segment_thinned, thinned}

-- whether a segment is suspended, or is to stop
pub data Flag : Type 0 where
  Suspension : Bool → Flag
  Stop : Bool → Flag

abbrev pub set_flag : Flag → SharedSegment → SharedSegment
set_flag (Suspension on) = with_suspended on
set_flag (Stop on) = with_stop on

module _ (n : SegmentNo) (flag : Flag) where
  abbrev pub flags : Segment → Segment
  flags s = cond (is_numbered segment_form n s) (changed segment_form (set_flag flag) s) s

  abbrev pub flags_thread : Thread → Thread
  flags_thread e = record e { segments = with_segment segment_form n (set_flag flag) e.segments }

  part_by : {X : Type 0} (part : Segment → X) → ((s : Segment) → part (changed segment_form (set_flag flag) s) ≡ part s) → (b : Bool) (s : Segment)
      → part (cond b (changed segment_form (set_flag flag) s) s) ≡ part s
  part_by part h true s = h s
  part_by part h false s = refl

  pub part_stays : {X : Type 0} (part : Segment → X) → ((s : Segment) → part (changed segment_form (set_flag flag) s) ≡ part s) → (s : Segment)
      → part (flags s) ≡ part s
  part_stays part h s = part_by part h (is_numbered segment_form n s) s

number_set : (flag : Flag) (s : Segment) → (changed segment_form (set_flag flag) s).shared.number ≡ s.shared.number
number_set (Suspension on) s = refl
number_set (Stop on) s = refl

domain_set : (flag : Flag) (s : Segment) → (changed segment_form (set_flag flag) s).shared.domain ≡ s.shared.domain
domain_set (Suspension on) s = refl
domain_set (Stop on) s = refl

orphan_set : (flag : Flag) (s : Segment) → (changed segment_form (set_flag flag) s).shared.orphan ≡ s.shared.orphan
orphan_set (Suspension on) s = refl
orphan_set (Stop on) s = refl

frames_set : (flag : Flag) (s : Segment) → (changed segment_form (set_flag flag) s).frames ≡ s.frames
frames_set (Suspension on) s = refl
frames_set (Stop on) s = refl

chunks_set : (flag : Flag) (d : DomainId) (s : Segment) → chunks_of d (changed segment_form (set_flag flag) s) ≡ chunks_of d s
chunks_set (Suspension on) d s = refl
chunks_set (Stop on) d s = refl

initialisers_set : (flag : Flag) (d : DomainId) (c : ClassId) (s : Segment)
    → segment_initialisers d c (changed segment_form (set_flag flag) s) ≡ segment_initialisers d c s
initialisers_set (Suspension on) d c s = refl
initialisers_set (Stop on) d c s = refl

revoked_by : (flag : Flag) (b : Bool) (s : Segment)
    → cond b (changed segment_form (set_flag flag) (record s { shared = with_revoked true s.shared })) (record s { shared = with_revoked true s.shared })
    ≡ record (cond b (changed segment_form (set_flag flag) s) s) { shared = with_revoked true (cond b (changed segment_form (set_flag flag) s) s).shared }
revoked_by (Suspension on) true s = refl
revoked_by (Stop on) true s = refl
revoked_by flag false s = refl

-- with a RevokedException pending besides
pub flags_revoked : (n : SegmentNo) (flag : Flag) (s : Segment)
    → flags n flag (record s { shared = with_revoked true s.shared })
    ≡ record (flags n flag s) { shared = with_revoked true (flags n flag s).shared }
flags_revoked n flag s = revoked_by flag (is_numbered segment_form n s) s

pub flags_domain : (n : SegmentNo) (flag : Flag) (s : Segment) → (flags n flag s).shared.domain ≡ s.shared.domain
flags_domain n flag s = part_stays n flag (λ (x : Segment). x.shared.domain) (domain_set flag) s

pub flags_number : (n : SegmentNo) (flag : Flag) (s : Segment) → (flags n flag s).shared.number ≡ s.shared.number
flags_number n flag s = part_stays n flag (λ (x : Segment). x.shared.number) (number_set flag) s

pub flags_orphan : (n : SegmentNo) (flag : Flag) (s : Segment) → (flags n flag s).shared.orphan ≡ s.shared.orphan
flags_orphan n flag s = part_stays n flag (λ (x : Segment). x.shared.orphan) (orphan_set flag) s

pub flags_frames : (n : SegmentNo) (flag : Flag) (s : Segment) → (flags n flag s).frames ≡ s.frames
flags_frames n flag s = part_stays n flag (λ (x : Segment). x.frames) (frames_set flag) s

pub flags_front : (n : SegmentNo) (flag : Flag) (lower : List Segment) (s : Segment)
    → map (flags n flag) (lower ++ s ∷ []) ≡ map (flags n flag) lower ++ flags n flag s ∷ []
flags_front n flag [] s = refl
flags_front n flag (a ∷ lower) s = ap (λ (ss : List Segment). flags n flag a ∷ ss) (flags_front n flag lower s)

-- ---- In a sealed machine.

module _ (n : SegmentNo) (flag : Flag) (m : Machine) (sealed : IsSealed m) where
  abbrev pub flagged : Machine
  flagged = thinned m (flags_thread n flag)

  top_by : (z : Flag) (b : Bool) (s : Segment) → IsSealedSegment flagged (λ inside f. TopFits flagged inside s f) s
      → IsSealedSegment flagged (λ inside f. TopFits flagged inside (cond b (changed segment_form (set_flag z) s) s) f)
      (cond b (changed segment_form (set_flag z) s) s)
  top_by (Suspension on) true s h = record { home = h.home; frames = h.frames }
  top_by (Stop on) true s h = record { home = h.home; frames = h.frames }
  top_by z false s h = h

  caller_by : (z : Flag) (b : Bool) (s : Segment) → IsSealedSegment flagged (CallerFits flagged) s
      → IsSealedSegment flagged (CallerFits flagged) (cond b (changed segment_form (set_flag z) s) s)
  caller_by (Suspension on) true s h = record { home = h.home; frames = h.frames }
  caller_by (Stop on) true s h = record { home = h.home; frames = h.frames }
  caller_by z false s h = h

  fits : (segments : List Segment) → SegmentsFit m segments → SegmentsFit flagged (map (flags n flag) segments)
  fits [] h = h
  fits (s ∷ []) h =
      top_by flag (is_numbered segment_form n s) s (segment_thinned m (flags_thread n flag) (λ inside f. TopFits m inside s f) s h)
  fits (s ∷ above ∷ more) h = (
    caller_by flag (is_numbered segment_form n s) s (segment_thinned m (flags_thread n flag) (CallerFits m) s h.0),
    fits (above ∷ more) h.1,
  )

  thins : Thins m (flags_thread n flag)
  thins = record {
    sealed = sealed;
    number = λ e. refl;
    domain = λ e. refl;
    was = λ e u on has.
        let at = place_of (map (flags n flag) e.segments) u has in
        let from = comes_from (flags n flag) e.segments at.0 u at.1 in
        record {
          before = from.from;
          there = Contains-at e.segments at.0 from.from from.there;
          number = ap (λ (x : Segment). x.shared.number) (sym from.gives) ∙ flags_number n flag from.from;
          domain = ap (λ (x : Segment). x.shared.domain) (sym from.gives) ∙ flags_domain n flag from.from;
        };
    differ = λ e k l s u on s_at u_at same.
        let x = comes_from (flags n flag) e.segments k s s_at in
        let y = comes_from (flags n flag) e.segments l u u_at in
        let at = place_of m.threads e on in
        (sealed.threads.segments_differ at.0 at.0 k l e e x.from y.from at.1 at.1 x.there y.there
        (sym (flags_number n flag x.from) ∙ ap (λ (z : Segment). z.shared.number) x.gives ∙ same
        ∙ ap (λ (z : Segment). z.shared.number) (sym y.gives) ∙ flags_number n flag y.from)).1;
    fits = λ e on. fits e.segments (sealed.threads.segments e on);
    chunks = λ e d on.
        let same = sums_stay (flags n flag) (chunks_of d) (part_stays n flag (chunks_of d) (chunks_set flag d)) e.segments in
        omega (arith, same);
    initialisers = λ e d c on.
        sums_stay (flags n flag) (segment_initialisers d c) (part_stays n flag (segment_initialisers d c) (initialisers_set flag d c)) e.segments;
  }

  pub flagged_sealed : IsSealed flagged
  flagged_sealed = sealed_thinned m (flags_thread n flag) thins

-- ---- Calls stay answered.

module _ (n : SegmentNo) (flag : Flag) (classes : List ClassRecord) where
  answers_by : (z w : Flag) (b c : Bool) (s a : Segment) → SegmentAnswers classes s a
      → SegmentAnswers classes (cond b (changed segment_form (set_flag z) s) s) (cond c (changed segment_form (set_flag w) a) a)
  answers_by z w b c s a h = record {
    callers = h.callers;
    caller = h.caller;
    are_below = frames_by z b s ∙ h.are_below;
    lowest = h.lowest;
    others = h.others;
    are_above = frames_by w c a ∙ h.are_above;
    answers = h.answers;
  }
    where
      frames_by : (z : Flag) (b : Bool) (s : Segment) → (cond b (changed segment_form (set_flag z) s) s).frames ≡ s.frames
      frames_by z true s = frames_set z s
      frames_by z false s = refl

  answered_or : (s a : Segment) → (a.shared.orphan ≡ true) ⊎ SegmentAnswers classes s a
      → ((flags n flag a).shared.orphan ≡ true) ⊎ SegmentAnswers classes (flags n flag s) (flags n flag a)
  answered_or s a (inl orphan) = inl (flags_orphan n flag a ∙ orphan)
  answered_or s a (inr h) = inr (answers_by flag flag (is_numbered segment_form n s) (is_numbered segment_form n a) s a h)

  segments_answer : (segments : List Segment) → SegmentsAnswer classes segments → SegmentsAnswer classes (map (flags n flag) segments)
  segments_answer [] h = h
  segments_answer (s ∷ []) h = subst (FramesAnswer classes) (sym (flags_frames n flag s)) h
  segments_answer (s ∷ above ∷ more) h =
      (subst (FramesAnswer classes) (sym (flags_frames n flag s)) h.0, answered_or s above h.1, segments_answer (above ∷ more) h.2)

pub flagged_answered : (n : SegmentNo) (flag : Flag) (m : Machine) → AreCallsAnswered m → AreCallsAnswered (thinned m (flags_thread n flag))
flagged_answered n flag m h = record {
  segments = λ e on.
      let at = place_of (map (flags_thread n flag) m.threads) e on in
      let from = comes_from (flags_thread n flag) m.threads at.0 e at.1 in
      subst (λ (x : Thread). SegmentsAnswer m.classes x.segments) from.gives
      (segments_answer n flag m.classes from.from.segments (h.segments from.from (Contains-at m.threads at.0 from.from from.there)));
}
