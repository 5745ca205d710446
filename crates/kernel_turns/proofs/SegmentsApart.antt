-- Threads and segments have different numbers in the machine exactly where they have in what domains share.
use Rattle.std.proofs.Common.{◌≡◌, ◌==◌, Bool, true, false, cond, List, slice_get, refl, sym, ap, ◌∙◌}
use Rattle.jk_model.specs.declared.identifiers.SegmentNo.{SegmentNo}
use Rattle.jk_model_sharing.specs.Segments.{SharedSegment, SharedThread, shared_form, with_segment, with_segments, with_stacks}
use Rattle.jk_model_machine_state.specs.Machines.{Segment, Thread}
use Rattle.list_lemmas.proofs.ItemsByPlace.{comes_from, mapped_at}
use Rattle.machine_parts.specs.ChangedParts.{AreSegmentsApart}
use Rattle.machine_parts.specs.MachineParts.{MachineParts, machine_of, segment_with_frames, thread_with_frames}
use Rattle.kernel_turns.specs.LiveThreads.{AreApart}

-- ---- What domains share.

module _ (p : MachineParts) where
  pub apart_in_shared : AreSegmentsApart (machine_of p) → AreApart p.shared.threads
  apart_in_shared h = record {
    threads = λ i j a b at there same.
        h.threads i j (thread_with_frames p.frames a) (thread_with_frames p.frames b) (mapped_at (thread_with_frames p.frames) p.shared.threads i a at)
        (mapped_at (thread_with_frames p.frames) p.shared.threads j b there) same;
    segments = λ i j k l a b s r at there in_it other same.
        h.segments i j k l (thread_with_frames p.frames a) (thread_with_frames p.frames b) (segment_with_frames p.frames s)
        (segment_with_frames p.frames r) (mapped_at (thread_with_frames p.frames) p.shared.threads i a at)
        (mapped_at (thread_with_frames p.frames) p.shared.threads j b there) (mapped_at (segment_with_frames p.frames) a.segments k s in_it)
        (mapped_at (segment_with_frames p.frames) b.segments l r other) same;
  }

  pub apart_in_machine : AreApart p.shared.threads → AreSegmentsApart (machine_of p)
  apart_in_machine h = record {
    threads = λ i j a b at there same.
        let x = comes_from (thread_with_frames p.frames) p.shared.threads i a at in
        let y = comes_from (thread_with_frames p.frames) p.shared.threads j b there in
        h.threads i j x.from y.from x.there y.there
        (ap (λ (e : Thread). e.number) x.gives ∙ same ∙ sym (ap (λ (e : Thread). e.number) y.gives));
    segments = λ i j k l a b s r at there in_it other same.
        let x = comes_from (thread_with_frames p.frames) p.shared.threads i a at in
        let y = comes_from (thread_with_frames p.frames) p.shared.threads j b there in
        let u =
        comes_from (segment_with_frames p.frames) x.from.segments k s (ap (λ (e : Thread). slice_get e.segments k) x.gives ∙ in_it) in
        let v =
        comes_from (segment_with_frames p.frames) y.from.segments l r (ap (λ (e : Thread). slice_get e.segments l) y.gives ∙ other) in
        h.segments i j k l x.from y.from u.from v.from x.there y.there u.there v.there
        (ap (λ (e : Segment). e.shared.number) u.gives ∙ same ∙ sym (ap (λ (e : Segment). e.shared.number) v.gives));
  }

-- ---- Flags.

module _ (n : SegmentNo) (change : SharedSegment → SharedSegment) (keeps : (s : SharedSegment) → (change s).number ≡ s.number) where
  pub number_by : (b : Bool) (s : SharedSegment) → (cond b (change s) s).number ≡ s.number
  number_by true s = keeps s
  number_by false s = refl

  -- what becomes of each segment
  abbrev pub flag_of : SharedSegment → SharedSegment
  flag_of s = cond (s.number.0 == n.0) (change s) s

  pub apart_flagged : (threads : List SharedThread) → AreApart threads → AreApart (with_stacks (with_segment shared_form n change) threads)
  apart_flagged threads h = record {
    threads = λ i j a b at there same.
        let x = comes_from (with_segments (with_segment shared_form n change)) threads i a at in
        let y = comes_from (with_segments (with_segment shared_form n change)) threads j b there in
        h.threads i j x.from y.from x.there y.there
        (ap (λ (e : SharedThread). e.number) x.gives ∙ same ∙ sym (ap (λ (e : SharedThread). e.number) y.gives));
    segments = λ i j k l a b s r at there in_it other same.
        let x = comes_from (with_segments (with_segment shared_form n change)) threads i a at in
        let y = comes_from (with_segments (with_segment shared_form n change)) threads j b there in
        let u =
        comes_from flag_of x.from.segments k s (ap (λ (e : SharedThread). slice_get e.segments k) x.gives ∙ in_it) in
        let v =
        comes_from flag_of y.from.segments l r (ap (λ (e : SharedThread). slice_get e.segments l) y.gives ∙ other) in
        h.segments i j k l x.from y.from u.from v.from x.there y.there u.there v.there
        (sym (number_by (u.from.number.0 == n.0) u.from) ∙ ap (λ (e : SharedSegment). e.number) u.gives ∙ same
        ∙ sym (ap (λ (e : SharedSegment). e.number) v.gives) ∙ number_by (v.from.number.0 == n.0) v.from);
  }
