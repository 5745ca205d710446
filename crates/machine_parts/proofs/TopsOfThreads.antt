-- The top segment of a thread of the machine is that of the thread that domains share, with its frames.
use Rattle.std.proofs.Common.{◌≡◌, ◌==◌, Bool, true, false, cond, find, List, [], ◌∷◌, ◌++◌, map, Option, Some, None, option_map, refl, sym, ap, ◌∙◌}
use Rattle.std.specs.Prelude.{option_and_then}
use Rattle.std.proofs.lemmas.List.{map-append}
use Rattle.std.proofs.lemmas.Option.{same_Some}
use Rattle.jk_model.specs.declared.identifiers.ThreadNo.{ThreadNo}
use Rattle.jk_model_sharing.specs.Segments.{SharedSegment, SharedThread, top_of, top_segment, without_top}
use Rattle.jk_model_sharing.specs.Segments.{thread_numbered as shared_thread}
use Rattle.jk_model_machine_state.specs.Machines.{IsLiveThread, Segment, Thread, thread_numbered}
use Rattle.jk_model_machine_state.specs.Places.{LiveDomain, RunningSegment}
use Rattle.frame_store.specs.FrameContents.{FrameContent}
use Rattle.machine_parts.specs.MachineParts.{MachineParts, machine_of, segment_with_frames, thread_with_frames}
use Rattle.machine_parts.specs.RunningParts.{StandsOnTop}

-- ---- Threads by their numbers.

found_step : (c : FrameContent) (b : Bool) (t : SharedThread) (o : Option SharedThread) (r : Option Thread) → r ≡ option_map (thread_with_frames c) o
    → cond b (Some (thread_with_frames c t)) r ≡ option_map (thread_with_frames c) (cond b (Some t) o)
found_step c true t o r h = refl
found_step c false t o r h = h

threads_found : (c : FrameContent) (n : ThreadNo) (threads : List SharedThread)
    → find (λ (e : Thread). e.number.0 == n.0) (map (thread_with_frames c) threads) ≡ option_map (thread_with_frames c) (shared_thread threads n)
threads_found c n [] = refl
threads_found c n (t ∷ threads) =
    found_step c (t.number.0 == n.0) t (shared_thread threads n)
    (find (λ (e : Thread). e.number.0 == n.0) (map (thread_with_frames c) threads)) (threads_found c n threads)

-- what is there with its frames is there without them
with_frames : (c : FrameContent) (o : Option SharedThread) (thread : Thread) → option_map (thread_with_frames c) o ≡ Some thread
    → (e : SharedThread) × (o ≡ Some e) × (thread_with_frames c e ≡ thread)
with_frames c None thread is = absurd cc
with_frames c (Some e) thread is = (e, refl, same_Some (thread_with_frames c e) thread is)

shared_of : (p : MachineParts) (t : ThreadNo) (thread : Thread) → thread_numbered (machine_of p) t ≡ Some thread
    → (e : SharedThread) × (shared_thread p.shared.threads t ≡ Some e) × (thread_with_frames p.frames e ≡ thread)
shared_of p t thread is =
    with_frames p.frames (shared_thread p.shared.threads t) thread (sym (threads_found p.frames t p.shared.threads) ∙ is)

pub lives_in_both : (p : MachineParts) (t : ThreadNo) → IsLiveThread (machine_of p) t → (e : SharedThread) × (shared_thread p.shared.threads t ≡ Some e)
lives_in_both p t live = let found = shared_of p t live.0 live.1 in (found.0, found.1)

pub lives_in_machine : (p : MachineParts) (t : ThreadNo) (e : SharedThread) → shared_thread p.shared.threads t ≡ Some e → IsLiveThread (machine_of p) t
lives_in_machine p t e is =
    (thread_with_frames p.frames e, threads_found p.frames t p.shared.threads ∙ ap (option_map (thread_with_frames p.frames)) is)

-- ---- Tops of stacks.

tops_are : (c : FrameContent) (segments : List SharedSegment) (lower : List Segment) (top : Segment)
    → map (segment_with_frames c) segments ≡ lower ++ top ∷ []
    → (s : SharedSegment) × (top_of segments ≡ Some s) × (top ≡ segment_with_frames c s)
    × (lower ≡ map (segment_with_frames c) (without_top segments))
tops_are c [] [] top is = absurd cc
tops_are c [] (x ∷ lower) top is = absurd cc
tops_are c (s ∷ []) [] top is = (s, refl, sym (first_of is), refl)
  where
    first_of : segment_with_frames c s ∷ [] ≡ top ∷ [] → segment_with_frames c s ≡ top
    first_of e = cc
tops_are c (s ∷ []) (x ∷ []) top is = absurd cc
tops_are c (s ∷ []) (x ∷ y ∷ lower) top is = absurd cc
tops_are c (s ∷ above ∷ more) [] top is = absurd cc
tops_are c (s ∷ above ∷ more) (x ∷ lower) top is =
    let first : segment_with_frames c s ≡ x = cc in
    let rest : map (segment_with_frames c) (above ∷ more) ≡ lower ++ top ∷ [] = cc in
    let later = tops_are c (above ∷ more) lower top rest in
    (later.0, later.1, later.2, λ i. sym first i ∷ later.3 i)

pub split_top : (segments : List SharedSegment) (s : SharedSegment) → top_of segments ≡ Some s → segments ≡ without_top segments ++ s ∷ []
split_top [] s is = absurd cc
split_top (x ∷ []) s is = ap (λ (y : SharedSegment). y ∷ []) (same_Some x s is)
split_top (x ∷ above ∷ more) s is = ap (λ (xs : List SharedSegment). x ∷ xs) (split_top (above ∷ more) s is)

-- ---- Running segments.

pub stands_on_top : (p : MachineParts) (t : ThreadNo) (r : RunningSegment (machine_of p) t) → StandsOnTop p t r
stands_on_top p t r =
    let found = shared_of p t r.thread r.is_thread in
    let segments : map (segment_with_frames p.frames) found.0.segments ≡ r.lower ++ r.segment ∷ [] =
    ap (λ (x : Thread). x.segments) found.2 ∙ r.are_segments in
    let top = tops_are p.frames found.0.segments r.lower r.segment segments in
    record {
      thread = found.0;
      is_thread = found.1;
      segment = top.0;
      is_top = ap (option_and_then (λ (e : SharedThread). top_of e.segments)) found.1 ∙ top.1;
      runs = top.2;
      lower = top.3;
    }

pub top_runs : (p : MachineParts) (t : ThreadNo) (s : SharedSegment) → top_segment p.shared.threads t ≡ Some s → LiveDomain (machine_of p) s.domain
    → RunningSegment (machine_of p) t
top_runs p t s is home = by (shared_thread p.shared.threads t) refl is
  where
    by : (o : Option SharedThread) → shared_thread p.shared.threads t ≡ o → option_and_then (λ (e : SharedThread). top_of e.segments) o ≡ Some s
        → RunningSegment (machine_of p) t
    by None there top = absurd cc
    by (Some e) there top = record {
      thread = thread_with_frames p.frames e;
      is_thread = threads_found p.frames t p.shared.threads ∙ ap (option_map (thread_with_frames p.frames)) there;
      lower = map (segment_with_frames p.frames) (without_top e.segments);
      segment = segment_with_frames p.frames s;
      are_segments = ap (map (segment_with_frames p.frames)) (split_top e.segments s top)
          ∙ map-append (segment_with_frames p.frames) (without_top e.segments) (s ∷ []);
      home = home;
    }
