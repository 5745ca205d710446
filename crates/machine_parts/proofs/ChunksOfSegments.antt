-- A segment costs a chunk at least, so a domain has no more segments than it uses chunks.
use Rattle.std.proofs.Common.{◌≡◌, ℕ, ◌+◌, ◌≤◌, ◌==◌, Bool, true, false, cond, filter, List, [], ◌∷◌, length, map, arith}
use Rattle.std.specs.Prelude.{sum_by}
use Rattle.std.proofs.lemmas.List.Sums.{sum_by-cons}
use Rattle.jk_model.specs.declared.identifiers.DomainId.{DomainId}
use Rattle.jk_model_frames.specs.Frames.{FrameState, segment_chunks}
use Rattle.jk_model_sharing.specs.Segments.{SharedSegment, SharedThread, count_segments_of, is_of, shared_form}
use Rattle.jk_model_machine_state.specs.Machines.{Thread, chunks_of}
use Rattle.frame_store.specs.FrameContents.{FrameContent}
use Rattle.machine_parts.specs.MachineParts.{segment_with_frames, thread_with_frames}

step_chunks : (b : Bool) (s : SharedSegment) (segments : List SharedSegment) (frames : List FrameState) (rest : ℕ) → length segments ≤ rest
    → length (cond b (s ∷ segments) segments) ≤ cond b (segment_chunks frames) 0 + rest
step_chunks true s segments frames rest fewer = omega (arith, fewer)
step_chunks false s segments frames rest fewer = omega (arith, fewer)

pub segments_cost : (c : FrameContent) (d : DomainId) (segments : List SharedSegment)
    → length (filter (is_of shared_form d) segments) ≤ sum_by (chunks_of d) (map (segment_with_frames c) segments)
segments_cost c d [] = omega arith
segments_cost c d (s ∷ segments) =
    let rest = sum_by (chunks_of d) (map (segment_with_frames c) segments) in
    let here = step_chunks (s.domain.0 == d.0) s (filter (is_of shared_form d) segments) (segment_with_frames c s).frames rest (segments_cost c d segments) in
    let sum = sum_by-cons (chunks_of d) (segment_with_frames c s) (map (segment_with_frames c) segments) in
    omega (arith, here, sum)

abbrev chunks_on : DomainId → Thread → ℕ
chunks_on d t = sum_by (chunks_of d) t.segments

abbrev segments_on : DomainId → SharedThread → ℕ
segments_on d t = length (filter (is_of shared_form d) t.segments)

pub segments_within : (c : FrameContent) (d : DomainId) (threads : List SharedThread)
    → count_segments_of threads d ≤ sum_by (chunks_on d) (map (thread_with_frames c) threads)
segments_within c d [] = omega arith
segments_within c d (t ∷ threads) =
    let first = sum_by-cons (segments_on d) t threads in
    let second = sum_by-cons (chunks_on d) (thread_with_frames c t) (map (thread_with_frames c) threads) in
    omega (arith, first, second, segments_cost c d t.segments, segments_within c d threads)
