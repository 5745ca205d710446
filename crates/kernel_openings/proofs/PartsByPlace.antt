-- Domains and threads of a machine, by what stands in the parts.
use Rattle.std.proofs.Common.{◌≡◌, ◌≢◌, ℕ, ◌==◌, ◌⊎◌, inl, inr, Bool, true, false, cond, filter, List, [], ◌∷◌, length, map, slice_get, Contains, Option, Some, None, refl, sym, ap, ◌∙◌, arith}
use Rattle.std.proofs.lemmas.Bool.{eqb-false, eqb-true}
use Rattle.std.proofs.lemmas.Option.{slice_get_within}
use Rattle.list_lemmas.proofs.ItemsByPlace.{comes_from, item_there}
use Rattle.list_lemmas.proofs.ItemsOfLists.{Contains-at, place_of}
use Rattle.jk_model.specs.declared.identifiers.DomainId.{DomainId}
use Rattle.jk_model.specs.declared.identifiers.SegmentNo.{SegmentNo}
use Rattle.jk_model_classes.specs.Worlds.{DomainRecord}
use Rattle.jk_model_domains.specs.OwnStates.{OwnState}
use Rattle.jk_model_sharing.specs.Segments.{SharedSegment, SharedThread, count_started_in, is_of}
use Rattle.jk_model_sharing.specs.SharedStates.{SharedDomain}
use Rattle.jk_model_machine_state.specs.Machines.{Segment, Thread}
use Rattle.jk_model_machine_state.specs.Places.{LiveDomain}
use Rattle.frame_store.specs.FrameContents.{FrameContent}
use Rattle.machine_parts.specs.ChangedParts.{StandsInParts}
use Rattle.machine_parts.specs.FittingParts.{HaveOneList}
use Rattle.machine_parts.specs.MachineParts.{MachineParts, domain_state, inside_of, machine_of, segment_with_frames, thread_with_frames}
use Rattle.machine_parts.proofs.DomainsOfParts.{live_domain_is_of_parts, state_at}

-- ---- Numbers.

pub same_domain : (d e : DomainId) → e.0 ≡ d.0 → e ≡ d
same_domain d e same = λ i. record { 0 = same i }

pub same_segment : (n r : SegmentNo) → r.0 ≡ n.0 → r ≡ n
same_segment n r same = λ i. record { 0 = same i }

by_test : (d e : DomainId) (b : Bool) → e.0 == d.0 ≡ b → (e ≡ d) ⊎ (e ≢ d)
by_test d e true is = inl (same_domain d e (eqb-true e.0 d.0 is))
by_test d e false is = inr (λ same. eqb-false e.0 d.0 is (ap (λ (x : DomainId). x.0) same))

pub this_or_other : (d e : DomainId) → (e ≡ d) ⊎ (e ≢ d)
this_or_other d e = by_test d e (e.0 == d.0) refl

segment_by_test : (n r : SegmentNo) (b : Bool) → r.0 == n.0 ≡ b → (r ≡ n) ⊎ (r ≢ n)
segment_by_test n r true is = inl (same_segment n r (eqb-true r.0 n.0 is))
segment_by_test n r false is = inr (λ same. eqb-false r.0 n.0 is (ap (λ (x : SegmentNo). x.0) same))

pub this_segment_or_other : (n r : SegmentNo) → (r ≡ n) ⊎ (r ≢ n)
this_segment_or_other n r = segment_by_test n r (r.0 == n.0) refl

-- ---- Domains.

-- what stands in the parts with an own state lives in the machine
abbrev pub live_from : (p : MachineParts) (d : DomainId) (own : OwnState) (names : DomainRecord) (s : SharedDomain) → StandsInParts p d own names s
    → LiveDomain (machine_of p) d
live_from p d own names s h = record {
  domain = domain_state p.heap p.frames names s (Some own);
  is_domain = state_at p.heap p.frames p.world.domains p.shared.domains p.owns d.0 names s (Some own) h.is_named h.is_shared h.is_own;
  numbered = h.number;
  inside = inside_of p.heap p.frames names.id own;
  is_inside = refl;
}

-- a domain lives where it has an own state, and nowhere else
pub lives_or_not : (p : MachineParts) → HaveOneList p → (d : DomainId) → LiveDomain (machine_of p) d ⊎ (LiveDomain (machine_of p) d → ⊥)
lives_or_not p one d = by (slice_get p.owns d.0) refl
  where
    never_by : (o : Option (Option OwnState)) → slice_get p.owns d.0 ≡ o → ((x : OwnState) → o ≡ Some (Some x) → ⊥) → LiveDomain (machine_of p) d → ⊥
    never_by o is none live =
        let there = live_domain_is_of_parts p d live one in
        none there.0 (sym is ∙ there.3.is_own)

    by : (o : Option (Option OwnState)) → slice_get p.owns d.0 ≡ o → LiveDomain (machine_of p) d ⊎ (LiveDomain (machine_of p) d → ⊥)
    by None is = inr (never_by None is (λ x e. cc))
    by (Some None) is = inr (never_by (Some None) is (λ x e. cc))
    by (Some (Some own)) is =
        let low = slice_get_within p.owns d.0 (Some own) is in
        let names = item_there p.world.domains d.0 (omega (arith, low, one.owns)) in
        let s = item_there p.shared.domains d.0 (omega (arith, low, one.owns, one.shared)) in
        inl (live_from p d own names.0 s.0 (record {
          is_named = names.1;
          is_shared = s.1;
          is_own = is;
          number = same_domain d names.0.id (one.numbered d.0 names.0 names.1);
        }))

-- ---- Threads.

pub from_shared_thread : (c : FrameContent) (threads : List SharedThread) (t : Thread) → Contains (map (thread_with_frames c) threads) t
    → (x : SharedThread) × Contains threads x × (thread_with_frames c x ≡ t)
from_shared_thread c threads t there =
    let at = place_of (map (thread_with_frames c) threads) t there in
    let from = comes_from (thread_with_frames c) threads at.0 t at.1 in
    (from.from, Contains-at threads at.0 from.from from.there, from.gives)

pub from_shared_segment : (c : FrameContent) (segments : List SharedSegment) (s : Segment) → Contains (map (segment_with_frames c) segments) s
    → (x : SharedSegment) × Contains segments x × (segment_with_frames c x ≡ s)
from_shared_segment c segments s there =
    let at = place_of (map (segment_with_frames c) segments) s there in
    let from = comes_from (segment_with_frames c) segments at.0 s at.1 in
    (from.from, Contains-at segments at.0 from.from from.there, from.gives)

-- as many threads were started in a domain
step_started : (b : Bool) (t : Thread) (n m : ℕ) (threads : List Thread) (others : List SharedThread) (x : SharedThread) → length threads ≡ length others
    → length (cond b (t ∷ threads) threads) ≡ length (cond b (x ∷ others) others)
step_started true t n m threads others x same = omega (arith, same)
step_started false t n m threads others x same = same

pub started_same : (c : FrameContent) (d : DomainId) (threads : List SharedThread)
    → length (filter (λ (t : Thread). t.domain.0 == d.0) (map (thread_with_frames c) threads)) ≡ count_started_in threads d
started_same c d [] = refl
started_same c d (t ∷ threads) =
    step_started (t.domain.0 == d.0) (thread_with_frames c t) 0 0
    (filter (λ (x : Thread). x.domain.0 == d.0) (map (thread_with_frames c) threads)) (filter (λ (x : SharedThread). x.domain.0 == d.0) threads) t
    (started_same c d threads)
