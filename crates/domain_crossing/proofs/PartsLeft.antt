-- Where the parts change as they do when a segment is left and its caller goes on, the machine does so too.
use Rattle.std.proofs.Common.{◌≡◌, ℕ, ◌==◌, Bool, true, false, cond, find, List, [], ◌∷◌, ◌++◌, map, slice_get, Contains, Option, Some, None, option_map, refl, sym, ap, ◌∙◌}
use Rattle.std.proofs.lemmas.Bool.{eqb-true}
use Rattle.std.proofs.lemmas.Option.{same_Some, slice_get-map, slice_get_within}
use Rattle.jk_model.specs.declared.identifiers.ThreadNo.{ThreadNo}
use Rattle.jk_model_classes.specs.Worlds.{WorldRecord}
use Rattle.jk_model_domains.specs.Objects.{NamedObject}
use Rattle.jk_model_domains.specs.OwnStates.{OwnState}
use Rattle.jk_model_frames.specs.Frames.{FrameState}
use Rattle.jk_model_heaps.specs.Workings.{with_heap}
use Rattle.jk_model_sharing.specs.SharedStates.{SharedState, popped}
use Rattle.jk_model_machine_state.specs.Machines.{DomainState, Machine, Segment, Thread, with_inside, with_segments}
use Rattle.jk_model_machine_state.specs.Places.{LiveDomain, RunningSegment, with_running, without_top}
use Rattle.jk_model_crossings.specs.Throwing.{TopTwo}
use Rattle.jk_model_runs.specs.Sealed.{IsSealed}
use Rattle.list_lemmas.proofs.ItemsByPlace.{slice_get-front}
use Rattle.list_lemmas.proofs.ItemsOfLists.{Contains-at}
use Rattle.machine_parts.specs.ChangedParts.{AreSegmentsApart, with_frames_of}
use Rattle.machine_parts.specs.FittingParts.{HaveOneList}
use Rattle.machine_parts.specs.MachineParts.{MachineParts, machine_of}
use Rattle.machine_parts.specs.SharedInMachines.{HaveAllSegments}
use Rattle.machine_parts.proofs.DomainsChanged.{heaps_change_machines}
use Rattle.machine_parts.proofs.SegmentsChanged.{frames_change_machines, running_frames_change}
use Rattle.machine_parts.proofs.RunningChanged.{thread_is}
use Rattle.machine_parts.proofs.TopsGone.{higher_goes_off}
use Rattle.domain_crossing.specs.LeftParts.{LeavesInParts}
use Rattle.domain_crossing.proofs.PartsEntered.{sealed_apart}

-- ---- The machine without the top segment.

module _ (m : Machine) (t : ThreadNo) (r : RunningSegment m t) where
  abbrev cut_off : Thread → Thread
  cut_off e = cond (e.number.0 == t.0) (record e { segments = r.lower }) e

  found_step : (b : Bool) (e : Thread) (o p : Option Thread) → e.number.0 == t.0 ≡ b → p ≡ option_map (λ (x : Thread). record x { segments = r.lower }) o
      → cond ((cond b (record e { segments = r.lower }) e).number.0 == t.0) (Some (cond b (record e { segments = r.lower }) e)) p
      ≡ option_map (λ (x : Thread). record x { segments = r.lower }) (cond b (Some e) o)
  found_step true e o p is h =
      ap (λ (x : Bool). cond x (Some (record e { segments = r.lower })) p) is
  found_step false e o p is h = ap (λ (x : Bool). cond x (Some e) p) is ∙ h

  found_cut : (threads : List Thread) → find (λ (e : Thread). e.number.0 == t.0) (map cut_off threads)
      ≡ option_map (λ (x : Thread). record x { segments = r.lower }) (find (λ (e : Thread). e.number.0 == t.0) threads)
  found_cut [] = refl
  found_cut (e ∷ threads) =
      found_step (e.number.0 == t.0) e (find (λ (x : Thread). x.number.0 == t.0) threads)
      (find (λ (x : Thread). x.number.0 == t.0) (map cut_off threads)) refl (found_cut threads)

  -- its lower segments are left
  lower_left : (s : RunningSegment (without_top r) t) → r.lower ≡ s.lower ++ s.segment ∷ []
  lower_left s =
      let there : Some (record r.thread { segments = r.lower }) ≡ Some s.thread =
      ap (option_map (λ (x : Thread). record x { segments = r.lower })) (sym r.is_thread) ∙ sym (found_cut m.threads) ∙ s.is_thread in
      ap (λ (x : Thread). x.segments) (same_Some (record r.thread { segments = r.lower }) s.thread there) ∙ s.are_segments

  -- what stands at a place of it stood there
  record StoodAt (i : ℕ) (a : Thread) : Type 0 where
    thread : Thread
    is : slice_get m.threads i ≡ Some thread
    same : cut_off thread ≡ a

  stood_by : (i : ℕ) (a : Thread) (o : Option Thread) → slice_get m.threads i ≡ o → option_map cut_off o ≡ Some a → StoodAt i a
  stood_by i a None is e = absurd cc
  stood_by i a (Some x) is e = record { thread = x; is = is; same = same_Some (cut_off x) a e }

  stood_at : (i : ℕ) (a : Thread) → slice_get (without_top r).threads i ≡ Some a → StoodAt i a
  stood_at i a at = stood_by i a (slice_get m.threads i) refl (sym (slice_get-map cut_off m.threads i) ∙ at)

  number_cut : (b : Bool) (e : Thread) → (cond b (record e { segments = r.lower }) e).number ≡ e.number
  number_cut true e = refl
  number_cut false e = refl

  number_stood : (i : ℕ) (a : Thread) (h : StoodAt i a) → h.thread.number ≡ a.number
  number_stood i a h = sym (number_cut (h.thread.number.0 == t.0) h.thread) ∙ ap (λ (x : Thread). x.number) h.same

  module _ (apart : AreSegmentsApart m) where
    segment_cut : (b : Bool) (e : Thread) (k : ℕ) (s : Segment) → Contains m.threads e → e.number.0 == t.0 ≡ b
        → slice_get (cond b (record e { segments = r.lower }) e).segments k ≡ Some s → slice_get e.segments k ≡ Some s
    segment_cut false e k s there is at = at
    segment_cut true e k s there is at =
        let segments : e.segments ≡ r.lower ++ r.segment ∷ [] =
        ap (λ (x : Thread). x.segments) (thread_is m t r apart e there (eqb-true e.number.0 t.0 is)) ∙ r.are_segments in
        ap (λ (xs : List Segment). slice_get xs k) segments ∙ slice_get-front r.lower (r.segment ∷ []) k (slice_get_within r.lower k s at) ∙ at

    segment_stood : (i : ℕ) (a : Thread) (h : StoodAt i a) (k : ℕ) (s : Segment) → slice_get a.segments k ≡ Some s
        → slice_get h.thread.segments k ≡ Some s
    segment_stood i a h k s at =
        segment_cut (h.thread.number.0 == t.0) h.thread k s (Contains-at m.threads i h.thread h.is) refl
        (ap (λ (x : Thread). slice_get x.segments k) h.same ∙ at)

    pub apart_below : AreSegmentsApart (without_top r)
    apart_below = record {
      threads = λ i j a b at there same.
          let x = stood_at i a at in
          let y = stood_at j b there in
          apart.threads i j x.thread y.thread x.is y.is (number_stood i a x ∙ same ∙ sym (number_stood j b y));
      segments = λ i j k l a b s q at there in_it other same.
          let x = stood_at i a at in
          let y = stood_at j b there in
          apart.segments i j k l x.thread y.thread s q x.is y.is (segment_stood i a x k s in_it) (segment_stood j b y l q other) same;
    }

-- ---- One change after another.

module _ (p new : MachineParts) (t : ThreadNo) (s : TopTwo (machine_of p) t) (heap : List NamedObject) (frames : List FrameState)
    (one : HaveOneList p) (all : HaveAllSegments p) (sealed : IsSealed (machine_of p)) (h : LeavesInParts p t s heap frames new) where
  -- the segment is left
  abbrev left : MachineParts
  left = record p { shared = popped t p.shared; frames = h.mid }

  is_left : machine_of left ≡ without_top s.left
  is_left =
      higher_goes_off p h.mid t s.left h.owner h.kept all (sealed_apart (machine_of p) sealed) h.gone s.below.lower s.below.segment
      (lower_left (machine_of p) t s.left s.below)

  abbrev after : List Segment
  after = s.below.lower ++ record s.below.segment { frames = frames } ∷ []

  -- the caller has its frames
  abbrev resumed : MachineParts
  resumed = record left { frames = new.frames }

  framed : machine_of resumed ≡ with_frames_of s.below.segment.shared.number frames (machine_of left)
  framed =
      frames_change_machines left new.frames s.below.segment.shared.number s.below.segment.shared.domain
      (Some (record { domain = s.below.segment.shared.domain; frames = frames })) h.chunks h.below

  is_resumed : machine_of resumed ≡ with_segments t after (without_top s.left)
  is_resumed =
      framed ∙ ap (with_frames_of s.below.segment.shared.number frames) is_left
      ∙ running_frames_change (without_top s.left) t s.below frames
      (apart_below (machine_of p) t s.left (sealed_apart (machine_of p) sealed))

  -- the domain below has what it had
  domains_stay : (machine_of resumed).domains ≡ (machine_of p).domains
  domains_stay = ap (λ (x : Machine). x.domains) framed ∙ ap (λ (x : Machine). x.domains) is_left

  abbrev still : LiveDomain (machine_of resumed) s.below.segment.shared.domain
  still = record {
    domain = s.below.home.domain;
    is_domain = ap (λ (ds : List DomainState). slice_get ds s.below.segment.shared.domain.0) domains_stay ∙ s.below.home.is_domain;
    numbered = s.below.home.numbered;
    inside = s.below.home.inside;
    is_inside = s.below.home.is_inside;
  }

  one_resumed : HaveOneList resumed
  one_resumed = record {
    shared = one.shared;
    owns = one.owns;
    numbered = one.numbered;
    same_number = one.same_number;
    same_life = one.same_life;
  }

  -- and the copies
  is_copied : machine_of (record resumed { heap = new.heap })
      ≡ with_running s.below (record s.below.segment { frames = frames }) (with_heap s.below.home.inside heap)
  is_copied =
      heaps_change_machines resumed new.heap s.below.segment.shared.domain heap h.words still one_resumed h.copied
      ∙ ap (with_inside s.below.segment.shared.domain (with_heap s.below.home.inside heap)) is_resumed

  pub leaves_change_machines : machine_of new
      ≡ with_running s.below (record s.below.segment { frames = frames }) (with_heap s.below.home.inside heap)
  leaves_change_machines =
      ap (λ (w : WorldRecord). machine_of (record new { world = w })) h.world
      ∙ ap (λ (os : List (Option OwnState)). machine_of (record new { world = p.world; owns = os })) h.owns
      ∙ ap (λ (x : SharedState). machine_of (record new { world = p.world; owns = p.owns; shared = x })) h.popped_off
      ∙ is_copied
