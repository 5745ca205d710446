-- Where the parts change as they do at a call that enters, the call has entered in the machine.
use Rattle.std.proofs.Common.{◌≡◌, ℕ, List, [], ◌∷◌, ◌++◌, Contains, Some, slice_get, sym, ap, subst, ◌∙◌, inl, inr, arith}
use Rattle.std.specs.Option.{option_map_or}
use Rattle.std.specs.Prelude.{Option}
use Rattle.std.proofs.lemmas.Bool.{cases_lt}
use Rattle.jk_model.specs.declared.identifiers.ThreadNo.{ThreadNo}
use Rattle.jk_model_domains.specs.Objects.{NamedObject}
use Rattle.jk_model_frames.specs.Frames.{FrameState}
use Rattle.jk_model_heaps.specs.Workings.{with_heap}
use Rattle.jk_model_sharing.specs.SharedStates.{SharedState, pushed}
use Rattle.jk_model_classes.specs.Worlds.{WorldRecord}
use Rattle.jk_model_domains.specs.OwnStates.{OwnState}
use Rattle.jk_model_machine_state.specs.Machines.{DomainState, Machine, Segment, Thread, with_inside}
use Rattle.jk_model_machine_state.specs.Places.{LiveDomain}
use Rattle.jk_model_crossings.specs.RemoteCalls.{RemoteCall, arrived, departed, with_segment_on_top}
use Rattle.jk_model_runs.specs.Sealed.{IsSealed}
use Rattle.frame_store.specs.FrameContents.{StoredSegment}
use Rattle.heap_laws.proofs.MappedLists.{mapped, mapped_from}
use Rattle.machine_parts.specs.ChangedParts.{AreSegmentsApart}
use Rattle.machine_parts.specs.FittingParts.{HaveOneList}
use Rattle.machine_parts.specs.MachineParts.{MachineParts, frames_in, machine_of, segment_with_frames, thread_with_frames}
use Rattle.machine_parts.proofs.DomainsChanged.{heaps_change_machines}
use Rattle.machine_parts.proofs.SegmentsChanged.{frames_change_machines}
use Rattle.machine_parts.proofs.SharedChanged.{gone_frames, pushes_change_machines}
use Rattle.machine_parts.proofs.RunningChanged.{frames_run}
use Rattle.domain_crossing.specs.EnteredParts.{EntersInParts}

-- ---- Numbers of a sealed machine.

pub sealed_apart : (m : Machine) → IsSealed m → AreSegmentsApart m
sealed_apart m sealed = record { threads = threads; segments = sealed.threads.segments_differ }
  where
    threads : (i j : ℕ) (a b : Thread) → slice_get m.threads i ≡ Some a → slice_get m.threads j ≡ Some b → a.number ≡ b.number → i ≡ j
    threads i j a b at there same = elim (cases_lt i j) [
      | inl below ↦
          let n : a.number.0 ≡ b.number.0 = ap (λ (x : ThreadNo). x.0) same in
          absurd (omega (arith, sealed.threads.rise i j a b below at there, n))
      | inr above ↦ elim (cases_lt j i) [
        | inl below ↦
            let n : a.number.0 ≡ b.number.0 = ap (λ (x : ThreadNo). x.0) same in
            absurd (omega (arith, sealed.threads.rise j i b a below there at, n))
        | inr not ↦ omega (arith, above, not)
      ]
    ]

-- ---- One change after another.

module _ (p new : MachineParts) (t : ThreadNo) (c : RemoteCall (machine_of p) t) (owner : LiveDomain (machine_of p) c.known.owner)
    (heap : List NamedObject) (frame : FrameState) (one : HaveOneList p) (sealed : IsSealed (machine_of p)) (h : EntersInParts p t c heap frame new) where
  -- the arguments are off the caller's stack
  abbrev taken : MachineParts
  taken = record p { frames = h.mid }

  is_departed : machine_of taken ≡ departed c
  is_departed =
      frames_run p h.mid t c.place c.place.segment.shared.domain (c.callers ++ record c.frame { stack = c.below } ∷ []) h.kept one
      (sealed_apart (machine_of p) sealed) h.taken

  -- the owner has what it had
  domains_stay : (machine_of taken).domains ≡ (machine_of p).domains
  domains_stay =
      ap (λ (x : Machine). x.domains)
      (frames_change_machines p h.mid c.place.segment.shared.number c.place.segment.shared.domain
      (Some (record { domain = c.place.segment.shared.domain; frames = c.callers ++ record c.frame { stack = c.below } ∷ [] })) h.kept h.taken)

  abbrev still : LiveDomain (machine_of taken) c.known.owner
  still = record {
    domain = owner.domain;
    is_domain = ap (λ (ds : List DomainState). slice_get ds c.known.owner.0) domains_stay ∙ owner.is_domain;
    numbered = owner.numbered;
    inside = owner.inside;
    is_inside = owner.is_inside;
  }

  one_taken : HaveOneList taken
  one_taken = record {
    shared = one.shared;
    owns = one.owns;
    numbered = one.numbered;
    same_number = one.same_number;
    same_life = one.same_life;
  }

  -- the copies are in its heap
  abbrev copied : MachineParts
  copied = record taken { heap = new.heap }

  is_copied : machine_of copied ≡ with_inside c.known.owner (with_heap owner.inside heap) (departed c)
  is_copied =
      heaps_change_machines taken new.heap c.known.owner heap h.words still one_taken h.copied
      ∙ ap (with_inside c.known.owner (with_heap owner.inside heap)) is_departed

  -- no segment has the number that is drawn
  none_drawn : (thread : Thread) (s : Segment) → Contains (machine_of copied).threads thread → Contains thread.segments s
      → s.shared.number.0 ≡ p.shared.next_segment → ⊥
  none_drawn thread s there in_it same =
      let from = mapped_from (thread_with_frames h.mid) p.shared.threads thread there in
      let stands : Contains (thread_with_frames h.mid from.0).segments s = subst (λ (x : Thread). Contains x.segments s) (sym from.2) in_it in
      let segment = mapped_from (segment_with_frames h.mid) from.0.segments s stands in
      let before = sealed.threads.segments_before (thread_with_frames p.frames from.0) (segment_with_frames p.frames segment.0)
      (mapped (thread_with_frames p.frames) p.shared.threads from.0 from.1) (mapped (segment_with_frames p.frames) from.0.segments segment.0 segment.1) in
      let number : segment.0.number.0 ≡ s.shared.number.0 = ap (λ (x : Segment). x.shared.number.0) segment.2 in
      omega (arith, before.1, number, same)

  -- its frame is in the store
  abbrev begun : MachineParts
  begun = record copied { frames = new.frames }

  is_begun : machine_of begun ≡ machine_of copied
  is_begun =
      frames_change_machines copied new.frames (record { 0 = p.shared.next_segment }) c.known.owner
      (Some (record { domain = c.known.owner; frames = frame ∷ [] })) h.chunks h.begun
      ∙ gone_frames (machine_of copied) (record { 0 = p.shared.next_segment }) (frame ∷ []) none_drawn

  frame_there : frames_in new.frames (record { 0 = p.shared.next_segment }) ≡ frame ∷ []
  frame_there = ap (λ (o : Option StoredSegment). option_map_or (λ (g : StoredSegment). g.frames) o []) h.begun.becomes

  pub begins_on_top : machine_of (record begun { shared = pushed t c.known.owner p.shared })
      ≡ with_segment_on_top t c.known.owner frame (machine_of copied)
  begins_on_top =
      pushes_change_machines begun t c.known.owner frame frame_there ∙ ap (with_segment_on_top t c.known.owner frame) is_begun

  -- the segment is on top
  is_on_top : machine_of (record begun { shared = pushed t c.known.owner p.shared }) ≡ arrived owner t heap frame (departed c)
  is_on_top = begins_on_top ∙ ap (with_segment_on_top t c.known.owner frame) is_copied

  pub enters_change_machines : machine_of new ≡ arrived owner t heap frame (departed c)
  enters_change_machines =
      ap (λ (w : WorldRecord). machine_of (record new { world = w })) h.world
      ∙ ap (λ (os : List (Option OwnState)). machine_of (record new { world = p.world; owns = os })) h.owns
      ∙ ap (λ (s : SharedState). machine_of (record new { world = p.world; owns = p.owns; shared = s })) h.on_top
      ∙ is_on_top
