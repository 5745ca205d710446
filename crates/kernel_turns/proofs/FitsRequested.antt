-- Where a domain's capabilities or flags of a segment change in what domains share, the parts fit again.
use Rattle.std.proofs.Common.{◌≡◌, ℕ, ◌-◌, ◌==◌, inl, inr, Bool, true, false, cond, List, [], ◌∷◌, map, sum_by, Contains, Some, refl, sym, ap, subst, ◌∙◌, arith}
use Rattle.std.proofs.lemmas.List.Sums.{sum_by-cons}
use Rattle.jk_model.specs.declared.identifiers.DomainId.{DomainId}
use Rattle.jk_model.specs.declared.identifiers.SegmentNo.{SegmentNo}
use Rattle.jk_model.specs.declared.script.Quotas.{Quotas}
use Rattle.jk_model_classes.specs.declared.sharing.Stub.{Stub}
use Rattle.jk_model_frames.specs.Frames.{segment_chunks}
use Rattle.jk_model_heaps.specs.Capabilities.{CapRange, Capability}
use Rattle.jk_model_sharing.specs.CapabilityCalls.{revoked_at}
use Rattle.jk_model_sharing.specs.Segments.{SharedSegment, SharedThread, with_segments}
use Rattle.jk_model_sharing.specs.SharedStates.{SharedDomain, stub_for, with_caps, with_flags}
use Rattle.jk_model_machine_state.specs.Machines.{DomainState, Machine, Thread, chunks_of}
use Rattle.jk_model_machine_state.specs.Places.{LiveDomain}
use Rattle.jk_model_crossings.specs.Requests.{with_range}
use Rattle.frame_store.specs.FrameContents.{StoredSegment}
use Rattle.list_lemmas.proofs.ItemsByPlace.{comes_from, mapped_at}
use Rattle.list_lemmas.proofs.ItemsOfLists.{Contains-cases, Contains-here, Contains-none, Contains-there}
use Rattle.heap_laws.proofs.MappedLists.{mapped, mapped_from}
use Rattle.machine_laws.proofs.ChangedItems.{as_many}
use Rattle.machine_parts.specs.FittingParts.{AreFittingParts, HaveOneList}
use Rattle.machine_parts.specs.MachineParts.{MachineParts, frames_in, machine_of, segment_with_frames, thread_with_frames}
use Rattle.machine_parts.proofs.SharedChanged.{caps_change_machines}
use Rattle.domain_crossing.proofs.FitsAgain.{fits_again, same_owns, same_shared}

-- ---- Capabilities.

number_by : (b : Bool) (range : CapRange) (e : SharedDomain) → (cond b (record e { caps = range }) e).number ≡ e.number
number_by true range e = refl
number_by false range e = refl

live_by : (b : Bool) (range : CapRange) (e : SharedDomain) → (cond b (record e { caps = range }) e).live ≡ e.live
live_by true range e = refl
live_by false range e = refl

state_number : (b : Bool) (range : CapRange) (e : DomainState) → (cond b (record e { caps = range }) e).number ≡ e.number
state_number true range e = refl
state_number false range e = refl

state_inside : (b : Bool) (range : CapRange) (e : DomainState) → (cond b (record e { caps = range }) e).inside ≡ e.inside
state_inside true range e = refl
state_inside false range e = refl

state_quotas : (b : Bool) (range : CapRange) (e : DomainState) → (cond b (record e { caps = range }) e).quotas ≡ e.quotas
state_quotas true range e = refl
state_quotas false range e = refl

module _ (p : MachineParts) (fit : AreFittingParts p) (d : DomainId) (range : CapRange)
    (stubs : (c : Capability) → Contains range.made c → (stub : Stub) × (stub_for p.shared c.class ≡ Some stub)) where
  abbrev new : MachineParts
  new = record p { shared = with_caps d range p.shared }

  abbrev ranged : SharedDomain → SharedDomain
  ranged e = cond (e.number.0 == d.0) (record e { caps = range }) e

  abbrev state : DomainState → DomainState
  state e = cond (e.number.0 == d.0) (record e { caps = range }) e

  machine_is : machine_of new ≡ with_range d range (machine_of p)
  machine_is = caps_change_machines p d range fit.domains

  one_list : HaveOneList new
  one_list = record {
    shared = as_many ranged p.shared.domains ∙ fit.domains.shared;
    owns = fit.domains.owns;
    numbered = fit.domains.numbered;
    same_number = λ i names s at shared.
        let from = comes_from ranged p.shared.domains i s shared in
        let was = fit.domains.same_number i names from.from at from.there in (
          ap (λ (e : SharedDomain). e.number) (sym from.gives) ∙ number_by (from.from.number.0 == d.0) range from.from ∙ was.0,
          ap (λ (e : SharedDomain). e.live) (sym from.gives) ∙ live_by (from.from.number.0 == d.0) range from.from ∙ was.1,
        );
    same_life = fit.domains.same_life;
  }

  lived_there : (e : DomainId) (now : LiveDomain (with_range d range (machine_of p)) e)
      → (before : LiveDomain (machine_of p) e) × (now.domain.quotas ≡ before.domain.quotas)
  lived_there e now =
      let from = comes_from state (machine_of p).domains e.0 now.domain now.is_domain in (
        record {
          domain = from.from;
          is_domain = from.there;
          numbered = sym (state_number (from.from.number.0 == d.0) range from.from) ∙ ap (λ (x : DomainState). x.number) from.gives ∙ now.numbered;
          inside = now.inside;
          is_inside = sym (state_inside (from.from.number.0 == d.0) range from.from) ∙ ap (λ (x : DomainState). x.inside) from.gives ∙ now.is_inside;
        },
        ap (λ (x : DomainState). x.quotas) (sym from.gives) ∙ state_quotas (from.from.number.0 == d.0) range from.from,
      )

  lived : (e : DomainId) (now : LiveDomain (machine_of new) e) → (before : LiveDomain (machine_of p) e) × (now.domain.quotas ≡ before.domain.quotas)
  lived e =
      subst (λ (m : Machine). (now : LiveDomain m e) → (before : LiveDomain (machine_of p) e) × (now.domain.quotas ≡ before.domain.quotas))
      (sym machine_is) (lived_there e)

  lives_on : (e : DomainId) → LiveDomain (machine_of p) e → LiveDomain (machine_of new) e
  lives_on e before =
      subst (λ (m : Machine). LiveDomain m e) (sym machine_is)
      (record {
        domain = state before.domain;
        is_domain = mapped_at state (machine_of p).domains e.0 before.domain before.is_domain;
        numbered = state_number (before.domain.number.0 == d.0) range before.domain ∙ before.numbered;
        inside = before.inside;
        is_inside = state_inside (before.domain.number.0 == d.0) range before.domain ∙ before.is_inside;
      })

  made_by : (b : Bool) (e : SharedDomain) (c : Capability) → Contains p.shared.domains e
      → Contains (cond b (record e { caps = range }) e).caps.made c → (stub : Stub) × (stub_for p.shared c.class ≡ Some stub)
  made_by true e c there in_it = stubs c in_it
  made_by false e c there in_it = fit.stubs.made e c there in_it

  pub fits_ranged : AreFittingParts new
  fits_ranged = record {
    domains = one_list;
    live = record {
      words = λ e now. let was = lived e now in fit.live.words e was.0 ∙ ap (λ (q : Quotas). Some q.heap) (sym was.1);
      chunks = λ e now. let was = lived e now in fit.live.chunks e was.0 ∙ ap (λ (q : Quotas). Some q.chunks) (sym was.1);
      no_others = λ e dead. fit.live.no_others e (λ before. dead (lives_on e before));
    };
    used = record { words = fit.used.words; chunks = fit.used.chunks };
    segments = record { each = fit.segments.each; no_others = fit.segments.no_others };
    stubs = record {
      known = fit.stubs.known;
      all = fit.stubs.all;
      made = λ e c there in_it.
          let from = mapped_from ranged p.shared.domains e there in
          made_by (from.0.number.0 == d.0) from.0 c from.1 (subst (λ (x : SharedDomain). Contains x.caps.made c) (sym from.2) in_it);
    };
    calm = fit.calm;
  }

-- a revoked one has the class that it had
pub revoked_class : (made : List Capability) (place : ℕ) (c : Capability) → Contains (revoked_at made place) c
    → (x : Capability) × Contains made x × (c.class ≡ x.class)
revoked_class [] place c there = absurd (Contains-none c there)
revoked_class (a ∷ made) place c there = by (place == 0) (revoked_class made (place - 1) c) there
  where
    by : (b : Bool) → (Contains (revoked_at made (place - 1)) c → (x : Capability) × Contains made x × (c.class ≡ x.class))
        → Contains (cond b (record a { revoked = true } ∷ made) (a ∷ revoked_at made (place - 1))) c
        → (x : Capability) × Contains (a ∷ made) x × (c.class ≡ x.class)
    by true rest has = elim (Contains-cases c (record a { revoked = true }) made has) [
      | inl same ↦ (a, Contains-here a made, ap (λ (x : Capability). x.class) (sym same))
      | inr later ↦ (c, Contains-there c a made later, refl)
    ]
    by false rest has = elim (Contains-cases c a (revoked_at made (place - 1)) has) [
      | inl same ↦ (a, Contains-here a made, ap (λ (x : Capability). x.class) (sym same))
      | inr later ↦
          let was = rest later in
          (was.0, Contains-there was.0 a made was.1, was.2)
    ]

-- ---- Flags.

module _ (n : SegmentNo) (change : SharedSegment → SharedSegment) (number : (s : SharedSegment) → (change s).number ≡ s.number)
    (domain : (s : SharedSegment) → (change s).domain ≡ s.domain) where
  abbrev flag : SharedSegment → SharedSegment
  flag s = cond (s.number.0 == n.0) (change s) s

  flag_number : (b : Bool) (s : SharedSegment) → (cond b (change s) s).number ≡ s.number
  flag_number true s = number s
  flag_number false s = refl

  flag_domain : (b : Bool) (s : SharedSegment) → (cond b (change s) s).domain ≡ s.domain
  flag_domain true s = domain s
  flag_domain false s = refl

  module _ (p : MachineParts) (fit : AreFittingParts p) where
    abbrev then : MachineParts
    then = record p { shared = with_flags n change p.shared }

    cost_same : (e : DomainId) (s : SharedSegment)
        → chunks_of e (segment_with_frames p.frames (flag s)) ≡ chunks_of e (segment_with_frames p.frames s)
    cost_same e s =
        λ i. cond ((flag_domain (s.number.0 == n.0) s i).0 == e.0) (segment_chunks (frames_in p.frames (flag_number (s.number.0 == n.0) s i))) 0

    stack_costs : (e : DomainId) (segments : List SharedSegment)
        → sum_by (chunks_of e) (map (segment_with_frames p.frames) (map flag segments))
        ≡ sum_by (chunks_of e) (map (segment_with_frames p.frames) segments)
    stack_costs e [] = refl
    stack_costs e (s ∷ segments) =
        let one = cost_same e s in
        let rest = stack_costs e segments in
        let x = sum_by-cons (chunks_of e) (segment_with_frames p.frames (flag s)) (map (segment_with_frames p.frames) (map flag segments)) in
        let y = sum_by-cons (chunks_of e) (segment_with_frames p.frames s) (map (segment_with_frames p.frames) segments) in
        omega (arith, one, rest, x, y)

    abbrev of_thread : DomainId → Thread → ℕ
    of_thread e x = sum_by (chunks_of e) x.segments

    all_cost : (e : DomainId) (threads : List SharedThread)
        → sum_by (of_thread e) (map (thread_with_frames p.frames) (map (with_segments (map flag)) threads))
        ≡ sum_by (of_thread e) (map (thread_with_frames p.frames) threads)
    all_cost e [] = refl
    all_cost e (x ∷ threads) =
        let one = stack_costs e x.segments in
        let rest = all_cost e threads in
        let a = sum_by-cons (of_thread e) (thread_with_frames p.frames (with_segments (map flag) x))
        (map (thread_with_frames p.frames) (map (with_segments (map flag)) threads)) in
        let b = sum_by-cons (of_thread e) (thread_with_frames p.frames x) (map (thread_with_frames p.frames) threads) in
        omega (arith, one, rest, a, b)

    stored_by : (s : SharedSegment) → p.frames.segment s.number ≡ Some (record { domain = s.domain; frames = frames_in p.frames s.number })
        → p.frames.segment (flag s).number ≡ Some (record { domain = (flag s).domain; frames = frames_in p.frames (flag s).number })
    stored_by s h =
        ap p.frames.segment (flag_number (s.number.0 == n.0) s) ∙ h
        ∙ (λ i. Some (record {
          domain = sym (flag_domain (s.number.0 == n.0) s) i;
          frames = frames_in p.frames (sym (flag_number (s.number.0 == n.0) s) i);
        }))

    each : (thread : SharedThread) (s : SharedSegment) → Contains then.shared.threads thread → Contains thread.segments s
        → p.frames.segment s.number ≡ Some (record { domain = s.domain; frames = frames_in p.frames s.number })
    each thread s there in_it =
        let from = mapped_from (with_segments (map flag)) p.shared.threads thread there in
        let was = mapped_from flag from.0.segments s (subst (λ (x : SharedThread). Contains x.segments s) (sym from.2) in_it) in
        subst (λ (x : SharedSegment). p.frames.segment x.number ≡ Some (record { domain = x.domain; frames = frames_in p.frames x.number })) was.2
        (stored_by was.0 (fit.segments.each from.0 was.0 from.1 was.1))

    no_others : (m : SegmentNo) (g : StoredSegment) → p.frames.segment m ≡ Some g
        → (thread : SharedThread) × (s : SharedSegment) × Contains then.shared.threads thread × Contains thread.segments s × (s.number ≡ m)
    no_others m g is =
        let was = fit.segments.no_others m g is in (
          with_segments (map flag) was.0,
          flag was.1,
          mapped (with_segments (map flag)) p.shared.threads was.0 was.2,
          mapped flag was.0.segments was.1 was.3,
          flag_number (was.1.number.0 == n.0) was.1 ∙ was.4,
        )

    pub fits_flagged : AreFittingParts then
    fits_flagged =
        fits_again p fit p.owns (with_flags n change p.shared) p.heap p.frames (same_shared p.shared (with_flags n change p.shared) refl refl)
        (same_owns p.owns) (λ e. refl) (λ e. refl) fit.used.words (λ e. fit.used.chunks e ∙ sym (all_cost e p.shared.threads))
        (record { each = each; no_others = no_others }) fit.calm
