-- What is known of a thread whose step may be taken, as code asks for it.
use Rattle.std.proofs.Common.{◌≡◌, ◌⊎◌, inl, inr, Bool, true, false, slice_get, Option, Some, None, sym, subst, refl, ◌∙◌}
use Rattle.std.specs.Prelude.{option_and_then}
use Rattle.jk_model.specs.declared.identifiers.DomainId.{DomainId}
use Rattle.jk_model.specs.declared.identifiers.SegmentNo.{SegmentNo}
use Rattle.jk_model.specs.declared.steps.Raise.TheVariants as Raised
use Rattle.jk_model.specs.declared.steps.Standing.{Standing}
use Rattle.jk_model.specs.declared.steps.Standing.TheVariants as Stands
use Rattle.jk_model_sharing.specs.Segments.{SharedSegment, SharedThread, thread_numbered, top_of, with_revoked, with_stop}
use Rattle.jk_model_sharing.specs.SharedStates.{SharedState, spent, with_flags}
use Rattle.segment_steps.specs.declared.meeting.Runs.{Runs}
use Rattle.thread_segments.specs.Asked.{IsLiveDomain, IsLiveThread, IsThere, MaySpend}
use Rattle.kernel_parts.specs.SoundKernels.{KernelContent, kernel_machine, parts_of}
use Rattle.kernel_turns.specs.declared.running.Running.{Running}
use Rattle.kernel_turns.specs.LiveThreads.{AreApart}
use Rattle.kernel_turns.specs.RunningPlaces.{runs}
use Rattle.kernel_turns.specs.StepsOfThreads.{IsReady}
use Rattle.kernel_turns.specs.SteppedParts.{IsPending, is_revoked, stops}
use Rattle.domain_crossing.proofs.DomainsByPlace.{shared_found, shared_is_live, shared_there}
use Rattle.kernel_turns.proofs.PlacedThreads.{own_at}
use Rattle.kernel_turns.proofs.RunningFound.{top_numbered}
use Rattle.domain_crossing.proofs.PartsEntered.{sealed_apart}
use Rattle.kernel_turns.proofs.SegmentsApart.{apart_in_shared}

module _ (k : KernelContent) (x : Running) (ready : IsReady k x) where
  pub apart : AreApart k.shared.threads
  apart = apart_in_shared (parts_of k) (sealed_apart (kernel_machine k) ready.may.parts.sound.sealed)

  -- what holds of the place holds of the one that code has
  pub there : (P : Runs → Type 0) → P (runs x.runs.thread ready.at.segment) → P x.runs
  there P = subst P (sym ready.runs_there)

  pub lives : IsLiveDomain k.shared x.runs.domain
  lives =
      let one = ready.may.parts.sound.fitting.domains in
      let own = own_at k x.runs.thread ready.at one in
      let s = shared_there (parts_of k) one ready.at.segment.domain ready.at.own.state own in
      there (λ r. IsLiveDomain k.shared r.domain)
      (s.0, shared_found (parts_of k) one ready.at.segment.domain s.0 s.1, shared_is_live (parts_of k) one ready.at.segment.domain ready.at.own.state own)

  pub may_spend : MaySpend k.shared x.runs.domain
  may_spend = there (λ r. MaySpend k.shared r.domain) ready.may.ahead.budget

  pub is_there : (d : DomainId) → IsThere (spent d k.shared) x.runs.segment
  is_there d =
      let found = top_numbered k.shared.threads apart x.runs.thread ready.at.segment ready.at.is_top in
      there (λ r. IsThere (spent d k.shared) r.segment) (record { thread = found.0; segment = ready.at.segment }, found.1)

  -- the thread is live
  thread_found : (o : Option SharedThread) → option_and_then (λ (e : SharedThread). top_of e.segments) o ≡ Some ready.at.segment
      → (e : SharedThread) × (o ≡ Some e)
  thread_found None top = absurd cc
  thread_found (Some e) top = (e, refl)

  pub live_thread : IsLiveThread k.shared x.runs.thread
  live_thread = thread_found (thread_numbered k.shared.threads x.runs.thread) ready.at.is_top

  pub own_there : slice_get k.owns x.runs.domain.0 ≡ Some (Some ready.at.own)
  own_there = there (λ r. slice_get k.owns r.domain.0 ≡ Some (Some ready.at.own)) ready.at.is_own

-- ---- The flag that falls.

-- the throwable of what is pending for a segment, whose flag has fallen then
pub record HasFallen (s : SharedSegment) (n : SegmentNo) (old : SharedState) (th : Standing) (new : SharedState) : Type 0 where
  pub change : SharedSegment → SharedSegment
  pub pending : IsPending s (Raised.Standing th) change
  pub is : new ≡ with_flags n change old

has_by : (b : Bool) (s : SharedSegment) (n : SegmentNo) (old new : SharedState) (th : Standing) → s.stop ≡ b → (s.stop ≡ true) ⊎ (s.revoked ≡ true)
    → (b ≡ true → (th ≡ Stands.ThreadDeath) × (new ≡ with_flags n (with_stop false) old))
    → (b ≡ false → (th ≡ Stands.Revoked) × (new ≡ with_flags n (with_revoked false) old)) → HasFallen s n old th new
has_by true s n old new th is some stopped revoked =
    let h = stopped refl in
    subst (λ (r : Standing). HasFallen s n old r new) (sym h.0) (record { change = with_stop false; pending = stops is; is = h.1 })
has_by false s n old new th is (inl on) stopped revoked = (let both : true ≡ false = sym on ∙ is in absurd cc)
has_by false s n old new th is (inr on) stopped revoked =
    let h = revoked refl in
    subst (λ (r : Standing). HasFallen s n old r new) (sym h.0) (record { change = with_revoked false; pending = is_revoked is on; is = h.1 })

pub has_fallen : (k : KernelContent) (x : Running) (ready : IsReady k x) (old new : SharedState) (th : Standing)
    → (x.info.stop ≡ true) ⊎ (x.info.revoked ≡ true)
    → (x.info.stop ≡ true → (th ≡ Stands.ThreadDeath) × (new ≡ with_flags x.runs.segment (with_stop false) old))
    → (x.info.stop ≡ false → (th ≡ Stands.Revoked) × (new ≡ with_flags x.runs.segment (with_revoked false) old))
    → HasFallen ready.at.segment x.runs.segment old th new
has_fallen k x ready old new th some stopped revoked =
    has_by ready.at.segment.stop ready.at.segment x.runs.segment old new th refl (pending some) (λ on. stopped (ready.stop ∙ on))
    (λ on. revoked (ready.stop ∙ on))
  where
    pending : (x.info.stop ≡ true) ⊎ (x.info.revoked ≡ true) → (ready.at.segment.stop ≡ true) ⊎ (ready.at.segment.revoked ≡ true)
    pending (inl on) = inl (sym ready.stop ∙ on)
    pending (inr on) = inr (sym ready.revoked ∙ on)
