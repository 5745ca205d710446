-- What the code of a call asks for is there, and what it has done is the call's.
use Rattle.std.proofs.Common.{◌≡◌, ◌≤◌, List, length, Option, Some, Result, Ok, Err, refl, sym, ap, subst, ◌∙◌, arith}
use Rattle.jk_model.specs.declared.identifiers.CapId.{CapId}
use Rattle.jk_model.specs.declared.identifiers.DomainId.{DomainId}
use Rattle.jk_model.specs.declared.identifiers.MemberId.{MemberId}
use Rattle.jk_model.specs.declared.identifiers.SegmentNo.{SegmentNo}
use Rattle.jk_model.specs.declared.identifiers.ThreadNo.{ThreadNo}
use Rattle.jk_model.specs.declared.steps.Raise.{Raise}
use Rattle.jk_model_classes.specs.Lookups.{MethodIs}
use Rattle.jk_model_domains.specs.OwnStates.{OwnState}
use Rattle.jk_model_heaps.specs.Capabilities.{IsGivenOut, OwnedCapability, capability_numbered}
use Rattle.jk_model_sharing.specs.SharedStates.{SharedState, caps_of}
use Rattle.jk_model_crossings.specs.RemoteCalls.{RemoteCall}
use Rattle.object_store.specs.HeapContents.{HeapContent, IsSame}
use Rattle.frame_store.specs.FrameContents.{FrameContent}
use Rattle.frame_store.specs.FrameContents.{IsSame as AreSameFrames}
use Rattle.graph_copy.specs.AskedOfCopies.{MayCopy}
use Rattle.machine_parts.specs.FittingParts.{AreFittingParts}
use Rattle.machine_parts.specs.MachineParts.{MachineParts, machine_of}
use Rattle.domain_crossing.specs.declared.answers.Crossed.{Crossed}
use Rattle.domain_crossing.specs.declared.answers.Crossed.TheVariants as Called
use Rattle.domain_crossing.specs.declared.callees.Callee.{Callee}
use Rattle.domain_crossing.specs.declared.entering.Caller.{Caller}
use Rattle.domain_crossing.specs.AskedOfCrossings.{MayEnter}
use Rattle.domain_crossing.specs.CalleesFound.{FindsCallee}
use Rattle.domain_crossing.specs.Crossings.{CrossesSo}
use Rattle.domain_crossing.specs.EnteringCalls.{CopiesFitLocals, EntersSo, MayArriveAt, enters, has_no_chunks, has_no_room, is_uncopied}
use Rattle.domain_crossing.specs.MovedArguments.{StandsToCall}
use Rattle.domain_crossing.specs.PassedValues.{Crossing}
use Rattle.domain_crossing.proofs.CalleesMet.{MayRun, refused, runs_so}
use Rattle.domain_crossing.proofs.CallsEnter.{as_before, call_at, callee_of, copies_fit, crosses, fits_in, home, is_known, may_arrive, may_copy, number}
use Rattle.domain_crossing.proofs.CallsEnter.{x as crossing_of}

module _ (p : MachineParts) (t : ThreadNo) (k : CapId) (method : MemberId) (may : MayEnter p t k method) where
  abbrev c : RemoteCall (machine_of p) t
  c = may.call

  known_by : capability_numbered (caps_of p.shared) k ≡ Some c.known
  known_by = ap (capability_numbered (caps_of p.shared)) (sym may.capability) ∙ is_known p t may.cross c

  pub given_out : IsGivenOut (caps_of p.shared) k
  given_out = (c.known, known_by)

  -- ---- What is found.

  abbrev pub IsFound : Result Callee Raise → Type 0
  IsFound r = (known : OwnedCapability) → capability_numbered (caps_of p.shared) k ≡ Some known → FindsCallee p.world.classes known method r

  found_at : (r : Result Callee Raise) → IsFound r → FindsCallee p.world.classes c.known c.method r
  found_at r found = subst (λ (m : MemberId). FindsCallee p.world.classes c.known m r) (sym may.is_method) (found c.known known_by)

  pub refuses : (r : Raise) → IsFound (Err r) → CrossesSo c (Called.Refused r) (machine_of p)
  refuses r found = (refused (machine_of p) may.cross.sealed t c r (found_at (Err r) found), refl)

  pub runs : (callee : Callee) → IsFound (Ok callee) → MayRun (machine_of p) may.cross.sealed t c callee
  runs callee found = runs_so (machine_of p) may.cross.sealed t c callee (found_at (Ok callee) found)

  -- ---- The method.

  pub is_method : MethodIs p.world.classes method c.named
  is_method = subst (λ (m : MemberId). MethodIs p.world.classes m c.named) may.is_method c.is_named

  pub few_params : length c.named.params ≤ 255
  few_params = may.cross.sound.codes.few_params c.method c.named c.is_named

  -- ---- It is called.

  -- what it runs, and who calls, as code knows them
  pub record IsCalled (callee : Callee) (caller : Caller) : Type 0 where
    pub run : MayRun (machine_of p) may.cross.sealed t c callee
    pub at : caller.segment ≡ number p t may.cross c
    pub domain : caller.domain ≡ home p t may.cross c
    pub count : caller.given ≡ length c.named.params

  module _ (callee : Callee) (caller : Caller) (called : IsCalled callee caller) where
    pub arrives : MayArriveAt p.shared p.frames t callee
    arrives = may_arrive p t may.cross c called.run.is_open.has_target.is_shown.live.owner callee called.run.owner may.number

    pub few : caller.given ≤ 255
    few = (let most = few_params in let count = called.count in omega (arith, most, count))

    abbrev pub here : StandsToCall p.frames caller.segment
    here = call_at p t may.cross c caller.segment called.at

    pub as_many : length c.given ≡ caller.given
    as_many = c.as_many ∙ sym called.count

    same_callee : callee_of p t may.cross c may.stands called.run.is_open ≡ callee
    same_callee = λ i. record { owner = sym called.run.owner i; target = sym called.run.target i; head = sym called.run.head i }

    abbrev crossing : DomainId → Callee → Crossing
    crossing d y = record { world = p.world; heap = p.heap; from = d; to = y.owner }

    pub copied : MayCopy p.heap p.world caller.domain callee.owner c.given
    copied =
        subst (λ (d : DomainId). MayCopy p.heap p.world d callee.owner c.given) (sym called.domain)
        (subst (λ (d : DomainId). MayCopy p.heap p.world (home p t may.cross c) d c.given) (sym called.run.owner)
        (may_copy p t may.cross c called.run.is_open.has_target.is_shown.live.owner may.stands))

    pub fit : CopiesFitLocals (crossing caller.domain callee) callee c.given
    fit =
        subst (λ (d : DomainId). CopiesFitLocals (crossing d callee) callee c.given) (sym called.domain)
        (subst (λ (y : Callee). CopiesFitLocals (crossing (home p t may.cross c) y) y c.given) same_callee
        (copies_fit p t may.cross c may.stands called.run.is_open))

    module _ (result : Crossed) (heap : HeapContent) (shared : SharedState) (after : FrameContent)
        (done : EntersSo (crossing caller.domain callee) p.shared here t callee result heap shared after) where
      of_call : EntersSo (crossing_of p t may.cross c may.stands called.run.is_open) p.shared here t
          (callee_of p t may.cross c may.stands called.run.is_open) result heap shared after
      of_call =
          subst (λ (y : Callee). EntersSo (crossing (home p t may.cross c) y) p.shared here t y result heap shared after) (sym same_callee)
          (subst (λ (d : DomainId). EntersSo (crossing d callee) p.shared here t callee result heap shared after) called.domain done)

      pub answered : CrossesSo c result (machine_of (record { world = p.world; owns = p.owns; shared = shared; heap = heap; frames = after }))
      answered = crosses p t may.cross c may.stands called.run.is_open caller.segment called.at result heap shared after of_call

      pub fits : (owns : List (Option OwnState))
          → AreFittingParts (record { world = p.world; owns = owns; shared = p.shared; heap = p.heap; frames = p.frames })
          → AreFittingParts (record { world = p.world; owns = owns; shared = shared; heap = heap; frames = after })
      fits owns fit_before = fits_in p t may.cross c may.stands called.run.is_open caller.segment called.at result heap shared after of_call owns fit_before

    pub unchanged : (r : Raise) (heap : HeapContent) (shared : SharedState) (after : FrameContent)
        → EntersSo (crossing caller.domain callee) p.shared here t callee (Called.Refused r) heap shared after
        → (shared ≡ p.shared) × IsSame p.heap heap × AreSameFrames p.frames after
    unchanged r heap shared after done =
        as_before p t may.cross c may.stands called.run.is_open caller.segment called.at r heap shared after (of_call (Called.Refused r) heap shared after done)

-- stubs stay as they are
pub stubs_kept : {x : Crossing} {s : SharedState} {frames : FrameContent} {n : SegmentNo} (call : StandsToCall frames n) (t : ThreadNo) (callee : Callee)
    (crossed : Crossed) (heap : HeapContent) (new : SharedState) (after : FrameContent) → EntersSo x s call t callee crossed heap new after
    → new.stubs ≡ s.stubs
stubs_kept call t callee crossed heap new after (is_uncopied a h answers same) = refl
stubs_kept call t callee crossed heap new after (has_no_room words h answers same) = refl
stubs_kept call t callee crossed heap new after (has_no_chunks h answers same too_few) = refl
stubs_kept call t callee crossed heap new after (enters values h later answers copies chunks arrived) = refl
