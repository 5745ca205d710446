-- The class that an instruction needs is ready, as it was looked at: so a frame that stands there waits for none.
use Rattle.std.proofs.Common.{inl, inr, ◌≡◌, ◌≢◌, ◌⊎◌, List, sym, ap, subst, ◌∙◌, arith}
use Rattle.std.proofs.lemmas.Option.{none-some}
use Rattle.jk_model.specs.declared.frames.FrameHead.{FrameHead}
use Rattle.jk_model.specs.declared.identifiers.ClassId.{ClassId}
use Rattle.jk_model.specs.declared.identifiers.ThreadNo.{ThreadNo}
use Rattle.jk_model.specs.declared.instructions.Instr.{Instr}
use Rattle.jk_model_classes.specs.declared.records.ClassRecord.{ClassRecord}
use Rattle.jk_model_domains.specs.declared.states.ClassState.{ClassState}
use Rattle.jk_model_domains.specs.declared.states.ClassState.TheVariants as State
use Rattle.jk_model_domains.specs.declared.states.Look.{Look}
use Rattle.jk_model_domains.specs.declared.states.Look.TheVariants as Sees
use Rattle.jk_model_domains.specs.OwnStates.{IsLook, OwnState, state_of}
use Rattle.jk_model_frames.specs.Frames.{FrameState}
use Rattle.jk_model_heaps.specs.RunningCode.{InstrNeeds}
use Rattle.jk_model_running.specs.Initialising.{FrameNeeds, IsReady}
use Rattle.jk_model_typing.specs.Scopes.{CodeScope}
use Rattle.frame_store.specs.FrameContents.{FrameContent}
use Rattle.number_ops.proofs.TopFrames.{same_top}
use Rattle.jk_model_running.proofs.NeededClasses.{one_instr_need}
use Rattle.step_contents.specs.PlacesInCode.{PlaceInCode}
use Rattle.step_contents.specs.StandingTops.{StandsThere}
use Rattle.segment_steps.specs.StandingTops.{WaitsForNone}
use Rattle.segment_steps.specs.StepsAlone.{StandsReady}
use Rattle.segment_steps.specs.declared.meeting.Runs.{Runs}
use Rattle.segment_steps.proofs.MeetingsKnown.{ready_state}
use Rattle.segment_steps.proofs.NeedsOfFrames.{needs_there}

-- an instruction needs one class at most, and that one was seen to be ready
pub ready_by_look : (at : PlaceInCode) (own : OwnState) (t : ThreadNo) (c : ClassId) → InstrNeeds at.scope at.instr c → (look : Look)
    → IsLook t (state_of own c) look → look ≡ Sees.Ready → (k : ClassId) → InstrNeeds at.scope at.instr k → IsReady own t k
ready_by_look at own t c needs look sees is k too =
    subst (IsReady own t) (one_instr_need at.scope at.instr c k needs too) (ready_state t (state_of own c) look sees is)

not_elsewhere : (s : ClassState) (t other : ThreadNo) → (s ≡ State.Done) ⊎ (s ≡ State.InProgress t) → s ≡ State.InProgress other → other ≢ t → ⊥
not_elsewhere s t other (inl done) by differs = absurd cc
not_elsewhere s t other (inr mine) by differs = differs cc

-- invokeinterface needs no class
interface_needs_none : (s : CodeScope) (i : Instr) → i.op ≡ 0xb9 → (c : ClassId) → InstrNeeds s i c → ⊥
interface_needs_none s i interface c needs = elim needs [
  | inl field ↦ elim field.0 [ inl a ↦ absurd (omega (arith, interface, a)) | inr b ↦ absurd (omega (arith, interface, b)) ]
  | inr (inl method) ↦ absurd (omega (arith, interface, method.0))
  | inr (inr named) ↦ absurd (omega (arith, interface, named.0))
]

module _ (frames : FrameContent) (classes : List ClassRecord) (own : OwnState) (r : Runs) (at : PlaceInCode) where
  pub stands_ready : StandsThere frames classes r.segment at → ((c : ClassId) → InstrNeeds at.scope at.instr c → IsReady own r.thread c)
      → StandsReady frames classes own r at
  stands_ready st ready = record {
    frame = st.frame;
    top = st.top;
    head = st.head;
    no_need = st.no_need;
    place = st.place;
    ready = ready;
  }

  pub interface_ready : StandsThere frames classes r.segment at → at.instr.op ≡ 0xb9 → StandsReady frames classes own r at
  interface_ready st interface = stands_ready st (λ c needs. absurd (interface_needs_none at.scope at.instr interface c needs))

  pub waits_for_none : StandsReady frames classes own r at → WaitsForNone frames classes r.segment own r.thread
  waits_for_none st = λ f c top needs elsewhere.
      let same : f ≡ st.frame = same_top frames r.segment f st.frame top st.top in
      by c (subst (λ (g : FrameState). FrameNeeds classes g c) same needs) elsewhere.0 elsewhere.1 elsewhere.2
    where
      by : (c : ClassId) → FrameNeeds classes st.frame c → (other : ThreadNo) → state_of own c ≡ State.InProgress other → other ≢ r.thread → ⊥
      by c (inl some) other progress differs =
          none-some c (sym st.no_need ∙ ap (λ (h : FrameHead). h.need) st.head ∙ some)
      by c (inr (none, (code, needs))) other progress differs =
          not_elsewhere (state_of own c) r.thread other (st.ready c (needs_there classes st.frame at st.head st.place code c needs)) progress differs
