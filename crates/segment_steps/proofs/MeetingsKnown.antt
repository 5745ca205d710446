-- What a thread met at its top frame tells whether the class is ready that the frame needs, of which there is one at most.
use Rattle.std.proofs.Common.{inl, inr, ◌≡◌, ◌≢◌, ◌⊎◌, List, [], ◌∷◌, ◌++◌, true, false, Option, Some, None, is_some, option_map, slice_get, refl, sym, ap, subst, ◌∙◌}
use Rattle.std.specs.Prelude.{MatchOption}
use Rattle.std.proofs.lemmas.Option.{same_Some}
use Rattle.jk_model.specs.declared.frames.FrameHead.{FrameHead}
use Rattle.jk_model.specs.declared.identifiers.ClassId.{ClassId}
use Rattle.jk_model.specs.declared.identifiers.ThreadNo.{ThreadNo}
use Rattle.jk_model_classes.specs.declared.records.ClassRecord.{ClassRecord}
use Rattle.jk_model_domains.specs.declared.states.ClassState.{ClassState}
use Rattle.jk_model_domains.specs.declared.states.ClassState.TheVariants as State
use Rattle.jk_model_domains.specs.declared.states.Look.{Look}
use Rattle.jk_model_domains.specs.declared.states.Look.TheVariants as Sees
use Rattle.jk_model_domains.specs.OwnStates.{IsLook, OwnState, state_of}
use Rattle.jk_model_frames.specs.Frames.{FrameState}
use Rattle.jk_model_heaps.specs.RunningCode.{RunsCode}
use Rattle.jk_model_running.specs.Initialising.{FrameNeeds, IsReady}
use Rattle.jk_model_running.proofs.NeededClasses.{one_need}
use Rattle.row_laws.proofs.StandsHere.{code_here}
use Rattle.step_contents.proofs.InstructionsBegin.{fit_top}
use Rattle.jk_model_domains.specs.Objects.{NamedObject}
use Rattle.jk_model_sealing.specs.FittingFrames.{FitsAsTop, FramesFit}
use Rattle.frame_store.specs.FrameContents.{FrameContent, TopFrame}
use Rattle.step_contents.specs.PlacesInCode.{IsPlaceIn, PlaceInCode}
use Rattle.step_contents.specs.StandingFrames.{IsPlaceOf, place_of}
use Rattle.step_contents.specs.declared.places.StandsAt.{StandsAt}
use Rattle.segment_steps.specs.Meetings.{Meets, NeedsOf}
use Rattle.segment_steps.specs.StepsAlone.{StandsReady}
use Rattle.segment_steps.specs.declared.meeting.Meeting.{Meeting}
use Rattle.segment_steps.specs.declared.meeting.Runs.{Runs}

-- ---- What was met.

pub ready_state : (t : ThreadNo) (s : ClassState) (look : Look) → IsLook t s look → look ≡ Sees.Ready → (s ≡ State.Done) ⊎ (s ≡ State.InProgress t)
ready_state t State.Untouched look is e = (let two : Sees.Untouched ≡ Sees.Ready = sym is ∙ e in absurd cc)
ready_state t (State.InProgress by) look (inl (same, is)) e = inr (ap State.InProgress same)
ready_state t (State.InProgress by) look (inr (other, is)) e = (let two : Sees.Waits ≡ Sees.Ready = sym is ∙ e in absurd cc)
ready_state t State.Done look is e = inl refl
ready_state t State.Broken look is e = (let two : Sees.Broken ≡ Sees.Ready = sym is ∙ e in absurd cc)

untouched_state : (t : ThreadNo) (s : ClassState) (look : Look) → IsLook t s look → look ≡ Sees.Untouched → s ≡ State.Untouched
untouched_state t State.Untouched look is e = refl
untouched_state t (State.InProgress by) look (inl (same, is)) e = (let two : Sees.Ready ≡ Sees.Untouched = sym is ∙ e in absurd cc)
untouched_state t (State.InProgress by) look (inr (other, is)) e = (let two : Sees.Waits ≡ Sees.Untouched = sym is ∙ e in absurd cc)
untouched_state t State.Done look is e = (let two : Sees.Ready ≡ Sees.Untouched = sym is ∙ e in absurd cc)
untouched_state t State.Broken look is e = (let two : Sees.Broken ≡ Sees.Untouched = sym is ∙ e in absurd cc)

broken_state : (t : ThreadNo) (s : ClassState) (look : Look) → IsLook t s look → look ≡ Sees.Broken → s ≡ State.Broken
broken_state t State.Untouched look is e = (let two : Sees.Untouched ≡ Sees.Broken = sym is ∙ e in absurd cc)
broken_state t (State.InProgress by) look (inl (same, is)) e = (let two : Sees.Ready ≡ Sees.Broken = sym is ∙ e in absurd cc)
broken_state t (State.InProgress by) look (inr (other, is)) e = (let two : Sees.Waits ≡ Sees.Broken = sym is ∙ e in absurd cc)
broken_state t State.Done look is e = (let two : Sees.Ready ≡ Sees.Broken = sym is ∙ e in absurd cc)
broken_state t State.Broken look is e = refl

-- what is seen at the class that is needed, or ready where none is
abbrev Seen : OwnState → ThreadNo → Option ClassId → Look → Type 0
Seen own t o look = MatchOption o (look ≡ Sees.Ready) (λ (c : ClassId). IsLook t (state_of own c) look)

module _ (classes : List ClassRecord) (own : OwnState) (r : Runs) (f : FrameState) where
  ready_by : (o : Option ClassId) (look : Look) → NeedsOf classes f o → Seen own r.thread o look → look ≡ Sees.Ready → (c : ClassId)
      → FrameNeeds classes f c → IsReady own r.thread c
  ready_by None look none seen e c needs = absurd (none c needs)
  ready_by (Some d) look needed seen e c needs =
      subst (IsReady own r.thread) (one_need classes f d c needed needs) (ready_state r.thread (state_of own d) look seen e)

  met_by : (o : Option ClassId) (look : Look) → NeedsOf classes f o → Seen own r.thread o look → look ≢ Sees.Ready
      → (c : ClassId) × (o ≡ Some c) × FrameNeeds classes f c × IsLook r.thread (state_of own c) look
  met_by None look needed seen other = absurd (other seen)
  met_by (Some c) look needed seen other = (c, refl, needed, seen)

  module _ (met : Meeting) (m : Meets classes own r f met) where
    pub ready_met : met.look ≡ Sees.Ready → (c : ClassId) → FrameNeeds classes f c → IsReady own r.thread c
    ready_met e = ready_by met.needed met.look m.needed m.look e

    pub needed_met : met.look ≢ Sees.Ready → (c : ClassId) × (met.needed ≡ Some c) × FrameNeeds classes f c
        × IsLook r.thread (state_of own c) met.look
    needed_met other = met_by met.needed met.look m.needed m.look other

    pub untouched_met : (c : ClassId) → met.needed ≡ Some c → met.look ≡ Sees.Untouched
        → FrameNeeds classes f c × (state_of own c ≡ State.Untouched)
    untouched_met c is e =
        let found = needed_met (λ ready. (let two : Sees.Untouched ≡ Sees.Ready = sym e ∙ ready in absurd cc)) in
        let same : found.0 ≡ c = same_Some found.0 c (sym found.1 ∙ is) in (
          subst (FrameNeeds classes f) same found.2,
          subst (λ (k : ClassId). state_of own k ≡ State.Untouched) same (untouched_state r.thread (state_of own found.0) met.look found.3 e),
        )

    pub broken_met : met.look ≡ Sees.Broken → (c : ClassId) × FrameNeeds classes f c × (state_of own c ≡ State.Broken)
    broken_met e =
        let found = needed_met (λ ready. (let two : Sees.Broken ≡ Sees.Ready = sym e ∙ ready in absurd cc)) in
        (found.0, found.2, broken_state r.thread (state_of own found.0) met.look found.3 e)

    some_need : (o : Option ClassId) → is_some o ≡ true → (c : ClassId) × (o ≡ Some c)
    some_need (Some c) e = (c, refl)
    some_need None e = absurd cc

    pub no_need : (o : Option ClassId) → is_some o ≡ false → o ≡ None
    no_need None e = refl
    no_need (Some c) e = absurd cc

    -- the need of the frame, and that its class is ready
    pub need_met : met.look ≡ Sees.Ready → is_some met.head.need ≡ true
        → (c : ClassId) × (met.head.need ≡ Some c) × IsReady own r.thread c
    need_met ready some =
        let need = some_need met.head.need some in
        (need.0, need.1, ready_met ready need.0 (inl (ap (λ (h : FrameHead). h.need) (sym m.head) ∙ need.1)))

    -- the place where it stands
    pub place_met : (at : StandsAt) → met.at ≡ Some at → ((place_of at).head ≡ f.head) × IsPlaceIn classes (place_of at)
    place_met at is = subst (λ (o : Option StandsAt). IsPlaceOf classes f.head (option_map place_of o)) is m.at

    pub nowhere_met : met.at ≡ None → (at : PlaceInCode) → at.head ≡ f.head → IsPlaceIn classes at → ⊥
    nowhere_met is = subst (λ (o : Option StandsAt). IsPlaceOf classes f.head (option_map place_of o)) is m.at

    -- where the frame has no need, it stands ready at its instruction
    module _ (ready : met.look ≡ Sees.Ready) (frames : FrameContent) (top : TopFrame frames r.segment f) (at : PlaceInCode)
        (same : at.head ≡ f.head) (place : IsPlaceIn classes at) (none : f.head.need ≡ None) where
      code : RunsCode classes f
      code = record {
        method = place.method;
        is_method = ap (λ (h : FrameHead). h.method) (sym same) ∙ place.is_method;
        scope = at.scope;
        is_scope = place.is_scope;
        instr = at.instr;
        stands = ap (λ (h : FrameHead). slice_get at.scope.code.instrs h.at) (sym same) ∙ place.stands;
      }

      pub stands_ready : StandsReady frames classes own r at
      unfolding code
      stands_ready = record {
        frame = f;
        top = top;
        head = same;
        no_need = ap (λ (h : FrameHead). h.need) same ∙ none;
        place = place;
        ready = λ c needs. ready_met ready c (inr (none, (code, needs)));
      }

-- a top frame without a need stands somewhere
pub stands_somewhere : (classes : List ClassRecord) (heap : List NamedObject) (run : List FrameState) (callers : List FrameState) (f : FrameState)
    → run ≡ callers ++ f ∷ [] → FramesFit (FitsAsTop classes heap) classes heap run → f.head.need ≡ None
    → (at : PlaceInCode) × (at.head ≡ f.head) × IsPlaceIn classes at
stands_somewhere classes heap run callers f are fit none = by_case (fit_top (FitsAsTop classes heap) classes heap callers f
    (subst (FramesFit (FitsAsTop classes heap) classes heap) are fit))
  where
    by_case : FitsAsTop classes heap f → (at : PlaceInCode) × (at.head ≡ f.head) × IsPlaceIn classes at
    by_case (inl empty) = absurd (empty.need none)
    by_case (inr (well, here)) =
        let code = code_here classes f here.0 in (
          record { head = f.head; scope = code.scope; instr = code.instr },
          refl,
          record { method = code.method; is_method = code.is_method; is_scope = code.is_scope; stands = code.stands },
        )
