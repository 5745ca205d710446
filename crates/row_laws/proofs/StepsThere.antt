-- A segment that acts has a step, unless it must wait for a class that another thread initialises.
use Rattle.std.proofs.Common.{inl, inr, ◌≡◌, ◌⊎◌, ℕ, List, [], ◌∷◌, Option, Some, None, refl, sym, ap, subst, ◌∙◌, arith}
use Rattle.std.proofs.lemmas.Bool.{cases_lt}
use Rattle.std.proofs.lemmas.Option.{none-some}
use Rattle.decided_lookups.proofs.DecidedParts.{number_decided}
use Rattle.list_lemmas.proofs.LastItems.{last_of}
use Rattle.jk_model.specs.declared.identifiers.ClassId.{ClassId}
use Rattle.jk_model.specs.declared.identifiers.MemberId.{MemberId}
use Rattle.jk_model.specs.declared.identifiers.ThreadNo.{ThreadNo}
use Rattle.jk_model.specs.declared.steps.Raise.TheVariants as Raised
use Rattle.jk_model.specs.declared.steps.Standing.TheVariants as Stands
use Rattle.jk_model_classes.specs.declared.records.ClassRecord.{ClassRecord}
use Rattle.jk_model_classes.specs.Worlds.{IsNamed, NamedClass}
use Rattle.jk_model_domains.specs.declared.states.ClassState.{ClassState}
use Rattle.jk_model_domains.specs.declared.states.ClassState.TheVariants as State
use Rattle.jk_model_domains.specs.OwnStates.{HasState, state_of}
use Rattle.jk_model_frames.specs.Frames.{FrameState, head_chunks}
use Rattle.jk_model_heaps.specs.Capabilities.{CapRange}
use Rattle.jk_model_heaps.specs.RunningCode.{InstrNeeds, RunsCode}
use Rattle.jk_model_heaps.specs.SystemClasses.{NO_CLASS_DEF_FOUND_ERROR}
use Rattle.jk_model_heaps.specs.Workings.{Inside, Run, Setting}
use Rattle.jk_model_heap_rows.specs.Constants.{SetsConstants}
use Rattle.jk_model_running.specs.Initialising.{FrameNeeds, IsReady}
use Rattle.jk_model_running.specs.LocalSteps.{HasReadyNeed, Initialises, LocalStep, TopFrame, Touches, does, lacks_constants, meets_broken, need_falls, overflows, sets_constants, touches}
use Rattle.jk_model_running.specs.Raising.{after_raising}
use Rattle.jk_model_running.specs.Ways.{Went}
use Rattle.jk_model_sealing.specs.AnsweringFrames.{FramesAnswer}
use Rattle.jk_model_sealing.specs.SealedInsides.{Surroundings}
use Rattle.jk_model_sealing.specs.SealedRuns.{IsKnownClass}
use Rattle.row_laws.specs.HeapRowLaws.{HeapRowsKeep}
use Rattle.heap_laws.specs.RaisableObjects.{MayBeRaised}
use Rattle.row_laws.proofs.StandsHere.{code_here}
use Rattle.row_laws.proofs.SystemParents.{below_listed}
use Rattle.row_laws.specs.KeptRuns.{ActsWell}
use Rattle.row_laws.specs.LocalStepLaws.{MustWait}
use Rattle.row_laws.proofs.ActingSegments.{in_progress, known_top, may_raise, stand, stays_inside}
use Rattle.row_laws.proofs.ConstantsKept.{set_or_lack}
use Rattle.row_laws.proofs.InitialisersFound.{initialiser_there, state_there}
use Rattle.row_laws.proofs.InstructionsKept.{instruction_kept}
use Rattle.row_laws.proofs.InstructionsThere.{follows_there, instruction_there, lowest_plain}
use Rattle.row_laws.proofs.NeedsFound.{NeedsOne, frame_needs}
use Rattle.row_laws.proofs.RaisesThere.{raise_there}
use Rattle.row_laws.proofs.StatesOfFrames.{in_progress_there}
use Rattle.row_laws.proofs.StepsKept.{here_of, runs_well}

-- The surroundings have the setting's own classes.
module _ (rows : HeapRowsKeep) (x : Setting) (table : List NamedClass) (caps : List CapRange) (t : ThreadNo) (run : Run) where
  abbrev around : Surroundings
  around = record { classes = x.classes; table = table; caps = caps }

  abbrev Step : Type 0
  Step = (new : Run) × (went : Went) × LocalStep x t run new went

  top_of : (frames : List FrameState) → run.frames ≡ frames → FramesAnswer x.classes frames → TopFrame run
  top_of [] is answers = absurd answers
  top_of (f ∷ more) is answers = let last = last_of f more in record { callers = last.0; frame = last.1; are_frames = is ∙ last.2 }

  module _ (acts : ActsWell around x t run) (top : TopFrame run) where
    -- ---- The class that it needs isn't ready.

    touch : (c : ClassId) → FrameNeeds x.classes top.frame c → state_of run.inside.own c ≡ State.Untouched → Step
    touch c needs untouched =
        let own_is = acts.sealed.inside.own in
        let there = initialiser_there x.classes acts.setting.codes table run.inside.own own_is c untouched in
        let at : Touches x run c = record {
          top = top;
          needs = needs;
          untouched = untouched;
          is_there = state_there x.classes acts.setting.codes table run.inside.own own_is c untouched;
          head = there.0;
          is_head = there.1;
        } in
        elim (cases_lt x.chunks (head_chunks there.0)) [
          | inl short ↦
              let way = raise_there around x t run (may_raise around x t run acts) (Raised.Standing Stands.StackOverflowError) tt in
              (way.1, after_raising way.0, overflows c at way.0 short way.2)
          | inr room ↦ (_, _, touches c at room refl)
        ]

    meet_broken : (c : ClassId) → FrameNeeds x.classes top.frame c → state_of run.inside.own c ≡ State.Broken → Step
    meet_broken c needs broken =
        let can : MayBeRaised x.classes run.inside.heap (Raised.Fresh NO_CLASS_DEF_FOUND_ERROR) =
        (omega arith, below_listed x.classes acts.setting.codes 9 NO_CLASS_DEF_FOUND_ERROR.0 9 refl) in
        let way = raise_there around x t run (may_raise around x t run acts) (Raised.Fresh NO_CLASS_DEF_FOUND_ERROR) can in
        (way.1, after_raising way.0, meets_broken (record { top = top; class = c; needs = needs; broken = broken }) way.0 way.2)

    -- ---- A need falls.

    module _ (c : ClassId) (need : top.frame.head.need ≡ Some c) (ready : IsReady run.inside.own t c) where
      abbrev at : HasReadyNeed x t run
      at = record { top = top; class = c; need = need; ready = ready }

      set_falls : (of : Initialises x top.frame) (set : Inside) → SetsConstants x of.class of.of_class run.inside set → (o : Option MemberId)
          → top.frame.head.method ≡ o → Step
      set_falls of set sets (Some m) is = (_, _, sets_constants at of set sets (inl (λ none. none-some m (sym none ∙ is), refl)))
      set_falls of set sets None is = (
        _,
        _,
        sets_constants at of set sets
            (inr (is, lowest_plain x.classes top.callers top.frame of.class (stand around x t run acts top).1 of.initialises, refl)),
      )

      constants : (of : Initialises x top.frame) → Step
      constants of =
          let state : HasState run.inside.own of.class =
          in_progress_there t run.inside.own of.class
          (in_progress around x t run acts top run.inside (stays_inside around x run.inside acts.sealed.inside) (λ u d. refl) of.class of.initialises) in
          elim (set_or_lack x of.class of.of_class run.inside state) [
            | inl (set, sets) ↦ set_falls of set sets top.frame.head.method refl
            | inr lacks ↦
                let way = raise_there around x t run (may_raise around x t run acts) (Raised.Standing Stands.OutOfMemoryError) tt in
                (way.1, after_raising way.0, lacks_constants at of way.0 lacks way.2)
          ]

      falls_by : (o : Option ClassId) → top.frame.head.initialises ≡ o → Step
      falls_by None plain = (_, _, need_falls at plain refl)
      falls_by (Some d) is =
          let named : IsNamed table d = subst (IsKnownClass table) is (known_top around x t run acts top).at_home.2 in
          let there = acts.setting.table.closed d named in
          constants (record { class = d; initialises = is; of_class = there.0; is_class = there.1 })

      falls : Step
      falls = falls_by top.frame.head.initialises refl

    -- ---- An instruction is done.

    code_of : top.frame.head.need ≡ None → RunsCode x.classes top.frame
    code_of no_need = code_here x.classes top.frame (here_of rows x table caps t run acts top no_need).0

    instr_does : (no_need : top.frame.head.need ≡ None)
        → ((c : ClassId) → InstrNeeds (code_of no_need).scope (code_of no_need).instr c → IsReady run.inside.own t c) → Step
    instr_does no_need ready =
        let code = code_of no_need in
        let well = runs_well rows x table caps t run acts top no_need in
        let done = instruction_there around x (record { inside = run.inside; frame = top.frame }) well code in
        let both = instruction_kept rows around x (record { inside = run.inside; frame = top.frame }) done.0 done.1 well code done.2 in
        let next = follows_there around x t run acts top code no_need done.0 both.0 done.1 both.1 in (
          next.0,
          next.1,
          does (record {
            top = top;
            no_need = no_need;
            code = code;
            ready = ready;
            working = done.0;
            outcome = done.1;
            executes = done.2;
          }) next.1 next.2,
        )

    -- ---- By what it needs.

    ready_goes : ((c : ClassId) → FrameNeeds x.classes top.frame c → IsReady run.inside.own t c) → (o : Option ClassId)
        → top.frame.head.need ≡ o → Step
    ready_goes ready None is = instr_does is (λ c needs. ready c (inr (is, (code_of is, needs))))
    ready_goes ready (Some c) is = falls c is (ready c (inl is))

    goes_ready : ((c : ClassId) → FrameNeeds x.classes top.frame c → IsReady run.inside.own t c) → Step
    goes_ready ready = ready_goes ready top.frame.head.need refl

    only_ready : (one : NeedsOne x.classes top.frame) → IsReady run.inside.own t one.class → (c : ClassId) → FrameNeeds x.classes top.frame c
        → IsReady run.inside.own t c
    only_ready one ready c needs = subst (IsReady run.inside.own t) (sym (one.only c needs)) ready

    by_state : (one : NeedsOne x.classes top.frame) (s : ClassState) → state_of run.inside.own one.class ≡ s → MustWait x.classes t run ⊎ Step
    by_state one State.Untouched is = inr (touch one.class one.needs is)
    by_state one State.Broken is = inr (meet_broken one.class one.needs is)
    by_state one State.Done is = inr (goes_ready (only_ready one (inl is)))
    by_state one (State.InProgress u) is = elim (number_decided u.0 t.0) [
      | inl same ↦
          let of : ℕ → ThreadNo = λ n. record { 0 = n } in
          let mine : u ≡ t = ap of same in
          inr (goes_ready (only_ready one (inr (is ∙ ap (λ (v : ThreadNo). State.InProgress v) mine))))
      | inr other ↦ inl (top, one.class, one.needs, (u, is, λ same. other (ap (λ (v : ThreadNo). v.0) same)))
    ]

    goes : MustWait x.classes t run ⊎ Step
    goes = elim (frame_needs x.classes top.frame code_of) [
      | inl one ↦ by_state one (state_of run.inside.own one.class) refl
      | inr never ↦ inr (goes_ready (λ c needs. absurd (never c needs)))
    ]

  pub there : ActsWell around x t run → MustWait x.classes t run ⊎ Step
  there acts = goes acts (top_of run.frames refl acts.answers)

-- In any surroundings of the setting.
pub step_there : HeapRowsKeep → (around : Surroundings) (x : Setting) (t : ThreadNo) (run : Run) → ActsWell around x t run
    → MustWait around.classes t run ⊎ ((new : Run) × (went : Went) × LocalStep x t run new went)
step_there rows around x t run acts =
    subst
    (λ (classes : List ClassRecord). ActsWell (record around { classes = classes }) x t run
    → MustWait classes t run ⊎ ((new : Run) × (went : Went) × LocalStep x t run new went)) acts.setting.classes
    (λ known. there rows x around.table around.caps t run known) acts
