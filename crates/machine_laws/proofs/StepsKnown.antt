-- A machine of which all is known: a step leads to such a machine. What requests keep is taken as known here.
use Rattle.std.proofs.Common.{◌≡◌, ◌≢◌, ◌⊎◌, ℕ, ◌==◌, inl, inr, Bool, true, false, cond, List, [], ◌∷◌, ◌++◌, append_assoc, Option, Some, None, refl, sym, ap, subst, ◌∙◌, arith}
use Rattle.std.proofs.lemmas.Option.{same_Some}
use Rattle.jk_model.specs.declared.identifiers.MemberId.{MemberId}
use Rattle.jk_model.specs.declared.identifiers.ThreadNo.{ThreadNo}
use Rattle.jk_model.specs.declared.output.Line.{Line}
use Rattle.jk_model.specs.declared.steps.Raise.{Raise}
use Rattle.jk_model.specs.declared.steps.Raise.TheVariants as Raised
use Rattle.jk_model.specs.declared.steps.Standing.TheVariants as Stands
use Rattle.jk_model.specs.declared.values.Value.{Value}
use Rattle.jk_model_classes.specs.declared.records.ClassRecord.{ClassRecord}
use Rattle.jk_model_classes.specs.declared.records.MethodRecord.{MethodRecord}
use Rattle.jk_model_classes.specs.declared.records.TypeRef.{TypeRef}
use Rattle.jk_model_classes.specs.Lookups.{MethodIs}
use Rattle.jk_model_frames.specs.Frames.{FrameState}
use Rattle.jk_model_domains.specs.Objects.{NamedObject}
use Rattle.jk_model_heaps.specs.Capabilities.{CapRange}
use Rattle.jk_model_heaps.specs.SystemClasses.{ABSTRACT_METHOD_ERROR, ILLEGAL_ACCESS_ERROR, INCOMPATIBLE_CLASS_CHANGE_ERROR}
use Rattle.jk_model_heaps.specs.Workings.{Inside, Request, Run}
use Rattle.jk_model_running.specs.Ways.{Went, Asks}
use Rattle.jk_model_sealing.specs.AnsweringFrames.{GivesResult}
use Rattle.jk_model_sealing.specs.SealedInsides.{Surroundings}
use Rattle.jk_model_sharing.specs.Segments.{SharedSegment, with_revoked, with_stop}
use Rattle.jk_model_machine_state.specs.Machines.{DomainState, Machine, Segment, caps_of, paid}
use Rattle.jk_model_machine_state.specs.Places.{RunningSegment, run_of, setting_of, with_flags, with_run}
use Rattle.jk_model_crossings.specs.RemoteCalls.{Refuses, RemoteCall}
use Rattle.jk_model_crossings.specs.Throwing.{RaisesInThread, TopTwo}
use Rattle.jk_model_runs.specs.AnsweredCalls.{SegmentAnswers, SegmentsAnswer}
use Rattle.jk_model_runs.specs.Events.{IsWhole}
use Rattle.jk_model_runs.specs.Sealed.{surroundings}
use Rattle.jk_model_runs.specs.Steps.{Acts, Deed, Ensues, StepsBy}
use Rattle.class_lemmas.proofs.OneRecord.{one_method}
use Rattle.heap_laws.specs.FittingOutcomes.{IsResult}
use Rattle.heap_laws.specs.RaisableObjects.{IsThrowable, MayBeRaised}
use Rattle.row_laws.specs.HeapRowLaws.{HeapRowsKeep}
use Rattle.row_laws.specs.KeptRuns.{KeepsRun, LowestGives, RunOn}
use Rattle.row_laws.proofs.StepsKept.{step_kept}
use Rattle.row_laws.proofs.SystemParents.{below_listed}
use Rattle.machine_laws.specs.CallsAndAnswers.{Awaits, IsAnswerOf, IsKnownAnswer, IsTaken}
use Rattle.machine_laws.specs.KnownMachines.{IsKnownMachine}
use Rattle.machine_laws.specs.RunsInMachines.{GivesStill}
use Rattle.machine_laws.specs.SoundMachines.{AreOthersAnswered, HasSoundClasses}
use Rattle.machine_laws.proofs.AnswersSealed.{returns_answered, returns_sealed}
use Rattle.machine_laws.proofs.CallsSealed.{call_answered, call_sealed}
use Rattle.machine_laws.proofs.ChangedItems.{parts_stay}
use Rattle.machine_laws.proofs.EndsSealed.{ends_answered, ends_sealed}
use Rattle.machine_laws.proofs.LowestFramesStay.{step_gives}
use Rattle.machine_laws.proofs.PaidSteps.{known_paid}
use Rattle.machine_laws.proofs.RaisesSealed.{raises_answered, raises_sealed}
use Rattle.machine_laws.proofs.RaisesWhereMet.{meets_at, some_frames}
use Rattle.machine_laws.proofs.RunningSegmentsFit.{acts_well, top_answers}
use Rattle.machine_laws.proofs.RunsAgain.{inside_there, running_then, runs_there, set_inside}
use Rattle.machine_laws.proofs.RunsAnswered.{calls_answered}
use Rattle.machine_laws.proofs.SealedAfterRuns.{goes_on, left_sealed, sealed_after}
use Rattle.machine_laws.proofs.SegmentsAnswered.{others_left, own_answered, running_answered}
use Rattle.machine_laws.proofs.StepsThatCross.{IsAtCrossing, crosses_at, stands_at}
use Rattle.machine_laws.proofs.ThrowablesSealed.{HasThrown, throws_answered, throws_sealed}
use Rattle.machine_laws.proofs.TopSegmentsTaken.{inside_stays, lower_is, segments_stay}
use Rattle.machine_laws.proofs.WorldsKept.{running_keeps, sound_classes_stay}

-- ---- What is raised in a machine that is sealed.

pub raised_whole : (m : Machine) (t : ThreadNo) (p : RunningSegment m t) → IsWhole m → HasSoundClasses m → (r : Raise)
    → MayBeRaised m.classes p.home.inside.heap r → (n : ℕ) (lines : List Line) (new : Machine) → RaisesInThread m t r n lines new → IsWhole new
raised_whole m t p whole sound r can n lines new raises = (
  raises_sealed m t (meets_at m t whole.0 sound p p.segment refl refl refl) r can m
      (λ i. record m {
        domains = sym (inside_stays m p.segment.shared.domain whole.0.domains.numbered p.home.domain p.home.inside p.home.is_domain
            p.home.is_inside) i;
        threads = sym (segments_stay m t whole.0.threads.rise p) i;
      }) n lines new raises,
  raises_answered m t r n lines new whole.1 raises,
)

-- each refusal is a throwable of the system, or one that stands there
pub refusal : (w : Machine) → HasSoundClasses w → (heap : List NamedObject) (t : ThreadNo) (c : RemoteCall w t) (r : Raise) → Refuses c r
    → MayBeRaised w.classes heap r
refusal w sound heap t c r (Refuses.is_dead dead) = tt
refusal w sound heap t c r (Refuses.not_shown live not) = (omega arith, below_listed w.classes sound.codes 9 INCOMPATIBLE_CLASS_CHANGE_ERROR.0 9 refl)
refusal w sound heap t c r (Refuses.no_target shown not) = (omega arith, below_listed w.classes sound.codes 9 ABSTRACT_METHOD_ERROR.0 9 refl)
refusal w sound heap t c r (Refuses.not_public target not) = (omega arith, below_listed w.classes sound.codes 9 ILLEGAL_ACCESS_ERROR.0 9 refl)
refusal w sound heap t c r (Refuses.not_copiable o not) = tt
refusal w sound heap t c r (Refuses.few_words o large) = tt
refusal w sound heap t c r (Refuses.few_chunks o may few) = tt

-- ---- What the segment below a top one takes.

answers_below : (classes : List ClassRecord) (front : List Segment) (s above : Segment) → SegmentsAnswer classes (front ++ s ∷ above ∷ [])
    → (above.shared.orphan ≡ true) ⊎ SegmentAnswers classes s above
answers_below classes [] s above h = h.1
answers_below classes (a ∷ []) s above h = h.2.1
answers_below classes (a ∷ b ∷ front) s above h = answers_below classes (b ∷ front) s above h.2

abbrev lowest_or : FrameState → List FrameState → FrameState
lowest_or d [] = d
lowest_or d (f ∷ fs) = f

same_head : (x y : FrameState) (xs ys : List FrameState) → x ∷ xs ≡ y ∷ ys → x ≡ y
same_head x y xs ys e = ap (lowest_or x) e

-- a frame gives one result
one_result : (classes : List ClassRecord) (f : FrameState) (a b : Option TypeRef) → GivesResult classes f a → GivesResult classes f b → a ≡ b
one_result classes f a b x y =
    let same : x.0 ≡ y.0 = same_Some x.0 y.0 (sym x.2 ∙ y.2) in
    sym x.4
    ∙ ap (λ (r : MethodRecord). r.result)
    (one_method classes y.0 x.1 y.1 (subst (λ (m : MemberId). MethodIs classes m x.1) same x.3) y.3)
    ∙ y.4

result_given : (around : Surroundings) (heap : List NamedObject) (o : Option TypeRef) (v : Option Value) → IsResult around heap o v
    → IsAnswerOf around.classes heap o v × IsKnownAnswer around.caps heap v
result_given around heap (Some t) (Some v) h = h
result_given around heap None (Some v) h = absurd h
result_given around heap (Some t) None h = absurd h
result_given around heap None None h = (tt, tt)

caps_by : (b : Bool) (inside : Inside) (e : DomainState) → (cond b (record e { inside = Some inside }) e).caps ≡ e.caps
caps_by true inside e = refl
caps_by false inside e = refl

-- ---- What a step leads to.

-- what follows where a segment has asked for something
abbrev pub AsksWell : Machine → ThreadNo → Type 0
AsksWell m t =
    (p : RunningSegment m t) (run : Run) (request : Request)
    → KeepsRun (surroundings m p.home.domain) (setting_of p) t (run_of p) run (Asks request) → GivesStill m.classes p.segment.frames run.frames
    → (deed : Deed) (lines : List Line) (new : Machine) → Ensues (with_run p run) t (Asks request) deed lines new → IsWhole new

module _ (m : Machine) (t : ThreadNo) (known : IsKnownMachine m) where
  flags_whole : (p : RunningSegment m t) (shared : SharedSegment) → shared.number ≡ p.segment.shared.number
      → shared.domain ≡ p.segment.shared.domain → shared.orphan ≡ p.segment.shared.orphan → (r : Raise)
      → MayBeRaised m.classes p.home.inside.heap r → (n : ℕ) (lines : List Line) (new : Machine)
      → RaisesInThread (with_flags p shared) t r n lines new → IsWhole new
  flags_whole p shared number domain orphan r can n lines new raises =
      let flagged : Segment = record p.segment { shared = shared } in (
        raises_sealed m t (meets_at m t known.0.0 known.1 p flagged number domain refl) r can (with_flags p shared) refl n lines new raises,
        raises_answered (with_flags p shared) t r n lines new
            (running_answered m t p known.0.1 flagged p.home.inside orphan (λ result gives. gives)
            (top_answers m.classes p.lower p.segment (own_answered m t p known.0.1))) raises,
      )

  module _ (p : RunningSegment m t) (run : Run) (went : Went) (keeps : KeepsRun (surroundings m p.home.domain) (setting_of p) t (run_of p) run went) where
    abbrev ran : Segment
    ran = record p.segment { frames = run.frames }

    abbrev w : Machine
    w = with_run p run

    abbrev around : Surroundings
    around = surroundings m p.home.domain

    abbrev q : RunningSegment w t
    q = running_then m t p ran run.inside refl

    pub sound : HasSoundClasses w
    sound = sound_classes_stay m w (running_keeps p ran run.inside) known.1

    pub whole : RunOn around run → GivesStill m.classes p.segment.frames run.frames → IsWhole w
    whole on gives =
        let r = goes_on m t p run went known.0.0 keeps on.0 in (sealed_after m t r, calls_answered m t r refl gives on.1 known.0.1)

    pub others : AreOthersAnswered w t
    others = others_left m t p known.0.1 ran run.inside refl

    pub caps_same : caps_of w ≡ caps_of m
    caps_same =
        parts_stay (set_inside p.segment.shared.domain run.inside) (λ (e : DomainState). e.caps)
        (λ e. caps_by (e.number.0 == p.segment.shared.domain.0) run.inside e) m.domains

    -- ---- The lowest frame has returned.

    module _ (none : run.frames ≡ []) (v : Option Value) (result : Option TypeRef) (lowest : LowestGives m.classes (run_of p) result)
        (is : IsResult around run.inside.heap result v) where
      awaits : (s : TopTwo w t) → (heap : List NamedObject) → heap ≡ run.inside.heap → SegmentAnswers m.classes s.below.segment p.segment
          → Awaits m.classes heap s.below.segment.frames v
      awaits s heap same a =
          let first : a.lowest ≡ lowest.0 = same_head a.lowest lowest.0 a.others lowest.1 (sym a.are_above ∙ lowest.2) in
          let one : a.answers.0 ≡ result =
          one_result m.classes lowest.0 a.answers.0 result (subst (λ (f : FrameState). GivesResult m.classes f a.answers.0) first a.answers.2) lowest.3
          in
          record {
            callers = a.callers;
            caller = a.caller;
            are_frames = a.are_below;
            result = a.answers.0;
            awaits = a.answers.1;
            answer = subst (λ (o : Option TypeRef). IsAnswerOf m.classes heap o v) (sym one)
                (subst (λ (h : List NamedObject). IsAnswerOf m.classes h result v) (sym same) (result_given around run.inside.heap result v is).0);
          }

      pub taken : IsTaken w t v
      taken s orphan =
          let sealed = left_sealed m t p run went known.0.0 keeps none in
          let one = runs_there m t p ran run.inside refl s.left in
          let heap : s.left.home.inside.heap ≡ run.inside.heap =
          ap (λ (i : Inside). i.heap) (inside_there m t p ran run.inside refl s.left) in
          let lower : p.lower ≡ s.below.lower ++ s.below.segment ∷ [] =
          sym one.0 ∙ lower_is w t sealed s (ap (λ (x : Segment). x.frames) one.1 ∙ none) in
          let own : SegmentsAnswer m.classes (s.below.lower ++ s.below.segment ∷ p.segment ∷ []) =
          subst (SegmentsAnswer m.classes)
          (ap (λ (ss : List Segment). ss ++ p.segment ∷ []) lower ∙ append_assoc s.below.lower (s.below.segment ∷ []) (p.segment ∷ []))
          (own_answered m t p known.0.1) in (
            by s heap (ap (λ (x : Segment). x.shared.orphan) (sym one.1) ∙ orphan) (answers_below m.classes s.below.lower s.below.segment p.segment own),
            subst (λ (caps : List CapRange). IsKnownAnswer caps s.left.home.inside.heap v) (sym caps_same)
                (subst (λ (h : List NamedObject). IsKnownAnswer (caps_of m) h v) (sym heap) (result_given around run.inside.heap result v is).1),
          )
        where
          by : (s : TopTwo w t) → s.left.home.inside.heap ≡ run.inside.heap → p.segment.shared.orphan ≡ false
              → (p.segment.shared.orphan ≡ true) ⊎ SegmentAnswers m.classes s.below.segment p.segment
              → Awaits m.classes s.left.home.inside.heap s.below.segment.frames v
          by s heap not (inl orphan) = let never : true ≡ false = sym orphan ∙ not in absurd cc
          by s heap not (inr a) = awaits s s.left.home.inside.heap heap a

  -- ---- By what it comes to.

  module _ (asks : AsksWell m t) (p : RunningSegment m t) (run : Run) where
    ensues_whole : (went : Went) (deed : Deed) (lines : List Line) (new : Machine) → Ensues (with_run p run) t went deed lines new
        → KeepsRun (surroundings m p.home.domain) (setting_of p) t (run_of p) run went → IsAtCrossing m.classes run went
        → (run.frames ≢ [] → GivesStill m.classes p.segment.frames run.frames) → IsWhole new
    ensues_whole went deed lines new Ensues.goes_on keeps crossing gives =
        whole p run went keeps keeps.fits (gives (some_frames m.classes run.frames keeps.fits.1))
    ensues_whole went deed lines new (Ensues.says s text) keeps crossing gives =
        whole p run went keeps keeps.fits (gives (some_frames m.classes run.frames keeps.fits.1))
    ensues_whole went deed lines new (Ensues.ended v n said end done) keeps crossing gives =
        let fits = keeps.fits in (
          returns_sealed (with_run p run) t (q p run went keeps) v n said end (left_sealed m t p run went known.0.0 keeps fits.0)
              (sound p run went keeps) fits.0 (taken p run went keeps fits.0 v fits.1.0 fits.1.1 fits.1.2) done,
          returns_answered (with_run p run) t v n said end (others p run went keeps) done,
        )
    ensues_whole went deed lines new (Ensues.left a n said end done) keeps crossing gives =
        let fits = keeps.fits in
        let thrown : HasThrown (with_run p run) t a =
        record {
          left = λ s. ap (λ (x : Segment). x.frames) (runs_there m t p (ran p run went keeps) run.inside refl s).1 ∙ fits.0;
          throwable = λ s.
              subst (λ (i : Inside). IsThrowable m.classes i.heap a)
              (sym (inside_there m t p (ran p run went keeps) run.inside refl s)) fits.1;
        } in (
          throws_sealed t n (with_run p run) a said end done (left_sealed m t p run went known.0.0 keeps fits.0) (sound p run went keeps) thrown,
          throws_answered t n (with_run p run) a said end done (others p run went keeps),
        )
    ensues_whole went deed lines new (Ensues.enters k method c end of_cap of_method h) keeps crossing gives =
        let on = keeps.fits.0 in
        let then = whole p run went keeps on (gives (some_frames m.classes run.frames on.1)) in
        let stands = stands_at m t p run c method of_method crossing in (
          call_sealed (with_run p run) t then.0 (sound p run went keeps) c stands end h,
          call_answered (with_run p run) t then.0 (sound p run went keeps) c stands end h then.1,
        )
    ensues_whole went deed lines new (Ensues.is_refused k method c r n said end of_cap of_method refused h) keeps crossing gives =
        let on = keeps.fits.0 in
        let then = whole p run went keeps on (gives (some_frames m.classes run.frames on.1)) in
        raised_whole (with_run p run) t (q p run went keeps) then (sound p run went keeps) r
        (refusal (with_run p run) (sound p run went keeps) run.inside.heap t c r refused) n said end h
    ensues_whole went deed lines new (Ensues.grants s request v mid end granted u received) keeps crossing gives =
        asks p run request keeps (gives (some_frames m.classes run.frames keeps.fits.0.1)) deed lines new
        (Ensues.grants s request v mid end granted u received)
    ensues_whole went deed lines new (Ensues.denies s request r n said mid end granted h) keeps crossing gives =
        asks p run request keeps (gives (some_frames m.classes run.frames keeps.fits.0.1)) deed lines new
        (Ensues.denies s request r n said mid end granted h)
    ensues_whole went deed lines new (Ensues.terminates s said end h) keeps crossing gives =
        let then = whole p run went keeps keeps.fits (gives (some_frames m.classes run.frames keeps.fits.1)) in (
          ends_sealed (with_run p run) end s.home.domain said then.0 h,
          ends_answered (with_run p run) end s.home.domain said then.1 h,
        )

  acts_whole : HeapRowsKeep → AsksWell m t → (deed : Deed) (lines : List Line) (new : Machine) → Acts m t deed lines new → IsWhole new
  acts_whole rows asks deed lines new (Acts.stops p n said end stop h) =
      flags_whole p (with_stop false p.segment.shared) refl refl refl (Raised.Standing Stands.ThreadDeath) tt n said end h
  acts_whole rows asks deed lines new (Acts.is_revoked p n said end stop revoked h) =
      flags_whole p (with_revoked false p.segment.shared) refl refl refl (Raised.Standing Stands.Revoked) tt n said end h
  acts_whole rows asks deed lines new (Acts.does p run went done said end stop revoked step h) =
      let acts = acts_well m t p known revoked in
      ensues_whole asks p run went done said end h
      (step_kept rows (surroundings m p.home.domain) (setting_of p) t (run_of p) run went acts step)
      (crosses_at rows (setting_of p) p.home.domain.table (caps_of m) t (run_of p) run went acts step)
      (step_gives rows (surroundings m p.home.domain) (setting_of p) t (run_of p) run went acts step)

-- ---- A step.

pub step_whole : HeapRowsKeep → ((m : Machine) (t : ThreadNo) → IsKnownMachine m → AsksWell m t) → (m new : Machine) (t : ThreadNo) (deed : Deed)
    (lines : List Line) → IsKnownMachine m → StepsBy m t deed lines new → IsWhole new
step_whole rows asks m new t deed lines known (StepsBy.not_live gone) = known.0
step_whole rows asks m new t deed lines known (StepsBy.is_held p held) = known.0
step_whole rows asks m new t deed lines known (StepsBy.is_spent p free spent) = known.0
step_whole rows asks m new t deed lines known (StepsBy.acts p done said end free rich h) =
    let there = known_paid m p.segment.shared.domain known in
    acts_whole (paid p.segment.shared.domain m) t there rows (asks (paid p.segment.shared.domain m) t there) done said end h
