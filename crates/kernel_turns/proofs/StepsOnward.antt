-- A segment that acts alone acts on after steps that it does alone, and steps after others are steps.
use Rattle.std.proofs.Common.{◌≡◌, ℕ, zero, suc, ◌+◌, ◌-◌, ◌≤◌, List, Contains, Option, Some, slice_get, refl, sym, ap, subst, ◌∙◌, arith}
use Rattle.std.specs.Option.{option_map_or}
use Rattle.std.proofs.lemmas.Option.{same_Some}
use Rattle.jk_model.specs.declared.identifiers.ThreadNo.{ThreadNo}
use Rattle.jk_model_domains.specs.OwnStates.{Literal}
use Rattle.jk_model_frames.specs.Frames.{frames_chunks}
use Rattle.jk_model_heaps.specs.Workings.{Inside, Run, Setting}
use Rattle.jk_model_running.specs.Initialising.{FrameNeeds, IsInProgressElsewhere}
use Rattle.jk_model_running.specs.LocalSteps.{LocalStep}
use Rattle.jk_model_running.specs.Ways as Way
use Rattle.jk_model_classes.specs.declared.records.ClassRecord.{ClassRecord}
use Rattle.jk_model_sealing.specs.SealedInsides.{IsSealedInside, Surroundings}
use Rattle.frame_store.specs.FrameContents.{KeepsDomains}
use Rattle.heap_laws.specs.ClassesInProgress.{count_initialisers}
use Rattle.row_laws.specs.KeptRuns.{ActsWell, KeepsRun}
use Rattle.row_laws.specs.LocalStepLaws.{LocalStepsKeep}
use Rattle.row_laws.proofs.StatesOfFrames.{states_there}
use Rattle.jk_model_sealing.specs.ClassesInProgress.{progress_by}
use Rattle.step_contents.specs.Conditions.{around}
use Rattle.step_contents.specs.Contents.{Becomes, Contents, Here, Holds}
use Rattle.step_contents.specs.Settings.{IsSetting}
use Rattle.exception_unwind.proofs.KnownDomains.{known_quota, known_setting}
use Rattle.exception_unwind.proofs.KnownDomains.{some_setting as a_setting}
use Rattle.segment_steps.specs.ActingSegments.{MayAct}
use Rattle.segment_steps.specs.StandingTops.{WaitsForNone}
use Rattle.segment_steps.specs.StepsAlone.{IsWent, Stepped, Steps}
use Rattle.segment_steps.specs.StepsInTurn.{HaveRooms, StepsInTurn, StepsLead, WaitsForNoClass, none, one_more, set_after}
use Rattle.segment_steps.specs.LeavingSegments.{IsLeaving}
use Rattle.segment_steps.specs.StepsThatLeave.{StepsComeTo, StepsLeave}
use Rattle.segment_steps.specs.declared.went.Went.{Went}
use Rattle.segment_steps.specs.declared.went.Went.TheVariants as Goes
use Rattle.segment_steps.proofs.ChangesInTurn.{becomes_then, holds_after}
use Rattle.segment_steps.proofs.KnownAfterwards.{IsKept, known_after, rooms_after}
use Rattle.segment_steps.proofs.PaidFrames.{paid_after}
use Rattle.segment_steps.proofs.StandingHere.{becomes_same, same_frames}
use Rattle.segment_steps.proofs.StepsJoined.{all_fit, one_step, rooms_last, steps_then}
use Rattle.kernel_turns.specs.ActingAlone.{IsActing}

-- ---- Runs.

-- the thread goes on in its segment
only_goes : (way : Way.Went) → IsWent way Goes.GoesOn → way ≡ Way.GoesOn
only_goes Way.GoesOn is = refl
only_goes (Way.Says text) is = absurd is
only_goes (Way.Ended v) is = absurd cc
only_goes (Way.Left a) is = absurd cc
only_goes (Way.Crosses k m) is = absurd cc
only_goes (Way.Asks request) is = absurd is
only_goes Way.Terminates is = absurd cc

module _ (keep : LocalStepsKeep) (around : Surroundings) (t : ThreadNo) where
  -- what a step leaves acts on
  acts_on : (x : Setting) (a b : Run) → ActsWell around x t a → LocalStep x t a b Way.GoesOn → ActsWell around (set_after x a b) t b
  acts_on x a b well step =
      let kept : KeepsRun around x t a b Way.GoesOn = keep around x t a b Way.GoesOn well step in
      record {
        setting = record {
          classes = well.setting.classes;
          ranges = well.setting.ranges;
          stand_ins = well.setting.stand_ins;
          codes = well.setting.codes;
          table = well.setting.table;
        };
        sealed = record { inside = kept.inside.sealed; frames = kept.fits.0 };
        answers = kept.fits.1;
        progress = λ c.
            (let all = well.progress c in
            let moved = kept.progress.own c in
            let now : count_initialisers c b.frames ≤ progress_by t b.inside.own c = omega (arith, all, moved) in
            now);
      }

  all_act_on : (rooms : List (List ℕ)) (n : ℕ) (x : Setting) (a b : Run) → ActsWell around x t a → StepsInTurn t rooms n x a b
      → (y : Setting) × (y.quota ≡ x.quota) × ActsWell around y t b
  all_act_on rooms zero x a b well (none _ _) = (x, refl, well)
  all_act_on rooms (suc n) x a b well (one_more _ _ _ mid _ waits step have fits more) =
      all_act_on rooms n (set_after x a mid) mid b (acts_on x a mid well step) more

-- ---- Contents.

-- what contents hold of a segment is one run
one_run : (c : Contents) (here : Here) (a b : Run) → Holds c here a → Holds c here b → a ≡ b
one_run c here a b first second =
    let inside : a.inside ≡ b.inside = first.inside ∙ sym second.inside in
    let same : record { domain = here.domain; frames = a.frames } ≡ record { domain = here.domain; frames = b.frames } =
    same_Some (record { domain = here.domain; frames = a.frames }) (record { domain = here.domain; frames = b.frames })
    (sym first.frames ∙ second.frames) in
    λ i. record { inside = inside i; frames = (same i).frames }

module _ (old : Contents) (here : Here) (t : ThreadNo) (acting : IsActing old here t) where
  acts_well_in : (x : Setting) → IsSetting old here x → ActsWell (around acting.may.domain) x t acting.may.run
  acts_well_in x set = record {
    setting = known_setting old here acting.may.domain x set;
    sealed = record {
      inside = subst (λ (q : ℕ). IsSealedInside (around acting.may.domain) q acting.may.run.inside)
          (known_quota old here acting.may.domain x set) acting.may.sealed.inside;
      frames = acting.may.sealed.frames;
    };
    answers = acting.may.answers;
    progress = acting.progress;
  }

  held : HaveRooms old.own.rooms acting.may.run
  held l has = acting.may.domain.rooms.literals l (subst (λ (i : Inside). Contains i.own.literals l) acting.may.holds.inside has)

  paid : frames_chunks acting.may.run.frames ≤ old.frames.used here.domain
  paid = acting.pays (record { domain = here.domain; frames = acting.may.run.frames }) acting.may.holds.frames

  -- ---- The setting after steps.

  pub set_then : (new : Contents) (run : Run) → Becomes old new here acting.may.run run → (x : Setting) → IsSetting old here x
      → frames_chunks run.frames ≤ frames_chunks acting.may.run.frames + x.chunks → IsSetting new here (set_after x acting.may.run run)
  set_then new run b x set fits = record {
    classes = set.classes;
    caps = set.caps;
    names = set.names;
    is_domain = set.is_domain;
    name = set.name;
    segment = set.segment;
    quota = b.inside.heaps.domains.quota here.domain ∙ set.quota;
    chunks = free_then;
  }
    where
      free_then : x.chunks + frames_chunks acting.may.run.frames - frames_chunks run.frames
          ≡ option_map_or (λ (q : ℕ). q - new.frames.used here.domain) (new.frames.quota here.domain) 0
      free_then =
          let free : x.chunks ≡ acting.quota - old.frames.used here.domain =
          set.chunks ∙ ap (λ (p : Option ℕ). option_map_or (λ (q : ℕ). q - old.frames.used here.domain) p 0) acting.has_quota in
          let left : x.chunks + frames_chunks acting.may.run.frames - frames_chunks run.frames ≡ acting.quota - new.frames.used here.domain =
          omega (arith, free, acting.within, paid, fits, b.frames.chunks, b.frames.changes.uses) in
          left
          ∙ sym (ap (λ (p : Option ℕ). option_map_or (λ (q : ℕ). q - new.frames.used here.domain) p 0)
          (b.frames.changes.domains.quota here.domain ∙ acting.has_quota))

  -- ---- It acts on after them.

  module _ (keep : LocalStepsKeep) (new : Contents) (n : ℕ) (lead : StepsLead old new here t n) where
    abbrev some : (x : Setting) × IsSetting old here x
    some = a_setting old here acting.may.domain

    abbrev led : (run : Run) × StepsInTurn t old.own.rooms n some.0 acting.may.run run × Becomes old new here acting.may.run run
    led = lead some.0 acting.may some.1

    well : (y : Setting) × (y.quota ≡ some.0.quota) × ActsWell (around acting.may.domain) y t led.0
    well = all_act_on keep (around acting.may.domain) t old.own.rooms n some.0 acting.may.run led.0 (acts_well_in some.0 some.1) led.1

    kept_rooms : IsKept new.own
    kept_rooms = record {
      rooms_differ = subst
          (λ (rooms : List (List ℕ)). (i j : ℕ) (text : List ℕ) → slice_get rooms i ≡ Some text → slice_get rooms j ≡ Some text → i ≡ j)
          (sym led.2.inside.rooms)
          acting.may.domain.rooms.rooms_differ;
      literals = λ l has.
          subst (λ (rooms : List (List ℕ)). Contains rooms l.text) (sym led.2.inside.rooms)
          (rooms_last t old.own.rooms n some.0 acting.may.run led.0 held led.1 l
          (subst (λ (i : Inside). Contains i.own.literals l) (sym led.2.inside.is_inside) has));
    }

    quota_then : acting.may.domain.quota ≡ well.0.quota
    quota_then = known_quota old here acting.may.domain some.0 some.1 ∙ sym well.1

    pub acting_after : IsActing new here t
    acting_after = record {
      may = record {
        domain = known_after old new here led.0.inside led.2.inside acting.may.domain
            (rooms_after old new here led.0.inside led.2.inside acting.may.domain kept_rooms);
        run = led.0;
        holds = holds_after old new here acting.may.run led.0 led.2;
        sealed = record {
          inside = subst (λ (q : ℕ). IsSealedInside (around acting.may.domain) q led.0.inside) (sym quota_then) well.2.sealed.inside;
          frames = well.2.sealed.frames;
        };
        answers = well.2.answers;
        states = states_there t led.0.inside.own led.0.frames well.2.progress;
      };
      progress = well.2.progress;
      pays = paid_after old new here acting.may.run.frames led.0.frames acting.may.holds.frames led.2.frames acting.pays;
      quota = acting.quota;
      has_quota = led.2.frames.changes.domains.quota here.domain ∙ acting.has_quota;
      within = fits_then;
    }
      where
        fits_then : new.frames.used here.domain ≤ acting.quota
        fits_then =
            let free : some.0.chunks ≡ acting.quota - old.frames.used here.domain =
            some.1.chunks ∙ ap (λ (p : Option ℕ). option_map_or (λ (q : ℕ). q - old.frames.used here.domain) p 0) acting.has_quota in
            let fits = all_fit t old.own.rooms n some.0 acting.may.run led.0 led.1 in
            omega (arith, free, acting.within, paid, fits, led.2.frames.chunks, led.2.frames.changes.uses)

  -- ---- No step, one step, and steps after steps.

  pub none_lead : StepsLead old old here t 0
  none_lead = λ x may set. (may.run, none x may.run, becomes_same old here may.run may.domain may.holds old.frames (same_frames old.frames))

  waits_for_none : WaitsForNone old.frames here.world.classes here.segment old.own.state t → (x : Setting) (may : MayAct old here)
      → IsSetting old here x → WaitsForNoClass x.classes t may.run
  waits_for_none free x may set = λ top k needs elsewhere.
      free top.frame k
      (record {
        segment = record { domain = here.domain; frames = may.run.frames };
        is_there = may.holds.frames;
        lower = top.callers;
        frames = top.are_frames;
      })
      (subst (λ (cs : List ClassRecord). FrameNeeds cs top.frame k) set.classes needs)
      (subst (λ (i : Inside). IsInProgressElsewhere i.own t k) may.holds.inside elsewhere)

  pub one_leads : LocalStepsKeep → (new : Contents) → WaitsForNone old.frames here.world.classes here.segment old.own.state t
      → ((l : Literal) → Contains new.own.state.literals l → Contains new.own.rooms l.text) → Steps old new here t Goes.GoesOn
      → StepsLead old new here t 1
  one_leads keep new free literals steps = λ x may set.
      let done : Stepped x t may new Goes.GoesOn = steps x may set in
      let same : acting.may.run ≡ may.run = one_run old here acting.may.run may.run acting.may.holds may.holds in
      let step : LocalStep x t may.run done.run Way.GoesOn =
      subst (λ (way : Way.Went). LocalStep x t may.run done.run way) (only_goes done.way done.is_went) done.steps in
      let well : ActsWell (around acting.may.domain) x t may.run =
      subst (λ (r : Run). ActsWell (around acting.may.domain) x t r) same (acts_well_in x set) in
      let kept : KeepsRun (around acting.may.domain) x t may.run done.run Way.GoesOn =
      keep (around acting.may.domain) x t may.run done.run Way.GoesOn well step in (
        done.run,
        one_step t old.own.rooms x may.run done.run (waits_for_none free x may set) step
            (λ l has.
            subst (λ (rooms : List (List ℕ)). Contains rooms l.text) done.becomes.inside.rooms
            (literals l (subst (λ (i : Inside). Contains i.own.literals l) done.becomes.inside.is_inside has)))
            kept.chunks,
        done.becomes,
      )

  pub then_lead : (mid new : Contents) (n m : ℕ) → StepsLead old mid here t n → IsActing mid here t → StepsLead mid new here t m
      → StepsLead old new here t (n + m)
  then_lead mid new n m first acts second = λ x may set.
      let led = first x may set in
      let same : acting.may.run ≡ may.run = one_run old here acting.may.run may.run acting.may.holds may.holds in
      let fits = all_fit t old.own.rooms n x may.run led.0 led.1 in
      let y : Setting = set_after x may.run led.0 in
      let set_mid : IsSetting mid here y =
      subst (λ (r : Run). (b : Becomes old mid here r led.0) → frames_chunks led.0.frames ≤ frames_chunks r.frames + x.chunks
      → IsSetting mid here (set_after x r led.0)) same (λ b f. set_then mid led.0 b x set f) led.2 fits in
      let is_run : acts.may.run ≡ led.0 =
      one_run mid here acts.may.run led.0 acts.may.holds (holds_after old mid here may.run led.0 led.2) in
      let next = second y acts.may set_mid in
      let steps : StepsInTurn t old.own.rooms m y led.0 next.0 =
      subst (λ (rooms : List (List ℕ)). StepsInTurn t rooms m y led.0 next.0) led.2.inside.rooms
      (subst (λ (r : Run). StepsInTurn t mid.own.rooms m y r next.0) is_run next.1) in (
        next.0,
        steps_then t old.own.rooms n m x may.run led.0 next.0 led.1 steps,
        becomes_then old mid new here may.run led.0 next.0 led.2
            (subst (λ (r : Run). Becomes mid new here r next.0) is_run next.2),
      )

  pub domains_kept_leaving : (new : Contents) (n : ℕ) (went : Went) → StepsLeave old new here t n went → KeepsDomains old.frames new.frames
  domains_kept_leaving new n went leave =
      let some = a_setting old here acting.may.domain in
      (leave some.0 acting.may some.1).2.4.frames.changes.domains

  -- the pool and the domains are as before
  pub domains_kept : (new : Contents) (n : ℕ) → StepsLead old new here t n → KeepsDomains old.frames new.frames
  domains_kept new n lead =
      let some = a_setting old here acting.may.domain in
      (lead some.0 acting.may some.1).2.frames.changes.domains

-- ---- Steps, and one by which the thread leaves the segment.

module _ (old : Contents) (here : Here) (t : ThreadNo) (acting : IsActing old here t) where
  pub then_leave : LocalStepsKeep → (mid new : Contents) (n : ℕ) (went : Went) → StepsLead old mid here t n → IsActing mid here t
      → WaitsForNone mid.frames here.world.classes here.segment mid.own.state t
      → ((l : Literal) → Contains new.own.state.literals l → Contains new.own.rooms l.text) → Steps mid new here t went
      → StepsLeave old new here t (n + 1) went
  then_leave keep mid new n went first acts free literals steps = λ x may set.
      let led = first x may set in
      let same : acting.may.run ≡ may.run = one_run old here acting.may.run may.run acting.may.holds may.holds in
      let fits = all_fit t old.own.rooms n x may.run led.0 led.1 in
      let y : Setting = set_after x may.run led.0 in
      let set_mid : IsSetting mid here y =
      subst (λ (r : Run). (b : Becomes old mid here r led.0) → frames_chunks led.0.frames ≤ frames_chunks r.frames + x.chunks
      → IsSetting mid here (set_after x r led.0)) same (λ b f. set_then old here t acting mid led.0 b x set f) led.2 fits in
      let is_run : acts.may.run ≡ led.0 =
      one_run mid here acts.may.run led.0 acts.may.holds (holds_after old mid here may.run led.0 led.2) in
      let done : Stepped y t acts.may new went = steps y acts.may set_mid in
      let kept : KeepsRun (around acts.may.domain) y t acts.may.run done.run done.way =
      keep (around acts.may.domain) y t acts.may.run done.run done.way (acts_well_in mid here t acts y set_mid) done.steps in
      let count : n + 1 ≡ suc n = omega arith in (
        n,
        count,
        (
          led.0,
          done.run,
          led.1,
          record {
            waits = subst (λ (r : Run). WaitsForNoClass y.classes t r) is_run (waits_for_none mid here t acts free y acts.may set_mid);
            way = done.way;
            step = subst (λ (r : Run). LocalStep y t r done.run done.way) is_run done.steps;
            is_went = done.is_went;
            have_rooms = λ l has.
                subst (λ (rooms : List (List ℕ)). Contains rooms l.text) (done.becomes.inside.rooms ∙ led.2.inside.rooms)
                (literals l (subst (λ (i : Inside). Contains i.own.literals l) done.becomes.inside.is_inside has));
            chunks = subst (λ (r : Run). frames_chunks done.run.frames ≤ frames_chunks r.frames + y.chunks) is_run kept.chunks;
          },
          becomes_then old mid new here may.run led.0 done.run led.2 (subst (λ (r : Run). Becomes mid new here r done.run) is_run done.becomes),
        ),
      )

-- what is known of a step by which the thread leaves, where it is told how
pub comes_to : (old new : Contents) (here : Here) (t : ThreadNo) (n : ℕ) (went : Went) → IsLeaving went → StepsLeave old new here t n went
    → StepsComeTo old new here t n went
comes_to old new here t n Goes.GoesOn is leave = absurd is
comes_to old new here t n (Goes.Returned v) is leave = leave
comes_to old new here t n (Goes.Left a) is leave = absurd is
comes_to old new here t n (Goes.Crosses k m) is leave = leave
comes_to old new here t n Goes.Terminates is leave = absurd is

-- ---- As the loop goes.

-- so many steps led here, and the segment acts on
pub record Onward (first : Contents) (here : Here) (t : ThreadNo) (now : Contents) (done : ℕ) : Type 0 where
  pub acting : IsActing now here t
  pub leads : StepsLead first now here t done

module _ (keep : LocalStepsKeep) (first : Contents) (here : Here) (t : ThreadNo) (acting : IsActing first here t) where
  pub onward_first : Onward first here t first 0
  onward_first = record { acting = acting; leads = none_lead first here t acting }

  module _ (now : Contents) (done : ℕ) (far : Onward first here t now done) where
    pub onward_by : (new : Contents) (m : ℕ) → StepsLead now new here t m → Onward first here t new (done + m)
    onward_by new m more = record {
      acting = acting_after now here t far.acting keep new m more;
      leads = then_lead first here t acting now new done m far.leads far.acting more;
    }

    pub onward_by_one : (new : Contents) → WaitsForNone now.frames here.world.classes here.segment now.own.state t
        → ((l : Literal) → Contains new.own.state.literals l → Contains new.own.rooms l.text) → Steps now new here t Goes.GoesOn
        → Onward first here t new (done + 1)
    onward_by_one new free literals steps = onward_by new 1 (one_leads now here t far.acting keep new free literals steps)

    -- the thread leaves the segment by one more
    module _ (new : Contents) (went : Went) (free : WaitsForNone now.frames here.world.classes here.segment now.own.state t)
        (literals : (l : Literal) → Contains new.own.state.literals l → Contains new.own.rooms l.text) (steps : Steps now new here t went) where
      pub leaves_by : StepsLeave first new here t (done + 1) went
      leaves_by = then_leave first here t acting keep now new done went far.leads far.acting free literals steps

      pub pools_kept_leaving : KeepsDomains first.frames new.frames
      pools_kept_leaving = domains_kept_leaving first here t acting new (done + 1) went leaves_by

    pub pools_kept : KeepsDomains first.frames now.frames
    pools_kept = domains_kept first here t acting now done far.leads
