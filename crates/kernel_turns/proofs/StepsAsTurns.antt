-- Steps that a thread's top segment does alone, one after another over the parts of a kernel, are turns of its machine, and the parts are sound
-- after them.
use Rattle.std.proofs.Common.{◌≡◌, ◌≢◌, ◌==◌, ℕ, zero, suc, ◌+◌, ◌-◌, ◌≤◌, Bool, true, false, cond, Contains, List, [], ◌∷◌, slice_set, Option, Some, refl, sym, ap, subst, ◌∙◌, arith}
use Rattle.std.specs.Option.{option_map_or}
use Rattle.std.proofs.lemmas.Bool.{eq-eqb, eqb-true}
use Rattle.std.proofs.lemmas.Option.{same_Some, slice_get_within}
use Rattle.list_lemmas.proofs.ItemsByPlace.{slice_get-set_same}
use Rattle.list_lemmas.proofs.ItemsByPlace.{set_same as same_item}
use Rattle.jk_model.specs.declared.identifiers.ClassId.{ClassId}
use Rattle.jk_model.specs.declared.identifiers.DomainId.{DomainId}
use Rattle.jk_model.specs.declared.identifiers.SegmentNo.{SegmentNo}
use Rattle.jk_model.specs.declared.identifiers.ThreadNo.{ThreadNo}
use Rattle.jk_model_classes.specs.declared.records.ClassRecord.{ClassRecord}
use Rattle.jk_model_classes.specs.Worlds.{DomainRecord, WorldRecord, domain_of}
use Rattle.jk_model_frames.specs.Frames.{FrameState, frames_chunks}
use Rattle.jk_model_heaps.specs.Heaps.{heap_words}
use Rattle.jk_model_heaps.specs.Workings.{Inside, Run, Setting}
use Rattle.jk_model_running.specs.Initialising.{FrameNeeds, IsInProgressElsewhere}
use Rattle.jk_model_running.specs.LocalSteps.{LocalStep}
use Rattle.jk_model_running.specs.Ways as Way
use Rattle.jk_model_sharing.specs.SharedStates.{caps_of}
use Rattle.jk_model_machine_state.specs.Places.{run_of, setting_of}
use Rattle.jk_model.specs.declared.output.Line.{Line}
use Rattle.jk_model_machine_state.specs.Machines.{Machine}
use Rattle.jk_model_runs.specs.Events.{Turns}
use Rattle.jk_model_runs.specs.Sealed.{surroundings}
use Rattle.jk_model_runs.specs.Steps.{Steps}
use Rattle.class_init.specs.KeptStates.{KeptState}
use Rattle.frame_store.specs.FrameContents.{FrameContent, StoredSegment, TopFrame, free_chunks}
use Rattle.object_store.specs.HeapContents.{HeapContent}
use Rattle.machine_laws.specs.KnownMachines.{IsKnownMachine}
use Rattle.machine_parts.specs.MachineParts.{frames_in}
use Rattle.row_laws.specs.KeptRuns.{KeepsRun}
use Rattle.step_contents.specs.Contents.{Becomes, Contents, Here, Holds, LeftBehind, contents_of, inside_in, left_behind}
use Rattle.step_contents.specs.Settings.{IsSetting}
use Rattle.segment_steps.specs.ActingSegments.{Acted, crosses, ended, goes_on}
use Rattle.segment_steps.specs.LeavingSegments.{IsLeaving}
use Rattle.segment_steps.specs.StepsAlone.{IsWent}
use Rattle.segment_steps.specs.StepsInTurn.{HaveRooms, StepsInTurn, WaitsForNoClass, none, one_more, set_after}
use Rattle.segment_steps.specs.StepsThatLeave.{LastStep}
use Rattle.segment_steps.specs.declared.went.Went.{Went}
use Rattle.segment_steps.specs.declared.went.Went.TheVariants as Goes
use Rattle.segment_steps.proofs.ContentsStay.{StaySame, contents_stay}
use Rattle.segment_steps.proofs.ReframedStores.{reframed, reframed_others, reframed_there}
use Rattle.segment_steps.proofs.StepsJoined.{set_same}
use Rattle.segment_steps.proofs.StepsJoined.{set_twice as setting_twice}
use Rattle.kernel_events.specs.KernelCalls.{MayDraw}
use Rattle.kernel_parts.specs.SoundKernels.{AreKernelParts, KernelContent, kernel_machine}
use Rattle.kernel_turns.specs.PaidSteps.{HasSteps}
use Rattle.kernel_turns.specs.RestingThreads.{IsResting}
use Rattle.kernel_turns.specs.RunningPlaces.{HasNothingPending, RunsAt, contents_at, here_in, paying, runs}
use Rattle.kernel_turns.specs.SteppedParts.{Follows, HasRoomsForLiterals, MayFollow, MayStep}
use Rattle.kernel_turns.specs.WorkingSegments.{worked}
use Rattle.kernel_turns.proofs.ActsNeverRest.{OthersPay}
use Rattle.kernel_turns.proofs.PaidTimes.{caps_spent, may_spend, one_paid}
use Rattle.kernel_turns.proofs.SegmentsMayAct.{acts as acts_well, knows}
use Rattle.kernel_turns.proofs.SettingsOfPlaces.{is_setting}
use Rattle.kernel_turns.proofs.SmallNumbers.{small_numbers}
use Rattle.kernel_turns.proofs.StepsOfActs.{is_step, may_do, may_follow}
use Rattle.kernel_turns.proofs.StepsPaid.{StepLaws, at_paid, fit_paid, known_paid, never_rests, place_paid, tidy_paid, tidy_so}

abbrev domain_of_number : ℕ → DomainId
domain_of_number n = record { 0 = n }

-- ---- What a store has of one domain, and of others.

module _ {X : Type 0} (d : DomainId) (a : X) (other : DomainId → X) where
  here_is : cond (d.0 == d.0) a (other d) ≡ a
  here_is = ap (λ (b : Bool). cond b a (other d)) (eq-eqb d.0 d.0 refl)

  else_is : (e : DomainId) → e ≢ d → cond (e.0 == d.0) a (other e) ≡ other e
  else_is e differ = by (e.0 == d.0) refl
    where
      by : (b : Bool) → e.0 == d.0 ≡ b → cond b a (other e) ≡ other e
      by true is = absurd (differ (ap (λ (n : ℕ). domain_of_number n) (eqb-true e.0 d.0 is)))
      by false is = refl

set_twice : {X : Type 0} (xs : List X) (i : ℕ) (a b : X) → slice_set (slice_set xs i a) i b ≡ slice_set xs i b
set_twice [] i a b = refl
set_twice (x ∷ xs) zero a b = refl
set_twice (x ∷ xs) (suc i) a b = ap (λ (ys : List _). x ∷ ys) (set_twice xs i a b)

-- ---- Settings.

same_setting : (x y : Setting) → x.classes ≡ y.classes → x.caps.ranges ≡ y.caps.ranges → x.caps.stand_ins ≡ y.caps.stand_ins → x.name ≡ y.name
    → x.segment ≡ y.segment → x.quota ≡ y.quota → x.chunks ≡ y.chunks → x ≡ y
same_setting x y classes ranges stand_ins name segment quota chunks = λ i. record {
  classes = classes i;
  caps = record { ranges = ranges i; stand_ins = stand_ins i };
  name = name i;
  segment = segment i;
  quota = quota i;
  chunks = chunks i;
}

-- two settings in one place
one_setting : (c : Contents) (here there : Here) (x y : Setting) → there.world ≡ here.world → there.domain ≡ here.domain → there.segment ≡ here.segment
    → caps_of there.shared ≡ caps_of here.shared → IsSetting c here x → IsSetting c there y → x.caps.stand_ins ≡ y.caps.stand_ins → x ≡ y
one_setting c here there x y world domain segment caps a b none_stands =
    let names : a.names ≡ b.names = same_Some a.names b.names
    (sym a.is_domain ∙ sym (ap (λ (w : WorldRecord). domain_of w here.domain) world)
    ∙ sym (ap (λ (d : DomainId). domain_of there.world d) domain) ∙ b.is_domain) in
    same_setting x y
    (a.classes ∙ sym (ap (λ (w : WorldRecord). w.classes) world) ∙ sym b.classes)
    (a.caps.ranges ∙ sym caps ∙ sym b.caps.ranges)
    none_stands
    (a.name ∙ ap (λ (n : DomainRecord). n.name) names ∙ sym b.name)
    (a.segment ∙ sym segment ∙ sym b.segment)
    (same_Some x.quota y.quota (sym a.quota ∙ sym (ap c.heaps.quota domain) ∙ b.quota))
    (a.chunks ∙ sym (ap (free_chunks c.frames) domain) ∙ sym b.chunks)

-- ---- Where the thread runs, what is known there, and the run of its segment.

pub record Stands (k : KernelContent) {t : ThreadNo} (at : RunsAt k t) (x : Setting) (run : Run) : Type 0 where
  pub parts : AreKernelParts k
  pub known : IsKnownMachine (kernel_machine k)
  pub awake : at.segment.suspended ≡ false
  pub calm : HasNothingPending at.segment
  pub setting : IsSetting (contents_at at) (here_in k at.segment) x
  pub alone : x.caps.stand_ins ≡ []
  pub holds : Holds (contents_at at) (here_in k at.segment) run
  -- the domain uses the chunks of the frames, and no more than it may
  pub pays : frames_chunks run.frames ≤ k.frames.used at.segment.domain
  pub quota : ℕ
  pub has_quota : k.frames.quota at.segment.domain ≡ Some quota
  pub within : k.frames.used at.segment.domain ≤ quota

module _ (laws : StepLaws) (t : ThreadNo) where
  module _ (k : KernelContent) (at : RunsAt k t) (x : Setting) (n : ℕ) (start : Run) (stands : Stands k at x start)
      (has : HasSteps (suc n) at.segment.domain k.shared) (waits : WaitsForNoClass x.classes t start) where
    abbrev d : DomainId
    d = at.segment.domain

    abbrev g : SegmentNo
    g = at.segment.number

    abbrev ms : MayStep k at
    ms = record {
      parts = stands.parts;
      known = stands.known;
      ahead = record {
        awake = stands.awake;
        free = λ f c top need elsewhere. free_of f c top need elsewhere;
        budget = may_spend n d k.shared has;
      };
    }
      where
        free_of : (f : FrameState) (c : ClassId) → TopFrame k.frames at.segment.number f → FrameNeeds k.world.classes f c
            → IsInProgressElsewhere at.own.state t c → ⊥
        free_of f c top need elsewhere =
            let one : record { domain = at.segment.domain; frames = start.frames } ≡ top.segment =
            same_Some (record { domain = at.segment.domain; frames = start.frames }) top.segment (sym stands.holds.frames ∙ top.is_there) in
            waits (record { callers = top.lower; frame = f; are_frames = ap (λ (s : StoredSegment). s.frames) one ∙ top.frames }) c
            (subst (λ (cs : List ClassRecord). FrameNeeds cs f c) (sym stands.setting.classes) need)
            (subst (λ (i : Inside). IsInProgressElsewhere i.own t c) (sym stands.holds.inside) elsewhere)

    -- ---- It is a step of the machine in which it is paid.

    same_run : start ≡ run_of (place_paid k t at ms)
    same_run =
        let frames : frames_in k.frames at.segment.number ≡ start.frames =
        ap (λ (o : Option StoredSegment). option_map_or (λ (s : StoredSegment). s.frames) o []) stands.holds.frames in
        λ i. record { inside = stands.holds.inside i; frames = sym frames i }

    x_is : x ≡ setting_of (place_paid k t at ms)
    x_is =
        one_setting (contents_at at) (here_in k at.segment) (here_in (paying d k) at.segment) x (setting_of (place_paid k t at ms)) refl refl refl
        (caps_spent d k.shared) stands.setting
        (is_setting (paying at.segment.domain k) t (at_paid k t at ms) (fit_paid k t at ms) stands.parts.stubs) stands.alone

    -- ---- The thread leaves its segment.

    module _ (last : Run) (went : Went) (final : Contents) (l : LastStep t at.own.rooms x start last went) (leaves : IsLeaving went)
        (b : Becomes (contents_at at) final (here_in k at.segment) start last) where
      abbrev left_so : LeftBehind
      left_so = left_behind final (paying d k).shared

      last_there : LocalStep (setting_of (place_paid k t at ms)) t (run_of (place_paid k t at ms)) last l.way
      last_there =
          subst (λ (r : Run). LocalStep (setting_of (place_paid k t at ms)) t r last l.way) same_run
          (subst (λ (y : Setting). LocalStep y t start last l.way) x_is l.step)

      becomes_paid : Becomes (contents_at at) final (here_in (paying d k) at.segment) (run_of (place_paid k t at ms)) last
      becomes_paid =
          subst (λ (r : Run). Becomes (contents_at at) final (here_in (paying d k) at.segment) r last) same_run
          (record {
            inside = record { is_inside = b.inside.is_inside; heaps = b.inside.heaps; rooms = b.inside.rooms };
            frames = record { used = b.frames.used; chunks = b.frames.chunks; changes = b.frames.changes };
          })

      abbrev Acts : Went → Type 0
      Acts how = Acted (setting_of (place_paid k t at ms)) t (may_do k t at ms stands.calm laws left_so) left_so how []

      acted_by : (way : Way.Went) → IsWent way went → LocalStep (setting_of (place_paid k t at ms)) t (run_of (place_paid k t at ms)) last way → Acts went
      acted_by Way.GoesOn is step = absurd (subst IsLeaving is leaves)
      acted_by (Way.Says text) is step = absurd is
      acted_by (Way.Ended v) is step = subst (λ (how : Went). Acts how) (sym is) (ended last v step becomes_paid refl)
      acted_by (Way.Left a) is step = absurd (subst IsLeaving is leaves)
      acted_by (Way.Crosses c m) is step = subst (λ (how : Went). Acts how) (sym is) (crosses last c m step becomes_paid refl)
      acted_by (Way.Asks request) is step = absurd is
      acted_by Way.Terminates is step = absurd (subst IsLeaving is leaves)

      rooms_left : HasRoomsForLiterals final.own
      rooms_left = λ text has.
          subst (λ (rooms : List (List ℕ)). Contains rooms text.text) (sym b.inside.rooms)
          (l.have_rooms text (subst (λ (i : Inside). Contains i.own.literals text) (sym b.inside.is_inside) has))

      abbrev left_at : KernelContent
      left_at = worked 1 at.segment.domain final.own final.heaps final.frames k

      leaving_follows : MayDraw (kernel_machine k) 1 → MayFollow left_at (runs t at.segment) went
      leaving_follows draws = may_follow k t at ms stands.calm laws left_so went [] (acted_by l.way l.is_went last_there) rooms_left draws

      leaving_steps : (after : List Line) (new : KernelContent) → Follows left_at t went after new
          → Steps (kernel_machine k) t after (kernel_machine new) × AreKernelParts new
      leaving_steps after new follows =
          is_step k t at ms stands.calm laws left_so went [] after new (acted_by l.way l.is_went last_there) rooms_left follows

    -- ---- The thread goes on in its segment.

    module _ (mid : Run) (step : LocalStep x t start mid Way.GoesOn) (rooms : HaveRooms at.own.rooms mid)
        (fits : frames_chunks mid.frames ≤ frames_chunks start.frames + x.chunks) where
      step_there : LocalStep (setting_of (place_paid k t at ms)) t (run_of (place_paid k t at ms)) mid Way.GoesOn
      step_there =
          subst (λ (r : Run). LocalStep (setting_of (place_paid k t at ms)) t r mid Way.GoesOn) same_run
          (subst (λ (y : Setting). LocalStep y t start mid Way.GoesOn) x_is step)

      kept : KeepsRun (surroundings (kernel_machine (paying at.segment.domain k)) (place_paid k t at ms).home.domain) (setting_of (place_paid k t at ms)) t
          (run_of (place_paid k t at ms)) mid Way.GoesOn
      kept =
          laws.keep (surroundings (kernel_machine (paying at.segment.domain k)) (place_paid k t at ms).home.domain) (setting_of (place_paid k t at ms)) t
          (run_of (place_paid k t at ms)) mid Way.GoesOn
          (acts_well (paying at.segment.domain k) t (at_paid k t at ms) (tidy_paid k t at ms) (known_paid k t at ms)
          stands.calm.1) step_there

      -- ---- The contents after it.

      abbrev used : ℕ
      used = k.frames.used at.segment.domain + frames_chunks mid.frames - frames_chunks start.frames

      abbrev words : ℕ
      words = heap_words k.world.classes mid.inside.heap

      abbrev mid_heap : HeapContent
      mid_heap = record k.heap {
        heap = λ (e : DomainId). cond (e.0 == at.segment.domain.0) mid.inside.heap (k.heap.heap e);
        used = λ (e : DomainId). cond (e.0 == at.segment.domain.0) (heap_words k.world.classes mid.inside.heap) (k.heap.used e);
      }

      abbrev mid_frames : FrameContent
      mid_frames = record (reframed k.frames at.segment.number at.segment.domain mid.frames) {
        used = λ (e : DomainId). cond (e.0 == at.segment.domain.0)
            (k.frames.used at.segment.domain + frames_chunks mid.frames - frames_chunks start.frames) (k.frames.used e);
      }

      abbrev mid_own : KeptState
      mid_own = record at.own { state = mid.inside.own }

      abbrev left : Contents
      left = contents_of mid_heap mid_frames mid_own

      heap_there : mid_heap.heap d ≡ mid.inside.heap
      heap_there = here_is d mid.inside.heap k.heap.heap

      used_there : mid_frames.used d ≡ used
      used_there = here_is d used k.frames.used

      is_inside_there : mid.inside ≡ inside_in left (here_in (paying d k) at.segment)
      is_inside_there = λ i. record {
        own = mid.inside.own;
        heap = sym heap_there i;
        heap_at = kept.inside.pages.0 i;
        stack_at = kept.inside.pages.1 i;
      }

      becomes_mid : Becomes (contents_at at) left (here_in (paying d k) at.segment) start mid
      becomes_mid = record {
        inside = record {
          is_inside = is_inside_there;
          heaps = record {
            domains = record { pages = refl; took_all = refl; quota = λ e. refl; first_page = λ e. refl };
            becomes = heap_there;
            others = else_is d mid.inside.heap k.heap.heap;
            uses = here_is d words k.heap.used;
            other_uses = else_is d words k.heap.used;
            mark = λ e a. refl;
          };
          rooms = refl;
        };
        frames = record {
          used = used;
          chunks = omega (arith, stands.pays);
          changes = record {
            domains = record { pages = refl; took_all = refl; quota = λ e. refl; first_page = λ e. refl };
            becomes = reframed_there k.frames at.segment.number d mid.frames;
            others = reframed_others k.frames at.segment.number d mid.frames;
            uses = used_there;
            other_domains = else_is d used k.frames.used;
          };
        };
      }

      abbrev next : KernelContent
      next = worked 1 at.segment.domain mid_own mid_heap mid_frames k

      stepped : Steps (kernel_machine k) t [] (kernel_machine next) × AreKernelParts next
      stepped =
          let becomes = subst (λ (r : Run). Becomes (contents_at at) left (here_in (paying d k) at.segment) r mid) same_run becomes_mid in
          is_step k t at ms stands.calm laws (left_behind left (paying d k).shared) Goes.GoesOn [] [] next (goes_on mid step_there becomes refl) rooms
          (refl, refl)

      known_next : IsKnownMachine (kernel_machine next)
      known_next = laws.stay (kernel_machine k) (kernel_machine next) t [] stands.known stepped.0

      -- ---- Where the thread runs then.

      abbrev at_next : RunsAt next t
      at_next = record {
        segment = at.segment;
        is_top = at.is_top;
        own = mid_own;
        is_own = slice_get-set_same k.owns at.segment.domain.0 (Some mid_own) (slice_get_within k.owns at.segment.domain.0 (Some at.own) at.is_own);
      }

      free_now : x.chunks ≡ stands.quota - k.frames.used d
      free_now = stands.setting.chunks ∙ ap (λ (o : Option ℕ). option_map_or (λ (q : ℕ). q - k.frames.used d) o 0) stands.has_quota

      free_next : x.chunks + frames_chunks start.frames - frames_chunks mid.frames ≡ free_chunks mid_frames d
      free_next =
          let left_over : x.chunks + frames_chunks start.frames - frames_chunks mid.frames ≡ stands.quota - used =
          omega (arith, free_now, stands.pays, stands.within, fits) in
          left_over
          ∙ ap (λ (u : ℕ). stands.quota - u) (sym used_there)
          ∙ sym (ap (λ (o : Option ℕ). option_map_or (λ (q : ℕ). q - mid_frames.used d) o 0) stands.has_quota)

      stands_next : Stands next at_next (set_after x start mid) mid
      stands_next = record {
        parts = stepped.1;
        known = known_next;
        awake = stands.awake;
        calm = stands.calm;
        setting = record {
          classes = stands.setting.classes;
          caps = record {
            ranges = stands.setting.caps.ranges ∙ sym (caps_spent d k.shared);
            stand_ins = stands.setting.caps.stand_ins;
          };
          names = stands.setting.names;
          is_domain = stands.setting.is_domain;
          name = stands.setting.name;
          segment = stands.setting.segment;
          quota = stands.setting.quota;
          chunks = free_next;
        };
        alone = stands.alone;
        holds = record { inside = is_inside_there; frames = reframed_there k.frames at.segment.number d mid.frames };
        pays = omega (arith, stands.pays, used_there);
        quota = stands.quota;
        has_quota = stands.has_quota;
        within = omega (arith, used_there, free_now, stands.pays, stands.within, fits);
      }

      -- what the contents become in the end, from there on
      becomes_last : (last : Run) (final : Contents) → Becomes (contents_at at) final (here_in k at.segment) start last
          → Becomes (contents_of mid_heap mid_frames mid_own) final (here_in next at.segment) mid last
      becomes_last last final b = record {
        inside = record {
          is_inside = b.inside.is_inside;
          heaps = record {
            domains = record {
              pages = b.inside.heaps.domains.pages;
              took_all = b.inside.heaps.domains.took_all;
              quota = b.inside.heaps.domains.quota;
              first_page = b.inside.heaps.domains.first_page;
            };
            becomes = b.inside.heaps.becomes;
            others = λ e differ. b.inside.heaps.others e differ ∙ sym (else_is d mid.inside.heap k.heap.heap e differ);
            uses = b.inside.heaps.uses;
            other_uses = λ e differ. b.inside.heaps.other_uses e differ ∙ sym (else_is d words k.heap.used e differ);
            mark = b.inside.heaps.mark;
          };
          rooms = b.inside.rooms;
        };
        frames = record {
          used = b.frames.used;
          chunks = omega (arith, b.frames.chunks, used_there, stands.pays);
          changes = record {
            domains = record {
              pages = b.frames.changes.domains.pages;
              took_all = b.frames.changes.domains.took_all;
              quota = b.frames.changes.domains.quota;
              first_page = b.frames.changes.domains.first_page;
            };
            becomes = b.frames.changes.becomes;
            others = λ r differ. b.frames.changes.others r differ ∙ sym (reframed_others k.frames at.segment.number d mid.frames r differ);
            uses = b.frames.changes.uses;
            other_domains = λ e differ. b.frames.changes.other_domains e differ ∙ sym (else_is d used k.frames.used e differ);
          };
        };
      }

  -- ---- Where there is one, the thread doesn't rest.

  pub none_at_rest : OthersPay → (n : ℕ) (k : KernelContent) (at : RunsAt k t) (x : Setting) (start last : Run) → Stands k at x start
      → HasSteps n at.segment.domain k.shared → StepsInTurn t at.own.rooms n x start last → IsResting (kernel_machine k) t → n ≡ 0
  none_at_rest pay zero k at x start last stands has (none _ _) rests = refl
  none_at_rest pay (suc n) k at x start last stands has (one_more _ _ _ mid _ waits step rooms fits more) rests =
      absurd (never_rests k t at (ms k at x n start stands has waits) pay rests)

  -- ---- So many of them.

  pub steps_are_turns : (n : ℕ) (k : KernelContent) (at : RunsAt k t) (x : Setting) (start last : Run) (final : Contents) → Stands k at x start
      → HasSteps n at.segment.domain k.shared → StepsInTurn t at.own.rooms n x start last
      → Becomes (contents_at at) final (here_in k at.segment) start last
      → Turns n t (kernel_machine k) [] (kernel_machine (worked n at.segment.domain final.own final.heaps final.frames k))
      × AreKernelParts (worked n at.segment.domain final.own final.heaps final.frames k)
  steps_are_turns zero k at x start last final stands has (none _ _) b =
      let same : StaySame (contents_at at) final =
      contents_stay (contents_at at) final (here_in k at.segment) start
      (knows k t at (tidy_so k stands.parts) stands.known.1 (small_numbers (kernel_machine k) stands.known.0.0)) stands.holds b in
      let parts : worked 0 at.segment.domain final.own final.heaps final.frames k ≡ k =
      λ i. record k {
        owns = (ap (λ (o : KeptState). slice_set k.owns at.segment.domain.0 (Some o)) same.own
            ∙ same_item k.owns at.segment.domain.0 (Some at.own) at.is_own) i;
        heap = same.heaps i;
        frames = same.frames i;
      } in
      ((refl, ap kernel_machine parts), subst AreKernelParts (sym parts) stands.parts)
  steps_are_turns (suc n) k at x start last final stands has (one_more _ _ _ mid _ waits step rooms fits more) b =
      let after : KernelContent = next k at x n start stands has waits mid step rooms fits in
      let done = stepped k at x n start stands has waits mid step rooms fits in
      let known = known_next k at x n start stands has waits mid step rooms fits in
      let rest = steps_are_turns n after (at_next k at x n start stands has waits mid step rooms fits) (set_after x start mid) mid last final
      (stands_next k at x n start stands has waits mid step rooms fits) (one_paid n at.segment.domain k.shared has) more
      (becomes_last k at x n start stands has waits mid step rooms fits last final b) in
      let all : worked n at.segment.domain final.own final.heaps final.frames after
      ≡ worked (suc n) at.segment.domain final.own final.heaps final.frames k =
      λ i. record k {
        owns = set_twice k.owns at.segment.domain.0 (Some (let own : KeptState = record at.own { state = mid.inside.own } in own)) (Some final.own) i;
        shared = (worked (suc n) at.segment.domain final.own final.heaps final.frames k).shared;
        heap = final.heaps;
        frames = final.frames;
      } in
      subst (λ (y : KernelContent). Turns (suc n) t (kernel_machine k) [] (kernel_machine y) × AreKernelParts y) all
      ((kernel_machine after, [], [], done.0, known.0, rest.0, refl), rest.1)

  -- ---- So many of them, and one more by which the thread leaves its segment.

  pub record Leaving (n : ℕ) (k : KernelContent) (at : RunsAt k t) (final : Contents) (went : Went) : Type 0 where
    pub mid : Machine
    pub turns : Turns n t (kernel_machine k) [] mid
    pub may : MayDraw (kernel_machine k) 1
        → MayFollow (worked (suc n) at.segment.domain final.own final.heaps final.frames k) (runs t at.segment) went
    pub steps : (after : List Line) (new : KernelContent)
        → Follows (worked (suc n) at.segment.domain final.own final.heaps final.frames k) t went after new
        → Steps mid t after (kernel_machine new) × AreKernelParts new
    pub none : OthersPay → IsResting (kernel_machine k) t → ⊥

  pub leaving_as : (n : ℕ) (k : KernelContent) (at : RunsAt k t) (x : Setting) (start mid last : Run) (final : Contents) (went : Went) → Stands k at x start
      → HasSteps (suc n) at.segment.domain k.shared → StepsInTurn t at.own.rooms n x start mid
      → LastStep t at.own.rooms (set_after x start mid) mid last went → IsLeaving went
      → Becomes (contents_at at) final (here_in k at.segment) start last → Leaving n k at final went
  leaving_as zero k at x start mid last final went stands has (none _ _) l leaves b =
      let one : LastStep t at.own.rooms x start last went =
      subst (λ (y : Setting). LastStep t at.own.rooms y start last went) (set_same x start start refl) l in
      record {
        mid = kernel_machine k;
        turns = (refl, refl);
        may = leaving_follows k at x 0 start stands has one.waits last went final one leaves b;
        steps = leaving_steps k at x 0 start stands has one.waits last went final one leaves b;
        none = λ pay rests. never_rests k t at (ms k at x 0 start stands has one.waits) pay rests;
      }
  leaving_as (suc n) k at x start mid last final went stands has (one_more _ _ _ first _ waits step rooms fits more) l leaves b =
      let after : KernelContent = next k at x (suc n) start stands has waits first step rooms fits in
      let done = stepped k at x (suc n) start stands has waits first step rooms fits in
      let known = known_next k at x (suc n) start stands has waits first step rooms fits in
      let rest = leaving_as n after (at_next k at x (suc n) start stands has waits first step rooms fits) (set_after x start first) first mid last final went
      (stands_next k at x (suc n) start stands has waits first step rooms fits) (one_paid (suc n) at.segment.domain k.shared has) more
      (subst (λ (y : Setting). LastStep t at.own.rooms y mid last went) (sym (setting_twice x start first mid fits)) l) leaves
      (becomes_last k at x (suc n) start stands has waits first step rooms fits last final b) in
      let all : worked (suc n) at.segment.domain final.own final.heaps final.frames after
      ≡ worked (suc (suc n)) at.segment.domain final.own final.heaps final.frames k =
      λ i. record k {
        owns = set_twice k.owns at.segment.domain.0 (Some (let own : KeptState = record at.own { state = first.inside.own } in own)) (Some final.own) i;
        shared = (worked (suc (suc n)) at.segment.domain final.own final.heaps final.frames k).shared;
        heap = final.heaps;
        frames = final.frames;
      } in
      record {
        mid = rest.mid;
        turns = (kernel_machine after, [], [], done.0, known.0, rest.turns, refl);
        may = λ draws. subst (λ (y : KernelContent). MayFollow y (runs t at.segment) went) all (rest.may draws);
        steps = λ lines new follows. rest.steps lines new (subst (λ (y : KernelContent). Follows y t went lines new) (sym all) follows);
        none = λ pay rests. never_rests k t at (ms k at x (suc n) start stands has waits) pay rests;
      }
