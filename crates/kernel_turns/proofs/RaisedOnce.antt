-- Something is raised in a thread's top segment over the contents of the stores: it is caught there, or no frame of the segment is left and it may go
-- on to the segment below.
use Rattle.std.proofs.Common.{◌≡◌, ◌⊎◌, ℕ, inl, inr, List, [], refl, sym, subst, ◌∙◌}
use Rattle.jk_model.specs.declared.identifiers.ThreadNo.{ThreadNo}
use Rattle.jk_model.specs.declared.output.Line.{Line}
use Rattle.jk_model.specs.declared.steps.Raise.{Raise}
use Rattle.jk_model_domains.specs.Objects.{Plain}
use Rattle.jk_model_heaps.proofs.NamesInHeaps.{stands}
use Rattle.jk_model_heaps.specs.Heaps.{named}
use Rattle.jk_model_heaps.specs.declared.shapes.Unwound.{Unwound}
use Rattle.jk_model_heaps.specs.declared.shapes.Unwound.TheVariants as Unwinding
use Rattle.jk_model_heaps.specs.Workings.{Run}
use Rattle.jk_model_running.specs.Raising.{RaisesIn}
use Rattle.jk_model_sealing.specs.SealedInsides.{Surroundings}
use Rattle.jk_model_sealing.specs.SealedRuns.{IsSealedRun}
use Rattle.jk_model_machine_state.specs.Machines.{Machine}
use Rattle.jk_model_machine_state.specs.Places.{RunningSegment, run_of, setting_of, with_run}
use Rattle.jk_model_crossings.specs.Throwing.{RaisesInThread, Throws}
use Rattle.jk_model_crossings.specs.Throwing as Thrown
use Rattle.jk_model_runs.specs.Sealed.{IsSealed}
use Rattle.heap_laws.specs.RaisableObjects.{IsThrowable, MayBeRaised, MayMeetRaise}
use Rattle.machine_laws.proofs.RunningSegmentsFit.{home_there}
use Rattle.machine_laws.proofs.ThrowablesSealed.{LeadsWell, leads_well}
use Rattle.machine_laws.specs.CallsAndAnswers.{IsThrown}
use Rattle.machine_laws.specs.SoundMachines.{HasSoundClasses}
use Rattle.row_laws.proofs.StatesOfFrames.{states_there}
use Rattle.step_contents.specs.Conditions.{MayRaise}
use Rattle.step_contents.specs.Contents.{Becomes, Contents}
use Rattle.segment_steps.specs.RaisingHere.{RaisedHere, went_of}
use Rattle.segment_steps.specs.declared.went.Went.{Went}
use Rattle.segment_steps.specs.declared.went.Went.TheVariants as Goes
use Rattle.domain_crossing.specs.AskedOfCrossings.{MayRaise as MayRaiseAcross}
use Rattle.domain_ends.specs.TidyParts.{AreTidyParts}
use Rattle.kernel_parts.specs.SoundKernels.{KernelContent, kernel_machine, parts_of}
use Rattle.kernel_turns.specs.GoingDown.{IsRaisable}
use Rattle.kernel_turns.specs.RunningPlaces.{RunsAt, contents_at, here_in}
use Rattle.kernel_turns.specs.SteppedParts.{HasRoomsForLiterals}
use Rattle.kernel_turns.proofs.KeptParts.{becoming, kept_tidy}
use Rattle.kernel_turns.proofs.PlacedThreads.{place}
use Rattle.kernel_turns.proofs.RaisedWhereMet.{StandsWell, stands_well}
use Rattle.kernel_turns.proofs.SegmentsMayAct.{holds, knows, same_around}
use Rattle.kernel_turns.proofs.SegmentsThatRan.{fit_ran, is_ran, place_ran}
use Rattle.kernel_turns.proofs.SettingsOfPlaces.{is_setting}

-- ---- A throwable of a sealed machine is of a class that is there.

pub is_thrown : (m : Machine) (t : ThreadNo) (p : RunningSegment m t) (a : ℕ) → IsSealed m → HasSoundClasses m
    → IsThrowable m.classes p.home.inside.heap a → IsThrown p a
is_thrown m t p a sealed sound (c, fields, is, below) =
    let inside = sealed.domains.insides p.home.domain p.home.inside (home_there m t p sealed) p.home.is_inside in
    let named_there = inside.objects (named a (Plain c fields)) (stands p.home.inside.heap a (Plain c fields) is) in
    let there = (sound.tables p.home.domain (home_there m t p sealed)).closed c named_there.0 in
    record {
      throwable = record { class = c; fields = fields; is_object = is; of_class = there.0; is_class = there.1 };
      below = below;
    }

-- what it came to
pub record Came (k new : KernelContent) (t : ThreadNo) (r : Raise) (went : Went) : Type 0 where
  pub tidy : AreTidyParts new
  pub caught : went ≡ Goes.GoesOn → RaisesInThread (kernel_machine k) t r 0 [] (kernel_machine new)
  pub left : (a : ℕ) → went ≡ Goes.Left a → MayRaiseAcross (parts_of new) t a
  pub goes_down : (a : ℕ) → went ≡ Goes.Left a → (n : ℕ) (lines : List Line) (last : Machine) → Throws t n (kernel_machine new) a lines last
      → RaisesInThread (kernel_machine k) t r n lines last
  -- it comes to nothing else
  pub either : (went ≡ Goes.GoesOn) ⊎ ((a : ℕ) × (went ≡ Goes.Left a))

same_left : (a b : ℕ) → Goes.Left a ≡ Goes.Left b → a ≡ b
same_left a b e = cc

module _ (k : KernelContent) (t : ThreadNo) (r : Raise) (tidy : AreTidyParts k) (can : IsRaisable (kernel_machine k) t r) (at : RunsAt k t) where
  abbrev well : StandsWell (kernel_machine k) t r
  well = stands_well (kernel_machine k) t r can

  abbrev pub p : RunningSegment (kernel_machine k) t
  p = place k t at tidy.fitting.domains

  pub may_be : MayBeRaised k.world.classes (k.heap.heap at.segment.domain) r
  may_be = (well.raises p).may

  abbrev pub may_here : MayRaise (contents_at at) (here_in k at.segment)
  may_here =
      let domain = knows k t at tidy well.sound well.small in
      record {
        domain = domain;
        run = run_of p;
        holds = holds k t at tidy well.sound well.small;
        sealed = subst (λ (a : Surroundings). IsSealedRun a domain.quota (MayMeetRaise k.world.classes p.home.inside.heap) (run_of p))
            (same_around k t at tidy well.sound well.small) (well.raises p).sealed;
        states = states_there t p.home.inside.own p.segment.frames (well.raises p).in_progress;
      }

  module _ (left : Contents) (went : Went) (rooms : HasRoomsForLiterals left.own)
      (raised : RaisedHere (contents_at at) left (here_in k at.segment) r went) where
    abbrev pub now : KernelContent
    now = becoming k t at left.own k.shared left.heaps left.frames

    module _ (run : Run) (unwound : Unwound) (raises : RaisesIn (setting_of p) (run_of p) r run unwound) (is : went ≡ went_of unwound)
        (becomes : Becomes (contents_at at) left (here_in k at.segment) (run_of p) run) where
      leads : LeadsWell (with_run p run) t unwound
      leads = leads_well can.sealed t can.met_there r can.may (kernel_machine k) can.is p run unwound raises

      now_is : kernel_machine now ≡ with_run p run
      now_is = is_ran k t at tidy.fitting well.apart left run becomes

      tidy_now : AreTidyParts now
      tidy_now =
          kept_tidy k t at left.own k.shared left.heaps left.frames tidy (fit_ran k t at tidy.fitting well.apart left run becomes) refl
          becomes.inside.rooms rooms

      came_by : (u : Unwound) → unwound ≡ u → LeadsWell (kernel_machine now) t u → RaisesIn (setting_of p) (run_of p) r run u → went ≡ went_of u
          → Came k now t r went
      came_by Unwinding.Caught e led does w = record {
        tidy = tidy_now;
        caught = λ goes. subst (RaisesInThread (kernel_machine k) t r 0 []) (sym now_is) (Thrown.caught p run does);
        left = λ a goes. (let never : Goes.GoesOn ≡ Goes.Left a = sym w ∙ goes in absurd cc);
        goes_down = λ a goes n lines last throws. (let never : Goes.GoesOn ≡ Goes.Left a = sym w ∙ goes in absurd cc);
        either = inl w;
      }
      came_by (Unwinding.Uncaught b) e led does w = record {
        tidy = tidy_now;
        caught = λ goes. (let never : Goes.Left b ≡ Goes.GoesOn = sym w ∙ goes in absurd cc);
        left = λ a goes.
            let same : b ≡ a = same_left b a (sym w ∙ goes) in
            let q = place_ran k t at tidy.fitting well.apart left run becomes in
            subst (MayRaiseAcross (parts_of now) t) same
            (record {
              cross = record { fitting = tidy_now.fitting; sealed = led.sealed; sound = led.sound };
              runs = q;
              left = led.remains.left q;
              thrown = is_thrown (kernel_machine now) t q b led.sealed led.sound (led.remains.throwable q);
            });
        goes_down = λ a goes n lines last throws.
            let same : b ≡ a = same_left b a (sym w ∙ goes) in
            Thrown.goes_down p run b n lines last does
            (subst (λ (m : Machine). Throws t n m b lines last) now_is (subst (λ (x : ℕ). Throws t n (kernel_machine now) x lines last) (sym same) throws));
        either = inr (b, w);
      }

      pub came_so : Came k now t r went
      came_so = came_by unwound refl (subst (λ (m : Machine). LeadsWell m t unwound) (sym now_is) leads) raises is

    pub came : Came k now t r went
    came =
        let done = raised (setting_of p) may_here (is_setting k t at tidy.fitting tidy.stubs) in
        came_so done.0 done.1 done.2 done.3 done.4
