-- So many rounds were gone and printed.
use Rattle.std.proofs.Common.{◌≡◌, inl, inr, ℕ, zero, suc, ◌+◌, ◌*◌, ◌-◌, ◌<◌, ◌≤◌, List, [], ◌++◌, Ok, refl, sym, ap, subst, ◌∙◌, append_assoc, arith}
use Rattle.std.proofs.Math.Nat.{add-mul, suc-mul}
use Rattle.jk_model.specs.declared.identifiers.ThreadNo.{ThreadNo}
use Rattle.jk_model.specs.declared.output.Line.{Line}
use Rattle.jk_model_machine_state.specs.Machines.{Machine}
use Rattle.jk_model_runs.specs.Events.{Goes, Rounds}
use Rattle.jk_outside.specs.declared.sinks.SinkFailed.{SinkFailed}
use Rattle.kernel_events.specs.KernelCalls.{MayDraw, steps_of}
use Rattle.kernel_events.specs.PrintedLines.{Prints, SinkState}
use Rattle.kernel_events.specs.RisingNumbers.{NumbersRiseInEvents, Rises}
use Rattle.kernel_events.specs.StepsInTurn.{RoundsBefore, StopsAt}
use Rattle.machine_laws.specs.KnownMachines.{IsKnownMachine}
use Rattle.machine_laws.specs.MachinesOfRuns.{RoundsGoOn}
use Rattle.machine_laws.specs.SealedSteps.{StepsStayKnown}
use Rattle.jk_kernel.specs.SoundMachines.{IsSoundMachine}
use Rattle.jk_kernel.proofs.LinesJoined.{Fits, printed_both, printed_none}
use Rattle.jk_kernel.proofs.MachinesStaySound.{whole_machine}
use Rattle.jk_kernel.proofs.NumbersLeft.{may_draw}
use Rattle.jk_kernel.proofs.OneRound.{RoundStopped, Rounded, numbered}
use Rattle.jk_kernel.proofs.WaysJoined.{RoundOf, RoundsOf, StepOf, TurnsOf, rounds_repeat, turns_repeat, ways_join, ways_keep, ways_more, ways_then_rest}

-- what a run keeps from step to step, it keeps all along a round
goes_keep : StepsStayKnown → (steps thread : ℕ) (m new : Machine) (lines : List Line) → IsKnownMachine m → Goes steps thread m lines new
    → IsKnownMachine new
goes_keep keep steps thread m new lines run (Goes.over k w past) = run
goes_keep keep steps thread m new lines run (Goes.on k w mid end before after below turns whole rest) =
    goes_keep keep steps (suc k) mid end after
    (ways_keep (StepOf (numbered k)) (TurnsOf (numbered k)) (turns_repeat (numbered k)) IsKnownMachine
    (λ x last said kept one. keep x last (numbered k) said kept one) steps w mid before run turns) rest

-- rounds, and then a part of a round
then_some : (done left steps : ℕ) (t : ThreadNo) (m now new : Machine) (lines after : List Line) → Rounds done steps m lines now
    → RoundsBefore left steps t now after new → RoundsBefore (done + left) steps t m (lines ++ after) new
then_some zero left steps t m now new lines after (none, same) some =
    let e : left ≡ zero + left = omega arith in
    let here : RoundsBefore left steps t m after new = subst (λ (x : Machine). RoundsBefore left steps t x after new) same some in
    subst (λ (n : ℕ). RoundsBefore n steps t m (lines ++ after) new) e
    (subst (λ (ls : List Line). RoundsBefore left steps t m (ls ++ after) new) (sym none) here)
then_some (suc done) left steps t m now new lines after (mid, first, rest, goes, whole, rounds, joined) some =
    let e : suc (done + left) ≡ suc done + left = omega arith in
    subst (λ (n : ℕ). RoundsBefore n steps t m (lines ++ after) new) e
    (inr (
      mid,
      first,
      rest ++ after,
      goes,
      whole,
      then_some done left steps t mid now new rest after rounds some,
      ap (λ (ls : List Line). ls ++ after) joined ∙ append_assoc first rest after,
    ))

-- ---- So many rounds lead from the first machine to this one, and their lines went out.

pub record Gone (steps done : ℕ) (first now : Machine) (a b : SinkState) : Type 0 where
  pub lines : List Line
  pub rounds : Rounds done steps first lines now
  pub prints : Prints {E = SinkFailed} a b (Ok tt) lines
  pub before : IsSoundMachine first
  pub sound : IsSoundMachine now

pub gone_none : (steps : ℕ) (m : Machine) (a : SinkState) → Fits a → IsSoundMachine m → Gone steps 0 m m a a
gone_none steps m a fits sound = record { lines = []; rounds = (refl, refl); prints = printed_none a fits; before = sound; sound = sound }

pub gone_more : (steps done : ℕ) (first now next : Machine) (a b c : SinkState) → Gone steps done first now a b → Rounded steps now next b c
    → IsSoundMachine next → Gone steps (done + 1) first next a c
gone_more steps done first now next a b c gone (lines, out, goes) sound = record {
  lines = gone.lines ++ lines;
  rounds = ways_more (RoundOf steps) (RoundsOf steps) (rounds_repeat steps) done first now next gone.lines lines gone.rounds goes
      (whole_machine next sound);
  prints = printed_both a b c gone.lines lines (Ok tt) gone.prints out;
  before = gone.before;
  sound = sound;
}

-- the rest of them, where nothing changes in the next one
pub gone_rest : (steps done count : ℕ) (first now : Machine) (a b : SinkState) → done ≤ count → Gone steps done first now a b
    → Goes steps 1 now [] now → Gone steps count first now a b
gone_rest steps done count first now a b few gone goes = record {
  lines = gone.lines;
  rounds = ways_then_rest (RoundOf steps) (RoundsOf steps) (rounds_repeat steps) done count first now gone.lines few gone.rounds
      (whole_machine now gone.sound) goes;
  prints = gone.prints;
  before = gone.before;
  sound = gone.sound;
}

pub gone_rises : NumbersRiseInEvents → (steps done : ℕ) (first now : Machine) (a b : SinkState) → Gone steps done first now a b
    → Rises first (steps_of done steps first) now
gone_rises law steps done first now a b gone = law.rounds done steps first now gone.lines gone.rounds

-- one round more is within them
one_more_round : (done count most : ℕ) → done < count → done * most + most ≤ count * most
one_more_round done count most less =
    let e : count ≡ suc done + (count - suc done) = omega (arith, less) in
    let split : count * most ≡ suc done * most + (count - suc done) * most =
    ap (λ (n : ℕ). n * most) e ∙ add-mul (suc done) (count - suc done) most in
    omega (arith, split, suc-mul done most)

pub may_go : NumbersRiseInEvents → (steps done count : ℕ) (first now : Machine) (a b : SinkState) → done < count → Gone steps done first now a b
    → MayDraw first (steps_of count steps first) → MayDraw now (steps * now.next_thread)
may_go law steps done count first now a b less gone may =
    let rises = gone_rises law steps done first now a b gone in
    subst (λ (n : ℕ). MayDraw now (steps * n)) (sym rises.numbers.threads)
    (may_draw first now (steps_of done steps first) (steps * first.next_thread) (steps_of count steps first)
    (one_more_round done count (steps * first.next_thread) less) rises may)

-- ---- The lines of a round didn't all go out: the others are there all the same.

abbrev pub RoundsStopped : ℕ → ℕ → Machine → Machine → SinkState → SinkState → Type 0
RoundsStopped count steps first now a b = (t : ThreadNo) × StopsAt t (RoundsBefore count steps t) (Rounds count steps) first a b now

-- what was said before the step, and by it, stands before the rest
regrouped : (first before said more rest : List Line)
    → (first ++ ((before ++ said) ++ more)) ++ rest ≡ ((first ++ before) ++ said) ++ (more ++ rest)
regrouped first before said more rest = simp append_assoc

pub gone_failed : StepsStayKnown → RoundsGoOn IsKnownMachine → (steps done count : ℕ) (first now next : Machine) (a b c : SinkState)
    → done < count → Gone steps done first now a b → RoundStopped steps now next b c → RoundsStopped count steps first next a c
gone_failed keep law steps done count first now next a b c less gone (t, stops) =
    let left = count - done - 1 in
    let lines : List Line = (stops.before ++ stops.said) ++ stops.more in
    let run = goes_keep keep steps 1 now stops.last lines gone.sound.known stops.all in
    let rest = law left steps stops.last run in
    let some = ways_more (RoundOf steps) (RoundsOf steps) (rounds_repeat steps) done first now stops.last gone.lines lines gone.rounds stops.all
    stops.whole in
    let all = ways_join (RoundOf steps) (RoundsOf steps) (rounds_repeat steps) (done + 1) left first stops.last rest.1
    (gone.lines ++ lines) rest.0 some rest.2 in
    let joined = regrouped gone.lines stops.before stops.said stops.more rest.0 in
    let so_far : done + suc left ≡ count = omega (arith, less) in
    let number : (done + 1) + left ≡ count = omega (arith, less) in (
      t,
      record {
        before = gone.lines ++ stops.before;
        mid = stops.mid;
        between = stops.between;
        so_far = subst (λ (n : ℕ). RoundsBefore n steps t first (gone.lines ++ stops.before) stops.mid) so_far
            (then_some done (suc left) steps t first now stops.mid gone.lines stops.before gone.rounds (inl stops.so_far));
        printed = printed_both a b stops.between gone.lines stops.before (Ok tt) gone.prints stops.printed;
        said = stops.said;
        step = stops.step;
        failed = stops.failed;
        broke = stops.broke;
        more = stops.more ++ rest.0;
        last = rest.1;
        all = subst
            (λ (n : ℕ). Rounds n steps first (((gone.lines ++ stops.before) ++ stops.said) ++ (stops.more ++ rest.0)) rest.1) number
            (subst (λ (ls : List Line). Rounds ((done + 1) + left) steps first ls rest.1) joined all);
        whole = rest.3.0;
      },
    )
