-- So many steps of a thread were done and printed.
use Rattle.std.proofs.Common.{◌≡◌, ℕ, ◌+◌, ◌-◌, ◌<◌, ◌≤◌, Bool, false, true, List, [], ◌++◌, Result, Ok, Err, refl, sym, ap, subst, ◌∙◌, arith}
use Rattle.std.proofs.lemmas.List.{append-nil}
use Rattle.jk_model.specs.declared.identifiers.ThreadNo.{ThreadNo}
use Rattle.jk_model.specs.declared.output.Line.{Line}
use Rattle.jk_model_machine_state.specs.Machines.{Machine}
use Rattle.jk_model_runs.specs.Events.{Turns}
use Rattle.jk_model_runs.specs.Steps.{Steps}
use Rattle.jk_outside.specs.declared.sinks.SinkFailed.{SinkFailed}
use Rattle.kernel_events.specs.PrintedLines.{Prints, SinkState}
use Rattle.kernel_events.specs.RisingNumbers.{NumbersRiseInEvents, Rises}
use Rattle.kernel_events.specs.StepsInTurn.{Rests, StopsAt, TurnsApart, TurnsBefore}
use Rattle.machine_laws.specs.KnownMachines.{IsKnownMachine}
use Rattle.machine_laws.specs.MachinesOfRuns.{TurnsGoOn}
use Rattle.kernel_events.proofs.NumbersOfEvents.{rises_more}
use Rattle.kernel_turns.specs.declared.frame_steps.Ran.{Ran}
use Rattle.kernel_turns.specs.SegmentRuns.{RanSo, RunsOn}
use Rattle.jk_kernel.specs.SoundMachines.{IsSoundMachine, StepsAreApart, StepsKeepSound}
use Rattle.jk_kernel.proofs.LinesJoined.{Fits, printed_both, printed_none}
use Rattle.jk_kernel.proofs.MachinesStaySound.{whole_machine}
use Rattle.jk_kernel.proofs.WaysJoined.{AllApartOf, ApartOf, StepOf, TurnsOf, apart_repeat, turns_repeat, ways_as, ways_join, ways_keep, ways_more, ways_rest, ways_then_rest}

-- each of so many steps is confined
pub all_apart : StepsKeepSound → StepsAreApart → (n : ℕ) (t : ThreadNo) (m new : Machine) (lines : List Line) → IsSoundMachine m
    → Turns n t m lines new → TurnsApart n t m lines new
all_apart keep apart n t m new lines sound turns =
    ways_as (StepOf t) (TurnsOf t) (turns_repeat t) (ApartOf t) (AllApartOf t) (apart_repeat t) IsSoundMachine
    (λ x last said kept one. (keep x last t said kept one, apart x last t said kept one)) n m new lines sound turns

-- what holds of the machine holds after so many steps
pub turns_sound : StepsKeepSound → (n : ℕ) (t : ThreadNo) (m new : Machine) (lines : List Line) → IsSoundMachine m → Turns n t m lines new
    → IsSoundMachine new
turns_sound keep n t m new lines sound turns =
    ways_keep (StepOf t) (TurnsOf t) (turns_repeat t) IsSoundMachine (λ x last said kept one. keep x last t said kept one) n m new lines sound turns

-- and after what a thread's top segment did
pub run_sound : StepsKeepSound → (t : ThreadNo) (steps : ℕ) (left : Bool) (m new : Machine) (lines : List Line) → IsSoundMachine m
    → RunsOn m t steps left lines new → IsSoundMachine new
run_sound keep t steps true m new lines sound run =
    keep run.mid new t lines (turns_sound keep run.alone t m run.mid [] sound run.turns) run.last
run_sound keep t steps false m new lines sound run =
    subst IsSoundMachine (sym run.last.1) (turns_sound keep run.alone t m run.mid [] sound run.turns)

-- So many steps of a thread lead from the first machine to this one, and their lines went out.
pub record Went (t : ThreadNo) (done : ℕ) (first now : Machine) (a b : SinkState) : Type 0 where
  pub lines : List Line
  pub turns : Turns done t first lines now
  pub prints : Prints {E = SinkFailed} a b (Ok tt) lines
  pub before : IsSoundMachine first
  pub sound : IsSoundMachine now

pub went_none : (t : ThreadNo) (m : Machine) (a : SinkState) → Fits a → IsSoundMachine m → Went t 0 m m a a
went_none t m a fits sound = record { lines = []; turns = (refl, refl); prints = printed_none a fits; before = sound; sound = sound }

-- steps that print nothing
pub went_on : (t : ThreadNo) (done more : ℕ) (first now next : Machine) (a b : SinkState) → Went t done first now a b → Turns more t now [] next
    → IsSoundMachine next → Went t (done + more) first next a b
went_on t done more first now next a b went turns sound = record {
  lines = went.lines;
  turns = subst (λ (ls : List Line). Turns (done + more) t first ls next) (append-nil went.lines)
      (ways_join (StepOf t) (TurnsOf t) (turns_repeat t) done more first now next went.lines [] went.turns turns);
  prints = went.prints;
  before = went.before;
  sound = sound;
}

-- one more step, whose lines went out
pub went_more : (t : ThreadNo) (done : ℕ) (first now next : Machine) (a b c : SinkState) (lines : List Line) → Went t done first now a b
    → Prints {E = SinkFailed} b c (Ok tt) lines → Steps now t lines next → IsSoundMachine next → Went t (done + 1) first next a c
went_more t done first now next a b c lines went out step sound = record {
  lines = went.lines ++ lines;
  turns = ways_more (StepOf t) (TurnsOf t) (turns_repeat t) done first now next went.lines lines went.turns step (whole_machine next sound);
  prints = printed_both a b c went.lines lines (Ok tt) went.prints out;
  before = went.before;
  sound = sound;
}

-- what a thread's top segment did, whose lines went out
module _ (t : ThreadNo) (done steps : ℕ) (first now next : Machine) (a b c : SinkState) (lines : List Line) (went : Went t done first now a b)
    (out : Prints {E = SinkFailed} b c (Ok tt) lines) (sound : IsSoundMachine next) where
  alone_so_far : (left : Bool) (run : RunsOn now t steps left lines next) → Turns (done + run.alone) t first went.lines run.mid
  alone_so_far left run =
      subst (λ (ls : List Line). Turns (done + run.alone) t first ls run.mid) (append-nil went.lines)
      (ways_join (StepOf t) (TurnsOf t) (turns_repeat t) done run.alone first now run.mid went.lines [] went.turns run.turns)

  run_turns : (left : Bool) → RunsOn now t steps left lines next → Turns (done + steps) t first (went.lines ++ lines) next
  run_turns true run =
      let count : (done + run.alone) + 1 ≡ done + steps = omega (arith, run.count) in
      subst (λ (n : ℕ). Turns n t first (went.lines ++ lines) next) count
      (ways_more (StepOf t) (TurnsOf t) (turns_repeat t) (done + run.alone) first run.mid next went.lines lines (alone_so_far true run) run.last
      (whole_machine next sound))
  run_turns false run =
      let count : done + run.alone ≡ done + steps = omega (arith, run.count) in
      subst (λ (n : ℕ). Turns n t first (went.lines ++ lines) next) count
      (subst (λ (m : Machine). Turns (done + run.alone) t first (went.lines ++ lines) m) (sym run.last.1)
      (subst (λ (ls : List Line). Turns (done + run.alone) t first ls run.mid) (sym (append-nil went.lines) ∙ ap (λ (ls : List Line). went.lines ++ ls)
      (sym run.last.0)) (alone_so_far false run)))

  pub went_run : (left : Bool) → RunsOn now t steps left lines next → Went t (done + steps) first next a c
  went_run left run = record {
    lines = went.lines ++ lines;
    turns = run_turns left run;
    prints = printed_both a b c went.lines lines (Ok tt) went.prints out;
    before = went.before;
    sound = sound;
  }

-- before the step by which a thread left its segment
pub went_before : StepsKeepSound → (t : ThreadNo) (done steps : ℕ) (first now next : Machine) (a b : SinkState) (lines : List Line)
    → Went t done first now a b → (run : RunsOn now t steps true lines next) → Went t (done + run.alone) first run.mid a b
went_before keep t done steps first now next a b lines went run =
    went_on t done run.alone first now run.mid a b went run.turns (turns_sound keep run.alone t now run.mid [] went.sound run.turns)

-- ---- As the answer tells of what a thread's top segment did.

module _ (m new : Machine) (t : ThreadNo) (most : ℕ) (ran : Ran) (lines : List Line) (so : RanSo {E = SinkFailed} m t most (Ok ran) lines new) where
  pub told_few : ran.steps ≤ most
  told_few = subst (λ (r : Ran). r.steps ≤ most) (sym so.told) so.few

  pub told_runs : RunsOn m t ran.steps ran.left lines new
  told_runs = subst (λ (r : Ran). RunsOn m t r.steps r.left lines new) (sym so.told) so.runs

  -- a step by which the thread left its segment is one of them
  pub told_some : ran.left ≡ true → 0 < ran.steps
  told_some left =
      let run = subst (λ (b : Bool). RunsOn m t ran.steps b lines new) left told_runs in
      omega (arith, run.count)

abbrev Same_run : Result Ran SinkFailed → Result Ran SinkFailed → Type 0
Same_run x y = x ≡ y

same_run : {x y : Ran} → Same_run (Ok x) (Ok y) → x ≡ y
same_run e = cc

pub none_told : (ran : Ran) → Same_run (Ok ran) (Ok (record { steps = 0; left = false })) → ran.steps ≡ 0
none_told ran is = ap (λ (r : Ran). r.steps) (same_run is)

pub failed_not_none : (e : SinkFailed) (ran : Ran) → Same_run (Err e) (Ok ran) → ⊥
failed_not_none e ran is = cc

-- no more than these are left
pub went_rises : NumbersRiseInEvents → (t : ThreadNo) (done : ℕ) (first now : Machine) (a b : SinkState) → Went t done first now a b
    → Rises first done now
went_rises law t done first now a b went = law.turns done t first now went.lines went.turns

-- all steps
abbrev pub Turned : ThreadNo → ℕ → Machine → Machine → SinkState → SinkState → Type 0
Turned t steps first now a b = (lines : List Line) × Prints {E = SinkFailed} a b (Ok tt) lines × TurnsApart steps t first lines now

pub went_all : StepsKeepSound → StepsAreApart → (t : ThreadNo) (done steps : ℕ) (first now : Machine) (a b : SinkState) → done ≡ steps
    → Went t done first now a b → Turned t steps first now a b
went_all keep apart t done steps first now a b all went = (
  went.lines,
  went.prints,
  all_apart keep apart steps t first now went.lines went.before (subst (λ (n : ℕ). Turns n t first went.lines now) all went.turns),
)

-- the rest of them, where the next one changes nothing
pub went_rest : (t : ThreadNo) (done steps : ℕ) (first now : Machine) (a b : SinkState) → done ≤ steps → Went t done first now a b
    → Steps now t [] now → Went t steps first now a b
went_rest t done steps first now a b few went step = record {
  lines = went.lines;
  turns = ways_then_rest (StepOf t) (TurnsOf t) (turns_repeat t) done steps first now went.lines few went.turns (whole_machine now went.sound) step;
  prints = went.prints;
  before = went.before;
  sound = went.sound;
}

-- nothing changed where none was done
pub went_nowhere : (t : ThreadNo) (done : ℕ) (first now : Machine) (a b : SinkState) → done ≡ 0 → Went t done first now a b → now ≡ first
went_nowhere t done first now a b none went = (subst (λ (n : ℕ). Turns n t first went.lines now) none went.turns).1

pub rests_on : (t : ThreadNo) (m : Machine) → IsSoundMachine m → Steps m t [] m → Rests m t
rests_on t m sound step = record {
  always = λ more. ways_rest (StepOf t) (TurnsOf t) (turns_repeat t) more m (whole_machine m sound) step;
}

-- The lines of one step didn't all go out.
abbrev pub Stopped : ThreadNo → ℕ → Machine → Machine → SinkState → SinkState → Type 0
Stopped t steps first now a b = StopsAt t (TurnsBefore steps t) (Turns steps t) first a b now

pub went_failed : StepsKeepSound → StepsAreApart → TurnsGoOn IsKnownMachine → (t : ThreadNo) (done steps : ℕ) (first now next : Machine)
    (a b c : SinkState) (lines : List Line) (e : SinkFailed) → done < steps → Went t done first now a b → Prints b c (Err e) lines
    → Steps now t lines next → IsSoundMachine next → Stopped t steps first next a c
went_failed keep apart law t done steps first now next a b c lines e less went out step sound =
    let more = law (steps - done - 1) t next sound.known in
    let some = ways_more (StepOf t) (TurnsOf t) (turns_repeat t) done first now next went.lines lines went.turns step (whole_machine next sound) in
    let all = ways_join (StepOf t) (TurnsOf t) (turns_repeat t) (done + 1) (steps - done - 1) first next more.1 (went.lines ++ lines) more.0 some
    more.2 in
    let count : (done + 1) + (steps - done - 1) ≡ steps = omega (arith, less) in
    record {
      before = went.lines;
      mid = now;
      between = b;
      so_far = (done, less, all_apart keep apart done t first now went.lines went.before went.turns);
      printed = went.prints;
      said = lines;
      step = apart now next t lines went.sound step;
      failed = e;
      broke = out;
      more = more.0;
      last = more.1;
      all = subst (λ (n : ℕ). Turns n t first ((went.lines ++ lines) ++ more.0) more.1) count all;
      whole = more.3.0;
    }

pub failed_rises : NumbersRiseInEvents → (t : ThreadNo) (done steps : ℕ) (first now next : Machine) (a b : SinkState) (lines : List Line)
    → done < steps → Went t done first now a b → Steps now t lines next → IsSoundMachine next → Rises first steps next
failed_rises law t done steps first now next a b lines less went step sound =
    let some = ways_more (StepOf t) (TurnsOf t) (turns_repeat t) done first now next went.lines lines went.turns step (whole_machine next sound) in
    rises_more first next (done + 1) steps (omega (arith, less)) (law.turns (done + 1) t first next (went.lines ++ lines) some)

-- The lines of the step by which the thread left its segment didn't all go out.
module _ (keep : StepsKeepSound) (t : ThreadNo) (done steps : ℕ) (first now next : Machine) (a b : SinkState) (lines : List Line) (e : SinkFailed)
    (few : done < steps) (went : Went t done first now a b) (so : RanSo {E = SinkFailed} now t (steps - done) (Err e) lines next)
    (sound : IsSoundMachine next) where
  run_so : RunsOn now t so.ran.steps true lines next
  run_so = subst (λ (left : Bool). RunsOn now t so.ran.steps left lines next) so.told so.runs

  less_before : done + run_so.alone < steps
  less_before = omega (arith, few, so.few, run_so.count)

  before_last : Went t (done + run_so.alone) first run_so.mid a b
  before_last = went_before keep t done so.ran.steps first now next a b lines went run_so

  pub run_failed : StepsAreApart → TurnsGoOn IsKnownMachine → (c : SinkState) → Prints b c (Err e) lines → Stopped t steps first next a c
  run_failed apart law c out =
      went_failed keep apart law t (done + run_so.alone) steps first run_so.mid next a b c lines e less_before before_last out run_so.last sound

  pub run_failed_rises : NumbersRiseInEvents → Rises first steps next
  run_failed_rises law =
      failed_rises law t (done + run_so.alone) steps first run_so.mid next a b lines less_before before_last run_so.last sound
