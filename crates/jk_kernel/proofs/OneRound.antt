-- A round by the threads that are live in it: those between them do nothing.
use Rattle.std.proofs.Common.{◌≡◌, ◌==◌, inl, inr, ℕ, zero, suc, ◌+◌, ◌*◌, ◌-◌, ◌<◌, ◌≤◌, find, Option, Some, None, List, [], ◌++◌, Ok, refl, sym, ap, subst, ◌∙◌, append_assoc, arith}
use Rattle.std.specs.Prelude.{⊤}
use Rattle.std.proofs.Math.Nat.{mul-add, mul-suc}
use Rattle.std.proofs.lemmas.Bool.{cases_lt, eqb-true}
use Rattle.std.proofs.lemmas.List.{append-nil}
use Rattle.list_lemmas.proofs.FoundItems.{Finds, finds}
use Rattle.list_lemmas.proofs.ItemsOfLists.{Contains-at}
use Rattle.jk_model.specs.declared.identifiers.ThreadNo.{ThreadNo}
use Rattle.jk_model.specs.declared.output.Line.{Line}
use Rattle.jk_model_machine_state.specs.Machines.{IsLiveThread, Machine, Thread}
use Rattle.jk_model_runs.specs.Events.{Goes, IsWhole, Turns}
use Rattle.jk_model_runs.specs.Steps.{Rested, StepsBy}
use Rattle.jk_outside.specs.declared.sinks.SinkFailed.{SinkFailed}
use Rattle.kernel_events.specs.KernelCalls.{IsNextLive, MayDraw}
use Rattle.kernel_events.specs.PrintedLines.{Prints, SinkState}
use Rattle.kernel_events.specs.RisingNumbers.{NumbersRiseInEvents, Rises}
use Rattle.kernel_events.specs.StepsInTurn.{GoesBefore, Rests, StopsAt, TurnsBefore}
use Rattle.machine_laws.specs.KnownMachines.{IsKnownMachine}
use Rattle.machine_laws.specs.MachinesOfRuns.{ThreadsGoOn}
use Rattle.machine_laws.specs.SealedSteps.{StepsStayKnown}
use Rattle.kernel_events.proofs.NumbersOfEvents.{rises_both, rises_more}
use Rattle.jk_kernel.specs.SoundMachines.{IsSoundMachine}
use Rattle.jk_kernel.proofs.LinesJoined.{Fits, printed_both, printed_none}
use Rattle.jk_kernel.proofs.MachinesStaySound.{whole_machine}
use Rattle.jk_kernel.proofs.NumbersLeft.{may_draw}
use Rattle.jk_kernel.proofs.TurnsSoFar.{Turned}
use Rattle.jk_kernel.proofs.WaysJoined.{AllApartOf, ApartOf, StepOf, TurnsOf, apart_repeat, turns_repeat, ways_as, ways_keep, ways_rest}

-- the thread of a number
abbrev pub numbered : ℕ → ThreadNo
numbered t = record { 0 = t }

-- ---- Threads that aren't live.

-- no thread from one number on and below another lives
abbrev pub NoneBetween : ℕ → ℕ → Machine → Type 0
NoneBetween from to m = (u : ThreadNo) → from ≤ u.0 → u.0 < to → IsLiveThread m u → ⊥

-- a live thread has a number that was given out
pub live_below : (m : Machine) (t : ℕ) → IsWhole m → IsLiveThread m (numbered t) → t < m.next_thread
live_below m t whole (e, is) =
    by (find (λ (x : Thread). x.number.0 == t) m.threads) is (finds (λ (x : Thread). x.number.0 == t) m.threads)
  where
    by : (o : Option Thread) → o ≡ Some e → Finds (λ (x : Thread). x.number.0 == t) m.threads o → t < m.next_thread
    by None same h = absurd cc
    by (Some x) same h =
        let below = whole.0.threads.before x (Contains-at m.threads h.0 x h.1) in
        let number = eqb-true x.number.0 t h.2 in
        omega (arith, below.1, number)

-- a thread that isn't live does nothing
pub none_turns : (steps : ℕ) (t : ThreadNo) (m : Machine) → IsWhole m → (IsLiveThread m t → ⊥) → Turns steps t m [] m
none_turns steps t m whole ended =
    ways_rest (StepOf t) (TurnsOf t) (turns_repeat t) steps m whole (Rested, StepsBy.not_live ended)

-- A round from a thread on, or a part of one.
record GoesOn (steps : ℕ) (Go : ℕ → Machine → List Line → Machine → Type 0) : Type 0 where
  on : (thread : ℕ) (m mid new : Machine) (before after : List Line) → thread < m.next_thread → Turns steps (numbered thread) m before mid
      → IsWhole mid → Go (suc thread) mid after new → Go thread m (before ++ after) new

whole_round : (steps : ℕ) → GoesOn steps (Goes steps)
whole_round steps = record { on = λ thread m mid new before after below turns whole rest. Goes.on thread m mid new before after below turns whole rest }

some_round : (steps : ℕ) (t : ThreadNo) → GoesOn steps (GoesBefore steps t)
some_round steps t =
    record { on = λ thread m mid new before after below turns whole rest. GoesBefore.on t thread m mid new before after below turns whole rest }

module _ (steps : ℕ) (Go : ℕ → Machine → List Line → Machine → Type 0) (way : GoesOn steps Go) where
  passed : (k from : ℕ) (m last : Machine) (more : List Line) → IsWhole m → NoneBetween from (from + k) m → from + k ≤ m.next_thread
      → Go (from + k) m more last → Go from m more last
  passed zero from m last more whole none low goes =
      let e : from + 0 ≡ from = omega arith in
      subst (λ (n : ℕ). Go n m more last) e goes
  passed (suc k) from m last more whole none low goes =
      let e : from + suc k ≡ suc from + k = omega arith in
      way.on from m m last [] more (omega (arith, low))
      (none_turns steps (numbered from) m whole (λ live. none (numbered from) (omega arith) (omega arith) live)) whole
      (passed k (suc from) m last more whole (λ u at below. none u (omega (arith, at)) (omega (arith, below, e))) (omega (arith, low, e))
      (subst (λ (n : ℕ). Go n m more last) e goes))

  goes_past : (from to : ℕ) (m last : Machine) (more : List Line) → IsWhole m → from ≤ to → to ≤ m.next_thread → NoneBetween from to m
      → Go to m more last → Go from m more last
  goes_past from to m last more whole rises low none goes =
      let e : to ≡ from + (to - from) = omega (arith, rises) in
      passed (to - from) from m last more whole (λ u at below. none u at (omega (arith, below, e))) (omega (arith, low, e))
      (subst (λ (n : ℕ). Go n m more last) e goes)

  -- up to the next live thread above one
  goes_to : (above t : ℕ) (m last : Machine) (lines : List Line) → IsWhole m → IsNextLive m above t → Go t m lines last → Go (suc above) m lines last
  goes_to above t m last lines whole next goes =
      let below = live_below m t whole next.live in
      let higher = next.later in
      goes_past (suc above) t m last lines whole (omega (arith, higher)) (omega (arith, below))
      (λ u at low live. next.none_between u (omega (arith, at)) low live) goes

  -- and its steps
  goes_next : (above t : ℕ) (m mid last : Machine) (lines more : List Line) → IsWhole m → IsWhole mid → IsNextLive m above t
      → Turns steps (numbered t) m lines mid → Go (suc t) mid more last → Go (suc above) m (lines ++ more) last
  goes_next above t m mid last lines more whole after next turns goes =
      goes_to above t m last (lines ++ more) whole next
      (way.on t m mid last lines more (live_below m t whole next.live) turns after goes)

-- no thread from this one on lives: nothing is left of the round
goes_none : (steps from : ℕ) (m : Machine) → IsWhole m → ((u : ThreadNo) → from ≤ u.0 → IsLiveThread m u → ⊥) → Goes steps from m [] m
goes_none steps from m whole none = elim (cases_lt from m.next_thread) [
  | inl below ↦
      goes_past steps (Goes steps) (whole_round steps) from m.next_thread m m [] whole (omega arith) (omega arith)
      (λ u at before live. none u at live) (Goes.over m.next_thread m (omega arith))
  | inr past ↦ Goes.over from m (omega (arith, past))
]

-- ---- A round so far, up to the thread of this number: what follows it is the rest of the round.

pub record RoundSoFar (steps above : ℕ) (first now : Machine) (a b : SinkState) : Type 0 where
  pub lines : List Line
  pub goes : (more : List Line) (last : Machine) → Goes steps (suc above) now more last → Goes steps 1 first (lines ++ more) last
  pub so_far : (t : ThreadNo) (more : List Line) (last : Machine) → GoesBefore steps t (suc above) now more last
      → GoesBefore steps t 1 first (lines ++ more) last
  pub prints : Prints {E = SinkFailed} a b (Ok tt) lines
  pub rises : Rises first (steps * above) now
  pub before : IsSoundMachine first
  pub sound : IsSoundMachine now

rises_none : (m : Machine) (n : ℕ) → Rises m n m
rises_none m n = record { numbers = record { threads = refl; segments = omega arith }; domains = refl }

pub round_begins : (steps : ℕ) (m : Machine) (a : SinkState) → Fits a → IsSoundMachine m → RoundSoFar steps 0 m m a a
round_begins steps m a fits sound = record {
  lines = [];
  goes = λ more last goes. goes;
  so_far = λ t more last goes. goes;
  prints = printed_none a fits;
  rises = rises_none m (steps * 0);
  before = sound;
  sound = sound;
}

-- so many more steps are within those of the threads up to a later one
threads_steps : (steps above t : ℕ) → above < t → steps * above + steps ≤ steps * t
threads_steps steps above t less =
    let e : t ≡ suc above + (t - suc above) = omega (arith, less) in
    let split : steps * t ≡ steps * suc above + steps * (t - suc above) = ap (λ (n : ℕ). steps * n) e ∙ mul-add steps (suc above) (t - suc above) in
    omega (arith, split, mul-suc steps above)

-- the next thread has numbers left for its steps
pub may_turn : (steps above t : ℕ) (first now : Machine) (a b : SinkState) → RoundSoFar steps above first now a b → IsNextLive now above t
    → MayDraw first (steps * first.next_thread) → MayDraw now steps
may_turn steps above t first now a b round next may =
    let below = live_below now t (whole_machine now round.sound) next.live in
    let higher = next.later in
    may_draw first now (steps * above) steps (steps * first.next_thread)
    (threads_steps steps above first.next_thread (omega (arith, below, higher, round.rises.numbers.threads))) round.rises may

-- each of so many confined steps is a step
plain_turns : (n : ℕ) (t : ThreadNo) (m new : Machine) (lines : List Line) → AllApartOf t n m lines new → Turns n t m lines new
plain_turns n t m new lines turns =
    ways_as (ApartOf t) (AllApartOf t) (apart_repeat t) (StepOf t) (TurnsOf t) (turns_repeat t) (λ (x : Machine). ⊤)
    (λ x last said kept one. (tt, (one.deed, one.steps))) n m new lines tt turns

pub round_more : NumbersRiseInEvents → (steps above t : ℕ) (first now next : Machine) (a b c : SinkState) → RoundSoFar steps above first now a b
    → IsNextLive now above t → Turned (numbered t) steps now next b c → IsSoundMachine next → RoundSoFar steps t first next a c
round_more law steps above t first now next a b c round is (lines, out, apart) sound =
    let turns = plain_turns steps (numbered t) now next lines apart in
    let before = whole_machine now round.sound in
    let after = whole_machine next sound in
    let higher = is.later in
    record {
      lines = round.lines ++ lines;
      goes = λ more last goes.
          subst (λ (ls : List Line). Goes steps 1 first ls last) (sym (append_assoc round.lines lines more))
          (round.goes (lines ++ more) last
          (goes_next steps (Goes steps) (whole_round steps) above t now next last lines more before after is turns goes));
      so_far = λ u more last goes.
          subst (λ (ls : List Line). GoesBefore steps u 1 first ls last) (sym (append_assoc round.lines lines more))
          (round.so_far u (lines ++ more) last
          (goes_next steps (GoesBefore steps u) (some_round steps u) above t now next last lines more before after is turns goes));
      prints = printed_both a b c round.lines lines (Ok tt) round.prints out;
      rises = rises_more first next (steps * above + steps) (steps * t) (threads_steps steps above t higher)
          (rises_both first now next (steps * above) steps round.rises (law.turns steps (numbered t) now next lines turns));
      before = round.before;
      sound = sound;
    }

-- the round is over where no thread above lives
abbrev pub Rounded : ℕ → Machine → Machine → SinkState → SinkState → Type 0
Rounded steps first now a b = (lines : List Line) × Prints {E = SinkFailed} a b (Ok tt) lines × Goes steps 1 first lines now

pub round_over : (steps above : ℕ) (first now : Machine) (a b : SinkState) → RoundSoFar steps above first now a b
    → ((u : ThreadNo) → above < u.0 → IsLiveThread now u → ⊥) → Rounded steps first now a b
round_over steps above first now a b round none = (
  round.lines,
  round.prints,
  subst (λ (ls : List Line). Goes steps 1 first ls now) (append-nil round.lines)
      (round.goes [] now
      (goes_none steps (suc above) now (whole_machine now round.sound) (λ u at live. none u (omega (arith, at)) live))),
)

-- the turns of a thread didn't all go out: the rest of the round is there all the same
abbrev pub RoundStopped : ℕ → Machine → Machine → SinkState → SinkState → Type 0
RoundStopped steps first now a b = (t : ThreadNo) × StopsAt t (GoesBefore steps t 1) (Goes steps 1) first a b now

-- what was said before the step, and by it, stands before the rest
regrouped : (first before said more rest : List Line)
    → first ++ (((before ++ said) ++ more) ++ rest) ≡ ((first ++ before) ++ said) ++ (more ++ rest)
regrouped first before said more rest = simp append_assoc

pub round_failed : StepsStayKnown → ThreadsGoOn IsKnownMachine → (steps above t : ℕ) (first now next : Machine) (a b c : SinkState)
    → RoundSoFar steps above first now a b → IsNextLive now above t
    → StopsAt (numbered t) (TurnsBefore steps (numbered t)) (Turns steps (numbered t)) now b c next → RoundStopped steps first next a c
round_failed keep law steps above t first now next a b c round is stops =
    let before = whole_machine now round.sound in
    let lines : List Line = (stops.before ++ stops.said) ++ stops.more in
    let run = ways_keep (StepOf (numbered t)) (TurnsOf (numbered t)) (turns_repeat (numbered t)) IsKnownMachine
    (λ x last said kept one. keep x last (numbered t) said kept one) steps now stops.last lines round.sound.known stops.all in
    let rest = law steps (suc t) stops.last run in
    let whole = goes_next steps (Goes steps) (whole_round steps) above t now stops.last rest.1 lines rest.0 before stops.whole is
    stops.all rest.2 in
    let joined = regrouped round.lines stops.before stops.said stops.more rest.0 in (
      numbered t,
      record {
        before = round.lines ++ stops.before;
        mid = stops.mid;
        between = stops.between;
        so_far = round.so_far (numbered t) stops.before stops.mid
            (goes_to steps (GoesBefore steps (numbered t)) (some_round steps (numbered t)) above t now stops.mid stops.before before is
            (GoesBefore.within t now stops.mid stops.before (live_below now t before is.live) stops.so_far));
        printed = printed_both a b stops.between round.lines stops.before (Ok tt) round.prints stops.printed;
        said = stops.said;
        step = stops.step;
        failed = stops.failed;
        broke = stops.broke;
        more = stops.more ++ rest.0;
        last = rest.1;
        all = subst (λ (ls : List Line). Goes steps 1 first ls rest.1) joined (round.goes (lines ++ rest.0) rest.1 whole);
        whole = rest.3.0;
      },
    )

-- ---- A round in which nothing changes: up to the thread of this number nothing changed, and nothing does the next time.

abbrev pub RestsSoFar : ℕ → ℕ → Machine → Machine → Type 0
RestsSoFar steps above first now =
    (now ≡ first) × ((more : List Line) (last : Machine) → Goes steps (suc above) first more last → Goes steps 1 first more last)

pub rest_begins : (steps : ℕ) (m : Machine) → RestsSoFar steps 0 m m
rest_begins steps m = (refl, λ more last goes. goes)

pub rest_more : (steps above t : ℕ) (first now next : Machine) → RestsSoFar steps above first now → IsNextLive now above t → IsSoundMachine now
    → (next ≡ now) × Rests now (numbered t) → RestsSoFar steps t first next
rest_more steps above t first now next rest is sound turns =
    let whole = whole_machine now sound in (
      turns.0 ∙ rest.0,
      λ more last goes.
          rest.1 more last
          (subst (λ (m : Machine). Goes steps (suc above) m more last) rest.0
          (goes_next steps (Goes steps) (whole_round steps) above t now now last [] more whole whole is (turns.1.always steps)
          (subst (λ (m : Machine). Goes steps (suc t) m more last) (sym rest.0) goes))),
    )

pub rest_over : (steps above : ℕ) (first now : Machine) → RestsSoFar steps above first now → IsSoundMachine now
    → ((u : ThreadNo) → above < u.0 → IsLiveThread now u → ⊥) → (now ≡ first) × Goes steps 1 first [] first
rest_over steps above first now rest sound none = (
  rest.0,
  rest.1 [] first
      (subst (λ (m : Machine). Goes steps (suc above) m [] m) rest.0
      (goes_none steps (suc above) now (whole_machine now sound) (λ u at live. none u (omega (arith, at)) live))),
)
