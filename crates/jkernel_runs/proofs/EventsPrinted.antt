-- What the kernel's calls print, as events: starts, turns, rounds and kills whose lines went out, or broke off.
use Rattle.std.proofs.Common.{◌≡◌, ℕ, zero, suc, ◌+◌, ◌*◌, ◌≤◌, List, [], ◌++◌, Ok, Err, sym, subst, append-nil, arith}
use Rattle.std.proofs.Math.Nat.{mul_assoc}
use Rattle.std.proofs.lemmas.Nat.{mul-le}
use Rattle.jk_model.specs.declared.identifiers.ThreadNo.{ThreadNo}
use Rattle.jk_model.specs.declared.output.Line.{Line}
use Rattle.jk_model.specs.ScriptGrammar.{MAX_STEPS}
use Rattle.jk_model_machine_state.specs.Machines.{Machine}
use Rattle.jk_model_runs.specs.Events.{IsWhole, Move, Turns}
use Rattle.jk_model_runs.specs.Starts.{Starts, StartWords}
use Rattle.jk_outside.specs.declared.sinks.SinkFailed.{SinkFailed}
use Rattle.kernel_events.specs.KernelCalls.{steps_of}
use Rattle.kernel_events.specs.PrintedLines.{Prints, SinkState}
use Rattle.kernel_events.specs.StepsInTurn.{NumbersRise, StopsAt, TurnsApart}
use Rattle.jk_kernel.proofs.LinesJoined.{printed_both}
use Rattle.jkernel_runs.specs.declared.stop.Stop.TheVariants.{WriteFault}
use Rattle.jkernel_runs.specs.DrawnNumbers.{MOST_DRAWN, MOST_THREADS, RiseInEvent}
use Rattle.jkernel_runs.specs.Events.{BreaksOffIn, IsTold}
use Rattle.jkernel_runs.proofs.RunsGoOn.{broken_so, printed_so}

-- ---- What went out, and what broke off.

pub is_told : (Happened : List Line → Machine → Type 0) (last : Machine) (a b : SinkState) → IsWhole last
    → (lines : List Line) × Prints {E = SinkFailed} a b (Ok tt) lines × Happened lines last → IsTold Happened last a b
is_told Happened last a b whole (lines, printed, happened) =
    record { lines = lines; happened = happened; is_whole = whole; printed = printed_so a b lines printed }

-- the one step of an event, which has happened whole
pub breaks_off_whole : (Happened : List Line → Machine → Type 0) (last : Machine) (a b : SinkState) (failed : SinkFailed) → IsWhole last
    → (lines : List Line) × Prints a b (Err failed) lines × Happened lines last → BreaksOffIn Happened a b
breaks_off_whole Happened last a b failed whole (lines, printed, happened) = record {
  said = lines;
  more = [];
  last = last;
  happened = subst (λ (ls : List Line). Happened ls last) (sym (append-nil lines)) happened;
  is_whole = whole;
  printed = broken_so failed WriteFault a b lines printed;
}

-- several steps, up to one of a thread; the others are there too
pub breaks_off_in : (t : ThreadNo) (Before All : Move) (m new : Machine) (a b : SinkState) → StopsAt t Before All m a b new → BreaksOffIn (All m) a b
breaks_off_in t Before All m new a b stops = record {
  said = stops.before ++ stops.said;
  more = stops.more;
  last = stops.last;
  happened = stops.all;
  is_whole = stops.whole;
  printed = broken_so stops.failed WriteFault a b (stops.before ++ stops.said)
      (printed_both a stops.between b stops.before stops.said (Err stops.failed) stops.printed stops.broke);
}

-- ---- Steps of one thread.

-- those that are confined are steps
pub turns_of : (n : ℕ) (t : ThreadNo) (m new : Machine) (lines : List Line) → TurnsApart n t m lines new → Turns n t m lines new
turns_of zero t m new lines none = none
turns_of (suc n) t m new lines (mid, before, after, first, whole, rest, joined) =
    (mid, before, after, (first.deed, first.steps), whole, turns_of n t mid new after rest, joined)

-- ---- Numbers.

-- steps draw no more than an event may
pub rise_by_steps : (most : ℕ) (m new : Machine) → most ≤ MOST_DRAWN → NumbersRise m most new → RiseInEvent m new
rise_by_steps most m new few h =
    let same : new.next_thread ≡ m.next_thread = h.threads in
    record { threads = omega (arith, same); segments = omega (arith, few, h.segments) }

-- a start draws one number of each kind at most
pub rise_by_start : (m : Machine) (start : StartWords) (new : Machine) (lines : List Line) → Starts m start lines new → RiseInEvent m new
rise_by_start m start new lines (Starts.no_domain none) = record { threads = omega arith; segments = omega arith }
rise_by_start m start new lines (Starts.no_class h none) = record { threads = omega arith; segments = omega arith }
rise_by_start m start new lines (Starts.no_main h none) = record { threads = omega arith; segments = omega arith }
rise_by_start m start new lines (Starts.many_threads h many) = record { threads = omega arith; segments = omega arith }
rise_by_start m start new lines (Starts.many_words h few many) = record { threads = omega arith; segments = omega arith }
rise_by_start m start new lines (Starts.few_chunks h few fit lacks) = record { threads = omega arith; segments = omega arith }
rise_by_start m start new lines (Starts.begins h few fit heap words frame is) = record { threads = omega arith; segments = omega arith }

-- nothing is drawn where both numbers stay
pub rise_by_none : (m new : Machine) → (new.next_thread ≡ m.next_thread) × (new.next_segment ≡ m.next_segment) → RiseInEvent m new
rise_by_none m new (threads, segments) = record { threads = omega (arith, threads); segments = omega (arith, segments) }

-- so many rounds of steps, and a few threads
pub few_drawn : (rounds steps : ℕ) (m : Machine) → rounds * steps ≤ MAX_STEPS → m.next_thread ≤ MOST_THREADS → steps_of rounds steps m ≤ MOST_DRAWN
few_drawn rounds steps m few threads =
    subst (λ (n : ℕ). n ≤ MOST_DRAWN) (mul_assoc rounds steps m.next_thread) (mul-le (rounds * steps) m.next_thread MAX_STEPS MOST_THREADS few threads)

-- one event more, of so many
pub drawn_more : (i : ℕ) (m new : Machine) → m.next_segment ≤ 1 + i * MOST_DRAWN → RiseInEvent m new → new.next_segment ≤ 1 + (i + 1) * MOST_DRAWN
drawn_more i m new few h = omega (arith, few, h.segments)
