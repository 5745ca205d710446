-- A start draws one number of a thread and one of a segment at most, a step one of a segment; and so many calls draw few.
use Rattle.std.proofs.Common.{◌≡◌, ℕ, ◌+◌, ◌*◌, ◌<◌, ◌≤◌, ◌^◌, List, Option, arith}
use Rattle.jk_model.specs.declared.output.Line.{Line}
use Rattle.jk_model_machine_state.specs.Machines.{IsFirstMachine, Machine}
use Rattle.jk_model_runs.specs.Starts.{Starts, StartWords}
use Rattle.kernel_events.specs.KernelCalls.{MayDraw}
use Rattle.kernel_events.specs.StepsInTurn.{NumbersRise}
use Rattle.host_check.specs.DrawnNumbers.{AreFew, Draws}

-- ---- What a call draws.

start_draws : (m : Machine) (start : StartWords) (new : Machine) (lines : List Line) → Starts m start lines new → Draws 1 m new
start_draws m start new lines (Starts.no_domain none) = record { threads = omega arith; segments = omega arith }
start_draws m start new lines (Starts.no_class h none) = record { threads = omega arith; segments = omega arith }
start_draws m start new lines (Starts.no_main h none) = record { threads = omega arith; segments = omega arith }
start_draws m start new lines (Starts.many_threads h many) = record { threads = omega arith; segments = omega arith }
start_draws m start new lines (Starts.many_words h few many) = record { threads = omega arith; segments = omega arith }
start_draws m start new lines (Starts.few_chunks h few fit lacks) = record { threads = omega arith; segments = omega arith }
start_draws m start new lines (Starts.begins h few fit heap words frame is) = record { threads = omega arith; segments = omega arith }

pub threads_drawn : (m : Machine) (start : StartWords) (new : Machine) (lines : List Line) → Starts m start lines new
    → new.next_thread ≤ 1 + m.next_thread
threads_drawn m start new lines h = (start_draws m start new lines h).threads

pub segments_drawn : (m : Machine) (start : StartWords) (new : Machine) (lines : List Line) → Starts m start lines new
    → new.next_segment ≤ 1 + m.next_segment
segments_drawn m start new lines h = (start_draws m start new lines h).segments

pub draws_fewer : (n most : ℕ) (m new : Machine) → n ≤ most → Draws n m new → Draws most m new
draws_fewer n most m new fewer h =
    let threads = h.threads in
    let segments = h.segments in
    record { threads = omega (arith, fewer, threads); segments = omega (arith, fewer, segments) }

pub by_start : (m : Machine) (start : StartWords) (new : Machine) (lines : List Line) → Starts m start lines new → Draws 1000 m new
by_start m start new lines h =
    let one : 1 ≤ 1000 = omega arith in
    draws_fewer 1 1000 m new one (start_draws m start new lines h)

pub by_steps : (m : Machine) (steps : ℕ) (new : Machine) → steps ≤ 1000 → NumbersRise m steps new → Draws 1000 m new
by_steps m steps new few h =
    let threads = h.threads in
    let segments = h.segments in
    record { threads = omega (arith, threads); segments = omega (arith, few, segments) }

pub by_none : (m new : Machine) → new.next_thread ≡ m.next_thread → new.next_segment ≡ m.next_segment → Draws 1000 m new
by_none m new threads segments = record { threads = omega (arith, threads); segments = omega (arith, segments) }

pub draws_none : (n : ℕ) (m : Machine) → Draws n m m
draws_none n m = record { threads = omega arith; segments = omega arith }

-- ---- Calls one after another.

pub draws_both : (a b : ℕ) (m mid new : Machine) → Draws a m mid → Draws b mid new → Draws (a + b) m new
draws_both a b m mid new first second =
    let threads = first.threads in
    let segments = first.segments in
    let more = second.threads in
    let further = second.segments in
    record { threads = omega (arith, threads, more); segments = omega (arith, segments, further) }

-- ---- What is asked of the numbers.

pub few_at_first : (heap stacks : Option ℕ) (m : Machine) → IsFirstMachine heap stacks m → AreFew 1 m
few_at_first heap stacks m is =
    let threads = is.threads_from in
    let segments = is.segments_from in
    record { threads = omega (arith, threads); segments = omega (arith, segments) }

pub few_then : (n k most : ℕ) (m new : Machine) → n + k ≤ most → AreFew n m → Draws k m new → AreFew most new
few_then n k most m new fits few draws =
    let threads = few.threads in
    let segments = few.segments in
    let more = draws.threads in
    let further = draws.segments in
    record { threads = omega (arith, fits, threads, more); segments = omega (arith, fits, segments, further) }

pub few_in_more : (n most : ℕ) (m : Machine) → n ≤ most → AreFew n m → AreFew most m
few_in_more n most m fits few =
    let threads = few.threads in
    let segments = few.segments in
    record { threads = omega (arith, fits, threads); segments = omega (arith, fits, segments) }

pub may_start : (m : Machine) → AreFew 2000000 m → (m.next_thread < 2 ^ 31) × MayDraw m 1
may_start m few =
    let threads = few.threads in
    let segments = few.segments in
    (omega (arith, threads), omega (arith, segments))

pub may_turn : (m : Machine) (steps : ℕ) → steps ≤ 1000 → AreFew 2000000 m → MayDraw m steps
may_turn m steps fits few =
    let segments = few.segments in
    omega (arith, fits, segments)

-- ---- A pass, in which so many threads were served.

pub served_none : (m : Machine) → Draws (0 * 1000) m m
served_none m = draws_none (0 * 1000) m

pub serve : (n : ℕ) (m now : Machine) → n < 16 → AreFew 1900000 m → Draws (n * 1000) m now → AreFew 2000000 now
serve n m now less few draws =
    let fits : 1900000 + n * 1000 ≤ 2000000 = omega (arith, less) in
    few_then 1900000 (n * 1000) 2000000 m now fits few draws

pub served_more : (n : ℕ) (m now new : Machine) → Draws (n * 1000) m now → Draws 1000 now new → Draws ((n + 1) * 1000) m new
served_more n m now new so_far one =
    let fits : n * 1000 + 1000 ≤ (n + 1) * 1000 = omega arith in
    draws_fewer (n * 1000 + 1000) ((n + 1) * 1000) m new fits (draws_both (n * 1000) 1000 m now new so_far one)

pub served_few : (n : ℕ) (m now : Machine) → n ≤ 16 → Draws (n * 1000) m now → Draws 16000 m now
served_few n m now few so_far =
    let fits : n * 1000 ≤ 16000 = omega (arith, few) in
    draws_fewer (n * 1000) 16000 m now fits so_far

-- ---- So many calls.

pub made_none : (m : Machine) → AreFew 1 m → AreFew (1 + 0 * 16000) m
made_none m few =
    let fits : 1 ≤ 1 + 0 * 16000 = omega arith in
    few_in_more 1 (1 + 0 * 16000) m fits few

pub make_next : (i calls : ℕ) (m : Machine) → i < calls → calls ≤ 100 → AreFew (1 + i * 16000) m → AreFew 1900000 m
make_next i calls m less few so_far =
    let fits : 1 + i * 16000 ≤ 1900000 = omega (arith, less, few) in
    few_in_more (1 + i * 16000) 1900000 m fits so_far

pub made_more : (i : ℕ) (m new : Machine) → AreFew (1 + i * 16000) m → Draws 16000 m new → AreFew (1 + (i + 1) * 16000) new
made_more i m new so_far draws =
    let fits : 1 + i * 16000 + 16000 ≤ 1 + (i + 1) * 16000 = omega arith in
    few_then (1 + i * 16000) 16000 (1 + (i + 1) * 16000) m new fits so_far draws
