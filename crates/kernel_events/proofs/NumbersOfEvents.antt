-- A step draws at most one number of a segment, and so many steps at most so many.
use Rattle.std.proofs.Common.{◌≡◌, ℕ, zero, suc, ◌+◌, ◌*◌, ◌≤◌, List, length, refl, sym, ap, subst, ◌∙◌, inl, inr, arith}
use Rattle.std.proofs.Math.Nat.{mul-suc, suc-mul}
use Rattle.std.proofs.lemmas.List.{length-map}
use Rattle.jk_model.specs.declared.identifiers.ThreadNo.{ThreadNo}
use Rattle.jk_model.specs.declared.output.Line.{Line}
use Rattle.jk_model_machine_state.specs.Machines.{Machine}
use Rattle.jk_model_runs.specs.Confined.{drawn_by}
use Rattle.jk_model_runs.specs.Events.{Goes, Kills, Rounds, Turns}
use Rattle.jk_model_runs.specs.Steps.{Deed, EndedDomain, Entered, Flagged, LeftSegments, Rested, Steps, Worked}
use Rattle.machine_laws.specs.KeptWorlds.{KeepsWorld, lasting}
use Rattle.machine_laws.proofs.NumbersDrawn.{kills_same, steps_draw}
use Rattle.machine_laws.proofs.WorldsKept.{kills_keep, steps_keep}
use Rattle.kernel_events.specs.KernelCalls.{steps_of}
use Rattle.kernel_events.specs.RisingNumbers.{Rises}
use Rattle.kernel_events.specs.StepsInTurn.{GoesBefore, RoundsBefore, StepsApart, TurnsApart, TurnsBefore}

-- ---- One after another.

rises_same : (m new : Machine) → new ≡ m → Rises m 0 new
rises_same m new same = record {
  numbers = record {
    threads = ap (λ (x : Machine). x.next_thread) same;
    segments = let e : new.next_segment ≡ m.next_segment = ap (λ (x : Machine). x.next_segment) same in omega (arith, e);
  };
  domains = ap (λ (x : Machine). length x.domains) same;
}

pub rises_more : (m new : Machine) (a b : ℕ) → a ≤ b → Rises m a new → Rises m b new
rises_more m new a b few h = record {
  numbers = record { threads = h.numbers.threads; segments = omega (arith, h.numbers.segments, few) };
  domains = h.domains;
}

pub rises_both : (m mid new : Machine) (a b : ℕ) → Rises m a mid → Rises mid b new → Rises m (a + b) new
rises_both m mid new a b h k = record {
  numbers = record {
    threads = k.numbers.threads ∙ h.numbers.threads;
    segments = omega (arith, h.numbers.segments, k.numbers.segments);
  };
  domains = k.domains ∙ h.domains;
}

same_count : (m new : Machine) → KeepsWorld m new → length new.domains ≡ length m.domains
same_count m new h = sym (length-map new.domains lasting) ∙ ap length h.domains ∙ length-map m.domains lasting

-- ---- A step, and so many.

drawn_few : (deed : Deed) → drawn_by deed ≤ 1
drawn_few Rested = omega arith
drawn_few Worked = omega arith
drawn_few (Entered k method) = omega arith
drawn_few (LeftSegments n) = omega arith
drawn_few (Flagged s) = omega arith
drawn_few (EndedDomain d) = omega arith

pub step_rises : (m new : Machine) (t : ThreadNo) (lines : List Line) → Steps m t lines new → Rises m 1 new
step_rises m new t lines (deed, h) =
    let keeps = steps_keep m new t deed lines h in
    record {
      numbers = record { threads = keeps.next_thread; segments = omega (arith, steps_draw m new t deed lines h, drawn_few deed) };
      domains = same_count m new keeps;
    }

pub turns_rise : (n : ℕ) (t : ThreadNo) (m new : Machine) (lines : List Line) → Turns n t m lines new → Rises m n new
turns_rise zero t m new lines (none, same) = rises_same m new same
turns_rise (suc n) t m new lines (mid, before, after, first, whole, rest, joined) =
    rises_more m new (1 + n) (suc n) (omega arith)
    (rises_both m mid new 1 n (step_rises m mid t before first) (turns_rise n t mid new after rest))

apart_rise : (n : ℕ) (t : ThreadNo) (m new : Machine) (lines : List Line) → TurnsApart n t m lines new → Rises m n new
apart_rise zero t m new lines (none, same) = rises_same m new same
apart_rise (suc n) t m new lines (mid, before, after, first, whole, rest, joined) =
    rises_more m new (1 + n) (suc n) (omega arith)
    (rises_both m mid new 1 n (step_rises m mid t before (first.deed, first.steps)) (apart_rise n t mid new after rest))

pub some_turns_rise : (n : ℕ) (t : ThreadNo) (m mid new : Machine) (before said : List Line) → TurnsBefore n t m before mid
    → StepsApart mid t said new → Rises m n new
some_turns_rise n t m mid new before said (done, few, turns) step =
    rises_more m new (done + 1) n (omega (arith, few))
    (rises_both m mid new done 1 (apart_rise done t m mid before turns) (step_rises mid new t said (step.deed, step.steps)))

-- ---- Rounds: each thread number given out gets so many steps.

-- one thread more
thread_more : (m new : Machine) (steps height : ℕ) → Rises m (steps + steps * height) new → Rises m (steps * suc height) new
thread_more m new steps height h =
    subst (λ (k : ℕ). Rises m k new) (sym (mul-suc steps height))
    (rises_more m new (steps + steps * height) (steps * height + steps) (omega arith) h)

goes_rise : (steps height thread : ℕ) (m new : Machine) (lines : List Line) → m.next_thread ≤ thread + height → Goes steps thread m lines new
    → Rises m (steps * height) new
goes_rise steps height thread m new lines low (Goes.over k w past) = rises_more w w 0 (steps * height) (omega arith) (rises_same w w refl)
goes_rise steps zero thread m new lines low (Goes.on k w mid end before after below turns whole rest) = absurd (omega (arith, low, below))
goes_rise steps (suc height) thread m new lines low (Goes.on k w mid end before after below turns whole rest) =
    let first = turns_rise steps (record { 0 = k }) w mid before turns in
    thread_more w end steps height
    (rises_both w mid end steps (steps * height) first
    (goes_rise steps height (suc k) mid end after (omega (arith, low, first.numbers.threads)) rest))

some_go : (steps height thread : ℕ) (t : ThreadNo) (m mid new : Machine) (lines said : List Line) → m.next_thread ≤ thread + height
    → GoesBefore steps t thread m lines mid → StepsApart mid t said new → Rises m (steps * height) new
some_go steps zero thread t m mid new lines said low (GoesBefore.within k w end ls below turns) step = absurd (omega (arith, low, below))
some_go steps (suc height) thread t m mid new lines said low (GoesBefore.within k w end ls below turns) step =
    thread_more w new steps height
    (rises_more w new steps (steps + steps * height) (omega arith) (some_turns_rise steps (record { 0 = k }) w end new ls said turns step))
some_go steps zero thread t m mid new lines said low (GoesBefore.on u k w first end before after below turns whole rest) step =
    absurd (omega (arith, low, below))
some_go steps (suc height) thread t m mid new lines said low (GoesBefore.on u k w first end before after below turns whole rest) step =
    let rise = turns_rise steps (record { 0 = k }) w first before turns in
    thread_more w new steps height
    (rises_both w first new steps (steps * height) rise
    (some_go steps height (suc k) u first end new after said (omega (arith, low, rise.numbers.threads)) rest step))

-- one round more
round_more : (m new : Machine) (n most : ℕ) → Rises m (most + n * most) new → Rises m (suc n * most) new
round_more m new n most h =
    subst (λ (k : ℕ). Rises m k new) (sym (suc-mul n most)) (rises_more m new (most + n * most) (n * most + most) (omega arith) h)

after_round : (n steps : ℕ) (m mid new : Machine) → Rises m (steps * m.next_thread) mid → Rises mid (steps_of n steps mid) new
    → Rises m (steps_of (suc n) steps m) new
after_round n steps m mid new first rest =
    round_more m new n (steps * m.next_thread)
    (rises_both m mid new (steps * m.next_thread) (n * (steps * m.next_thread)) first
    (subst (λ (k : ℕ). Rises mid (n * (steps * k)) new) first.numbers.threads rest))

pub rounds_rise : (n steps : ℕ) (m new : Machine) (lines : List Line) → Rounds n steps m lines new → Rises m (steps_of n steps m) new
rounds_rise zero steps m new lines (none, same) = rises_more m new 0 (steps_of zero steps m) (omega arith) (rises_same m new same)
rounds_rise (suc n) steps m new lines (mid, before, after, first, whole, rest, joined) =
    after_round n steps m mid new (goes_rise steps m.next_thread 1 m mid before (omega arith) first) (rounds_rise n steps mid new after rest)

pub some_rounds_rise : (n steps : ℕ) (t : ThreadNo) (m mid new : Machine) (lines said : List Line) → RoundsBefore n steps t m lines mid
    → StepsApart mid t said new → Rises m (steps_of n steps m) new
some_rounds_rise zero steps t m mid new lines said never step = absurd never
some_rounds_rise (suc n) steps t m mid new lines said (inl goes) step =
    round_more m new n (steps * m.next_thread)
    (rises_more m new (steps * m.next_thread) (steps * m.next_thread + n * (steps * m.next_thread)) (omega arith)
    (some_go steps m.next_thread 1 t m mid new lines said (omega arith) goes step))
some_rounds_rise (suc n) steps t m mid new lines said (inr (there, before, after, first, whole, rest, joined)) step =
    after_round n steps m there new (goes_rise steps m.next_thread 1 m there before (omega arith) first)
    (some_rounds_rise n steps t there mid new after said rest step)

-- ---- Kills.

pub kills_rise : (m new : Machine) (name : List ℕ) (lines : List Line) → Kills m name lines new → Rises m 0 new
kills_rise m new name lines h =
    let keeps = kills_keep m new name lines h in
    record {
      numbers = record { threads = keeps.next_thread; segments = omega (arith, kills_same m new name lines h) };
      domains = same_count m new keeps;
    }
