-- Steps of threads one after another, each confined to what its deed may change, and where such steps stop: at the one in whose lines the sink
-- failed.
use Rattle.std.specs.Prelude.{◌≡◌, ℕ, zero, suc, ◌+◌, ◌<◌, ◌≤◌, ◌⊎◌, List, [], ◌++◌, Ok, Err}
use Rattle.jk_model.specs.declared.identifiers.ThreadNo.{ThreadNo}
use Rattle.jk_model.specs.declared.output.Line.{Line}
use Rattle.jk_model_machine_state.specs.Machines.{Machine}
use Rattle.jk_model_machine_state.specs.Places.{RunningSegment}
use Rattle.jk_model_runs.specs.Confined.{Confined}
use Rattle.jk_model_runs.specs.Events.{Goes, IsWhole, Move, Nothing, Then, Turns}
use Rattle.jk_model_runs.specs.Steps.{Deed, StepsBy}
use Rattle.jk_outside.specs.declared.sinks.SinkFailed.{SinkFailed}
use Rattle.kernel_events.specs.PrintedLines.{Prints, SinkState}

-- ---- One step, and what it may change: of a thread that isn't live nothing, and else what its deed says, outside of the domain in which its
-- top segment runs.

pub record StepsApart (m : Machine) (t : ThreadNo) (lines : List Line) (new : Machine) : Type 0 where
  pub deed : Deed
  pub steps : StepsBy m t deed lines new
  pub confined : (p : RunningSegment m t) → Confined (record { machine = m; thread = t; deed = deed }) p.segment.shared.domain new

-- so many of one thread, one after another
abbrev pub TurnsApart : ℕ → ThreadNo → Move
TurnsApart zero t = Nothing
TurnsApart (suc n) t = Then (λ m lines new. StepsApart m t lines new) (TurnsApart n t)

-- ---- The steps before one of a thread.

-- fewer than so many steps of the thread
abbrev pub TurnsBefore : ℕ → ThreadNo → Move
TurnsBefore steps t m lines new = (done : ℕ) × (done < steps) × TurnsApart done t m lines new

-- all steps of each thread from a number on up to this thread, and fewer than so many of this one
pub data GoesBefore (steps : ℕ) : ThreadNo → ℕ → Machine → List Line → Machine → Type 0 where
  within : (thread : ℕ) (m new : Machine) (lines : List Line) → thread < m.next_thread → TurnsBefore steps (record { 0 = thread }) m lines new
      → GoesBefore steps (record { 0 = thread }) thread m lines new
  on : (t : ThreadNo) (thread : ℕ) (m mid new : Machine) (before after : List Line) → thread < m.next_thread
      → Turns steps (record { 0 = thread }) m before mid → IsWhole mid → GoesBefore steps t (suc thread) mid after new
      → GoesBefore steps t thread m (before ++ after) new

-- whole rounds, fewer than so many, and then a part of one up to the thread
abbrev pub RoundsBefore : ℕ → ℕ → ThreadNo → Move
RoundsBefore zero steps t m lines new = ⊥
RoundsBefore (suc n) steps t m lines new = GoesBefore steps t 1 m lines new ⊎ Then (Goes steps 1) (RoundsBefore n steps t) m lines new

-- ---- Several steps whose lines didn't all go out.

-- The steps before one of the thread went well: they led to a machine, and their lines went out whole. That one step was taken too, and led to
-- the new machine; of its lines a part went out, up to a piece that failed. No further step was taken, and nothing more was printed. How it
-- would have gone on is there: what was printed is a part of what all the steps print.
pub record StopsAt (t : ThreadNo) (Before All : Move) (m : Machine) (old out : SinkState) (new : Machine) : Type 0 where
  pub before : List Line
  pub mid : Machine
  pub between : SinkState
  pub so_far : Before m before mid
  pub printed : Prints {E = SinkFailed} old between (Ok tt) before
  pub said : List Line
  pub step : StepsApart mid t said new
  pub failed : SinkFailed
  pub broke : Prints between out (Err failed) said
  pub more : List Line
  pub last : Machine
  pub all : All m ((before ++ said) ++ more) last
  pub whole : IsWhole last

-- ---- No step of the thread changes anything, as long as nothing else does.

pub record Rests (m : Machine) (t : ThreadNo) : Type 0 where
  pub always : (more : ℕ) → Turns more t m [] m

-- ---- How far numbers rise.

-- one number of a segment a step, and none of a thread or of a domain
pub record NumbersRise (m : Machine) (most : ℕ) (new : Machine) : Type 0 where
  pub threads : new.next_thread ≡ m.next_thread
  pub segments : new.next_segment ≤ m.next_segment + most
