-- A run of the machine over a list of events. The machine is sealed after each step and each event, and its calls are answered. What a `domain` event may do
-- depends on the tree of files, and is left to a relation that the run takes.
use Rattle.std.specs.Prelude.{◌≡◌, ℕ, zero, suc, ◌<◌, ◌≤◌, List, [], ◌∷◌, ◌++◌, Some, None}
use Rattle.jk_model.specs.declared.identifiers.ThreadNo.{ThreadNo}
use Rattle.jk_model.specs.declared.output.Line.{Line}
use Rattle.jk_model.specs.declared.output.Line.TheVariants.{KillRefused}
use Rattle.jk_model.specs.declared.script.Event.{Event}
use Rattle.jk_model.specs.declared.script.Event.TheVariants.{Domain, Start, Turn, Round, Kill}
use Rattle.jk_model.specs.declared.script.Quotas.{Quotas}
use Rattle.jk_model_crossings.specs.DomainEnds.{Terminates}
use Rattle.jk_model_machine_state.specs.Machines.{DomainState, Machine, live_domain}
use Rattle.jk_model_runs.specs.AnsweredCalls.{AreCallsAnswered}
use Rattle.jk_model_runs.specs.Sealed.{IsSealed}
use Rattle.jk_model_runs.specs.Starts.{Starts}
use Rattle.jk_model_runs.specs.Steps.{Steps}

-- From a machine, opening a domain of this name with these quotas may print these lines and lead to that machine.
abbrev pub DomainEvent : Type 1
DomainEvent = Machine → List ℕ → Quotas → List Line → Machine → Type 0

-- what holds after each step and each event
abbrev pub IsWhole : Machine → Type 0
IsWhole m = IsSealed m × AreCallsAnswered m

-- ---- Kills, by the script: of the live domain of this name, or refused by the rule K1.

pub data Kills (m : Machine) (name : List ℕ) : List Line → Machine → Type 0 where
  no_domain : live_domain m name ≡ None → Kills m name (KillRefused name ∷ []) m
  kills : (d : DomainState) (lines : List Line) (new : Machine) → live_domain m name ≡ Some d → Terminates m d lines new
      → Kills m name lines new

-- ---- Several steps.

-- what leads from one machine to another and prints lines
abbrev pub Move : Type 1
Move = Machine → List Line → Machine → Type 0

-- one after the other: the first leads to such a machine, from which the second leads on, and their lines are put together
abbrev pub Then : Move → Move → Move
Then First Second m lines new =
    (mid : Machine) × (before : List Line) × (after : List Line) × First m before mid × IsWhole mid
    × Second mid after new × (lines ≡ before ++ after)

-- nothing happens
abbrev pub Nothing : Move
Nothing m lines new = (lines ≡ []) × (new ≡ m)

-- so many steps of one thread, one after the other
abbrev pub Turns : ℕ → ThreadNo → Move
Turns zero thread = Nothing
Turns (suc n) thread = Then (λ m lines new. Steps m thread lines new) (Turns n thread)

-- Each thread number given out so far when its place comes, from this one on, gets so many steps. A thread that isn't live
-- does nothing with them.
pub data Goes (steps : ℕ) : ℕ → Machine → List Line → Machine → Type 0 where
  over : (thread : ℕ) (m : Machine) → m.next_thread ≤ thread → Goes steps thread m [] m
  on : (thread : ℕ) (m mid new : Machine) (before after : List Line) → thread < m.next_thread → Turns steps (record { 0 = thread }) m before mid
      → IsWhole mid → Goes steps (suc thread) mid after new → Goes steps thread m (before ++ after) new

-- so many rounds: in each the threads get their steps in rising order
abbrev pub Rounds : ℕ → ℕ → Move
Rounds zero steps = Nothing
Rounds (suc n) steps = Then (Goes steps 1) (Rounds n steps)

-- ---- Events.

-- an event leads from one machine to another and prints these lines
abbrev pub Happens : DomainEvent → Event → Move
Happens opens (Domain name quotas) = λ m lines new. opens m name quotas lines new
Happens opens (Start name class words) = λ m lines new. Starts m (record { domain = name; class = class; words = words }) lines new
Happens opens (Turn thread steps) = Turns steps (record { 0 = thread })
Happens opens (Round rounds steps) = Rounds rounds steps
Happens opens (Kill name) = λ m lines new. Kills m name lines new

-- the events lead from one machine to another, one after the other, and print these lines
abbrev pub IsRun : DomainEvent → List Event → Move
IsRun opens [] = Nothing
IsRun opens (event ∷ events) = Then (Happens opens event) (IsRun opens events)
