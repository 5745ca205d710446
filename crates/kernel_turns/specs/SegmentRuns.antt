-- What a thread's top segment did, as steps of the machine: some that it does alone, and maybe one more by which the thread left it.
use Rattle.std.specs.Prelude.{◌≡◌, ℕ, ◌+◌, ◌≤◌, Bool, false, true, List, [], Result, Ok, Err}
use Rattle.jk_model.specs.declared.identifiers.ThreadNo.{ThreadNo}
use Rattle.jk_model.specs.declared.output.Line.{Line}
use Rattle.jk_model_machine_state.specs.Machines.{Machine}
use Rattle.jk_model_runs.specs.Events.{Turns}
use Rattle.jk_model_runs.specs.Steps.{Steps}
use Rattle.segment_steps.specs.declared.went.Went.{Went}
use Rattle.segment_steps.specs.declared.went.Went.TheVariants as Goes
use Rattle.kernel_turns.specs.declared.frame_steps.Ran.{Ran}

-- whether the thread leaves its segment by a step that comes to this
abbrev pub leaves : Went → Bool
leaves Goes.GoesOn = false
leaves (Goes.Returned v) = true
leaves (Goes.Left a) = true
leaves (Goes.Crosses k m) = true
leaves Goes.Terminates = true

-- one more step, which says these lines, or none
abbrev pub LeadsOn : Bool → ThreadNo → Machine → List Line → Machine → Type 0
LeadsOn true t mid lines new = Steps mid t lines new
LeadsOn false t mid lines new = (lines ≡ []) × (new ≡ mid)

abbrev pub count_last : Bool → ℕ
count_last true = 1
count_last false = 0

-- So many steps of the thread lead from the one machine to the other. All but the one by which it left its segment print nothing.
pub record RunsOn (m : Machine) (t : ThreadNo) (steps : ℕ) (left : Bool) (lines : List Line) (new : Machine) : Type 0 where
  pub alone : ℕ
  pub count : steps ≡ alone + count_last left
  pub mid : Machine
  pub turns : Turns alone t m [] mid
  pub last : LeadsOn left t mid lines new

-- the answer tells of what was done; an error, that the last step left the segment
abbrev pub IsTold : {E : Type 0} → Result Ran E → Ran → Type 0
IsTold (Ok told) ran = told ≡ ran
IsTold (Err e) ran = ran.left ≡ true

-- That was done, in no more steps than so many, and these lines were said by the last one.
pub record RanSo {E : Type 0} (m : Machine) (t : ThreadNo) (most : ℕ) (answer : Result Ran E) (lines : List Line) (new : Machine) : Type 0 where
  pub ran : Ran
  pub told : IsTold answer ran
  pub few : ran.steps ≤ most
  pub runs : RunsOn m t ran.steps ran.left lines new

-- whether it failed, of an answer that says more
abbrev pub as_run : {E : Type 0} → Result Ran E → Result (Unit {0}) E
as_run (Ok ran) = Ok tt
as_run (Err e) = Err e
