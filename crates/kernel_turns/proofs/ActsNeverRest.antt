-- A step in which a thread's top segment acts is no rest. So a thread that isn't held, and whose domain has a step left, doesn't rest.
use Rattle.std.proofs.Common.{◌≡◌, ◌≢◌, ℕ, zero, suc, List, [], Some, refl}
use Rattle.jk_model.specs.declared.identifiers.ThreadNo.{ThreadNo}
use Rattle.jk_model.specs.declared.output.Line.{Line}
use Rattle.jk_model_heaps.specs.Workings.{Request}
use Rattle.jk_model_heaps.specs.Workings.{Binds as AsksToBind, Creates as AsksToCreate, LooksUp as AsksToLookUp, Resumes as AsksToResume, Revokes as AsksToRevoke, Stops as AsksToStop, Suspends as AsksToSuspend, Unbinds as AsksToUnbind}
use Rattle.jk_model_running.specs.Ways.{Went}
use Rattle.jk_model_machine_state.specs.Machines.{Machine, paid}
use Rattle.jk_model_machine_state.specs.Places.{RunningSegment, with_run}
use Rattle.jk_model_runs.specs.Steps.{Acts, Deed, Ensues, IsHeld, Rested, StepsBy, deed_of_raise, deed_of_request}
use Rattle.kernel_turns.specs.RestingThreads.{IsResting}

raises_no_rest : (n : ℕ) → deed_of_raise n ≡ Rested → ⊥
raises_no_rest zero is = absurd cc
raises_no_rest (suc n) is = absurd cc

asks_no_rest : (request : Request) → deed_of_request request ≡ Rested → ⊥
asks_no_rest (AsksToCreate class target) is = absurd cc
asks_no_rest (AsksToRevoke k) is = absurd cc
asks_no_rest (AsksToBind text k) is = absurd cc
asks_no_rest (AsksToLookUp text) is = absurd cc
asks_no_rest (AsksToUnbind text) is = absurd cc
asks_no_rest (AsksToSuspend s) is = absurd cc
asks_no_rest (AsksToResume s) is = absurd cc
asks_no_rest (AsksToStop s) is = absurd cc

ensues_no_rest : (m : Machine) (t : ThreadNo) (went : Went) (deed : Deed) (lines : List Line) (new : Machine) → Ensues m t went deed lines new
    → deed ≡ Rested → ⊥
ensues_no_rest m t went deed lines new Ensues.goes_on is = absurd cc
ensues_no_rest m t went deed lines new (Ensues.says p text) is = absurd cc
ensues_no_rest m t went deed lines new (Ensues.ended v n said end h) is = absurd cc
ensues_no_rest m t went deed lines new (Ensues.left a n said end h) is = absurd cc
ensues_no_rest m t went deed lines new (Ensues.enters k method c end of_cap of_method h) is = absurd cc
ensues_no_rest m t went deed lines new (Ensues.is_refused k method c r n said end of_cap of_method refused h) is = raises_no_rest n is
ensues_no_rest m t went deed lines new (Ensues.grants p request v mid end granted q received) is = asks_no_rest request is
ensues_no_rest m t went deed lines new (Ensues.denies p request r n said mid end granted h) is = raises_no_rest n is
ensues_no_rest m t went deed lines new (Ensues.terminates p said end h) is = absurd cc

acts_no_rest : (m : Machine) (t : ThreadNo) (deed : Deed) (lines : List Line) (new : Machine) → Acts m t deed lines new → deed ≡ Rested → ⊥
acts_no_rest m t deed lines new (Acts.stops p n said end stop h) is = raises_no_rest n is
acts_no_rest m t deed lines new (Acts.is_revoked p n said end stop revoked h) is = raises_no_rest n is
acts_no_rest m t deed lines new (Acts.does p run went done said end stop revoked step h) is = ensues_no_rest (with_run p run) t went done said end h is

-- as the law of the first rule of a step says it: where the thread isn't held and its domain has a step left, its segment acts
abbrev pub OthersPay : Type 0
OthersPay =
    (m : Machine) (t : ThreadNo) (p : RunningSegment m t) (deed : Deed) (lines : List Line) (new : Machine) → (IsHeld p → ⊥)
    → p.home.domain.steps_left ≢ Some 0 → StepsBy m t deed lines new → Acts (paid p.segment.shared.domain m) t deed lines new

pub no_rest : OthersPay → (m : Machine) (t : ThreadNo) (p : RunningSegment m t) → (IsHeld p → ⊥) → p.home.domain.steps_left ≢ Some 0
    → IsResting m t → ⊥
no_rest pay m t p free left rests =
    acts_no_rest (paid p.segment.shared.domain m) t Rested [] m (pay m t p Rested [] m free left rests) refl
