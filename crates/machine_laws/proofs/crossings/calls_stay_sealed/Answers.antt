-- By the lemmas on calls.
use Rattle.machine_laws.proofs.CallsSealed.{call_answered, call_sealed}
use Rattle.machine_laws.proofs.crossings.calls_stay_sealed.Goals as goal

pub returns : goal.returns
returns c = record {
  sealed = λ m new t call sealed sound stands enters. call_sealed m t sealed sound call stands new enters;
  answered = λ m new t call whole sound stands enters. call_answered m t whole.0 sound call stands new enters whole.1;
}
