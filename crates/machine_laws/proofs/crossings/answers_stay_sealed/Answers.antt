-- By the lemmas on answers.
use Rattle.machine_laws.proofs.AnswersSealed.{returns_answered, returns_sealed}
use Rattle.machine_laws.proofs.crossings.answers_stay_sealed.Goals as goal

pub returns : goal.returns
returns c = record {
  sealed = λ m new t p v n lines sealed sound gone taken returned. returns_sealed m t p v n lines new sealed sound gone taken returned;
  answered = λ m new t v n lines others returned. returns_answered m t v n lines new others returned;
}
