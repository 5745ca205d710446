-- By the lemmas on the way down.
use Rattle.machine_laws.proofs.ThrowablesSealed.{has_thrown, throws_answered, throws_sealed}
use Rattle.machine_laws.proofs.crossings.throwables_stay_sealed.Goals as goal

pub returns : goal.returns
returns c = record {
  sealed = λ m new t p a n lines sealed sound left thrown throws.
      throws_sealed t n m a lines new throws sealed sound (has_thrown m t p a left thrown);
  answered = λ m new t a n lines others throws. throws_answered t n m a lines new throws others;
}
