-- There is no such text.
use Rattle.class_linker.proofs.linking.class_at.Goals as goal

pub returns-in-None : goal.returns-in-None
returns-in-None c = λ k (us, at, p). c.in-None.ensures us at
