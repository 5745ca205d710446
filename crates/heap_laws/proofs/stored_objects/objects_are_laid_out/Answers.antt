-- By the lemmas on objects.
use Rattle.heap_laws.proofs.LaidOut.{sealed_laid_out, written_alike}
use Rattle.heap_laws.proofs.stored_objects.objects_are_laid_out.Goals as goal

pub returns-clause-laid_out : goal.returns-clause-laid_out
returns-clause-laid_out c = sealed_laid_out

pub returns-clause-written : goal.returns-clause-written
returns-clause-written c = written_alike
