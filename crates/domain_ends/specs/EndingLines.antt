-- The lines of threads that end with a domain.
use Rattle.std.specs.Prelude.{List, map}
use Rattle.jk_model.specs.declared.output.Line.{Line}
use Rattle.jk_model.specs.declared.output.Line.TheVariants.{EndedByKill}
use Rattle.jk_model_sharing.specs.Segments.{SharedThread}

abbrev pub lines_of_threads : List SharedThread → List Line
lines_of_threads threads = map (λ (t : SharedThread). EndedByKill t.number) threads
