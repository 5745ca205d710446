-- What the code knows of a line, as the grammar has it.
use Rattle.jk_model_classes.specs.Resolver.{Reading, Says, Nothing, Outside}
use Rattle.domain_resolver.specs.declared.line.LineReading.{LineReading}
use Rattle.domain_resolver.specs.declared.line.LineReading.TheVariants as Line

abbrev pub reading : LineReading → Reading
reading (Line.Says says) = Says says
reading Line.Nothing = Nothing
reading Line.Outside = Outside
