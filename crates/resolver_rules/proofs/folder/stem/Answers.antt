-- What is left without the ending is the stem.
use Rattle.std.proofs.lemmas.Bool.Decides.{Decides-eqb}
use Rattle.std.proofs.lemmas.Slice.Eq.{strip_suffix_is}
use Rattle.resolver_rules.proofs.folder.stem.Goals as goal

pub returns : goal.returns
returns c = strip_suffix_is Decides-eqb c.args.path.now _ c.strip_suffix.result c.strip_suffix.ensures.cases
