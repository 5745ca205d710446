-- Paths are in UTF-8, and the index is that of the files.
use Rattle.jk_model.proofs.EachItem.{all_weaker}
use Rattle.resolver_rules.proofs.folder.Folder.of.Goals as goal

pub names_of-requires : goal.names_of-requires
names_of-requires c = rw c.as_slice.ensures (all_weaker _ _ c.args.files.now.classes (λ f p. p.1) c.requires.paths)
