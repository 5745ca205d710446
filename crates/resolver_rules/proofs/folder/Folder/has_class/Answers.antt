-- The index has exactly the names of the class files.
use Rattle.resolver_rules.proofs.folder.Folder.has_class.Goals as goal

pub returns : goal.returns
returns c = rw (c.contains.ensures, ← c.self.view_is) (c.self.invariant.1.each c.args.name.now)
