-- The name of a class that the file refers to names it.
use Rattle.class_linker.proofs.ClassesOfScope.{class_by_text, has_name, name_says}
use Rattle.class_linker.proofs.scope.Scope.class.Goals as goal

pub class_by-requires-clause-named : goal.class_by-requires-clause-named
class_by-requires-clause-named c =
    name_says c.args.self.now.file.now c.args.self.now.names.now c.args.i c.as_slice.result.now c.as_slice.ensures c.in-Some.name c.requires.scope.linkable
    c.in-Some.ensures c.requires.named

pub unreachable-requires : goal.unreachable-requires
unreachable-requires c =
    has_name c.args.self.now.file.now c.args.self.now.names.now c.args.i c.as_slice.result.now c.as_slice.ensures c.in-None.ensures c.requires.named

pub returns : goal.returns
returns c =
    class_by_text c.args.self.now.file.now c.args.self.now.names.now c.args.i c.as_slice.result.now c.as_slice.ensures c.in-Some.name c.class_by.result
    c.in-Some.ensures c.class_by.ensures
