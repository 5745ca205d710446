-- A text that can't but name a class names one.
use Rattle.class_linker.proofs.scope.Scope.class_by.Goals as goal

pub unreachable-requires : goal.unreachable-requires
unreachable-requires c = c.requires.named c.in-None.ensures
