-- The fields of the handlers so far have two bytes each.
use Rattle.std.proofs.Common.{take}
use Rattle.std.specs.List.{AllByRecursion}
use Rattle.jk_model.specs.ClassFile.{IsHandler}
use Rattle.jkasm.proofs.method_builder.are_handlers.Given as goal

abbrev pub invariant-loop-handler : goal.invariant-loop-handler
invariant-loop-handler l = AllByRecursion IsHandler (take l.handler-index l.handlers)
