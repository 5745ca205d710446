-- The first arguments were put after the others.
use Rattle.std.proofs.Common.{◌≡◌, ◌++◌, map, take}
use Rattle.std.specs.Prelude.{flat_map}
use Rattle.jk_model_typing.specs.FrameTypes.{value_of}
use Rattle.jk_model_typing.specs.Typing.{as_locals}
use Rattle.type_rows.specs.CodeViews.{scope_of}
use Rattle.type_rows.proofs.starts.push_arguments.Given as goal

abbrev pub invariant-loop-t : goal.invariant-loop-t
invariant-loop-t l =
    l.locals ≡ l.fn.locals ++ flat_map as_locals (map (value_of (scope_of l.view).classes) (take l.t-index l.params))
