-- The scope of a method's code with more classes behind those that it had.
use Rattle.std.specs.Prelude.{List, ◌++◌}
use Rattle.jk_model_classes.specs.declared.records.ClassRecord.{ClassRecord}
use Rattle.jk_model_typing.specs.Scopes.{CodeScope}

-- the same scope, judged among these classes
abbrev pub among : CodeScope → List ClassRecord → CodeScope
among s classes = record s { classes = classes }

abbrev pub with_more : CodeScope → List ClassRecord → CodeScope
with_more s more = among s (s.classes ++ more)
