-- A descriptor has a unit or more for each parameter.
use Rattle.std.proofs.Common.{arith}
use Rattle.class_rules.proofs.TextsAreLong.{params_few}
use Rattle.class_rules.proofs.texts.shapes.method_shape_of.Goals as goal

pub shape_of_method-requires : goal.shape_of_method-requires
shape_of_method-requires c = omega (arith, params_few c.args.units.now c.in-Ok.t c.in-Ok.ensures.read)
