-- What an instruction does, in words that code reads, as a shape.
use Rattle.std.specs.Prelude.{List, [], ◌∷◌, ◌++◌, map, flat_map, replicate, Option, Some, None}
use Rattle.jk_model_classes.specs.declared.records.TypeRef.{TypeRef}
use Rattle.jk_model_typing.specs.declared.frames.VType.{VType}
use Rattle.jk_model_typing.specs.declared.frames.VType.TheVariants.{Int}
use Rattle.jk_model_typing.specs.declared.frames.Demand.{Demand}
use Rattle.jk_model_typing.specs.declared.frames.Demand.TheVariants.{Fitting}
use Rattle.jk_model_typing.specs.FrameTypes.{value_of}
use Rattle.jk_model_typing.specs.Groups as def
use Rattle.jk_model_typing.specs.Scopes.{CodeScope, own_receiver, parameter_values}
use Rattle.jk_model_typing.specs.Typing.{as_locals}
use Rattle.type_rows.specs.declared.shapes.Demands.{Demands}
use Rattle.type_rows.specs.declared.shapes.Demands.TheVariants.{Nothing, One, Two, Three, Ints, Arguments, Below}
use Rattle.type_rows.specs.declared.shapes.Shape.{Shape}
use Rattle.type_rows.specs.declared.shapes.Shape.TheVariants as shapes

-- what the arguments for parameters of these types are to meet
abbrev pub argument_demands : CodeScope → List TypeRef → List Demand
argument_demands s params = map Fitting (map (value_of s.classes) params)

abbrev pub demands_view : CodeScope → Demands → List Demand
demands_view s Nothing = []
demands_view s (One a) = a ∷ []
demands_view s (Two a b) = a ∷ b ∷ []
demands_view s (Three a b c) = a ∷ b ∷ c ∷ []
demands_view s (Ints n) = replicate n (Fitting Int)
demands_view s (Arguments params) = argument_demands s params.now
demands_view s (Below d params) = d ∷ argument_demands s params.now

-- one entry, or none
abbrev pub given : Option VType → List VType
given None = []
given (Some v) = v ∷ []

abbrev pub shape_view : CodeScope → Shape → def.Shape
shape_view s (shapes.Takes demands gives) = def.Shape.Takes (demands_view s demands) (given gives)
shape_view s (shapes.Loads demand n) = def.Shape.Loads demand n
shape_view s (shapes.Stores demand n) = def.Shape.Stores demand n
shape_view s (shapes.Increments n) = def.Shape.Increments n
shape_view s (shapes.Drops n) = def.Shape.Drops n
shape_view s (shapes.Copies skipped copied) = def.Shape.Copies skipped copied
shape_view s shapes.Swaps = def.Shape.Swaps
shape_view s shapes.LoadsElement = def.Shape.LoadsElement
shape_view s shapes.Makes = def.Shape.Makes
shape_view s (shapes.Constructs c m params) = def.Shape.Constructs c m (argument_demands s params.now)
shape_view s shapes.Leaves = def.Shape.Leaves

-- the locals that a call gives: the receiver and the arguments
abbrev pub given_values : CodeScope → List VType
given_values s = own_receiver s ++ flat_map as_locals (parameter_values s s.method)
