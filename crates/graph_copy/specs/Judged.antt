-- Which objects may be copied, by their shapes.
use Rattle.std.specs.Prelude.{◌⊎◌, ⊤, IsTrue, List}
use Rattle.jk_model_classes.specs.declared.records.ClassRecord.{ClassRecord}
use Rattle.jk_model_classes.specs.Classes.{Implements}
use Rattle.jk_model_classes.specs.Worlds.{NamedClass}
use Rattle.jk_model_graphs.specs.Copiable.{AreSharing, AreSharingBase, is_marked_copiable}
use Rattle.jk_model_heaps.specs.SystemClasses.{SERIALIZABLE}
use Rattle.jk_model_heaps.specs.declared.shapes.Shape.{Shape}
use Rattle.jk_model_heaps.specs.declared.shapes.Shape.TheVariants as Of

-- an object of this shape may be copied, whatever it holds
abbrev pub MayPass : List ClassRecord → List NamedClass → List NamedClass → Shape → Type 0
MayPass classes from to (Of.Plain c) = IsTrue (is_marked_copiable c) ⊎ (AreSharing from to c × Implements classes c SERIALIZABLE)
MayPass classes from to (Of.Array t n) = AreSharingBase from to t.base
MayPass classes from to (Of.Text n) = ⊤
MayPass classes from to (Of.Task s) = ⊥
