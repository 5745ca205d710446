-- The type of a value that is kept can be used.
use Rattle.std.proofs.Common.{ℕ, zero, suc, List}
use Rattle.jk_model_classes.specs.declared.records.BaseRef.{BaseRef}
use Rattle.jk_model_classes.specs.declared.records.BaseRef.TheVariants as Base
use Rattle.jk_model_classes.specs.declared.records.ClassRecord.{ClassRecord}
use Rattle.jk_model_typing.specs.FrameTypes.{IsUsable, dims_value}

pub usable-value : (classes : List ClassRecord) (dims : ℕ) (base : BaseRef) → IsUsable (dims_value classes dims base)
usable-value classes zero (Base.Class c) = tt
usable-value classes zero Base.Long = tt
usable-value classes zero base = tt
usable-value classes (suc dims) base = tt
