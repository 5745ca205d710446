-- Classes that are reached from others by references.
use Rattle.std.proofs.Common.{◌≡◌, List, Some, Contains}
use Rattle.jk_model.specs.declared.identifiers.ClassId.{ClassId}
use Rattle.jk_model_classes.specs.declared.records.ClassRecord.{ClassRecord}
use Rattle.jk_model_classes.specs.Classes.{record_of}
use Rattle.jk_model_classes.specs.ResolverRules.{IsReached, further, itself}

-- what is reached from a class, and one reference more
pub reached_further : (classes : List ClassRecord) (c d e : ClassId) (r : ClassRecord) → IsReached classes c d → record_of classes d ≡ Some r
    → Contains r.references e → IsReached classes c e
reached_further classes c d e r (itself a) is on = further a e e r is on (itself e)
reached_further classes c d e r (further a b z q at listed rest) is on =
    further a b e q at listed (reached_further classes b z e r rest is on)
