-- A list that has the names that the values name, and those to which one of its own leads, has all that is reached.
use Rattle.std.proofs.Common.{ℕ, List, Contains}
use Rattle.jk_model_classes.specs.declared.records.ClassRecord.{ClassRecord}
use Rattle.jk_model_graphs.specs.Reach.{Graph, Reach, from_object, from_value}
use Rattle.heap_laws.specs.ReachedNames.{IsClosed}

pub closed_is_reach : (classes : List ClassRecord) (g : Graph) (names : List ℕ) → IsClosed classes g names → (a : ℕ) → Reach classes g a
    → Contains names a
closed_is_reach classes g names h a (from_value b given) = h.given b given
closed_is_reach classes g names h a (from_object b d reached leads) =
    h.further b d (closed_is_reach classes g names h b reached) leads
