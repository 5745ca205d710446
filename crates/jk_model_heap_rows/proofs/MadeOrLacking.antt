-- What is made fits, and what lacks words doesn't.
use Rattle.std.proofs.Common.{◌≡◌, ℕ, ◌+◌, ◌≤◌, ◌<◌, List, [], ◌∷◌, ◌∙◌, arith}
use Rattle.std.proofs.lemmas.List.Sums.{sum_by-cons}
use Rattle.jk_model_classes.specs.declared.records.ClassRecord.{ClassRecord}
use Rattle.jk_model_domains.specs.Objects.{NamedObject, Object, object_words}
use Rattle.jk_model_heaps.specs.Heaps.{Lacks, MakesOne, heap_words, named}

one_costs : (classes : List ClassRecord) (a : ℕ) (object : Object) → heap_words classes (named a object ∷ []) ≡ object_words classes object
one_costs classes a object = sum_by-cons (λ (e : NamedObject). object_words classes e.object) (named a object) [] ∙ omega arith

pub made_or_lacking : (classes : List ClassRecord) (quota : ℕ) (heap : List NamedObject) (a : ℕ) (object : Object) (new : List NamedObject)
    → MakesOne classes quota heap a object new → Lacks classes quota heap (object_words classes object) → ⊥
made_or_lacking classes quota heap a object new makes lacks =
    let fits : heap_words classes heap + heap_words classes (named a object ∷ []) ≤ quota = makes.fits in
    let short : quota < heap_words classes heap + object_words classes object = lacks in
    omega (arith, one_costs classes a object)
