-- From some name on a heap has no objects, so that one more object can be made wherever it fits.
use Rattle.std.proofs.Common.{◌≡◌, ◌≢◌, ℕ, suc, ◌+◌, ◌==◌, ◌≤◌, Bool, true, false, List, [], ◌∷◌, ◌++◌, None, refl, arith}
use Rattle.std.proofs.lemmas.Bool.{eqb-true}
use Rattle.std.proofs.lemmas.List.Sums.{sum_by-cons}
use Rattle.jk_model_classes.specs.declared.records.ClassRecord.{ClassRecord}
use Rattle.jk_model_domains.specs.Objects.{NamedObject, Object, object_named, object_words}
use Rattle.jk_model_heaps.specs.Heaps.{MakesOne, heap_words, named}
use Rattle.jk_model_heaps.proofs.NamesInHeaps.{by_first}
use Rattle.jk_model_heaps.proofs.OneIsMade.{one_is_made}

-- above all names of a heap
abbrev pub above_names : List NamedObject → ℕ
above_names [] = 0
above_names (e ∷ heap) = suc (e.name + above_names heap)

passed : (t : Bool) (e : NamedObject) (heap : List NamedObject) (a : ℕ) → (e.name == a) ≡ t → e.name ≢ a → object_named heap a ≡ None
    → by_first t e heap a ≡ None
passed true e heap a is other none = absurd (other (eqb-true e.name a is))
passed false e heap a is other none = none

pub none_above : (heap : List NamedObject) (a : ℕ) → above_names heap ≤ a → object_named heap a ≡ None
none_above [] a above = refl
none_above (e ∷ heap) a above =
    passed (e.name == a) e heap a refl (λ same. omega (arith, above, same)) (none_above heap a (omega (arith, above)))

pub fitting_made : (classes : List ClassRecord) (quota : ℕ) (heap : List NamedObject) (object : Object)
    → heap_words classes heap + object_words classes object ≤ quota → (a : ℕ) × (new : List NamedObject) × MakesOne classes quota heap a object new
fitting_made classes quota heap object fits =
    let a : ℕ = above_names heap in (
      a,
      heap ++ named a object ∷ [],
      one_is_made classes quota heap a object (none_above heap a (omega arith))
          (let one = sum_by-cons (λ (e : NamedObject). object_words classes e.object) (named a object) [] in omega (arith, fits, one)),
    )
