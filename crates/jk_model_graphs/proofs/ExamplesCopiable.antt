-- Which classes of the examples stand below java/io/Serializable.
use Rattle.std.proofs.Common.{◌≢◌, ℕ, [], ◌∷◌, refl, ap, inl, inr, arith}
use Rattle.std.specs.Prelude.{List}
use Rattle.jk_model.specs.declared.identifiers.ClassId.{ClassId}
use Rattle.jk_model.specs.declared.values.Value.{Value}
use Rattle.jk_model_classes.specs.Classes.{Implements, OBJECT}
use Rattle.jk_model_classes.specs.Worlds.{NamedClass}
use Rattle.jk_model_domains.specs.Objects.{Plain}
use Rattle.jk_model_graphs.specs.Copiable.{IsCopiable}
use Rattle.jk_model_graphs.specs.Examples.{HOLDER, classes}
use Rattle.jk_model_heaps.specs.SystemClasses.{SERIALIZABLE}
use Rattle.list_lemmas.proofs.ItemsOfLists.{each-of}

-- nothing above Holder is java/io/Serializable
holder_is_not : Implements classes HOLDER SERIALIZABLE → ⊥
holder_is_not h = each-of (λ (d : ClassId). d ≢ SERIALIZABLE) (HOLDER ∷ OBJECT ∷ []) SERIALIZABLE (other 46 (omega arith), (other 0 (omega arith), tt)) h.1 refl
  where
    other : (n : ℕ) → n ≢ 1 → (record { 0 = n }) ≢ SERIALIZABLE
    other n ne e = ne (ap (λ (d : ClassId). d.0) e)

-- whatever names mean
pub holder_is_uncopiable : (from to : List NamedClass) (values : List Value) → IsCopiable classes from to (Plain HOLDER values) → ⊥
holder_is_uncopiable from to values h = elim h [
  | inl marked ↦ absurd cc
  | inr shared ↦ holder_is_not shared.1
]
