-- The item is a Holder; what the other graph reaches are an object of Sub and a Node.
use Rattle.std.proofs.Common.{◌≡◌, ℕ, [], ◌∷◌, Some, refl, sym, subst, ◌∙◌, inr, arith}
use Rattle.std.proofs.lemmas.Option.{same_Some}
use Rattle.std.specs.Prelude.{codes, pos}
use Rattle.jk_model.specs.declared.values.Value.TheVariants as Held
use Rattle.jk_model_domains.specs.Objects.{Array, Object, Plain, class_type, object_named}
use Rattle.jk_model_graphs.specs.Copiable.{IsCopiable}
use Rattle.jk_model_graphs.specs.Examples.{HOLDER, SUB, all_shared, both_shared, classes, holders, node, of_sub, serializable}
use Rattle.jk_model_graphs.specs.Reach.{Reach, from_object, from_value}
use Rattle.jk_model_graphs.proofs.ExamplesCopiable.{holder_is_uncopiable}
use Rattle.jk_model_graphs.proofs.ExamplesReach.{reach_of_sub, sub_names}
use Rattle.list_lemmas.proofs.ItemsOfLists.{Contains-here, Contains-there, each-of}
use Rattle.jk_model_graphs.proofs.examples.uncopiable_objects.Goals as goal

item_is_reached : Reach classes holders 2
item_is_reached = from_object 1 2 (from_value 1 (Contains-here (Held.Obj 1) []))
    (Array (class_type HOLDER) (Held.Null ∷ Held.Obj 2 ∷ []), refl, Contains-there (Held.Obj 2) Held.Null (Held.Obj 2 ∷ []) (Contains-here (Held.Obj 2) []))

pub returns-clause-met : goal.returns-clause-met
returns-clause-met c = (
  item_is_reached,
  (
    Plain HOLDER (Held.Int (pos 3) ∷ Held.Int (pos 4) ∷ Held.Null ∷ []),
    refl,
    holder_is_uncopiable both_shared both_shared (Held.Int (pos 3) ∷ Held.Int (pos 4) ∷ Held.Null ∷ []),
  ),
)

-- the object of the name may be copied, if there is one
abbrev MayBeCopied : ℕ → Type 0
MayBeCopied a = (object : Object) → object_named of_sub.heap a ≡ Some object → IsCopiable classes all_shared all_shared object

by_object : (a : ℕ) (o : Object) → object_named of_sub.heap a ≡ Some o → IsCopiable classes all_shared all_shared o → MayBeCopied a
by_object a o is may object also = subst (λ (x : Object). IsCopiable classes all_shared all_shared x) (same_Some o object (sym is ∙ also)) may

of_sub_may : MayBeCopied 1
of_sub_may = by_object 1
    (Plain SUB (Held.Int (pos 1) ∷ Held.Long (pos 2) ∷ Held.Obj 2 ∷ Held.Obj 3 ∷ Held.Long (pos 4) ∷ Held.Long (pos 5) ∷ [])) refl
    (inr ((codes "Sub", refl, refl), ((serializable, refl, refl), (2, omega arith, refl))))

of_node_may : MayBeCopied 2
of_node_may = by_object 2 (node 2 5) refl (inr ((codes "Node", refl, refl), ((serializable, refl, refl), (1, omega arith, refl))))

pub returns-clause-not_met : goal.returns-clause-not_met
returns-clause-not_met c = λ a object reached is.
    each-of MayBeCopied sub_names a (of_sub_may, (of_node_may, tt)) (reach_of_sub.all a reached) object is
