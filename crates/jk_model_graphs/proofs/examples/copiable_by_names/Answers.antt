-- What two tables say of a name, and what stands above a class.
use Rattle.std.proofs.Common.{◌≡◌, Bool, true, false, cond, [], Some, None, refl, inl, inr, ap, arith}
use Rattle.std.proofs.lemmas.Option.{same_Some}
use Rattle.std.specs.Prelude.{bytes_eq, codes, option_map}
use Rattle.jk_model.specs.declared.identifiers.ClassId.{ClassId}
use Rattle.jk_model_classes.specs.Worlds.{NamedClass}
use Rattle.jk_model_graphs.specs.Copiable.{AreSharing}
use Rattle.jk_model_graphs.specs.Examples.{HOLDER, NODE, both_shared, meaning, own_node, serializable}
use Rattle.jk_model_graphs.proofs.ExamplesCopiable.{holder_is_uncopiable}
use Rattle.jk_model_graphs.proofs.examples.copiable_by_names.Goals as goal

pub returns-clause-serializable : goal.returns-clause-serializable
returns-clause-serializable c = inr ((codes "Node", refl, refl), ((serializable, refl, refl), (1, omega arith, refl)))

pub returns-clause-not_serializable : goal.returns-clause-not_serializable
returns-clause-not_serializable c = holder_is_uncopiable both_shared both_shared []

pub returns-clause-array : goal.returns-clause-array
returns-clause-array c = (codes "Holder", refl, refl)

-- no name means Node in the other domain
node_is_unnamed : AreSharing both_shared own_node NODE → ⊥
node_is_unnamed h = by_test (bytes_eq (codes "Node") h.0) h.2
  where
    by_test : (b : Bool) → option_map (λ (e : NamedClass). e.class) (cond b (Some (meaning (codes "Node") HOLDER)) None) ≡ Some NODE → ⊥
    by_test true e = let same : 46 ≡ 45 = ap (λ (d : ClassId). d.0) (same_Some HOLDER NODE e) in absurd (omega (arith, same))
    by_test false e = absurd cc

pub returns-clause-two_classes : goal.returns-clause-two_classes
returns-clause-two_classes c = λ h. elim h [
  | inl marked ↦ absurd cc
  | inr shared ↦ node_is_unnamed shared.0
]

pub returns-clause-array_of_two_classes : goal.returns-clause-array_of_two_classes
returns-clause-array_of_two_classes c = node_is_unnamed
