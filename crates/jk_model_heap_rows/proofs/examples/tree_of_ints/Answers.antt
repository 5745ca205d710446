-- The array of two items, each of them an array of three zeros.
use Rattle.std.proofs.Common.{ℕ, [], ◌∷◌, refl}
use Rattle.std.specs.Prelude.{pos}
use Rattle.jk_model.specs.declared.values.Value.TheVariants as Held
use Rattle.jk_model_classes.specs.declared.records.BaseRef.TheVariants as Base
use Rattle.jk_model_heap_rows.specs.ArrayTrees.{IsTree, Made}
use Rattle.jk_model_heap_rows.specs.Examples.{arrays_of, three_zeros}
use Rattle.jk_model_heap_rows.proofs.examples.tree_of_ints.Goals as goal

abbrev zero_made : Made
zero_made = record { value = Held.Int (pos 0); objects = [] }

abbrev part : ℕ → Made
part a = record { value = Held.Obj a; objects = three_zeros a ∷ [] }

part_is_tree : (a : ℕ) → IsTree (arrays_of Base.Int) (3 ∷ []) (part a)
part_is_tree a = (a, zero_made ∷ zero_made ∷ zero_made ∷ [], refl, (refl, (refl, (refl, tt))), refl)

pub returns-clause-tree : goal.returns-clause-tree
returns-clause-tree c = (7, part 8 ∷ part 9 ∷ [], refl, (part_is_tree 8, (part_is_tree 9, tt)), refl)
