-- The array's one name, and the pair of it.
use Rattle.std.proofs.Common.{◌≡◌, ℕ, List, [], ◌∷◌, Contains, None, refl}
use Rattle.jk_model.specs.declared.values.Value.TheVariants as Held
use Rattle.jk_model_domains.specs.Objects.{NamedObject, object_named}
use Rattle.jk_model_heaps.specs.Heaps.{named}
use Rattle.jk_model_graphs.specs.Copies.{ArePaired}
use Rattle.jk_model_graphs.specs.Examples.{array, array_pairs, capability, classes, self_holder, target}
use Rattle.jk_model_graphs.specs.Reach.{Reach}
use Rattle.jk_model_graphs.proofs.ExamplesReach.{array_names, reach_of_array, array_is_reached}
use Rattle.jk_model_graphs.proofs.NamesDiffer.{one_differs}
use Rattle.jk_model_graphs.proofs.ReachIsWithin.{one_to_one_by}
use Rattle.list_lemmas.proofs.ItemsOfLists.{Contains-here, each-of}
use Rattle.jk_model_graphs.proofs.examples.array_that_holds_itself.Goals as goal

abbrev copies : List NamedObject
copies = named 8 (array (Held.Obj 8 ∷ capability ∷ [])) ∷ []

pair : Contains array_pairs (4, 8)
pair = Contains-here (4, 8) []

pub returns-clause-copied : goal.returns-clause-copied
returns-clause-copied c = record {
  made = copies;
  grown = refl;
  fresh = λ e h. each-of (λ (f : NamedObject). object_named target f.name ≡ None) copies e (refl, tt) h;
  differ = one_differs (named 8 (array (Held.Obj 8 ∷ capability ∷ [])));
  one_to_one = one_to_one_by array_pairs 4 (refl, tt);
  each_reached = λ a b h. each-of (λ (p : ℕ × ℕ). Reach classes self_holder p.0) array_pairs (a, b) (array_is_reached, tt) h;
  all_reached = λ a reached. each-of (λ (d : ℕ). (b : ℕ) × Contains array_pairs (d, b)) array_names a ((8, pair), tt) (reach_of_array.all a reached);
  each_made = λ a b h. each-of (λ (p : ℕ × ℕ). ArePaired classes self_holder.heap copies array_pairs p.0 p.1) array_pairs (a, b) (
    record {
      object = array (Held.Obj 4 ∷ capability ∷ []);
      is_object = refl;
      copy = array (Held.Obj 8 ∷ capability ∷ []);
      is_copy = refl;
      same = (refl, (pair, (refl, tt)));
    },
    tt,
  ) h;
  all_made = λ e h. each-of (λ (f : NamedObject). (a : ℕ) × Contains array_pairs (a, f.name)) copies e ((4, pair), tt) h;
  values = (pair, (refl, (refl, tt)));
}

pub returns-clause-costs : goal.returns-clause-costs
returns-clause-costs c = (array_names, reach_of_array, refl)
