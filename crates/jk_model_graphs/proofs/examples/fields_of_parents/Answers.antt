-- The two names that are reached, and the pairs of them. The name in a transient field is no name that is reached.
use Rattle.std.proofs.Common.{◌≡◌, ℕ, ◌<◌, List, [], ◌∷◌, Contains, None, refl, arith}
use Rattle.std.specs.Prelude.{pos}
use Rattle.jk_model.specs.declared.values.Value.TheVariants as Held
use Rattle.jk_model_domains.specs.Objects.{NamedObject, Object, Plain, object_named}
use Rattle.jk_model_heaps.specs.Heaps.{named}
use Rattle.jk_model_graphs.specs.Copies.{ArePaired}
use Rattle.jk_model_graphs.specs.Examples.{SUB, classes, node, of_sub, of_sub_pairs, target}
use Rattle.jk_model_graphs.specs.Reach.{Reach}
use Rattle.jk_model_graphs.proofs.ExamplesReach.{node_is_reached, reach_of_sub, sub_is_reached, sub_names}
use Rattle.jk_model_graphs.proofs.NamesDiffer.{two_differ}
use Rattle.jk_model_graphs.proofs.ReachIsWithin.{one_to_one_by}
use Rattle.list_lemmas.proofs.ItemsOfLists.{Contains-here, Contains-there, each-of}
use Rattle.jk_model_graphs.proofs.examples.fields_of_parents.Goals as goal

abbrev emptied : Object
emptied = Plain SUB (Held.Int (pos 1) ∷ Held.Long (pos 0) ∷ Held.Obj 9 ∷ Held.Null ∷ Held.Long (pos 4) ∷ Held.Long (pos 0) ∷ [])

abbrev copies : List NamedObject
copies = named 8 emptied ∷ named 9 (node 9 5) ∷ []

first : Contains of_sub_pairs (1, 8)
first = Contains-here (1, 8) ((2, 9) ∷ [])

second : Contains of_sub_pairs (2, 9)
second = Contains-there (2, 9) (1, 8) ((2, 9) ∷ []) (Contains-here (2, 9) [])

pub returns-clause-copied : goal.returns-clause-copied
returns-clause-copied c = record {
  made = copies;
  grown = refl;
  fresh = λ e h. each-of (λ (f : NamedObject). object_named target f.name ≡ None) copies e (refl, (refl, tt)) h;
  differ = two_differ (named 8 emptied) (named 9 (node 9 5)) (λ e. omega (arith, e));
  one_to_one = one_to_one_by of_sub_pairs 7 (refl, (refl, tt));
  each_reached = λ a b h. each-of (λ (p : ℕ × ℕ). Reach classes of_sub p.0) of_sub_pairs (a, b) (sub_is_reached, (node_is_reached, tt)) h;
  all_reached = λ a reached. each-of (λ (d : ℕ). (b : ℕ) × Contains of_sub_pairs (d, b)) sub_names a ((8, first), ((9, second), tt))
      (reach_of_sub.all a reached);
  each_made = λ a b h. each-of (λ (p : ℕ × ℕ). ArePaired classes of_sub.heap copies of_sub_pairs p.0 p.1) of_sub_pairs (a, b) (
    record {
      object = Plain SUB (Held.Int (pos 1) ∷ Held.Long (pos 2) ∷ Held.Obj 2 ∷ Held.Obj 3 ∷ Held.Long (pos 4) ∷ Held.Long (pos 5) ∷ []);
      is_object = refl;
      copy = emptied;
      is_copy = refl;
      same = (refl, (refl, (refl, (second, (refl, (refl, (refl, tt)))))));
    },
    (record { object = node 2 5; is_object = refl; copy = node 9 5; is_copy = refl; same = (refl, (second, (refl, tt))) }, tt),
  ) h;
  all_made = λ e h. each-of (λ (f : NamedObject). (a : ℕ) × Contains of_sub_pairs (a, f.name)) copies e ((1, first), ((2, second), tt)) h;
  values = (first, tt);
}

pub returns-clause-not_reached : goal.returns-clause-not_reached
returns-clause-not_reached c = λ reached.
    omega (arith, each-of (λ (a : ℕ). a < 3) sub_names 3 (omega arith, (omega arith, tt)) (reach_of_sub.all 3 reached))

pub returns-clause-costs : goal.returns-clause-costs
returns-clause-costs c = (sub_names, reach_of_sub, refl)
