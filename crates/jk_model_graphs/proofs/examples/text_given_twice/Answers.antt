-- The text's one name, and the pair of it. Two copies of one object are refused by the two values.
use Rattle.std.proofs.Common.{◌≡◌, ℕ, List, [], ◌∷◌, Contains, None, refl, arith}
use Rattle.std.specs.Prelude.{codes}
use Rattle.jk_model_domains.specs.Objects.{NamedObject, Text, object_named}
use Rattle.jk_model_heaps.specs.Heaps.{named}
use Rattle.jk_model_graphs.specs.Copies.{ArePaired}
use Rattle.jk_model_graphs.specs.Examples.{classes, given_twice, target, text_pairs}
use Rattle.jk_model_graphs.specs.Reach.{Reach}
use Rattle.jk_model_graphs.proofs.ExamplesReach.{text_names, reach_of_text, text_is_reached}
use Rattle.jk_model_graphs.proofs.NamesDiffer.{one_differs}
use Rattle.jk_model_graphs.proofs.ReachIsWithin.{one_to_one_by}
use Rattle.list_lemmas.proofs.ItemsOfLists.{Contains-here, each-of}
use Rattle.jk_model_graphs.proofs.examples.text_given_twice.Goals as goal

abbrev copies : List NamedObject
copies = named 8 (Text (codes "x")) ∷ []

pair : Contains text_pairs (3, 8)
pair = Contains-here (3, 8) []

pub returns-clause-once : goal.returns-clause-once
returns-clause-once c = record {
  made = copies;
  grown = refl;
  fresh = λ e h. each-of (λ (f : NamedObject). object_named target f.name ≡ None) copies e (refl, tt) h;
  differ = one_differs (named 8 (Text (codes "x")));
  one_to_one = one_to_one_by text_pairs 5 (refl, tt);
  each_reached = λ a b h. each-of (λ (p : ℕ × ℕ). Reach classes given_twice p.0) text_pairs (a, b) (text_is_reached, tt) h;
  all_reached = λ a reached. each-of (λ (d : ℕ). (b : ℕ) × Contains text_pairs (d, b)) text_names a ((8, pair), tt) (reach_of_text.all a reached);
  each_made = λ a b h. each-of (λ (p : ℕ × ℕ). ArePaired classes given_twice.heap copies text_pairs p.0 p.1) text_pairs (a, b)
      (record { object = Text (codes "x"); is_object = refl; copy = Text (codes "x"); is_copy = refl; same = refl }, tt) h;
  all_made = λ e h. each-of (λ (f : NamedObject). (a : ℕ) × Contains text_pairs (a, f.name)) copies e ((3, pair), tt) h;
  values = (pair, (pair, tt));
}

pub returns-clause-costs : goal.returns-clause-costs
returns-clause-costs c = (text_names, reach_of_text, refl)

pub returns-clause-no_tree : goal.returns-clause-no_tree
returns-clause-no_tree c = λ pairs copy. omega (arith, copy.one_to_one.one_copy 3 8 9 copy.values.0 copy.values.1.0)
