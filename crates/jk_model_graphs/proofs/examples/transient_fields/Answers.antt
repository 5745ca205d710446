-- The holder's one name, and the pair of it. The name in its transient field is no name that is reached.
use Rattle.std.proofs.Common.{◌≡◌, ℕ, List, [], ◌∷◌, Contains, None, refl, arith}
use Rattle.std.specs.Prelude.{pos}
use Rattle.jk_model.specs.declared.values.Value.TheVariants as Held
use Rattle.jk_model_domains.specs.Objects.{NamedObject, Object, Plain, object_named}
use Rattle.jk_model_heaps.specs.Heaps.{named}
use Rattle.jk_model_graphs.specs.Copies.{ArePaired}
use Rattle.jk_model_graphs.specs.Examples.{HOLDER, classes, holder, holder_pairs, target}
use Rattle.jk_model_graphs.specs.Reach.{Reach}
use Rattle.jk_model_graphs.proofs.ExamplesReach.{holder_names, holder_is_reached, reach_of_holder}
use Rattle.jk_model_graphs.proofs.NamesDiffer.{one_differs}
use Rattle.jk_model_graphs.proofs.ReachIsWithin.{one_to_one_by}
use Rattle.list_lemmas.proofs.ItemsOfLists.{Contains-here, each-of}
use Rattle.jk_model_graphs.proofs.examples.transient_fields.Goals as goal

abbrev emptied : Object
emptied = Plain HOLDER (Held.Int (pos 3) ∷ Held.Int (pos 0) ∷ Held.Null ∷ [])

abbrev copies : List NamedObject
copies = named 8 emptied ∷ []

pair : Contains holder_pairs (1, 8)
pair = Contains-here (1, 8) []

pub returns-clause-copied : goal.returns-clause-copied
returns-clause-copied c = record {
  made = copies;
  grown = refl;
  fresh = λ e h. each-of (λ (f : NamedObject). object_named target f.name ≡ None) copies e (refl, tt) h;
  differ = one_differs (named 8 emptied);
  one_to_one = one_to_one_by holder_pairs 7 (refl, tt);
  each_reached = λ a b h. each-of (λ (p : ℕ × ℕ). Reach classes holder p.0) holder_pairs (a, b) (holder_is_reached, tt) h;
  all_reached = λ a reached. each-of (λ (d : ℕ). (b : ℕ) × Contains holder_pairs (d, b)) holder_names a ((8, pair), tt) (reach_of_holder.all a reached);
  each_made = λ a b h. each-of (λ (p : ℕ × ℕ). ArePaired classes holder.heap copies holder_pairs p.0 p.1) holder_pairs (a, b) (
    record {
      object = Plain HOLDER (Held.Int (pos 3) ∷ Held.Int (pos 4) ∷ Held.Obj 2 ∷ []);
      is_object = refl;
      copy = emptied;
      is_copy = refl;
      same = (refl, (refl, (refl, (refl, tt))));
    },
    tt,
  ) h;
  all_made = λ e h. each-of (λ (f : NamedObject). (a : ℕ) × Contains holder_pairs (a, f.name)) copies e ((1, pair), tt) h;
  values = (pair, tt);
}

pub returns-clause-not_reached : goal.returns-clause-not_reached
returns-clause-not_reached c = λ reached.
    omega (arith, each-of (λ (a : ℕ). a ≡ 1) holder_names 2 (refl, tt) (reach_of_holder.all 2 reached))

pub returns-clause-costs : goal.returns-clause-costs
returns-clause-costs c = (holder_names, reach_of_holder, refl)
