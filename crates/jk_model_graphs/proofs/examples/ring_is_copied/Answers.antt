-- The ring's two names, and the pairs of them.
use Rattle.std.proofs.Common.{◌≡◌, ℕ, List, [], ◌∷◌, Contains, None, refl, arith}
use Rattle.jk_model_domains.specs.Objects.{NamedObject, object_named}
use Rattle.jk_model_heaps.specs.Heaps.{named}
use Rattle.jk_model_graphs.specs.Copies.{ArePaired, IsCopy}
use Rattle.jk_model_graphs.specs.Examples.{classes, node, ring, ring_pairs, target, with_ring}
use Rattle.jk_model_graphs.specs.Reach.{Reach}
use Rattle.jk_model_graphs.proofs.ExamplesReach.{ring_names, all_of_ring, one_is_reached, reach_of_ring, zero_is_reached}
use Rattle.jk_model_graphs.proofs.NamesDiffer.{two_differ}
use Rattle.jk_model_graphs.proofs.ReachIsWithin.{one_to_one_by}
use Rattle.list_lemmas.proofs.ItemsOfLists.{Contains-here, Contains-there, each-of}
use Rattle.jk_model_graphs.proofs.examples.ring_is_copied.Goals as goal

abbrev copies : List NamedObject
copies = named 8 (node 9 5) ∷ named 9 (node 8 7) ∷ []

first : Contains ring_pairs (0, 8)
first = Contains-here (0, 8) ((1, 9) ∷ [])

second : Contains ring_pairs (1, 9)
second = Contains-there (1, 9) (0, 8) ((1, 9) ∷ []) (Contains-here (1, 9) [])

into : (before : List NamedObject) → object_named before 8 ≡ None → object_named before 9 ≡ None
    → IsCopy classes ring before (with_ring before) ring_pairs
into before free_8 free_9 = record {
  made = copies;
  grown = refl;
  fresh = λ e h. each-of (λ (f : NamedObject). object_named before f.name ≡ None) copies e (free_8, (free_9, tt)) h;
  differ = two_differ (named 8 (node 9 5)) (named 9 (node 8 7)) (λ e. omega (arith, e));
  one_to_one = one_to_one_by ring_pairs 8 (refl, (refl, tt));
  each_reached = λ a b h. each-of (λ (p : ℕ × ℕ). Reach classes ring p.0) ring_pairs (a, b) (zero_is_reached, (one_is_reached, tt)) h;
  all_reached = λ a reached. each-of (λ (d : ℕ). (b : ℕ) × Contains ring_pairs (d, b)) ring_names a ((8, first), ((9, second), tt)) (all_of_ring a reached);
  each_made = λ a b h. each-of (λ (p : ℕ × ℕ). ArePaired classes ring.heap copies ring_pairs p.0 p.1) ring_pairs (a, b) (
    record { object = node 1 5; is_object = refl; copy = node 9 5; is_copy = refl; same = (refl, (second, (refl, tt))) },
    (record { object = node 0 7; is_object = refl; copy = node 8 7; is_copy = refl; same = (refl, (first, (refl, tt))) }, tt),
  ) h;
  all_made = λ e h. each-of (λ (f : NamedObject). (a : ℕ) × Contains ring_pairs (a, f.name)) copies e ((0, first), ((1, second), tt)) h;
  values = (first, tt);
}

pub returns-clause-elsewhere : goal.returns-clause-elsewhere
returns-clause-elsewhere c = into target refl refl

pub returns-clause-within : goal.returns-clause-within
returns-clause-within c = into ring.heap refl refl

pub returns-clause-costs : goal.returns-clause-costs
returns-clause-costs c = (ring_names, reach_of_ring, refl)
