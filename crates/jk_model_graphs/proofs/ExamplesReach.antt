-- What the values of the examples reach.
use Rattle.std.proofs.Common.{ℕ, List, [], ◌∷◌, Contains, refl}
use Rattle.std.specs.List.{IsDistinct}
use Rattle.jk_model_domains.specs.Objects.{Text, Plain}
use Rattle.jk_model.specs.declared.values.Value.TheVariants as Held
use Rattle.std.specs.Prelude.{pos, codes}
use Rattle.jk_model_graphs.specs.Examples.{HOLDER, SUB, array, capability, classes, given_twice, holder, node, of_sub, ring, self_holder}
use Rattle.jk_model_graphs.specs.Reach.{IsReach, Reach, from_object, from_value}
use Rattle.jk_model_graphs.proofs.ReachIsWithin.{reach_within}
use Rattle.list_lemmas.proofs.ItemsOfLists.{Contains-here, Contains-there, each-of}

-- ---- The ring.

abbrev pub ring_names : List ℕ
ring_names = 0 ∷ 1 ∷ []

pub zero_is_reached : Reach classes ring 0
zero_is_reached = from_value 0 (Contains-here (Held.Obj 0) [])

pub one_is_reached : Reach classes ring 1
one_is_reached = from_object 0 1 zero_is_reached (node 1 5, refl, Contains-here (Held.Obj 1) (Held.Int (pos 5) ∷ []))

pub all_of_ring : (a : ℕ) → Reach classes ring a → Contains ring_names a
all_of_ring a reached =
    reach_within classes ring ring_names (first, tt) (
      record { object = node 1 5; is_object = refl; within = (second, (tt, tt)) },
      (record { object = node 0 7; is_object = refl; within = (first, (tt, tt)) }, tt),
    )
    a reached
  where
    first : Contains ring_names 0
    first = Contains-here 0 (1 ∷ [])

    second : Contains ring_names 1
    second = Contains-there 1 0 (1 ∷ []) (Contains-here 1 [])

pub reach_of_ring : IsReach classes ring ring_names
unfolding IsDistinct
reach_of_ring = record {
  distinct = ((refl, tt), (tt, tt));
  each = λ a h. each-of (λ (b : ℕ). Reach classes ring b) ring_names a (zero_is_reached, (one_is_reached, tt)) h;
  all = all_of_ring;
}

-- ---- The text.

abbrev pub text_names : List ℕ
text_names = 3 ∷ []

pub text_is_reached : Reach classes given_twice 3
text_is_reached = from_value 3 (Contains-here (Held.Obj 3) (Held.Obj 3 ∷ []))

pub reach_of_text : IsReach classes given_twice text_names
unfolding IsDistinct
reach_of_text = record {
  distinct = (tt, tt);
  each = λ a h. each-of (λ (b : ℕ). Reach classes given_twice b) text_names a (text_is_reached, tt) h;
  all = λ a reached. reach_within classes given_twice text_names (it, (it, tt))
      (record { object = Text (codes "x"); is_object = refl; within = tt }, tt) a reached;
}
  where
    it : Contains text_names 3
    it = Contains-here 3 []

-- ---- The object with transient fields.

abbrev pub holder_names : List ℕ
holder_names = 1 ∷ []

pub holder_is_reached : Reach classes holder 1
holder_is_reached = from_value 1 (Contains-here (Held.Obj 1) [])

pub reach_of_holder : IsReach classes holder holder_names
unfolding IsDistinct
reach_of_holder = record {
  distinct = (tt, tt);
  each = λ a h. each-of (λ (b : ℕ). Reach classes holder b) holder_names a (holder_is_reached, tt) h;
  all = λ a reached. reach_within classes holder holder_names (it, tt)
      (record { object = Plain HOLDER (Held.Int (pos 3) ∷ Held.Int (pos 4) ∷ Held.Obj 2 ∷ []); is_object = refl; within = (tt, tt) }, tt)
      a reached;
}
  where
    it : Contains holder_names 1
    it = Contains-here 1 []

-- ---- The object with fields of its parent.

abbrev pub sub_names : List ℕ
sub_names = 1 ∷ 2 ∷ []

pub sub_is_reached : Reach classes of_sub 1
sub_is_reached = from_value 1 (Contains-here (Held.Obj 1) [])

pub node_is_reached : Reach classes of_sub 2
node_is_reached = from_object 1 2 sub_is_reached (
  Plain SUB (Held.Int (pos 1) ∷ Held.Long (pos 2) ∷ Held.Obj 2 ∷ Held.Obj 3 ∷ Held.Long (pos 4) ∷ Held.Long (pos 5) ∷ []),
  refl,
  Contains-there (Held.Obj 2) (Held.Int (pos 1)) (Held.Obj 2 ∷ Held.Long (pos 4) ∷ []) (Contains-here (Held.Obj 2) (Held.Long (pos 4) ∷ [])),
)

pub reach_of_sub : IsReach classes of_sub sub_names
unfolding IsDistinct
reach_of_sub = record {
  distinct = ((refl, tt), (tt, tt));
  each = λ a h. each-of (λ (b : ℕ). Reach classes of_sub b) sub_names a (sub_is_reached, (node_is_reached, tt)) h;
  all = λ a reached. reach_within classes of_sub sub_names (first, tt) (
    record {
      object = Plain SUB (Held.Int (pos 1) ∷ Held.Long (pos 2) ∷ Held.Obj 2 ∷ Held.Obj 3 ∷ Held.Long (pos 4) ∷ Held.Long (pos 5) ∷ []);
      is_object = refl;
      within = (tt, (second, (tt, tt)));
    },
    (record { object = node 2 5; is_object = refl; within = (second, (tt, tt)) }, tt),
  ) a reached;
}
  where
    first : Contains sub_names 1
    first = Contains-here 1 (2 ∷ [])

    second : Contains sub_names 2
    second = Contains-there 2 1 (2 ∷ []) (Contains-here 2 [])

-- ---- The array.

abbrev pub array_names : List ℕ
array_names = 4 ∷ []

pub array_is_reached : Reach classes self_holder 4
array_is_reached = from_value 4 (Contains-here (Held.Obj 4) (capability ∷ Held.Null ∷ []))

pub reach_of_array : IsReach classes self_holder array_names
unfolding IsDistinct
reach_of_array = record {
  distinct = (tt, tt);
  each = λ a h. each-of (λ (b : ℕ). Reach classes self_holder b) array_names a (array_is_reached, tt) h;
  all = λ a reached. reach_within classes self_holder array_names (it, (tt, (tt, tt)))
      (record { object = array (Held.Obj 4 ∷ capability ∷ []); is_object = refl; within = (it, (tt, tt)) }, tt) a reached;
}
  where
    it : Contains array_names 4
    it = Contains-here 4 []
