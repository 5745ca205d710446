-- All names that are reached can be listed, each once: as long as a listed name leads to one that isn't listed, that is put in front. There are
-- no more names than the values and the objects of the heap name.
use Rattle.std.proofs.Common.{◌≡◌, ℕ, zero, suc, ◌+◌, ◌≤◌, ◌⊎◌, List, [], ◌∷◌, ◌++◌, length, flat_map, Contains, nat_eq, Option, Some, None, refl, sym, subst, inl, inr, arith}
use Rattle.std.specs.List.{IsDistinct}
use Rattle.std.specs.Option.{option_map_or}
use Rattle.std.proofs.lemmas.List.Elements.{Contains-append_cases, Contains-append_left, Contains-append_right}
use Rattle.jk_model.specs.declared.values.Value.{Value}
use Rattle.jk_model.specs.declared.values.Value.TheVariants as Held
use Rattle.jk_model_classes.specs.declared.records.ClassRecord.{ClassRecord}
use Rattle.jk_model_domains.specs.Objects.{NamedObject, Object, object_named}
use Rattle.jk_model_graphs.specs.Followed.{followed}
use Rattle.jk_model_graphs.specs.Reach.{Graph, IsReach, LeadsTo, Reach, from_object, from_value}
use Rattle.jk_model_heaps.specs.Heaps.{named}
use Rattle.jk_model_heaps.proofs.NamesInHeaps.{stands}
use Rattle.list_lemmas.proofs.ItemsOfLists.{Contains-cases, Contains-flat_map, Contains-flat_map_from, Contains-here, Contains-none, Contains-there}
use Rattle.list_lemmas.proofs.TestsAndOrders.{same_or_not}
use Rattle.heap_laws.specs.ReachedNames.{IsClosed}
use Rattle.heap_laws.proofs.DistinctNumbers.{no_longer, one_more}
use Rattle.heap_laws.proofs.ReachIsClosed.{closed_is_reach}

-- ---- The names among some values.

abbrev pub names_in : List Value → List ℕ
names_in [] = []
names_in (Held.Obj a ∷ values) = a ∷ names_in values
names_in (v ∷ values) = names_in values

there_value : (v : Value) (values : List Value) (a : ℕ) → Contains (names_in values) a → Contains (names_in (v ∷ values)) a
there_value (Held.Obj b) values a h = Contains-there a b (names_in values) h
there_value v values a h = h

pub in_names : (values : List Value) (a : ℕ) → Contains values (Held.Obj a) → Contains (names_in values) a
in_names [] a h = absurd (Contains-none (Held.Obj a) h)
in_names (v ∷ values) a h = elim (Contains-cases (Held.Obj a) v values h) [
  | inl e ↦ subst (λ (w : Value). Contains (names_in (w ∷ values)) a) (sym e) (Contains-here a (names_in values))
  | inr later ↦ there_value v values a (in_names values a later)
]

pub from_names : (values : List Value) (a : ℕ) → Contains (names_in values) a → Contains values (Held.Obj a)
from_names [] a h = absurd (Contains-none a h)
from_names (Held.Obj b ∷ values) a h = elim (Contains-cases a b (names_in values) h) [
  | inl e ↦ subst (λ (n : ℕ). Contains (Held.Obj b ∷ values) (Held.Obj n)) e (Contains-here (Held.Obj b) values)
  | inr later ↦ Contains-there (Held.Obj a) (Held.Obj b) values (from_names values a later)
]
from_names (v ∷ values) a h = Contains-there (Held.Obj a) v values (from_names values a h)

-- ---- The names to which a name leads.

abbrev pub led_to : List ClassRecord → List NamedObject → ℕ → List ℕ
led_to classes heap a = option_map_or (λ (p : Object). names_in (followed classes p)) (object_named heap a) []

leads_listed : (classes : List ClassRecord) (heap : List NamedObject) (a b : ℕ) → LeadsTo classes heap a b → Contains (led_to classes heap a) b
leads_listed classes heap a b (object, is, h) =
    subst (λ (o : Option Object). Contains (option_map_or (λ (p : Object). names_in (followed classes p)) o []) b) (sym is)
    (in_names (followed classes object) b h)

listed_leads_at : (classes : List ClassRecord) (heap : List NamedObject) (a b : ℕ) (o : Option Object) → object_named heap a ≡ o
    → Contains (option_map_or (λ (p : Object). names_in (followed classes p)) o []) b → LeadsTo classes heap a b
listed_leads_at classes heap a b None is h = absurd (Contains-none b h)
listed_leads_at classes heap a b (Some p) is h = (p, is, from_names (followed classes p) b h)

listed_leads : (classes : List ClassRecord) (heap : List NamedObject) (a b : ℕ) → Contains (led_to classes heap a) b → LeadsTo classes heap a b
listed_leads classes heap a b h = listed_leads_at classes heap a b (object_named heap a) refl h

-- ---- All names of a graph.

abbrev names_of_entry : List ClassRecord → NamedObject → List ℕ
names_of_entry classes e = names_in (followed classes e.object)

abbrev all_names : List ClassRecord → Graph → List ℕ
all_names classes g = names_in g.values ++ flat_map (names_of_entry classes) g.heap

all_is_closed : (classes : List ClassRecord) (g : Graph) → IsClosed classes g (all_names classes g)
all_is_closed classes g = record {
  given = λ a h. Contains-append_left (names_in g.values) (flat_map (names_of_entry classes) g.heap) a (in_names g.values a h);
  further = λ a b h leads. Contains-append_right (names_in g.values) (flat_map (names_of_entry classes) g.heap) b
      (Contains-flat_map (names_of_entry classes) g.heap (named a leads.0) b (stands g.heap a leads.0 leads.1)
      (in_names (followed classes leads.0) b leads.2));
}

-- ---- The names that the values name, or to which those of a list lead.

abbrev next_names : List ClassRecord → Graph → List ℕ → List ℕ
next_names classes g done = names_in g.values ++ flat_map (led_to classes g.heap) done

next_is_reached : (classes : List ClassRecord) (g : Graph) (done : List ℕ) → ((a : ℕ) → Contains done a → Reach classes g a) → (b : ℕ)
    → Contains (next_names classes g done) b → Reach classes g b
next_is_reached classes g done reached b h = elim (Contains-append_cases (names_in g.values) (flat_map (led_to classes g.heap) done) b h) [
  | inl given ↦ from_value b (from_names g.values b given)
  | inr led ↦
      let from = Contains-flat_map_from (led_to classes g.heap) done b led in
      from_object from.0 b (reached from.0 from.1) (listed_leads classes g.heap from.0 b from.2)
]

none_is_next : (classes : List ClassRecord) (g : Graph) (done : List ℕ) → ((a : ℕ) → Contains (next_names classes g done) a → Contains done a)
    → IsClosed classes g done
none_is_next classes g done all = record {
  given = λ a h. all a (Contains-append_left (names_in g.values) (flat_map (led_to classes g.heap) done) a (in_names g.values a h));
  further = λ a b h leads. all b (Contains-append_right (names_in g.values) (flat_map (led_to classes g.heap) done) b
      (Contains-flat_map (led_to classes g.heap) done a b h (leads_listed classes g.heap a b leads)));
}

-- ---- Whether a number is listed, and whether all of some are.

pub is_listed : (xs : List ℕ) (x : ℕ) → Contains xs x ⊎ (Contains xs x → ⊥)
is_listed [] x = inr (Contains-none x)
is_listed (y ∷ xs) x = elim (same_or_not y x) [
  | inl e ↦ inl (subst (λ (n : ℕ). Contains (y ∷ xs) n) e (Contains-here y xs))
  | inr ne ↦ elim (is_listed xs x) [
    | inl later ↦ inl (Contains-there x y xs later)
    | inr never ↦ inr (λ h. elim (Contains-cases x y xs h) [ inl e ↦ ne e | inr later ↦ never later ])
  ]
]

pub all_or_new : (xs done : List ℕ)
    → ((a : ℕ) → Contains xs a → Contains done a) ⊎ ((a : ℕ) × Contains xs a × (Contains done a → ⊥))
all_or_new [] done = inl (λ a h. absurd (Contains-none a h))
all_or_new (x ∷ xs) done = elim (is_listed done x) [
  | inr new ↦ inr (x, Contains-here x xs, new)
  | inl there ↦ elim (all_or_new xs done) [
    | inl all ↦ inl (λ a h. elim (Contains-cases a x xs h) [
      | inl e ↦ subst (λ (n : ℕ). Contains done n) e there
      | inr later ↦ all a later
    ])
    | inr new ↦ inr (new.0, Contains-there new.0 x xs new.1, new.2)
  ]
]

-- ---- The list grows until it is closed. It is no longer than that of all names.

-- different names that are reached
record IsSoFar (classes : List ClassRecord) (g : Graph) (done : List ℕ) : Type 0 where
  distinct : IsDistinct nat_eq done
  reached : (a : ℕ) → Contains done a → Reach classes g a

with_new : (classes : List ClassRecord) (g : Graph) (done : List ℕ) (b : ℕ) → IsSoFar classes g done → Contains (next_names classes g done) b
    → (Contains done b → ⊥) → IsSoFar classes g (b ∷ done)
with_new classes g done b s next new = record {
  distinct = one_more b done new s.distinct;
  reached = λ a h. elim (Contains-cases a b done h) [
    | inl e ↦ subst (λ (n : ℕ). Reach classes g n) e (next_is_reached classes g done s.reached b next)
    | inr later ↦ s.reached a later
  ];
}

few : (classes : List ClassRecord) (g : Graph) (done : List ℕ) → IsSoFar classes g done → length done ≤ length (all_names classes g)
few classes g done s =
    no_longer done (all_names classes g) s.distinct
    (λ a h. closed_is_reach classes g (all_names classes g) (all_is_closed classes g) a (s.reached a h))

is_closed : (classes : List ClassRecord) (g : Graph) (done : List ℕ) → IsSoFar classes g done
    → ((a : ℕ) → Contains (next_names classes g done) a → Contains done a) → IsReach classes g done
is_closed classes g done s all = record {
  distinct = s.distinct;
  each = s.reached;
  all = closed_is_reach classes g done (none_is_next classes g done all);
}

grow : (left : ℕ) (classes : List ClassRecord) (g : Graph) (done : List ℕ) → IsSoFar classes g done
    → length (all_names classes g) ≤ left + length done → (names : List ℕ) × IsReach classes g names
grow zero classes g done s enough = elim (all_or_new (next_names classes g done) done) [
  | inl all ↦ (done, is_closed classes g done s all)
  | inr new ↦ absurd (omega (arith, enough, few classes g (new.0 ∷ done) (with_new classes g done new.0 s new.1 new.2)))
]
grow (suc left) classes g done s enough = elim (all_or_new (next_names classes g done) done) [
  | inl all ↦ (done, is_closed classes g done s all)
  | inr new ↦ grow left classes g (new.0 ∷ done) (with_new classes g done new.0 s new.1 new.2) (omega (arith, enough))
]

pub reach_is_there : (classes : List ClassRecord) (g : Graph) → (names : List ℕ) × IsReach classes g names
unfolding IsDistinct
reach_is_there classes g =
    grow (length (all_names classes g)) classes g [] (record { distinct = tt; reached = λ a h. absurd (Contains-none a h) }) (omega arith)
