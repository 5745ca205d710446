-- A walk begins with the objects that the values name, and goes on by one object that is reached; once none is left, the objects that are done
-- are all that is reached.
use Rattle.std.proofs.Common.{◌≡◌, ℕ, ◌+◌, ◌≤◌, List, [], ◌∷◌, Contains, Option, Some, None, refl, sym, ap, ◌∙◌, subst, inl, inr, arith}
use Rattle.std.specs.List.{IsDistinct}
use Rattle.std.specs.Option.{option_map_or}
use Rattle.std.proofs.lemmas.List.Sums.{sum_by-cons}
use Rattle.std.proofs.lemmas.Option.{same_Some}
use Rattle.jk_model.specs.declared.identifiers.DomainId.{DomainId}
use Rattle.jk_model.specs.declared.values.Value.TheVariants as Held
use Rattle.jk_model_classes.specs.declared.records.ClassRecord.{ClassRecord}
use Rattle.jk_model_domains.specs.Objects.{NamedObject, Object, object_named, object_words}
use Rattle.jk_model_graphs.specs.Copiable.{IsCopiable}
use Rattle.jk_model_graphs.specs.Followed.{followed}
use Rattle.jk_model_graphs.specs.Reach.{IsReach, LeadsTo, Reach, ReachCosts, from_object, from_value, words_named}
use Rattle.jk_model_heaps.specs.Heaps.{heap_words}
use Rattle.object_store.specs.HeapContents.{HeapContent, IsLive}
use Rattle.heap_laws.proofs.CostsWithinHeaps.{names_cost_at_most}
use Rattle.heap_laws.proofs.ReachIsClosed.{closed_is_reach}
use Rattle.list_lemmas.proofs.ItemsOfLists.{Contains-cases, Contains-here, Contains-none, Contains-there}
use Rattle.graph_copy.specs.CopyAnswers.{graph_in}
use Rattle.graph_copy.specs.FoundSoFar.{FoundSoFar, IsMet, Walk}
use Rattle.graph_copy.specs.MetObjects.{AreMet, Meets}
use Rattle.graph_copy.specs.Queues.{head_of}
use Rattle.graph_copy.specs.Visited.{Visits}
use Rattle.graph_copy.proofs.ObjectsMet.{both_change}
use Rattle.graph_copy.proofs.QueuesForgotten.{has_head}

-- ---- The objects that the values name.

pub nothing_met : (c : HeapContent) (d : DomainId) → ((a : ℕ) → c.mark d a ≡ 0) → AreMet c d [] []
unfolding IsDistinct
nothing_met c d calm = record {
  todo_queue = record { linked = tt; distinct = tt; named = λ a there. absurd (Contains-none a there) };
  done_queue = record { linked = tt; distinct = tt; named = λ a there. absurd (Contains-none a there) };
  apart = λ a there. absurd (Contains-none a there);
  others = λ a first second. calm a;
}

pub given_found : (c now : HeapContent) (x : Walk) (todo : Option ℕ) → ((a : ℕ) → c.mark x.from a ≡ 0) → Meets c now x.from x.values None todo
    → FoundSoFar c now x todo None 0
given_found c now x todo calm meets =
    let g = meets.grows [] [] (nothing_met c x.from calm) refl in
    record {
      first = g.grown;
      second = [];
      marks = meets.marks;
      met = g.met;
      is_first = g.is_head;
      is_second = refl;
      reached = λ a there. elim there [
        | inl first ↦ elim (g.only a first) [ inl was ↦ absurd (Contains-none a was) | inr named ↦ from_value a named ]
        | inr second ↦ absurd (Contains-none a second)
      ];
      given = λ a named. g.all a named;
      further = λ a b there. absurd (Contains-none a there);
      is_sum = refl;
      copiable = λ a object there. absurd (Contains-none a there);
    }

-- ---- One object more.

pub words_of_live : (classes : List ClassRecord) (heap : List NamedObject) (a : ℕ) (object : Object) → object_named heap a ≡ Some object
    → words_named classes heap a ≡ object_words classes object
words_of_live classes heap a object live = ap (λ (o : Option Object). option_map_or (object_words classes) o 0) live

first_is_reached : (c now : HeapContent) (x : Walk) (a : ℕ) (ended : Option ℕ) (sum : ℕ) (s : FoundSoFar c now x (Some a) ended sum)
    → Reach x.classes (graph_in c x.from x.values) a
first_is_reached c now x a ended sum s =
    let h = has_head a s.first s.is_first in
    s.reached a (inl (subst (λ (xs : List ℕ). Contains xs a) (sym h.is) (Contains-here a h.rest)))

pub one_found : (c now new : HeapContent) (x : Walk) (a : ℕ) (object : Object) (ended result : Option ℕ) (sum : ℕ)
    → FoundSoFar c now x (Some a) ended sum → IsLive c x.from a object → IsCopiable x.classes x.from_table x.to_table object
    → Visits now new x.from a (followed x.classes object) ended result
    → FoundSoFar c new x result (Some a) (sum + object_words x.classes object)
one_found c now new x a object ended result sum s live copiable visits =
    let v = visits.visited s.first s.second s.met s.is_first s.is_second in
    let here = first_is_reached c now x a ended sum s in
    let still : (b : ℕ) → IsMet s.first s.second b → IsMet v.grown (a ∷ s.second) b =
    λ b there. elim there [ inl first ↦ v.kept b first | inr second ↦ inr (Contains-there b a s.second second) ] in
    record {
      first = v.grown;
      second = a ∷ s.second;
      marks = both_change c now new x.from s.marks visits.marks;
      met = v.met;
      is_first = v.is_head;
      is_second = refl;
      reached = λ b there. elim there [
        | inl first ↦ elim (v.only b first) [
          | inl was ↦ s.reached b (inl was)
          | inr named ↦ from_object a b here (object, live, named)
        ]
        | inr second ↦ elim (Contains-cases b a s.second second) [
          | inl same ↦ subst (λ (n : ℕ). Reach x.classes (graph_in c x.from x.values) n) same here
          | inr later ↦ s.reached b (inr later)
        ]
      ];
      given = λ b named. still b (s.given b named);
      further = λ b e there leads. elim (Contains-cases b a s.second there) [
        | inl same ↦
            let from : LeadsTo x.classes (c.heap x.from) a e = subst (λ (n : ℕ). LeadsTo x.classes (c.heap x.from) n e) (sym same) leads in
            let one : from.0 ≡ object = same_Some from.0 object (sym from.1 ∙ live) in
            v.all e (subst (λ (o : Object). Contains (followed x.classes o) (Held.Obj e)) one from.2)
        | inr later ↦ still e (s.further b e later leads)
      ];
      is_sum =
          omega (arith, s.is_sum, sum_by-cons (words_named x.classes (c.heap x.from)) a s.second, words_of_live x.classes (c.heap x.from) a object live);
      copiable = λ b other there is. elim (Contains-cases b a s.second there) [
        | inl same ↦
            let one : object ≡ other = same_Some object other (sym live ∙ ap (object_named (c.heap x.from)) same ∙ is) in
            subst (λ (o : Object). IsCopiable x.classes x.from_table x.to_table o) one copiable
        | inr later ↦ s.copiable b other later is
      ];
    }

-- ---- The words so far are within the heap.

pub sum_within : (c now : HeapContent) (x : Walk) (todo ended : Option ℕ) (sum : ℕ) → FoundSoFar c now x todo ended sum
    → sum ≤ heap_words x.classes (c.heap x.from)
sum_within c now x todo ended sum s =
    omega (arith, s.is_sum, names_cost_at_most x.classes (c.heap x.from) s.second s.met.done_queue.distinct)

-- ---- Nothing is left.

pub none_left : (rest : List ℕ) → None ≡ head_of rest → (a : ℕ) → Contains rest a → ⊥
none_left [] is a there = Contains-none a there
none_left (b ∷ rest) is a there = absurd cc

pub done_is_all : (c now : HeapContent) (x : Walk) (ended : Option ℕ) (sum : ℕ) (s : FoundSoFar c now x None ended sum) (a : ℕ)
    → IsMet s.first s.second a → Contains s.second a
done_is_all c now x ended sum s a there =
    elim there [ inl first ↦ absurd (none_left s.first s.is_first a first) | inr second ↦ second ]

pub reach_found : (c now : HeapContent) (x : Walk) (ended : Option ℕ) (sum : ℕ) (s : FoundSoFar c now x None ended sum)
    → IsReach x.classes (graph_in c x.from x.values) s.second
reach_found c now x ended sum s = record {
  distinct = s.met.done_queue.distinct;
  each = λ a there. s.reached a (inr there);
  all = closed_is_reach x.classes (graph_in c x.from x.values) s.second (record {
    given = λ a named. done_is_all c now x ended sum s a (s.given a named);
    further = λ a b there leads. done_is_all c now x ended sum s b (s.further a b there leads);
  });
}

pub cost_found : (c now : HeapContent) (x : Walk) (ended : Option ℕ) (sum : ℕ) → FoundSoFar c now x None ended sum
    → ReachCosts x.classes (graph_in c x.from x.values) sum
cost_found c now x ended sum s = (s.second, reach_found c now x ended sum s, s.is_sum)
