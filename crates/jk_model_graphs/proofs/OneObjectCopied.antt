-- What one value that names an object reaches where the object leads to no other: that object. What it costs, whether it may be copied, and its
-- copy.
use Rattle.std.proofs.Common.{◌≡◌, ℕ, Bool, List, [], ◌∷◌, ◌++◌, Contains, Some, None, refl, sym, ap, subst, ◌∙◌, eq-eqb, arith}
use Rattle.std.specs.List.{AllByRecursion, IsDistinct}
use Rattle.std.specs.Option.{option_map_or}
use Rattle.std.specs.Prelude.{Option}
use Rattle.std.proofs.lemmas.Option.{same_Some}
use Rattle.jk_model.specs.declared.values.Value.TheVariants as Held
use Rattle.jk_model_classes.specs.declared.records.ClassRecord.{ClassRecord}
use Rattle.jk_model_classes.specs.Worlds.{NamedClass}
use Rattle.jk_model_domains.specs.Objects.{NamedObject, Object, object_named, object_words}
use Rattle.jk_model_heaps.specs.Heaps.{named}
use Rattle.jk_model_heaps.proofs.NamesInHeaps.{by_first}
use Rattle.jk_model_graphs.specs.Copiable.{AllCopiable, IsCopiable}
use Rattle.jk_model_graphs.specs.Copies.{ArePaired, IsCopied, IsCopy}
use Rattle.jk_model_graphs.specs.Followed.{followed}
use Rattle.jk_model_graphs.specs.Reach.{Graph, IsReach, Reach, ReachCosts, from_value, words_named}
use Rattle.jk_model_graphs.proofs.NamesDiffer.{one_differs}
use Rattle.jk_model_graphs.proofs.ReachIsWithin.{NamesWithin, reach_within}
use Rattle.list_lemmas.proofs.ItemsOfLists.{Contains-here, each-of}

abbrev pub pair : ℕ → ℕ → List (ℕ × ℕ)
pair a c = (a, c) ∷ []

module _ (classes : List ClassRecord) (heap : List NamedObject) (a : ℕ) (o : Object) (is : object_named heap a ≡ Some o)
    (within : AllByRecursion (NamesWithin (a ∷ [])) (followed classes o)) where
  abbrev graph : Graph
  graph = record { heap = heap; values = Held.Obj a ∷ [] }

  reached : Reach classes graph a
  reached = from_value a (Contains-here (Held.Obj a) [])

  pub one_is_reached : IsReach classes graph (a ∷ [])
  unfolding IsDistinct
  one_is_reached = record {
    distinct = (tt, tt);
    each = λ b h. each-of (λ (d : ℕ). Reach classes graph d) (a ∷ []) b (reached, tt) h;
    all = λ b h. reach_within classes graph (a ∷ []) (Contains-here a [], tt) (record { object = o; is_object = is; within = within }, tt) b h;
  }

  pub one_costs : ReachCosts classes graph (object_words classes o)
  one_costs =
      let words : words_named classes heap a ≡ object_words classes o = ap (λ (x : Option Object). option_map_or (object_words classes) x 0) is in
      (a ∷ [], one_is_reached, omega (arith, words))

  pub one_may_be_copied : (from to : List NamedClass) → IsCopiable classes from to o → AllCopiable classes from to graph
  one_may_be_copied from to may b object h also = subst (λ (x : Object). IsCopiable classes from to x) (same_Some o object (sym here ∙ also)) may
    where
      here : object_named heap b ≡ Some o
      here = each-of (λ (d : ℕ). object_named heap d ≡ Some o) (a ∷ []) b (is, tt) (one_is_reached.all b h)

  pub one_copy : (before : List NamedObject) (c : ℕ) → object_named before c ≡ None → IsCopied classes (pair a c) o o
      → IsCopy classes graph before (record { heap = before ++ named c o ∷ []; values = Held.Obj c ∷ [] }) (pair a c)
  one_copy before c free same = record {
    made = named c o ∷ [];
    grown = refl;
    fresh = λ e h. each-of (λ (f : NamedObject). object_named before f.name ≡ None) (named c o ∷ []) e (free, tt) h;
    differ = one_differs (named c o);
    one_to_one = record { one_copy = λ b d f h k. second b d h ∙ sym (second b f k); one_source = λ b d f h k. first b f h ∙ sym (first d f k) };
    each_reached = λ b d h. subst (λ (x : ℕ). Reach classes graph x) (sym (first b d h)) reached;
    all_reached = λ b h. (c, subst (λ (x : ℕ). Contains (pair a c) (x, c)) (sym (only b h)) (Contains-here (a, c) []));
    each_made = λ b d h. each-of (λ (p : ℕ × ℕ). ArePaired classes heap (named c o ∷ []) (pair a c) p.0 p.1) (pair a c) (b, d)
        (record { object = o; is_object = is; copy = o; is_copy = found; same = same }, tt) h;
    all_made = λ e h. each-of (λ (f : NamedObject). (b : ℕ) × Contains (pair a c) (b, f.name)) (named c o ∷ []) e ((a, Contains-here (a, c) []), tt) h;
    values = (Contains-here (a, c) [], tt);
  }
    where
      first : (b d : ℕ) → Contains (pair a c) (b, d) → b ≡ a
      first b d h = each-of (λ (p : ℕ × ℕ). p.0 ≡ a) (pair a c) (b, d) (refl, tt) h

      second : (b d : ℕ) → Contains (pair a c) (b, d) → d ≡ c
      second b d h = each-of (λ (p : ℕ × ℕ). p.1 ≡ c) (pair a c) (b, d) (refl, tt) h

      only : (b : ℕ) → Reach classes graph b → b ≡ a
      only b h = each-of (λ (d : ℕ). d ≡ a) (a ∷ []) b (refl, tt) (one_is_reached.all b h)

      found : object_named (named c o ∷ []) c ≡ Some o
      found = ap (λ (t : Bool). by_first t (named c o) [] c) (eq-eqb c c refl)
