-- All that is reached is among some names, where the values name none but these and no object of these leads to another.
use Rattle.std.proofs.Common.{◌≡◌, ℕ, ◌+◌, List, Contains, Some, sym, ◌∙◌, arith}
use Rattle.std.specs.List.{AllByRecursion}
use Rattle.std.proofs.lemmas.Option.{same_Some}
use Rattle.jk_model.specs.declared.values.Value.{Value}
use Rattle.jk_model.specs.declared.values.Value.TheVariants as Held
use Rattle.jk_model_classes.specs.declared.records.ClassRecord.{ClassRecord}
use Rattle.jk_model_domains.specs.Objects.{NamedObject, Object, object_named}
use Rattle.jk_model_graphs.specs.Copies.{IsOneToOne}
use Rattle.jk_model_graphs.specs.Followed.{followed}
use Rattle.jk_model_graphs.specs.Reach.{Graph, LeadsTo, Reach, from_object, from_value}
use Rattle.list_lemmas.proofs.ItemsOfLists.{each-of}

-- the value names none but these
abbrev pub NamesWithin : List ℕ → Value → Type 0
NamesWithin names (Held.Obj a) = Contains names a
NamesWithin names v = Unit {0}

-- the name has an object, which leads to none but these
pub record LeadsWithin (classes : List ClassRecord) (heap : List NamedObject) (names : List ℕ) (a : ℕ) : Type 0 where
  pub object : Object
  pub is_object : object_named heap a ≡ Some object
  pub within : AllByRecursion (NamesWithin names) (followed classes object)

leads_within : (classes : List ClassRecord) (heap : List NamedObject) (names : List ℕ) (a b : ℕ) → LeadsWithin classes heap names a
    → LeadsTo classes heap a b → Contains names b
leads_within classes heap names a b h leads =
    let same : leads.0 ≡ h.object = same_Some leads.0 h.object (sym leads.1 ∙ h.is_object) in
    each-of (NamesWithin names) (followed classes h.object) (Held.Obj b) h.within (rw same at leads.2)

pub reach_within : (classes : List ClassRecord) (g : Graph) (names : List ℕ) → AllByRecursion (NamesWithin names) g.values
    → AllByRecursion (LeadsWithin classes g.heap names) names → (a : ℕ) → Reach classes g a → Contains names a
reach_within classes g names values closed a (from_value b h) = each-of (NamesWithin names) g.values (Held.Obj b) values h
reach_within classes g names values closed a (from_object b d reached leads) =
    let before = reach_within classes g names values closed b reached in
    leads_within classes g.heap names b d (each-of (LeadsWithin classes g.heap names) names b closed before) leads

-- pairs whose second name is so much above the first are one to one
pub one_to_one_by : (pairs : List (ℕ × ℕ)) (n : ℕ) → AllByRecursion (λ (p : ℕ × ℕ). p.1 ≡ p.0 + n) pairs → IsOneToOne pairs
one_to_one_by pairs n all = record {
  one_copy = λ a b d h k. omega (arith, above a b h, above a d k);
  one_source = λ a b d h k. omega (arith, above a d h, above b d k);
}
  where
    above : (a b : ℕ) → Contains pairs (a, b) → b ≡ a + n
    above a b h = each-of (λ (p : ℕ × ℕ). p.1 ≡ p.0 + n) pairs (a, b) all h
