-- What a domain has inside that was just opened, where its objects stand in its heap and it knows their names.
use Rattle.std.proofs.Common.{◌≡◌, ℕ, zero, suc, ◌<◌, ◌≤◌, ◌==◌, List, [], ◌∷◌, ◌++◌, length, find, Contains, Option, Some, None, slice_get, refl, sym, ap, subst, ◌∙◌, inl, inr, arith}
use Rattle.std.specs.Option.{option_map}
use Rattle.std.proofs.lemmas.Bool.{eq-eqb, eqb-true}
use Rattle.std.proofs.lemmas.Option.{same_Some, slice_get_within}
use Rattle.list_lemmas.proofs.FoundItems.{Finds, finds}
use Rattle.list_lemmas.proofs.ItemsByPlace.{item_there}
use Rattle.list_lemmas.proofs.ItemsOfLists.{place_of}
use Rattle.jk_model.specs.declared.identifiers.ClassId.{ClassId}
use Rattle.jk_model.specs.declared.identifiers.DomainId.{DomainId}
use Rattle.jk_model.specs.declared.steps.Standing.{Standing}
use Rattle.jk_model.specs.declared.steps.Standing.TheVariants as Stands
use Rattle.jk_model_classes.specs.declared.records.ClassRecord.{ClassRecord}
use Rattle.jk_model_classes.specs.Worlds.{NamedClass}
use Rattle.jk_model_domains.specs.Objects.{NamedObject, Object, PRINT_STREAM, object_named}
use Rattle.jk_model_domains.specs.OwnStates.{IsFirstState, OwnState, standing_place}
use Rattle.jk_model_heaps.specs.Heaps.{heap_words, named}
use Rattle.jk_model_heaps.specs.Throwables.{IsStanding, fresh_throwable, standing_class}
use Rattle.jk_model_heaps.specs.Workings.{Inside}
use Rattle.jk_model_openings.specs.OpenedDomains.{IsFirstOwn, IsOpening, IsOpeningName}
use Rattle.class_init.specs.KeptStates.{KeptState}
use Rattle.object_store.specs.HeapContents.{HeapContent, IsHeapContent}
use Rattle.object_store.proofs.ObjectsByName.{NamesDiffer}
use Rattle.kernel_openings.specs.StandingObjects.{MakesStanding, objects_named, opening_classes}

-- ---- Objects by their names.

-- what stands in a heap is found by its name
found_at : (heap : List NamedObject) → NamesDiffer heap → (i a : ℕ) (o : Object) → slice_get heap i ≡ Some (named a o) → object_named heap a ≡ Some o
found_at heap differ i a o at = by (find (λ (e : NamedObject). e.name == a) heap) refl (finds (λ (e : NamedObject). e.name == a) heap)
  where
    by : (x : Option NamedObject) → find (λ (e : NamedObject). e.name == a) heap ≡ x → Finds (λ (e : NamedObject). e.name == a) heap x
        → object_named heap a ≡ Some o
    by None is none = let never = none i (named a o) at in let passes = eq-eqb a a refl in absurd cc
    by (Some x) is found =
        let place : found.0 ≡ i = differ found.0 i x (named a o) found.1 at (eqb-true x.name a found.2) in
        let same : x ≡ named a o = same_Some x (named a o) (sym found.1 ∙ ap (slice_get heap) place ∙ at) in
        ap (option_map (λ (e : NamedObject). e.object)) is ∙ ap (λ (e : NamedObject). Some e.object) same

object_at : (classes : List ClassRecord) (names : List ℕ) (cs : List ClassId) (i a : ℕ) (c : ClassId) → slice_get names i ≡ Some a
    → slice_get cs i ≡ Some c → slice_get (objects_named classes names cs) i ≡ Some (named a (fresh_throwable classes c))
object_at classes [] cs i a c in_names in_cs = absurd cc
object_at classes (n ∷ names) [] i a c in_names in_cs = absurd cc
object_at classes (n ∷ names) (x ∷ cs) zero a c in_names in_cs =
    let same : n ≡ a = cc in
    let class : x ≡ c = cc in
    λ k. Some (named (same k) (fresh_throwable classes (class k)))
object_at classes (n ∷ names) (x ∷ cs) (suc i) a c in_names in_cs = object_at classes names cs i a c in_names in_cs

-- an object's name is that of its place
name_at : (classes : List ClassRecord) (names : List ℕ) (cs : List ClassId) (i : ℕ) (e : NamedObject)
    → slice_get (objects_named classes names cs) i ≡ Some e → slice_get names i ≡ Some e.name
name_at classes [] cs i e at = absurd cc
name_at classes (n ∷ names) [] i e at = absurd cc
name_at classes (n ∷ names) (x ∷ cs) zero e at =
    ap (λ (y : NamedObject). Some y.name) (same_Some (named n (fresh_throwable classes x)) e at)
name_at classes (n ∷ names) (x ∷ cs) (suc i) e at = name_at classes names cs i e at

-- ---- Standing throwables by their places.

class_at : (s : Standing) → slice_get opening_classes (suc (standing_place s)) ≡ Some (standing_class s)
class_at Stands.OutOfMemoryError = refl
class_at Stands.StackOverflowError = refl
class_at Stands.Revoked = refl
class_at Stands.Quota = refl
class_at Stands.NotCopiable = refl
class_at Stands.Remote = refl
class_at Stands.ThreadDeath = refl
class_at Stands.Security = refl

low_place : (s : Standing) → standing_place s < 8
low_place Stands.OutOfMemoryError = omega arith
low_place Stands.StackOverflowError = omega arith
low_place Stands.Revoked = omega arith
low_place Stands.Quota = omega arith
low_place Stands.NotCopiable = omega arith
low_place Stands.Remote = omega arith
low_place Stands.ThreadDeath = omega arith
low_place Stands.Security = omega arith

-- each place is that of one
standing_at : (i : ℕ) → i < 8 → (s : Standing) × (standing_place s ≡ i)
standing_at zero low = (Stands.OutOfMemoryError, refl)
standing_at (suc zero) low = (Stands.StackOverflowError, refl)
standing_at (suc (suc zero)) low = (Stands.Revoked, refl)
standing_at (suc (suc (suc zero))) low = (Stands.Quota, refl)
standing_at (suc (suc (suc (suc zero)))) low = (Stands.NotCopiable, refl)
standing_at (suc (suc (suc (suc (suc zero))))) low = (Stands.Remote, refl)
standing_at (suc (suc (suc (suc (suc (suc zero)))))) low = (Stands.ThreadDeath, refl)
standing_at (suc (suc (suc (suc (suc (suc (suc zero))))))) low = (Stands.Security, refl)
standing_at (suc (suc (suc (suc (suc (suc (suc (suc i)))))))) low = absurd (omega (arith, low))

-- ---- The inside.

module _ (old now : HeapContent) (classes : List ClassRecord) (table : List NamedClass) (d : DomainId) (quota : ℕ) (before after : KeptState)
    (first : IsFirstState classes table before.state) (empty : old.heap d ≡ []) (unused : old.used d ≡ 0) (has : now.quota d ≡ Some quota)
    (holds : IsHeapContent now) (made : MakesStanding old now classes d before after) (eight : length made.standing ≡ 8) (inside : Inside)
    (own : inside.own ≡ after.state) (heap : inside.heap ≡ now.heap d) where
  abbrev objects : List NamedObject
  objects = objects_named classes (made.out ∷ made.standing) opening_classes

  heap_is : inside.heap ≡ objects
  heap_is = heap ∙ made.makes.becomes.becomes ∙ ap (λ (l : List NamedObject). l ++ objects) empty

  differ : NamesDiffer objects
  differ = made.makes.differ

  own_is : inside.own ≡ record before.state { out = made.out; standing = made.standing }
  own_is = own ∙ ap (λ (k : KeptState). k.state) made.known

  abbrev first_own : OwnState
  first_own = record before.state { out = made.out; standing = made.standing }

  first_is : IsFirstOwn classes table first_own
  first_is = record {
    state = record {
      each = first.state.each;
      all = first.state.all;
      classes_differ = first.state.classes_differ;
      literals_differ = first.state.literals_differ;
      standing = eight;
    };
    untouched = first.untouched;
    statics = first.statics;
    no_literals = first.no_literals;
  }

  stands_as : (s : Standing) → (a : ℕ) × IsStanding first_own s a × (object_named objects a ≡ Some (fresh_throwable classes (standing_class s)))
  stands_as s =
      let a = item_there made.standing (standing_place s) (let low = low_place s in omega (arith, low, eight)) in (
        a.0,
        a.1,
        found_at objects differ (suc (standing_place s)) a.0 (fresh_throwable classes (standing_class s))
            (object_at classes (made.out ∷ made.standing) opening_classes (suc (standing_place s)) a.0 (standing_class s) a.1 (class_at s)),
      )

  named_by : (i a : ℕ) → slice_get (made.out ∷ made.standing) i ≡ Some a → IsOpeningName first_own a
  named_by zero a at = inl (let same : made.out ≡ a = cc in sym same)
  named_by (suc i) a at =
      let low = slice_get_within made.standing i a at in
      let s = standing_at i (omega (arith, low, eight)) in
      inr (s.0, ap (slice_get made.standing) s.1 ∙ at)

  nothing_else : (e : NamedObject) → Contains objects e → IsOpeningName first_own e.name
  nothing_else e on =
      let at = place_of objects e on in
      named_by at.0 e.name (name_at classes (made.out ∷ made.standing) opening_classes at.0 e at.1)

  fits : heap_words classes objects ≤ quota
  fits =
      let within = holds.within d quota has in
      let uses = made.makes.becomes.uses in
      omega (arith, within.0, uses, unused)

  opening_here : IsOpening classes table quota (record inside { own = first_own; heap = objects })
  opening_here = record {
    own = first_is;
    makes = record { fresh = λ e on. refl; differ = differ; fits = omega (arith, fits); grown = refl };
    out = found_at objects differ 0 made.out (fresh_throwable classes PRINT_STREAM) refl;
    standing = stands_as;
    nothing_else = nothing_else;
  }

  pub opening_is : IsOpening classes table quota inside
  opening_is =
      let same : record inside { own = first_own; heap = objects } ≡ inside =
      λ i. record { own = sym own_is i; heap = sym heap_is i; heap_at = inside.heap_at; stack_at = inside.stack_at } in
      subst (IsOpening classes table quota) same opening_here
