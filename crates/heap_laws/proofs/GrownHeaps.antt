-- Heaps grow where objects are made in them, and where an object becomes another one that is alike.
use Rattle.std.proofs.Common.{inl, inr, ◌≡◌, ℕ, List, Some, sym, subst, ◌∙◌}
use Rattle.std.proofs.lemmas.Bool.Decides.{eqb_tells}
use Rattle.std.proofs.lemmas.Option.{same_Some}
use Rattle.jk_model_classes.specs.declared.records.ClassRecord.{ClassRecord}
use Rattle.jk_model_domains.specs.Objects.{NamedObject, Object, object_named}
use Rattle.jk_model_heaps.specs.Heaps.{IsAlike, IsGrown, Makes, with_object}
use Rattle.object_store.proofs.ObjectsByName.{named_beside, named_in_place}
use Rattle.heap_laws.proofs.AlikeObjects.{alike_after, alike_self}
use Rattle.heap_laws.proofs.ObjectsAfterChanges.{old_there}

pub grown_self : (heap : List NamedObject) → IsGrown heap heap
grown_self heap = record { kept = λ a o is. (o, is, alike_self o) }

pub grown_after : (first second third : List NamedObject) → IsGrown first second → IsGrown second third → IsGrown first third
grown_after first second third g h = record {
  kept = λ a o is.
      let p = g.kept a o is in
      let q = h.kept a p.0 p.1 in
      (q.0, q.1, alike_after o p.0 q.0 p.2 q.2);
}

pub making_grows : (classes : List ClassRecord) (quota : ℕ) (heap made new : List NamedObject) → Makes classes quota heap made new
    → IsGrown heap new
making_grows classes quota heap made new makes =
    record { kept = λ a o is. (o, old_there classes quota heap made new makes a o is, alike_self o) }

-- the object of a name becomes the new one, and others stay
kept_at : (heap : List NamedObject) (a : ℕ) (old new : Object) → object_named heap a ≡ Some old → IsAlike old new → (b : ℕ) (o : Object)
    → object_named heap b ≡ Some o → (p : Object) × (object_named (with_object a new heap) b ≡ Some p) × IsAlike o p
kept_at heap a old new there alike b o is = elim (eqb_tells b a) [
  | inl h ↦
      let same : b ≡ a = h.1 in
      let here : object_named heap a ≡ Some o = subst (λ (n : ℕ). object_named heap n ≡ Some o) same is in
      let one : old ≡ o = same_Some old o (sym there ∙ here) in
      let found = subst (λ (n : ℕ). object_named (with_object a new heap) n ≡ Some new) (sym same) (named_in_place a new old heap there) in
      (new, found, subst (λ (x : Object). IsAlike x new) one alike)
  | inr h ↦ (o, named_beside a b new heap h.1 ∙ is, alike_self o)
]

pub writing_grows : (heap : List NamedObject) (a : ℕ) (old new : Object) → object_named heap a ≡ Some old → IsAlike old new
    → IsGrown heap (with_object a new heap)
writing_grows heap a old new there alike = record { kept = kept_at heap a old new there alike }
