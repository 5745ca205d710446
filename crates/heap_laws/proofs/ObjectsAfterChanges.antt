-- What a heap has under its names after objects were made in it, or after one became another.
use Rattle.std.proofs.Common.{inl, inr, ◌≡◌, ◌⊎◌, ℕ, zero, suc, ◌+◌, ◌==◌, Bool, true, false, cond, List, [], ◌∷◌, ◌++◌, length, Option, Some, None, Contains, slice_get, refl, sym, ap, subst, ◌∙◌, arith}
use Rattle.std.proofs.lemmas.Bool.{eq-eqb, eqb-true}
use Rattle.std.proofs.lemmas.List.Sums.{sum_by-append, sum_by-cons}
use Rattle.std.proofs.lemmas.Option.{none-some, same_Some}
use Rattle.list_lemmas.proofs.ItemsByPlace.{comes_from}
use Rattle.list_lemmas.proofs.ItemsOfLists.{Contains-at, stands_at}
use Rattle.jk_model_classes.specs.declared.records.ClassRecord.{ClassRecord}
use Rattle.jk_model_domains.specs.Objects.{NamedObject, Object, object_named, object_words}
use Rattle.jk_model_heaps.specs.Heaps.{IsAlike, Makes, heap_words, named, with_object}
use Rattle.jk_model_heaps.proofs.NamesInHeaps.{behind, by_first, in_front, stands}
use Rattle.object_store.proofs.ObjectsByName.{absent_as_is, first_is_alone, rest_differs}
use Rattle.heap_laws.specs.NamedObjects.{NamesDiffer}
use Rattle.heap_laws.proofs.AlikeObjects.{alike_words}

-- ---- One object became another.

-- an entry with another object, or as it is, keeps its name
pub name_kept : (a : ℕ) (p : Object) (e : NamedObject) (t : Bool) → (e.name == a) ≡ t → (cond t (named a p) e).name ≡ e.name
name_kept a p e true t = sym (eqb-true e.name a t)
name_kept a p e false t = refl

pub written_names_differ : (a : ℕ) (p : Object) (heap : List NamedObject) → NamesDiffer heap → NamesDiffer (with_object a p heap)
written_names_differ a p heap differ = λ i j x y first second same.
    let change : NamedObject → NamedObject = λ (e : NamedObject). cond (e.name == a) (named a p) e in
    let u = comes_from change heap i x first in
    let v = comes_from change heap j y second in
    let left : u.from.name ≡ x.name = sym (name_kept a p u.from (u.from.name == a) refl) ∙ ap (λ (e : NamedObject). e.name) u.gives in
    let right : v.from.name ≡ y.name = sym (name_kept a p v.from (v.from.name == a) refl) ∙ ap (λ (e : NamedObject). e.name) v.gives in
    differ i j u.from v.from u.there v.there (left ∙ same ∙ sym right)

-- ---- What is found under a name stands in the heap.

pub found_stands : (a : ℕ) (o : Object) (heap : List NamedObject) → object_named heap a ≡ Some o → Contains heap (named a o)
found_stands a o heap is = stands heap a o is

-- ---- What stands in a heap in which no name is there twice is found under its name.

later_by : (x e : NamedObject) (es : List NamedObject) (k : ℕ) → NamesDiffer (x ∷ es) → slice_get es k ≡ Some e → (t : Bool)
    → (x.name == e.name) ≡ t → object_named es e.name ≡ Some e.object → by_first t x es e.name ≡ Some e.object
later_by x e es k differ at true t rest =
    let never = differ 0 (suc k) x e refl at (eqb-true x.name e.name t) in absurd (omega arith)
later_by x e es k differ at false t rest = rest

pub stands_found : (heap : List NamedObject) (k : ℕ) (e : NamedObject) → NamesDiffer heap → slice_get heap k ≡ Some e
    → object_named heap e.name ≡ Some e.object
stands_found [] k e differ at = absurd cc
stands_found (x ∷ es) zero e differ at =
    let entry : x ≡ e = same_Some x e at in
    ap (λ (y : NamedObject). object_named (y ∷ es) e.name) entry
    ∙ ap (λ (b : Bool). by_first b e es e.name) (eq-eqb e.name e.name refl)
stands_found (x ∷ es) (suc k) e differ at =
    later_by x e es k differ at (x.name == e.name) refl (stands_found es k e (rest_differs x es differ) at)

-- ---- Objects were made.

module _ (classes : List ClassRecord) (quota : ℕ) (heap made new : List NamedObject) (makes : Makes classes quota heap made new) where
  in_new : (a : ℕ) (found : Option Object) → object_named (heap ++ made) a ≡ found → object_named new a ≡ found
  in_new a found is = subst (λ (h : List NamedObject). object_named h a ≡ found) (sym makes.grown) is

  pub old_there : (a : ℕ) (o : Object) → object_named heap a ≡ Some o → object_named new a ≡ Some o
  old_there a o is = in_new a (Some o) (in_front heap made a o is)

  pub made_there : (e : NamedObject) → Contains made e → object_named new e.name ≡ Some e.object
  made_there e has =
      let place = stands_at made e has in
      in_new e.name (Some e.object)
      (behind heap made e.name (makes.fresh e has) ∙ stands_found made place.0 e makes.differ place.2)

  old_or_made : (a : ℕ) (o : Object) (found : Option Object) → object_named heap a ≡ found → object_named new a ≡ Some o
      → (object_named heap a ≡ Some o) ⊎ Contains made (named a o)
  old_or_made a o None lacks is =
      let in_both : object_named (heap ++ made) a ≡ Some o = subst (λ (h : List NamedObject). object_named h a ≡ Some o) makes.grown is in
      inr (found_stands a o made (sym (behind heap made a lacks) ∙ in_both))
  old_or_made a o (Some p) has is = inl (has ∙ sym (old_there a p has) ∙ is)

  pub nothing_else : (a : ℕ) (o : Object) → object_named new a ≡ Some o → (object_named heap a ≡ Some o) ⊎ Contains made (named a o)
  nothing_else a o is = old_or_made a o (object_named heap a) refl is

-- ---- Names of both parts of a heap differ.

-- a place in a heap of two parts
abbrev InPart : List NamedObject → List NamedObject → ℕ → NamedObject → Type 0
InPart heap made i e =
    (slice_get heap i ≡ Some e) ⊎ ((k : ℕ) × (i ≡ length heap + k) × (slice_get made k ≡ Some e))

part_of : (heap made : List NamedObject) (i : ℕ) (e : NamedObject) → slice_get (heap ++ made) i ≡ Some e → InPart heap made i e
part_of [] made i e at = inr (i, omega arith, at)
part_of (x ∷ heap) made zero e at = inl at
part_of (x ∷ heap) made (suc i) e at = elim (part_of heap made i e at) [
  | inl here ↦ inl here
  | inr later ↦ inr (later.0, omega (arith, later.1), later.2)
]

module _ (classes : List ClassRecord) (quota : ℕ) (heap made new : List NamedObject) (differ : NamesDiffer heap)
    (makes : Makes classes quota heap made new) where
  apart : (i k : ℕ) (a b : NamedObject) → slice_get heap i ≡ Some a → slice_get made k ≡ Some b → a.name ≡ b.name → ⊥
  apart i k a b first second same =
      let there : object_named heap a.name ≡ Some a.object = stands_found heap i a differ first in
      let lacks : object_named heap b.name ≡ None = makes.fresh b (Contains-at made k b second) in
      let lacks_first : object_named heap a.name ≡ None = subst (λ (n : ℕ). object_named heap n ≡ None) (sym same) lacks in
      absurd (none-some a.object (sym lacks_first ∙ there))

  parts_differ : (i j : ℕ) (a b : NamedObject) → InPart heap made i a → InPart heap made j b → a.name ≡ b.name → i ≡ j
  parts_differ i j a b (inl first) (inl second) same = differ i j a b first second same
  parts_differ i j a b (inl first) (inr second) same = absurd (apart i second.0 a b first second.2 same)
  parts_differ i j a b (inr first) (inl second) same = absurd (apart j first.0 b a second first.2 (sym same))
  parts_differ i j a b (inr first) (inr second) same =
      let one : first.0 ≡ second.0 = makes.differ first.0 second.0 a b first.2 second.2 same in
      omega (arith, first.1, second.1, one)

  pub made_names_differ : NamesDiffer new
  made_names_differ = subst NamesDiffer (sym makes.grown)
      (λ i j a b first second same. parts_differ i j a b (part_of heap made i a first) (part_of heap made j b second) same)

-- ---- Costs.

pub costs_together : (classes : List ClassRecord) (heap made : List NamedObject)
    → heap_words classes (heap ++ made) ≡ heap_words classes heap + heap_words classes made
costs_together classes heap made = sum_by-append (λ (e : NamedObject). object_words classes e.object) heap made

words_first : (classes : List ClassRecord) (e : NamedObject) (es : List NamedObject)
    → heap_words classes (e ∷ es) ≡ object_words classes e.object + heap_words classes es
words_first classes e es = sum_by-cons (λ (x : NamedObject). object_words classes x.object) e es

written_words_by : (classes : List ClassRecord) (a : ℕ) (p o : Object) (e : NamedObject) (es : List NamedObject) → NamesDiffer (e ∷ es)
    → IsAlike o p → (t : Bool) → (e.name == a) ≡ t → by_first t e es a ≡ Some o
    → (object_named es a ≡ Some o → heap_words classes (with_object a p es) ≡ heap_words classes es)
    → heap_words classes (cond t (named a p) e ∷ with_object a p es) ≡ heap_words classes (e ∷ es)
written_words_by classes a p o e es differ alike true t is later =
    let rest : with_object a p es ≡ es = absent_as_is a p es (first_is_alone a e es differ (eqb-true e.name a t)) in
    let words : object_words classes p ≡ object_words classes e.object =
    alike_words classes o p alike ∙ ap (object_words classes) (sym (same_Some e.object o is)) in
    words_first classes (named a p) (with_object a p es)
    ∙ ap (λ (more : List NamedObject). object_words classes p + heap_words classes more) rest
    ∙ ap (λ (n : ℕ). n + heap_words classes es) words
    ∙ sym (words_first classes e es)
written_words_by classes a p o e es differ alike false t is later =
    words_first classes e (with_object a p es)
    ∙ ap (λ (n : ℕ). object_words classes e.object + n) (later is)
    ∙ sym (words_first classes e es)

pub written_words : (classes : List ClassRecord) (a : ℕ) (p o : Object) (heap : List NamedObject) → NamesDiffer heap → IsAlike o p
    → object_named heap a ≡ Some o → heap_words classes (with_object a p heap) ≡ heap_words classes heap
written_words classes a p o [] differ alike is = refl
written_words classes a p o (e ∷ es) differ alike is =
    written_words_by classes a p o e es differ alike (e.name == a) refl is
    (written_words classes a p o es (rest_differs e es differ) alike)
