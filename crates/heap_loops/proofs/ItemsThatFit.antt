-- Items of an array are tested from a place on: those so far fit, and the next one is known.
use Rattle.std.proofs.Common.{inl, inr, ◌≡◌, ◌⊎◌, ◌↔◌, ℕ, ◌+◌, ◌<◌, ◌≤◌, Bool, false, IsTrue, List, length, take, drop, get_or, Option, Some, None, MatchOption, IsSome, slice_get, refl, sym, ap, ◌∙◌, subst, arith}
use Rattle.std.proofs.lemmas.List.{get_or-drop, length-drop, length-take-le}
use Rattle.std.proofs.lemmas.Option.{get_or_from_slice_get, same_Some, slice_get-get_or, slice_get_within}
use Rattle.list_lemmas.proofs.AnswersTold.{not_so}
use Rattle.list_lemmas.proofs.ItemsByPlace.{slice_get-from_take}
use Rattle.list_lemmas.proofs.ItemsRead.{all_read}
use Rattle.list_lemmas.proofs.TestsAndOrders.{less_or_same}
use Rattle.jk_model.specs.declared.identifiers.DomainId.{DomainId}
use Rattle.jk_model.specs.declared.values.Value.{Value}
use Rattle.jk_model.specs.declared.values.Value.TheVariants as Held
use Rattle.jk_model_classes.specs.declared.records.BaseRef.{BaseRef}
use Rattle.jk_model_classes.specs.declared.records.ClassRecord.{ClassRecord}
use Rattle.jk_model_classes.specs.declared.records.TypeRef.{TypeRef}
use Rattle.jk_model_domains.specs.Objects.{Array, NamedObject, Object}
use Rattle.jk_model_domains.specs.OwnStates.{zero_of}
use Rattle.jk_model_heaps.specs.Capabilities.{KnownCapabilities}
use Rattle.jk_model_heaps.specs.Instances.{IsInstance}
use Rattle.jk_model_heaps.specs.Workings.{Setting}
use Rattle.jk_model_sealing.specs.SealedInsides.{IsKnownValue}
use Rattle.jk_model_system_rows.specs.ArrayCopies.{IsFittingFront, IsFront, number_kind}
use Rattle.object_store.specs.HeapContents.{AreOfKind, HasItem, HeapContent, IsHeapContent, IsLive, IsReference, IsSmall, item_of}
use Rattle.heap_loops.specs.ItemChanges.{HasItems}
use Rattle.heap_loops.specs.KnownItems.{HasKnownItems}
use Rattle.heap_loops.proofs.KindsOfElements.{of_references}

-- what may be stored in an array of such elements
abbrev Fits : List ClassRecord → KnownCapabilities → HeapContent → DomainId → Value → TypeRef → Type 0
Fits classes caps c d v kind = (v ≡ Held.Null) ⊎ IsInstance classes caps (c.heap d) v kind

-- so many items of the array, from a place on, fit
abbrev pub FitsSoFar : List ClassRecord → KnownCapabilities → HeapContent → DomainId → ℕ → ℕ → TypeRef → ℕ → Type 0
FitsSoFar classes caps c d source from kind i =
    (u : TypeRef) (items : List Value) → IsLive c d source (Array u items) → (k : ℕ) (v : Value) → k < i → slice_get items (from + k) ≡ Some v
    → Fits classes caps c d v kind

pub none_tested : (classes : List ClassRecord) (caps : KnownCapabilities) (c : HeapContent) (d : DomainId) (source from : ℕ) (kind : TypeRef)
    → FitsSoFar classes caps c d source from kind 0
none_tested classes caps c d source from kind = λ u items live k v before at. absurd (omega (arith, before))

same_items : (c : HeapContent) (d : DomainId) (a : ℕ) (t u : TypeRef) (items others : List Value) → IsLive c d a (Array t items)
    → IsLive c d a (Array u others) → items ≡ others
same_items c d a t u items others first second = let same : Some (Array t items) ≡ Some (Array u others) = sym first ∙ second in cc

module _ (classes : List ClassRecord) (caps : KnownCapabilities) (c : HeapContent) (d : DomainId) (source from count i : ℕ) (kind : TypeRef)
    (holds : IsHeapContent c) (has : HasItems c d source (from + count)) (known : HasKnownItems c caps.ranges d source kind) (within : i < count) where
  is_there : from + i < length has.items
  is_there = let many = has.many in omega arith

  pub has_item : HasItem c classes d source (from + i)
  has_item = record {
    object = Array has.element has.items;
    live = has.live;
    laid_out = tt;
    value = get_or has.items (from + i) Held.Null;
    stands = slice_get-get_or has.items (from + i) Held.Null is_there;
  }

  module _ (v : Value) (read : (object : Object) → IsLive c d source object → item_of object (from + i) ≡ Some v) where
    value_is : v ≡ get_or has.items (from + i) Held.Null
    value_is =
        same_Some v (get_or has.items (from + i) Held.Null)
        (sym (read (Array has.element has.items) has.live) ∙ slice_get-get_or has.items (from + i) Held.Null is_there)

    pub is_known : IsKnownValue caps.ranges (c.heap d) v
    is_known =
        subst (IsKnownValue caps.ranges (c.heap d)) (sym value_is)
        (all_read (IsKnownValue caps.ranges (c.heap d)) has.items (from + i) Held.Null (known has.element has.items has.live).1 is_there)

    pub is_reference : number_kind kind ≡ None → IsReference v
    is_reference none =
        let stored : AreOfKind (zero_of has.element) v × IsSmall v =
        subst (λ (w : Value). AreOfKind (zero_of has.element) w × IsSmall w) (sym value_is)
        (all_read (λ (w : Value). AreOfKind (zero_of has.element) w × IsSmall w) has.items (from + i) Held.Null
        (holds.stored d source (Array has.element has.items) has.live) is_there) in
        of_references has.element v ((known has.element has.items has.live).0 ∙ none) stored.0

    pub one_fits : Fits classes caps c d v kind → FitsSoFar classes caps c d source from kind i → FitsSoFar classes caps c d source from kind (i + 1)
    one_fits fits so_far = λ u items live k w before at.
        let reads : slice_get items (from + i) ≡ Some v = read (Array u items) live in
        elim (less_or_same k i before) [
          | inl less ↦ so_far u items live k w less at
          | inr same ↦
              let one : v ≡ w = same_Some v w (sym reads ∙ ap (λ (n : ℕ). slice_get items (from + n)) (sym same) ∙ at) in
              subst (λ (x : Value). Fits classes caps c d x kind) one fits
        ]

-- ---- How many fit in front.

taken_item : (items : List Value) (from count i : ℕ) (v : Value) → slice_get (take count (drop from items)) i ≡ Some v
    → slice_get items (from + i) ≡ Some v
taken_item items from count i v at =
    let rest : slice_get (drop from items) i ≡ Some v = slice_get-from_take (drop from items) count i v at in
    let within = slice_get_within (drop from items) i v rest in
    let read : get_or items (from + i) v ≡ v = sym (get_or-drop from items i v) ∙ get_or_from_slice_get (drop from items) i v v rest in
    slice_get-get_or items (from + i) v (omega (arith, within, length-drop from items)) ∙ ap Some read

numbers_by : (x : Setting) (heap : List NamedObject) (kind : TypeRef) (items : List Value) (front : ℕ) (k : Option BaseRef) → IsSome k
    → front ≡ length items → MatchOption k (IsFittingFront x heap kind items front) (λ (b : BaseRef). front ≡ length items)
numbers_by x heap kind items front None some all = absurd cc
numbers_by x heap kind items front (Some b) some all = all

module _ (x : Setting) (classes : List ClassRecord) (caps : KnownCapabilities) (c : HeapContent) (d : DomainId) (source from count front : ℕ) (kind : TypeRef)
    (u : TypeRef) (items : List Value) (classes_are : x.classes ≡ classes) (caps_are : x.caps ≡ caps) (live : IsLive c d source (Array u items))
    (has : HasItems c d source (from + count)) where
  many : from + count ≤ length items
  many = subst (λ (l : List Value). from + count ≤ length l) (same_items c d source has.element u has.items items has.live live) has.many

  as_long : length (take count (drop from items)) ≡ count
  as_long = let enough = many in length-take-le count (drop from items) (omega (arith, length-drop from items))

  in_setting : (v : Value) → Fits classes caps c d v kind → Fits x.classes x.caps c d v kind
  in_setting v fits =
      subst (λ (cs : List ClassRecord). Fits cs x.caps c d v kind) (sym classes_are)
      (subst (λ (ks : KnownCapabilities). Fits classes ks c d v kind) (sym caps_are) fits)

  of_setting : (v : Value) → Fits x.classes x.caps c d v kind → Fits classes caps c d v kind
  of_setting v fits =
      subst (λ (ks : KnownCapabilities). Fits classes ks c d v kind) caps_are (subst (λ (cs : List ClassRecord). Fits cs x.caps c d v kind) classes_are fits)

  pub of_numbers : IsSome (number_kind kind) → front ≡ count → IsFront x (c.heap d) kind (take count (drop from items)) front
  of_numbers some all = numbers_by x (c.heap d) kind (take count (drop from items)) front (number_kind kind) some (all ∙ sym as_long)

  pub of_front : number_kind kind ≡ None → front ≤ count → FitsSoFar classes caps c d source from kind front
      → ((v : Value) → front < count → slice_get items (from + front) ≡ Some v → Fits classes caps c d v kind → ⊥)
      → IsFront x (c.heap d) kind (take count (drop from items)) front
  of_front none few so_far next =
      subst (λ (k : Option BaseRef). MatchOption k (IsFittingFront x (c.heap d) kind (take count (drop from items)) front)
      (λ (b : BaseRef). front ≡ length (take count (drop from items)))) (sym none)
      (record {
        within = omega (arith, as_long, few);
        fit = λ i v before at. in_setting v (so_far u items live i v before (taken_item items from count i v at));
        next = λ v at fits.
            let within = slice_get_within (take count (drop from items)) front v at in
            next v (omega (arith, within, as_long)) (taken_item items from count front v at) (of_setting v fits);
      })

-- ---- What tests tell.

no_kind : (k : Option BaseRef) → (IsSome k → ⊥) → k ≡ None
no_kind None none = refl
no_kind (Some b) none = absurd (none refl)

pub are_references : (kind : TypeRef) (b : Bool) → (IsTrue b ↔ IsSome (number_kind kind)) → b ≡ false → number_kind kind ≡ None
are_references kind b tells false_is = no_kind (number_kind kind) (not_so b (IsSome (number_kind kind)) tells false_is)

pub does_not_fit : (classes : List ClassRecord) (caps : KnownCapabilities) (c : HeapContent) (d : DomainId) (source place : ℕ) (kind u : TypeRef)
    (items : List Value) (item : Value) (b : Bool) → ((object : Object) → IsLive c d source object → item_of object place ≡ Some item)
    → (IsTrue b ↔ Fits classes caps c d item kind) → b ≡ false → IsLive c d source (Array u items) → (v : Value) → slice_get items place ≡ Some v
    → Fits classes caps c d v kind → ⊥
does_not_fit classes caps c d source place kind u items item b read tells false_is live v at fits =
    let one : v ≡ item = same_Some v item (sym at ∙ read (Array u items) live) in
    not_so b (Fits classes caps c d item kind) tells false_is (subst (λ (w : Value). Fits classes caps c d w kind) one fits)
