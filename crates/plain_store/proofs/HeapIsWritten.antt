-- An item of one object is written: the parts fit each other again, and no other object changes.
use Rattle.std.proofs.Common.{inl, inr, ◌⊎◌, ◌≡◌, ◌≢◌, ℕ, ◌+◌, ◌<◌, ◌≤◌, Bool, true, false, List, length, set, Some, slice_get, refl, sym, ap, subst, ◌∙◌, arith}
use Rattle.std.proofs.lemmas.Bool.{cases_eq, cases_lt}
use Rattle.std.proofs.lemmas.List.{length-set}
use Rattle.std.proofs.lemmas.Option.{same_Some}
use Rattle.list_lemmas.proofs.ItemsByPlace.{slice_get-set_cases}
use Rattle.jk_model.specs.declared.values.Value.{Value}
use Rattle.jk_model_domains.specs.Objects.{Object}
use Rattle.jk_model_heaps.specs.Heaps.{with_object}
use Rattle.plain_store.specs.declared.domain_heap.DomainHeap.{DomainHeap}
use Rattle.plain_store.specs.declared.domain_heap.Header.{Header}
use Rattle.plain_store.specs.Headers.{IsDomainHeap, IsNarrow, is_text, kind_of, object_of, object_with, said_kind}
use Rattle.plain_store.specs.NumberedObjects.{heap-written, heap_of}
use Rattle.plain_store.specs.Pieces.{piece, piece-set, piece-set_before, piece-set_behind}
use Rattle.plain_store.proofs.HeapGrows.{text_kind, with-same}

module _ (x : DomainHeap) (a i : ℕ) (h : Header) (at : slice_get x.headers.items a ≡ Some h) (lt : i < h.len) where
  -- the place is in no other payload of the same sort
  beside : (k : ℕ) (g : Header) → slice_get x.headers.items k ≡ Some g → k ≢ a → is_text g.shape ≡ is_text h.shape
      → (g.first + g.len ≤ h.first + i) ⊎ (h.first + i < g.first)
  beside k g at_k ne same = elim (cases_lt k a) [
    | inl before ↦ inl (omega (arith, x.ok.apart k a g h before at_k at same))
    | inr behind ↦
        let less : a < k = omega arith in
        inr (omega (arith, x.ok.apart a k h g less at at_k (sym same)))
  ]

  in_own : (k j : ℕ) (g : Header) → slice_get x.headers.items k ≡ Some g → is_text g.shape ≡ is_text h.shape → j < g.len → h.first + i ≡ g.first + j → k ≡ a
  in_own k j g at_k same low e = elim (cases_eq k a) [
    | inl here ↦ here
    | inr ne ↦ elim (beside k g at_k ne same) [
      | inl before ↦ absurd (omega (arith, before, e))
      | inr behind ↦ absurd (omega (arith, behind, e))
    ]
  ]

  -- ---- A value.

  module _ (value : is_text h.shape ≡ false) (v : Value) (kind : said_kind h.shape (kind_of v) ≡ kind_of v) (narrow : IsNarrow v) where
    abbrev new_values : List Value
    new_values = set x.values.items (h.first + i) v

    values_long : length new_values ≡ length x.values.items
    values_long = length-set x.values.items (h.first + i) v

    kinds_by : (k : ℕ) (g : Header) → slice_get x.headers.items k ≡ Some g → (t : Bool) → is_text g.shape ≡ t
        → (j : ℕ) (w : Value) → j < g.len → slice_get new_values (g.first + j) ≡ Some w → said_kind g.shape (kind_of w) ≡ kind_of w
    kinds_by k g at_k true text j w low e = text_kind g.shape (kind_of w) text
    kinds_by k g at_k false sort j w low e = elim (slice_get-set_cases x.values.items (h.first + i) (g.first + j) v w e) [
      | inl new ↦
          let own : k ≡ a = in_own k j g at_k (sort ∙ sym value) low new.0 in
          let same : h ≡ g = same_Some h g (sym at ∙ ap (slice_get x.headers.items) (sym own) ∙ at_k) in
          subst (λ (u : Value). said_kind g.shape (kind_of u) ≡ kind_of u) new.1
          (subst (λ (f : Header). said_kind f.shape (kind_of v) ≡ kind_of v) same kind)
      | inr old ↦ (x.ok.placed k g at_k).kinds j w low old
    ]

    pub written_heap : IsDomainHeap x.words x.used x.headers.items new_values x.units.items
    written_heap =
        record {
          least = x.ok.least;
          most = x.ok.most;
          within = x.ok.within;
          paid = omega (arith, x.ok.paid, values_long);
          placed =
              λ k g at_k.
              let placed = x.ok.placed k g at_k in
              record {
                in_values = λ sort. omega (arith, placed.in_values sort, values_long);
                in_units = placed.in_units;
                long = placed.long;
                kinds = kinds_by k g at_k (is_text g.shape) refl;
              };
          apart = x.ok.apart;
          narrow =
              λ k w e. elim (slice_get-set_cases x.values.items (h.first + i) k v w e) [
                | inl new ↦ subst IsNarrow new.1 narrow
                | inr old ↦ x.ok.narrow k w old
              ];
          units_fit = x.ok.units_fit;
        }

    other_is : (k : ℕ) (g : Header) → slice_get x.headers.items k ≡ Some g → k ≢ a
        → object_of new_values x.units.items g ≡ object_of x.values.items x.units.items g
    other_is k g at_k ne =
        with-same g.shape (piece new_values g.first g.len) (piece x.values.items g.first g.len) (piece x.units.items g.first g.len)
        (piece x.units.items g.first g.len)
        (λ sort. elim (beside k g at_k ne (sort ∙ sym value)) [
          | inl before ↦ piece-set_behind x.values.items g.first g.len (h.first + i) v before
          | inr behind ↦ piece-set_before x.values.items g.first g.len (h.first + i) v behind
        ])
        (λ text. refl)

    pub written_objects : (new : Object) → new ≡ object_with h.shape (set (piece x.values.items h.first h.len) i v) (piece x.units.items h.first h.len)
        → heap_of (object_of new_values x.units.items) x.headers.items
        ≡ with_object a new (heap_of (object_of x.values.items x.units.items) x.headers.items)
    written_objects new is =
        heap-written (object_of x.values.items x.units.items) (object_of new_values x.units.items) x.headers.items a new
        (λ g at_a.
        let same : g ≡ h = same_Some g h (sym at_a ∙ at) in
        ap (object_of new_values x.units.items) same
        ∙ ap (λ (vs : List Value). object_with h.shape vs (piece x.units.items h.first h.len)) (piece-set x.values.items h.first h.len i v lt)
        ∙ sym is)
        other_is

  -- ---- A unit.

  module _ (text : is_text h.shape ≡ true) (u : ℕ) (small : u < 65536) where
    abbrev new_units : List ℕ
    new_units = set x.units.items (h.first + i) u

    units_long : length new_units ≡ length x.units.items
    units_long = length-set x.units.items (h.first + i) u

    pub unit_heap : IsDomainHeap x.words x.used x.headers.items x.values.items new_units
    unit_heap =
        record {
          least = x.ok.least;
          most = x.ok.most;
          within = x.ok.within;
          paid = omega (arith, x.ok.paid, units_long);
          placed =
              λ k g at_k.
              let placed = x.ok.placed k g at_k in
              record {
                in_values = placed.in_values;
                in_units = λ sort. omega (arith, placed.in_units sort, units_long);
                long = placed.long;
                kinds = placed.kinds;
              };
          apart = x.ok.apart;
          narrow = x.ok.narrow;
          units_fit =
              λ k w e. elim (slice_get-set_cases x.units.items (h.first + i) k u w e) [
                | inl new ↦ subst (λ (n : ℕ). n < 65536) new.1 small
                | inr old ↦ x.ok.units_fit k w old
              ];
        }

    other_text : (k : ℕ) (g : Header) → slice_get x.headers.items k ≡ Some g → k ≢ a
        → object_of x.values.items new_units g ≡ object_of x.values.items x.units.items g
    other_text k g at_k ne =
        with-same g.shape (piece x.values.items g.first g.len) (piece x.values.items g.first g.len) (piece new_units g.first g.len)
        (piece x.units.items g.first g.len)
        (λ value. refl)
        (λ sort. elim (beside k g at_k ne (sort ∙ sym text)) [
          | inl before ↦ piece-set_behind x.units.items g.first g.len (h.first + i) u before
          | inr behind ↦ piece-set_before x.units.items g.first g.len (h.first + i) u behind
        ])

    pub unit_objects : (new : Object) → new ≡ object_with h.shape (piece x.values.items h.first h.len) (set (piece x.units.items h.first h.len) i u)
        → heap_of (object_of x.values.items new_units) x.headers.items
        ≡ with_object a new (heap_of (object_of x.values.items x.units.items) x.headers.items)
    unit_objects new is =
        heap-written (object_of x.values.items x.units.items) (object_of x.values.items new_units) x.headers.items a new
        (λ g at_a.
        let same : g ≡ h = same_Some g h (sym at_a ∙ at) in
        ap (object_of x.values.items new_units) same
        ∙ ap (λ (us : List ℕ). object_with h.shape (piece x.values.items h.first h.len) us) (piece-set x.units.items h.first h.len i u lt)
        ∙ sym is)
        other_text
