-- The mark of one object is set: nothing else changes.
use Rattle.std.proofs.Common.{inl, inr, ◌≡◌, ◌≢◌, ℕ, List, set, Option, Some, slice_get, refl, sym, ap, subst, ◌∙◌, arith}
use Rattle.std.specs.Option.{option_map_or}
use Rattle.std.proofs.lemmas.List.{length-set}
use Rattle.std.proofs.lemmas.Option.{same_Some, slice_get_within}
use Rattle.list_lemmas.proofs.ItemsByPlace.{slice_get-set_cases, slice_get-set_other, slice_get-set_same}
use Rattle.plain_store.specs.declared.domain_heap.DomainHeap.{DomainHeap}
use Rattle.plain_store.specs.declared.domain_heap.Header.{Header}
use Rattle.plain_store.specs.Headers.{IsDomainHeap, IsPlaced, is_text, object_of}
use Rattle.plain_store.specs.NumberedObjects.{heap-set, heap_of}

abbrev mark_in : Option Header → ℕ
mark_in o = option_map_or (λ (g : Header). g.mark) o 0

module _ (x : DomainHeap) (a m : ℕ) (h : Header) (at : slice_get x.headers.items a ≡ Some h) where
  abbrev marked : Header
  marked = record h { mark = m }

  abbrev new_headers : List Header
  new_headers = set x.headers.items a marked

  -- the header that stood there, of which all but the mark is as it is now
  record Was (k : ℕ) (g : Header) : Type 0 where
    header : Header
    there : slice_get x.headers.items k ≡ Some header
    sort : is_text header.shape ≡ is_text g.shape
    first : header.first ≡ g.first
    len : header.len ≡ g.len

  was : (k : ℕ) (g : Header) → slice_get new_headers k ≡ Some g → Was k g
  was k g e = elim (slice_get-set_cases x.headers.items a k marked g e) [
    | inl new ↦
        record {
          header = h;
          there = ap (slice_get x.headers.items) (sym new.0) ∙ at;
          sort = ap (λ (f : Header). is_text f.shape) new.1;
          first = ap (λ (f : Header). f.first) new.1;
          len = ap (λ (f : Header). f.len) new.1;
        }
    | inr old ↦ record { header = g; there = old; sort = refl; first = refl; len = refl }
  ]

  marked_placed : IsPlaced x.values.items x.units.items marked
  marked_placed =
      let placed = x.ok.placed a h at in
      record { in_values = placed.in_values; in_units = placed.in_units; long = placed.long; kinds = placed.kinds }

  pub marked_heap : IsDomainHeap x.words x.used new_headers x.values.items x.units.items
  marked_heap =
      record {
        least = x.ok.least;
        most = x.ok.most;
        within = x.ok.within;
        paid = omega (arith, x.ok.paid, length-set x.headers.items a marked);
        placed =
            λ k g e. elim (slice_get-set_cases x.headers.items a k marked g e) [
              | inl new ↦ subst (IsPlaced x.values.items x.units.items) new.1 marked_placed
              | inr old ↦ x.ok.placed k g old
            ];
        apart =
            λ j k f g lt at_j at_k same.
            let was_f = was j f at_j in
            let was_g = was k g at_k in
            let before = x.ok.apart j k was_f.header was_g.header lt was_f.there was_g.there (was_f.sort ∙ same ∙ sym was_g.sort) in
            omega (arith, before, was_f.first, was_f.len, was_g.first);
        narrow = x.ok.narrow;
        units_fit = x.ok.units_fit;
      }

  pub marked_objects : heap_of (object_of x.values.items x.units.items) new_headers ≡ heap_of (object_of x.values.items x.units.items) x.headers.items
  marked_objects =
      heap-set (object_of x.values.items x.units.items) x.headers.items a marked
      (λ y e. ap (object_of x.values.items x.units.items) (same_Some h y (sym at ∙ e)))

  pub mark_is : mark_in (slice_get new_headers a) ≡ m
  mark_is = ap mark_in (slice_get-set_same x.headers.items a marked (slice_get_within x.headers.items a h at))

  pub other_marks : (b : ℕ) → b ≢ a → mark_in (slice_get new_headers b) ≡ mark_in (slice_get x.headers.items b)
  other_marks b ne = ap mark_in (slice_get-set_other x.headers.items a b marked (λ e. ne (sym e)))
