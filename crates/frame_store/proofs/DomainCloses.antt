-- A domain goes with its segments.
use Rattle.std.proofs.Common.{◌≡◌, ◌≢◌, ℕ, zero, suc, ◌+◌, ◌-◌, ◌^◌, ◌<◌, ◌≤◌, Bool, cond, List, [], ◌∷◌, length, get_or, position, Option, Some, None, option_map, is_some, slice_get, nat_eq, refl, sym, ap, subst, arith, ◌∙◌, inl, inr, sum_by, IfSome}
use Rattle.std.specs.Option.{option_map_or}
use Rattle.std.specs.Map.{values_of, keys_of, lookup}
use Rattle.std.specs.List.{swap_remove}
use Rattle.std.proofs.lemmas.Bool.{cases_eq, false≢true}
use Rattle.std.proofs.lemmas.List.Sums.{sum_by-cons, sum_by-swap_remove}
use Rattle.std.proofs.lemmas.Option.{same_Some}
use Rattle.indexmap.proofs.MapLemmas.{swap_remove_entry-found, value_index, some_index}
use Rattle.jk_model.specs.declared.identifiers.DomainId.{DomainId}
use Rattle.indexmap.specs.IndexMap.{IndexMap, get, values, swap_remove_entry}
use Rattle.frame_store.specs.declared.domain_frames.DomainFrames.{DomainFrames}
use Rattle.number_table.specs.declared.entry_table.Place.{Place}
use Rattle.number_table.specs.NumberPlaces.{NumberPlaces}
use Rattle.frame_store.specs.FrameContents.{StoredSegment, Closes, IsLeftOf}
use Rattle.frame_store.specs.SlotMoves.{number_of, place_in, slot_in_order}
use Rattle.number_table.specs.NumberPlaces as table
use Rattle.frame_store.specs.ForgottenSegments.{domain_in}
use Rattle.frame_store.specs.StoreContents.{content_of, stored, owed_by, IsStore, AreForgotten}
use Rattle.frame_store.specs.StoreIsContent.{stands}
use Rattle.frame_store.proofs.StoreChanges.{segment_in, read_some, lt_by}
use Rattle.frame_store.proofs.DomainIsEntered.{others_by_updates}

-- ---- The sum without a domain.

sum_values : (f : DomainFrames → ℕ) (es : List (ℕ × DomainFrames)) → sum_by f (values_of es) ≡ sum_by (λ (e : ℕ × DomainFrames). f e.1) es
sum_values f [] = refl
sum_values f (e ∷ es) = sum_by-cons f e.1 (values_of es) ∙ ap (λ k. f e.1 + k) (sum_values f es) ∙ sym (sum_by-cons (λ (y : ℕ × DomainFrames). f y.1) e es)

value_here : {X : Type 0} (es : List (ℕ × X)) (i : ℕ) (d : ℕ × X) (x : X) → slice_get (values_of es) i ≡ Some x → (i < length es) × ((get_or es i d).1 ≡ x)
value_here [] i d x e = absurd (cc)
value_here (y ∷ es) zero d x e = (omega arith, same_Some y.1 x e)
value_here (y ∷ es) (suc i) d x e = let r = value_here es i d x e in (omega (arith, r.0), r.1)

sum_without : (f : DomainFrames → ℕ) (t : ℕ → Bool) (es : List (ℕ × DomainFrames)) (d : ℕ) (x : DomainFrames) (o : Option ℕ) → lookup t es ≡ Some x
    → position t (keys_of es) ≡ o → sum_by f (values_of (swap_remove_entry t es)) + f x ≡ sum_by f (values_of es)
sum_without f t es d x None e p =
    absurd (false≢true (ap is_some (sym p) ∙ some_index t es ∙ ap is_some e))
sum_without f t es d x (Some i) e p =
    let P : Option ℕ → Type 0 = λ r. IfSome r (λ j. slice_get (values_of es) j ≡ lookup t es) in
    let at : slice_get (values_of es) i ≡ lookup t es = subst P p (value_index t es) in
    let v = value_here es i (d, x) x (at ∙ e) in
    let g : ℕ × DomainFrames → ℕ = λ (y : ℕ × DomainFrames). f y.1 in
    ap (λ ys. sum_by f (values_of ys) + f x) (swap_remove_entry-found t es i (d, x) p)
    ∙ ap (λ k. k + f x) (sum_values f (swap_remove es i (d, x)))
    ∙ ap (λ k. sum_by g (swap_remove es i (d, x)) + f k) (sym v.1)
    ∙ sum_by-swap_remove g es i (d, x) v.0
    ∙ sym (sum_values f es)

next_same : (a b : ℕ) → a + 1 ≡ b + 1 → a ≡ b
next_same a b e = omega arith

part_less : (o a s b : ℕ) → a + b ≡ s → o ≡ s → o - b ≡ a
part_less o a s b e f = omega arith

pub part_le : (o a s b : ℕ) → a + b ≡ s → o ≡ s → b ≤ o
part_le o a s b e f = omega arith

less_le : (o b r u : ℕ) → o ≤ r → r ≤ u → o - b ≤ u
less_le o b r u h k = omega arith

less_lt : (o b r : ℕ) → o < r → o - b < r
less_lt o b r h = omega arith

pub owed_part : {S : Type 0} (m n : IndexMap ℕ DomainFrames S) (d : ℕ) (x : DomainFrames) → get nat_eq m d ≡ Some x
    → n.entries ≡ swap_remove_entry (nat_eq d) m.entries → sum_by owed_by (values n) + owed_by x ≡ sum_by owed_by (values m)
owed_part m n d x is entries =
    ap (λ es. sum_by owed_by (values_of es) + owed_by x) entries ∙ sum_without owed_by (nat_eq d) m.entries d x
    (position (nat_eq d) (keys_of m.entries)) is refl

module _ {S : Type 0} (m n : IndexMap ℕ DomainFrames S) (t u : NumberPlaces) (owed d : ℕ) (x : DomainFrames) (h : IsStore m t owed)
    (is : get nat_eq m d ≡ Some x)
    (updates : (q : ℕ) → get nat_eq n q ≡ cond (nat_eq d q) None (get nat_eq m q)) (gone : get nat_eq n d ≡ None)
    (entries : n.entries ≡ swap_remove_entry (nat_eq d) m.entries) (forgotten : AreForgotten t u x.slots d x.slots.live) where
  pub elsewhere : (q : ℕ) → q ≢ d → get nat_eq n q ≡ get nat_eq m q
  elsewhere = others_by_updates m n d None updates

  pub before : (r : ℕ) (q : Place) → table.place_of u r ≡ Some q → table.place_of t r ≡ Some q
  before r q e = elim (forgotten.fewer r) [ inl same ↦ sym same ∙ e | inr none ↦ absurd (cc) ]

  -- no segment of the domain stands any more
  pub other_domain : (r : ℕ) (q : Place) → table.place_of u r ≡ Some q → q.domain ≢ d
  other_domain r q e same =
      let old = before r q e in
      let e_get : get nat_eq m q.domain ≡ Some x = ap (get nat_eq m) same ∙ is in
      let within = lt_by q.slot (option_map_or (λ (z : DomainFrames). z.chunks) (get nat_eq m q.domain) 0) q.slot _ (h.in_domain r q old) refl
      (x.ok.slots_are ∙ sym (read_some (λ (z : DomainFrames). z.chunks) (get nat_eq m q.domain) x e_get)) in
      let live = lt_by _ _ (place_in x.slots q.slot) x.slots.live (h.is_live r q old)
      (sym (read_some (λ (z : DomainFrames). place_in z.slots q.slot) (get nat_eq m q.domain) x e_get))
      (sym (read_some (λ (z : DomainFrames). z.slots.live) (get nat_eq m q.domain) x e_get)) in
      let number : number_of x.slots q.slot ≡ r =
      sym (read_some (λ (z : DomainFrames). number_of z.slots q.slot) (get nat_eq m q.domain) x e_get) ∙ h.has_number r q old in
      let at : number_of x.slots (slot_in_order x.slots (place_in x.slots q.slot)) ≡ r = ap (number_of x.slots) (x.slots.ok.placed q.slot within).1 ∙ number in
      forgotten.out (place_in x.slots q.slot) live live
      (ap (domain_in u) at ∙ ap (λ o. option_map_or (λ (k : Place). k.domain + 1) o 0) e ∙ ap (λ k. k + 1) same)

  read : (r : ℕ) (q : Place) → table.place_of u r ≡ Some q → (f : DomainFrames → ℕ)
      → option_map_or f (get nat_eq n q.domain) 0 ≡ option_map_or f (get nat_eq m q.domain) 0
  read r q e f = ap (λ o. option_map_or f o 0) (elsewhere q.domain (other_domain r q e))

  pub closed_store : IsStore n u (owed - owed_by x)
  closed_store =
      record {
        in_domain =
            λ r q e. lt_by q.slot (option_map_or (λ (z : DomainFrames). z.chunks) (get nat_eq m q.domain) 0) q.slot
            (option_map_or (λ (z : DomainFrames). z.chunks) (get nat_eq n q.domain) 0)
            (h.in_domain r q (before r q e)) refl (read r q e (λ (z : DomainFrames). z.chunks));
        is_live =
            λ r q e. lt_by _ _ _ _ (h.is_live r q (before r q e)) (read r q e (λ (z : DomainFrames). place_in z.slots q.slot))
            (read r q e (λ (z : DomainFrames). z.slots.live));
        has_number = λ r q e. read r q e (λ (z : DomainFrames). number_of z.slots q.slot) ∙ h.has_number r q (before r q e);
        owes = part_less owed (sum_by owed_by (values n)) (sum_by owed_by (values m)) (owed_by x) (owed_part m n d x is entries) h.owes;
        enough = less_le owed (owed_by x) t.room u.room h.enough forgotten.at_least;
        few = less_lt owed (owed_by x) (2 ^ 63) h.few;
      }

  -- what is left of a segment
  left_none : (s : ℕ) → table.place_of u s ≡ None → stored n (table.place_of u s) ≡ None
  left_none s e = ap (stored n) e

  left : (s : ℕ) (o : Option Place) → table.place_of t s ≡ o → IsLeftOf (record { 0 = d }) (stored m o) (stored n (table.place_of u s))
  left s None e =
      let none : table.place_of u s ≡ None = elim (forgotten.fewer s) [ inl same ↦ same ∙ e | inr none ↦ none ] in
      left_none s none
  left s (Some p) e =
      let y = stands m t owed h s p e in
      let P : Option StoredSegment → Type 0 = λ o. IsLeftOf (record { 0 = d }) o (stored n (table.place_of u s)) in
      let is_stored : stored m (Some p) ≡ Some (segment_in y.0 p.domain p.slot) = ap (option_map (λ (z : DomainFrames). segment_in z p.domain p.slot)) y.1.is in
      subst P (sym is_stored)
      (elim (cases_eq p.domain d) [
        | inl same ↦
            let none : table.place_of u s ≡ None =
            elim (forgotten.fewer s) [ inl kept ↦ absurd (other_domain s p (kept ∙ e) same) | inr none ↦ none ] in
            inl (ap (λ k. let z : DomainId = record { 0 = k } in z) same, left_none s none)
        | inr ne ↦
            let kept = forgotten.kept s (λ f. ne (next_same p.domain d (sym (ap (λ o. option_map_or (λ (k : Place). k.domain + 1) o 0) e) ∙ f))) in
            inr (
              λ same. ne (ap (λ (k : DomainId). k.0) same),
              ap (stored n) (kept ∙ e) ∙ ap (option_map (λ (z : DomainFrames). segment_in z p.domain p.slot)) (elsewhere p.domain ne) ∙ is_stored,
            )
      ])

  pub closes : Closes (content_of m t) (content_of n u) (record { 0 = d })
  closes =
      let ne : (e : DomainId) → e ≢ record { 0 = d } → e.0 ≢ d = λ e differs same. differs (ap (λ k. let z : DomainId = record { 0 = k } in z) same) in
      record {
        pages = refl;
        took_all = refl;
        quota = ap (option_map (λ (z : DomainFrames). z.chunks)) gone;
        place = refl;
        unused = ap (λ o. option_map_or (λ (z : DomainFrames). z.used) o 0) gone;
        other_quotas = λ e differs. ap (option_map (λ (z : DomainFrames). z.chunks)) (elsewhere e.0 (ne e differs));
        other_places = λ _ _. refl;
        other_uses = λ e differs. ap (λ o. option_map_or (λ (z : DomainFrames). z.used) o 0) (elsewhere e.0 (ne e differs));
        segment = λ s. left s.0 (table.place_of t s.0) refl;
      }
