-- When a slot changes places with the last live one, the order has each slot once as before.
use Rattle.std.proofs.Common.{◌≡◌, ◌≢◌, ℕ, ◌-◌, ◌<◌, List, length, set, get_or, sym, ap, subst, arith, inl, inr, ◌∙◌}
use Rattle.std.proofs.lemmas.Bool.{cases_eq}
use Rattle.std.proofs.lemmas.List.{get_or-set_same, get_or-set_other, length-set}
use Rattle.frame_store.specs.declared.slot_set.Slot.{Slot}
use Rattle.frame_store.specs.Slots.{no_slot, slot_at, IsSlotSet}

module _ (slots : List Slot) (order : List ℕ) (live i place other n m : ℕ) (h : IsSlotSet slots order live) (i_lt : i < length slots)
    (is_live : (slot_at slots i).place < live) (place_is : place ≡ (slot_at slots i).place) (other_is : other ≡ get_or order (live - 1) 0) where
  abbrev last : ℕ
  last = live - 1

  abbrev at_place : Slot
  at_place = record { number = n; place = place }

  abbrev at_last : Slot
  at_last = record { number = m; place = last }

  abbrev new_slots : List Slot
  new_slots = set (set slots other at_place) i at_last

  abbrev new_order : List ℕ
  new_order = set (set order place other) last i

  last_lt : last < length slots
  last_lt = omega (arith, h.few, is_live)

  place_lt : place < length slots
  place_lt = omega (arith, (h.placed i i_lt).0)

  other_lt : other < length slots
  other_lt = omega (arith, (h.ordered last last_lt).0)

  other_place : (slot_at slots other).place ≡ last
  other_place = ap (λ k. (slot_at slots k).place) other_is ∙ (h.ordered last last_lt).1

  place_i : get_or order place 0 ≡ i
  place_i = ap (λ t. get_or order t 0) place_is ∙ (h.placed i i_lt).1

  slots_length : length new_slots ≡ length slots
  slots_length = length-set (set slots other at_place) i at_last ∙ length-set slots other at_place

  order_length : length new_order ≡ length slots
  order_length = length-set (set order place other) last i ∙ length-set order place other ∙ h.as_many

  slot_i : slot_at new_slots i ≡ at_last
  slot_i = get_or-set_same (set slots other at_place) i at_last no_slot (omega (arith, length-set slots other at_place))

  slot_other : other ≢ i → slot_at new_slots other ≡ at_place
  slot_other ne = get_or-set_other (set slots other at_place) i other at_last no_slot ne ∙ get_or-set_same slots other at_place no_slot other_lt

  slot_rest : (j : ℕ) → j ≢ i → j ≢ other → slot_at new_slots j ≡ slot_at slots j
  slot_rest j a b = get_or-set_other (set slots other at_place) i j at_last no_slot a ∙ get_or-set_other slots other j at_place no_slot b

  order_last : get_or new_order last 0 ≡ i
  order_last = get_or-set_same (set order place other) last i 0 (omega (arith, length-set order place other, h.as_many, last_lt))

  order_place : place ≢ last → get_or new_order place 0 ≡ other
  order_place ne = get_or-set_other (set order place other) last place i 0 ne ∙ get_or-set_same order place other 0 (omega (arith, h.as_many, place_lt))

  order_rest : (t : ℕ) → t ≢ last → t ≢ place → get_or new_order t 0 ≡ get_or order t 0
  order_rest t a b = get_or-set_other (set order place other) last t i 0 a ∙ get_or-set_other order place t other 0 b

  ordered_new : (t : ℕ) → t < length new_slots → (get_or new_order t 0 < length new_slots) × ((slot_at new_slots (get_or new_order t 0)).place ≡ t)
  ordered_new t lt =
      let P : ℕ → Type 0 = λ j. (j < length new_slots) × ((slot_at new_slots j).place ≡ t) in
      elim (cases_eq t last) [
        | inl e ↦
            let is : get_or new_order t 0 ≡ i = ap (λ u. get_or new_order u 0) e ∙ order_last in
            subst P (sym is) (omega (arith, i_lt, slots_length), ap (λ (s : Slot). s.place) slot_i ∙ sym e)
        | inr ne ↦
            elim (cases_eq t place) [
              | inl e ↦
                  let ne2 : place ≢ last = λ e2. ne (e ∙ e2) in
                  let is : get_or new_order t 0 ≡ other = ap (λ u. get_or new_order u 0) e ∙ order_place ne2 in
                  let apart : other ≢ i = λ e2. ne2 (place_is ∙ ap (λ k. (slot_at slots k).place) (sym e2) ∙ other_place) in
                  subst P (sym is) (omega (arith, other_lt, slots_length), ap (λ (s : Slot). s.place) (slot_other apart) ∙ sym e)
              | inr d ↦
                  let j = get_or order t 0 in
                  let o = h.ordered t (omega (arith, slots_length)) in
                  let is : get_or new_order t 0 ≡ j = order_rest t ne d in
                  let a : j ≢ i = λ e2. d (sym o.1 ∙ ap (λ k. (slot_at slots k).place) e2 ∙ sym place_is) in
                  let b : j ≢ other = λ e2. ne (sym o.1 ∙ ap (λ k. (slot_at slots k).place) e2 ∙ other_place) in
                  subst P (sym is) (omega (arith, o.0, slots_length), ap (λ (s : Slot). s.place) (slot_rest j a b) ∙ o.1)
            ]
      ]

  placed_new : (j : ℕ) → j < length new_slots → ((slot_at new_slots j).place < length new_slots) × (get_or new_order (slot_at new_slots j).place 0 ≡ j)
  placed_new j lt =
      let P : ℕ → Type 0 = λ t. (t < length new_slots) × (get_or new_order t 0 ≡ j) in
      elim (cases_eq j i) [
        | inl e ↦
            let is : (slot_at new_slots j).place ≡ last = ap (λ k. (slot_at new_slots k).place) e ∙ ap (λ (s : Slot). s.place) slot_i in
            subst P (sym is) (omega (arith, last_lt, slots_length), order_last ∙ sym e)
        | inr ne ↦
            elim (cases_eq j other) [
              | inl e ↦
                  let apart : other ≢ i = λ e2. ne (e ∙ e2) in
                  let is : (slot_at new_slots j).place ≡ place = ap (λ k. (slot_at new_slots k).place) e ∙ ap (λ (s : Slot). s.place) (slot_other apart) in
                  let ne2 : place ≢ last = λ e2. apart (other_is ∙ ap (λ t. get_or order t 0) (sym e2) ∙ place_i) in
                  subst P (sym is) (omega (arith, place_lt, slots_length), order_place ne2 ∙ sym e)
              | inr d ↦
                  let p = h.placed j (omega (arith, slots_length)) in
                  let t = (slot_at slots j).place in
                  let is : (slot_at new_slots j).place ≡ t = ap (λ (s : Slot). s.place) (slot_rest j ne d) in
                  let a : t ≢ last = λ e2. d (sym p.1 ∙ ap (λ u. get_or order u 0) e2 ∙ sym other_is) in
                  let b : t ≢ place = λ e2. ne (sym p.1 ∙ ap (λ u. get_or order u 0) e2 ∙ place_i) in
                  subst P (sym is) (omega (arith, p.0, slots_length), order_rest t a b ∙ p.1)
            ]
      ]

  pub given_keeps : IsSlotSet new_slots new_order last
  given_keeps =
      record {
        as_many = order_length ∙ sym slots_length;
        few = omega (arith, last_lt, slots_length);
        ordered = ordered_new;
        placed = placed_new;
      }
