-- The segments of live slots are forgotten one after another.
use Rattle.std.proofs.Common.{◌≡◌, ◌≢◌, ℕ, ◌+◌, ◌<◌, ◌≤◌, Some, None, refl, sym, ap, arith, inl, inr, ◌∙◌}
use Rattle.std.specs.Option.{option_map_or}
use Rattle.std.proofs.lemmas.Bool.{cases_eq}
use Rattle.frame_store.specs.declared.slot_set.SlotSet.{SlotSet}
use Rattle.number_table.specs.declared.entry_table.Place.{Place}
use Rattle.number_table.specs.NumberPlaces.{NumberPlaces, place_of, Removes}
use Rattle.frame_store.specs.SlotMoves.{number_of, slot_in_order}
use Rattle.frame_store.specs.ForgottenSegments.{domain_in, Forgets}
use Rattle.frame_store.specs.StoreContents.{AreForgotten}

le_both : (a b c : ℕ) → a ≤ b → b ≤ c → a ≤ c
le_both a b c h k = omega arith

below : (t n : ℕ) → t < n + 1 → t ≢ n → t < n
below t n h ne = omega arith

not_zero : (d : ℕ) → 0 ≢ d + 1
not_zero d e = omega arith

le_same : (a : ℕ) → a ≤ a
le_same a = omega arith

le_next : (a b : ℕ) → b ≡ a + 1 → a ≤ b
le_next a b e = omega arith

same_next : (a b : ℕ) → a + 1 ≡ b + 1 → a ≡ b
same_next a b e = omega arith

is_none : (t : NumberPlaces) (s d : ℕ) → place_of t s ≡ None → domain_in t s ≢ d + 1
is_none t s d e f = not_zero d (sym (ap (λ o. option_map_or (λ (p : Place). p.domain + 1) o 0) e) ∙ f)

pub forgets_nothing : (t : NumberPlaces) (s d : ℕ) → domain_in t s ≢ d + 1 → Forgets t t s d
forgets_nothing t s d ne = record { is_out = ne; kept = λ _ _. refl; fewer = λ _. inl refl; at_least = le_same t.room }

pub forgets_none : (t : NumberPlaces) (s d : ℕ) → place_of t s ≡ None → Forgets t t s d
forgets_none t s d e = forgets_nothing t s d (is_none t s d e)

pub forgets_other : (t : NumberPlaces) (s d : ℕ) (p : Place) → place_of t s ≡ Some p → p.domain ≢ d → Forgets t t s d
forgets_other t s d p e ne =
    forgets_nothing t s d
    (λ f. ne (same_next p.domain d (sym (ap (λ o. option_map_or (λ (q : Place). q.domain + 1) o 0) e) ∙ f)))

pub forgets_it : (t u : NumberPlaces) (s d : ℕ) (p : Place) → place_of t s ≡ Some p → p.domain ≡ d → Removes t u s → Forgets t u s d
forgets_it t u s d p e same removes =
    let here : domain_in t s ≡ d + 1 = ap (λ o. option_map_or (λ (q : Place). q.domain + 1) o 0) e ∙ ap (λ k. k + 1) same in
    record {
      is_out = is_none u s d removes.is_out;
      kept = λ r ne. removes.others r (λ e2. ne (ap (domain_in t) e2 ∙ here));
      fewer = λ r. elim (cases_eq r s) [ inl e2 ↦ inr (ap (place_of u) e2 ∙ removes.is_out) | inr ne ↦ inl (removes.others r ne) ];
      at_least = le_next t.room u.room removes.more_room;
    }

pub one_forgotten : (old c new : NumberPlaces) (slots : SlotSet) (d n number : ℕ) → AreForgotten old c slots d n → n < slots.live
    → number ≡ number_of slots (slot_in_order slots n) → Forgets c new number d → AreForgotten old new slots d (n + 1)
one_forgotten old c new slots d n number before n_live is forgets =
    let gone : (r : ℕ) → domain_in c r ≢ d + 1 → domain_in new r ≢ d + 1 =
    λ r ne e. elim (forgets.fewer r) [
      | inl same ↦ ne (sym (ap (λ o. option_map_or (λ (p : Place). p.domain + 1) o 0) same) ∙ e)
      | inr none ↦ is_none new r d none e
    ] in
    record {
      out =
          λ t low live. elim (cases_eq t n) [
            | inl e ↦ λ f. forgets.is_out (sym (ap (λ k. domain_in new (number_of slots (slot_in_order slots k))) e ∙ ap (domain_in new) (sym is)) ∙ f)
            | inr ne ↦ gone (number_of slots (slot_in_order slots t)) (before.out t (below t n low ne) live)
          ];
      kept =
          λ r ne.
          let same = before.kept r ne in
          forgets.kept r (λ e. ne (sym (ap (λ o. option_map_or (λ (p : Place). p.domain + 1) o 0) same) ∙ e)) ∙ same;
      fewer =
          λ r. elim (forgets.fewer r) [
            | inr none ↦ inr none
            | inl same ↦ elim (before.fewer r) [ inl same2 ↦ inl (same ∙ same2) | inr none ↦ inr (same ∙ none) ]
          ];
      at_least = le_both old.room c.room new.room before.at_least forgets.at_least;
    }
