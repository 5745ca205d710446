-- Marks that are set in turn.
use Rattle.std.proofs.Common.{◌≡◌, ℕ, ◌+◌, ◌<◌, ◌≤◌, ◌⊎◌, inl, inr, Bool, true, false, List, length, replicate, get_or, Some, slice_get, refl, sym, ◌∙◌, ap, subst, arith}
use Rattle.std.specs.Global.{Vec}
use Rattle.std.specs.Vec.{with_items}
use Rattle.std.proofs.lemmas.List.{length-replicate, with_items_is}
use Rattle.std.proofs.lemmas.Option.{get_or_from_slice_get}
use Rattle.list_lemmas.proofs.ItemsRead.{none_marked}
use Rattle.jk_model_classes.specs.Items.{HasItem, HasItemBefore}
use Rattle.class_lemmas.proofs.SomeItem.{none_yet}
use Rattle.name_rules.specs.Marks.{IsMarked, Marks, MarksOf}
use Rattle.name_rules.proofs.ItemsSoFar.{all_before, before_new, before_old, before_split, some_before}

pub marks_then : (P Q R : ℕ → Type 0) (a b c : List Bool) → ((i : ℕ) → P i → R i) → ((i : ℕ) → Q i → R i) → ((i : ℕ) → R i → P i ⊎ Q i)
    → Marks P a b → Marks Q b c → Marks R a c
marks_then P Q R a b c from_p from_q split first second = record {
  as_many = second.as_many ∙ first.as_many;
  at = λ i below. let within : i < length b = omega (arith, first.as_many) in (
    λ m. elim ((second.at i within).0 m) [
      | inl old ↦ elim ((first.at i below).0 old) [
        | inl older ↦ inl older
        | inr p ↦ inr (from_p i p)
      ]
      | inr q ↦ inr (from_q i q)
    ],
    λ h. elim h [
      | inl old ↦ (second.at i within).1 (inl ((first.at i below).1 (inl old)))
      | inr r ↦ elim (split i r) [
        | inl p ↦ (second.at i within).1 (inl ((first.at i below).1 (inr p)))
        | inr q ↦ (second.at i within).1 (inr q)
      ]
    ],
  );
}

-- nothing more is marked
pub marks_nothing : (P : ℕ → Type 0) (a : List Bool) → ((i : ℕ) → P i → ⊥) → Marks P a a
marks_nothing P a never = record {
  as_many = refl;
  at = λ i below. (λ m. inl m, λ h. elim h [ inl old ↦ old | inr p ↦ absurd (never i p) ]);
}

pub marks_as : (P R : ℕ → Type 0) (a b : List Bool) → ((i : ℕ) → P i → R i) → ((i : ℕ) → R i → P i) → Marks P a b → Marks R a b
marks_as P R a b to from h = record {
  as_many = h.as_many;
  at = λ i below. (
    λ m. elim ((h.at i below).0 m) [ inl old ↦ inl old | inr p ↦ inr (to i p) ],
    λ k. (h.at i below).1 (elim k [ inl old ↦ inl old | inr r ↦ inr (from i r) ]),
  );
}

-- ---- A walk over items.

module _ {X : Type 0} (P : ℕ → X → Type 0) (xs : List X) where
  pub marks_none : (a : List Bool) → Marks (λ i. HasItemBefore 0 (P i) xs) a a
  marks_none a = record {
    as_many = refl;
    at = λ i below. (λ m. inl m, λ h. elim h [ inl old ↦ old | inr early ↦ absurd (none_yet (P i) xs early) ]);
  }

  pub marks_more : (Q : ℕ → Type 0) (k : ℕ) (x : X) (a b c : List Bool) → slice_get xs k ≡ Some x → ((i : ℕ) → Q i → P i x) → ((i : ℕ) → P i x → Q i)
      → Marks (λ i. HasItemBefore k (P i) xs) a b → Marks Q b c → Marks (λ i. HasItemBefore (k + 1) (P i) xs) a c
  marks_more Q k x a b c at to from first second =
      marks_then (λ i. HasItemBefore k (P i) xs) Q (λ i. HasItemBefore (k + 1) (P i) xs) a b c (λ i. before_old (P i) xs k)
      (λ i q. before_new (P i) xs k x at (to i q))
      (λ i h. elim (before_split (P i) xs k x at h) [ inl old ↦ inl old | inr p ↦ inr (from i p) ]) first second

  pub marks_skipped : (k : ℕ) (x : X) (a b : List Bool) → slice_get xs k ≡ Some x → ((i : ℕ) → P i x → ⊥)
      → Marks (λ i. HasItemBefore k (P i) xs) a b → Marks (λ i. HasItemBefore (k + 1) (P i) xs) a b
  marks_skipped k x a b at never h =
      marks_as (λ i. HasItemBefore k (P i) xs) (λ i. HasItemBefore (k + 1) (P i) xs) a b (λ i. before_old (P i) xs k)
      (λ i e. elim (before_split (P i) xs k x at e) [ inl old ↦ old | inr p ↦ absurd (never i p) ]) h

  pub marks_all : (k : ℕ) (a b : List Bool) → length xs ≤ k → Marks (λ i. HasItemBefore k (P i) xs) a b → Marks (λ i. HasItem (P i) xs) a b
  marks_all k a b all h =
      marks_as (λ i. HasItemBefore k (P i) xs) (λ i. HasItem (P i) xs) a b (λ i. some_before (P i) xs k) (λ i. all_before (P i) xs k all) h

-- ---- Marks from none.

pub marks_of : (n : ℕ) (P : ℕ → Type 0) (a b : List Bool) → a ≡ replicate n false → Marks P a b → MarksOf n P b
marks_of n P a b bare h =
    let long : length a ≡ n = ap (λ (m : List Bool). length m) bare ∙ length-replicate n false in
    record {
      as_many = h.as_many ∙ long;
      at = λ i below. (
        λ m. elim ((h.at i (omega (arith, long))).0 m) [
          | inl old ↦ absurd (none_marked n i (subst (λ (w : List Bool). IsMarked w i) bare old))
          | inr p ↦ p
        ],
        λ p. (h.at i (omega (arith, long))).1 (inr p),
      );
    }

-- what is written into the items of a vector, as many as there were, are its items then
pub written : (v : Vec Bool) (before after : List Bool) → before ≡ v.items → length after ≡ length before → (with_items v after).items ≡ after
written v before after at long = with_items_is v after (omega (arith, long, ap (λ (m : List Bool). length m) at, v.ok.0))

-- what is read of a place without a mark
pub unmarked : (read marks : List Bool) (i : ℕ) → read ≡ marks → get_or read i false ≡ false → IsMarked marks i → ⊥
unmarked read marks i same none m =
    let is : get_or read i false ≡ true = get_or_from_slice_get read i true false (subst (λ (w : List Bool). IsMarked w i) (sym same) m) in
    let never : false ≡ true = sym none ∙ is in
    cc
