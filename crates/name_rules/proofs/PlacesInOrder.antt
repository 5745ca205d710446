-- The places are put in order one by one: those of a lower height first.
use Rattle.std.proofs.Common.{◌≡◌, ◌≢◌, ℕ, ◌+◌, ◌<◌, ◌≤◌, inl, inr, List, [], ◌∷◌, ◌++◌, length, Some, slice_get, sym, ◌∙◌, subst, arith}
use Rattle.std.proofs.Math.ListN.{get_or}
use Rattle.std.proofs.lemmas.Bool.{cases_lt}
use Rattle.std.proofs.lemmas.Option.{same_Some, slice_get_within, slice_get-get_or}
use Rattle.name_rules.specs.Graphs.{AreInOrder, IsEarlier, IsOrderOf}
use Rattle.list_lemmas.proofs.ItemsByPlace.{slice_get-front, slice_get-last, slice_get-push_cases}
use Rattle.name_rules.proofs.PlacesLeft.{all_are_many, differing_below, in_from}

wider : (m i height place : ℕ) → IsEarlier m i height place → IsEarlier m i height (place + 1)
wider m i height place (inl less) = inl less
wider m i height place (inr (same, less)) = inr (same, omega arith)

one_height : (heights : List ℕ) (i m n : ℕ) → slice_get heights i ≡ Some m → slice_get heights i ≡ Some n → m ≡ n
one_height heights i m n at also = same_Some m n (sym at ∙ also)

pub none_in_order : (heights : List ℕ) → AreInOrder heights 0 0 []
none_in_order heights = record {
  only = λ k i at. absurd cc;
  all = λ i m at early. elim early [ inl less ↦ absurd (omega arith) | inr below ↦ absurd (omega (arith, below.1)) ];
  rising = λ k l i j m n below at. absurd cc;
}

module _ (heights : List ℕ) (height place : ℕ) (order : List ℕ) (own : ℕ) (h : AreInOrder heights height place order)
    (at_place : slice_get heights place ≡ Some own) where
  pub place_skipped : own ≢ height → AreInOrder heights height (place + 1) order
  place_skipped other = record {
    only = λ k i at. let old = h.only k i at in (old.0, old.1, wider old.0 i height place old.2);
    all = λ i m at early. elim early [
      | inl less ↦ h.all i m at (inl less)
      | inr (same, below) ↦ elim (cases_lt i place) [
        | inl less ↦ h.all i m at (inr (same, less))
        | inr least ↦
            let here : i ≡ place = omega arith in
            absurd (other (one_height heights place own m at_place (subst (λ (p : ℕ). slice_get heights p ≡ Some m) here at) ∙ same))
      ]
    ];
    rising = h.rising;
  }

  pub place_added : own ≡ height → AreInOrder heights height (place + 1) (order ++ place ∷ [])
  place_added same = record {
    only = λ k i at. elim (slice_get-push_cases order place i k at) [
      | inl front ↦ let old = h.only k i front.1 in (old.0, old.1, wider old.0 i height place old.2)
      | inr last ↦ (own, subst (λ (p : ℕ). slice_get heights p ≡ Some own) last.1 at_place, inr (same, omega (arith, last.1)))
    ];
    all = λ i m at early.
        let before : IsEarlier m i height place → (k : ℕ) × (slice_get (order ++ place ∷ []) k ≡ Some i) =
        λ e. let old = h.all i m at e in
        (old.0, slice_get-front order (place ∷ []) old.0 (slice_get_within order old.0 i old.1) ∙ old.1) in
        elim early [
          | inl less ↦ before (inl less)
          | inr (level, below) ↦ elim (cases_lt i place) [
            | inl less ↦ before (inr (level, less))
            | inr least ↦
                let here : place ≡ i = omega arith in
                (length order, subst (λ (p : ℕ). slice_get (order ++ place ∷ []) (length order) ≡ Some p) here (slice_get-last order place))
          ]
        ];
    rising = λ k l i j m n below at also at_i at_j. elim (slice_get-push_cases order place j l also) [
      | inl front_l ↦ elim (slice_get-push_cases order place i k at) [
        | inl front_k ↦ h.rising k l i j m n below front_k.1 front_l.1 at_i at_j
        | inr last_k ↦ absurd (omega (arith, last_k.0, front_l.0))
      ]
      | inr last_l ↦ elim (slice_get-push_cases order place i k at) [
        | inr last_k ↦ absurd (omega (arith, last_k.0, last_l.0))
        | inl front_k ↦
            let old = h.only k i front_k.1 in
            let first : old.0 ≡ m = one_height heights i old.0 m old.1 at_i in
            let second : n ≡ height =
            one_height heights j n own at_j (subst (λ (p : ℕ). slice_get heights p ≡ Some own) last_l.1 at_place) ∙ same in
            subst (λ (p : ℕ). IsEarlier m i n p) last_l.1 (subst (λ (p : ℕ). IsEarlier m i p place) (sym second)
            (subst (λ (p : ℕ). IsEarlier p i height place) first old.2))
      ]
    ];
  }

pub height_done : (heights : List ℕ) (height place : ℕ) (order : List ℕ) → length heights ≤ place → AreInOrder heights height place order
    → AreInOrder heights (height + 1) 0 order
height_done heights height place order all h = record {
  only = λ k i at.
      let old = h.only k i at in
      (old.0, old.1, elim old.2 [ inl less ↦ inl (omega arith) | inr level ↦ inl (omega (arith, level.0)) ]);
  all = λ i m at early.
      let within = slice_get_within heights i m at in
      elim early [
        | inl less ↦ elim (cases_lt m height) [
          | inl lower ↦ h.all i m at (inl lower)
          | inr least ↦ let same : m ≡ height = omega arith in h.all i m at (inr (same, omega arith))
        ]
        | inr level ↦ absurd (omega (arith, level.1))
      ];
  rising = h.rising;
}

not_itself : (m i : ℕ) → IsEarlier m i m i → ⊥
not_itself m i (inl less) = omega arith
not_itself m i (inr (same, less)) = omega arith

pub order_of : (heights : List ℕ) (height : ℕ) (order : List ℕ) → length heights ≤ height
    → ((i n : ℕ) → slice_get heights i ≡ Some n → n < length heights) → AreInOrder heights height 0 order → IsOrderOf heights order
order_of heights height order all low h =
    let places : (k i : ℕ) → slice_get order k ≡ Some i → i < length heights =
    λ k i at. let old = h.only k i at in slice_get_within heights i old.0 old.1 in
    let few = differing_below order (length heights) (λ k l b below at also.
    let old = h.only k b at in
    not_itself old.0 b (h.rising k l b b old.0 old.0 below at also old.1 old.1)) places in
    let many = all_are_many (length heights) order (λ b below.
    let n = get_or heights b 0 in
    let at : slice_get heights b ≡ Some n = slice_get-get_or heights b 0 below in
    let lower = low b n at in
    let found = h.all b n at (inl (omega arith)) in
    in_from order found.0 b found.1) in
    record {
      as_many = omega (arith, few, many);
      places = places;
      rising = h.rising;
    }
