-- A list with one item more, anywhere.
use Rattle.std.proofs.Common.{◌≡◌, ◌≢◌, zero, suc, ◌+◌, ◌⊎◌, inl, inr, Bool, List, [], ◌∷◌, ◌++◌, length, filter, Contains, refl, sym, ap, subst, ◌∙◌, arith, append_assoc, append-nil}
use Rattle.std.proofs.lemmas.Bool.{cases_Bool}
use Rattle.std.proofs.lemmas.Option.{same_Some}
use Rattle.std.proofs.lemmas.List.Elements.{Contains-append_cases, Contains-append_left, Contains-append_right}
use Rattle.list_lemmas.proofs.ItemsOfLists.{Contains-at, Contains-cases, Contains-here, Contains-there, place_of}
use Rattle.thread_segments.proofs.Remaining.{DifferBy}
use Rattle.thread_stacks.proofs.Filtered.{one_if}

pub record HasOneMore {X : Type 0} (n : X) (xs ys : List X) : Type 0 where
  pub front : List X
  pub back : List X
  pub old : xs ≡ front ++ back
  pub new : ys ≡ front ++ n ∷ back

module _ {X : Type 0} (n : X) where
  pub last_more : (xs : List X) → HasOneMore n xs (xs ++ n ∷ [])
  last_more xs = record { front = xs; back = []; old = sym (append-nil xs); new = refl }

  pub more_behind : (zs xs ys : List X) → HasOneMore n xs ys → HasOneMore n (zs ++ xs) (zs ++ ys)
  more_behind zs xs ys h = record {
    front = zs ++ h.front;
    back = h.back;
    old = ap (λ us. zs ++ us) h.old ∙ sym (append_assoc zs h.front h.back);
    new = ap (λ us. zs ++ us) h.new ∙ sym (append_assoc zs h.front (n ∷ h.back));
  }

  pub more_in_front : (zs xs ys : List X) → HasOneMore n xs ys → HasOneMore n (xs ++ zs) (ys ++ zs)
  more_in_front zs xs ys h = record {
    front = h.front;
    back = h.back ++ zs;
    old = ap (λ us. us ++ zs) h.old ∙ append_assoc h.front h.back zs;
    new = ap (λ us. us ++ zs) h.new ∙ append_assoc h.front (n ∷ h.back) zs;
  }

  one_of : (front back : List X) (y : X) → Contains (front ++ n ∷ back) y → (n ≡ y) ⊎ Contains (front ++ back) y
  one_of front back y there = elim (Contains-append_cases front (n ∷ back) y there) [
    | inl early ↦ inr (Contains-append_left front back y early)
    | inr late ↦ elim (Contains-cases y n back late) [
      | inl here ↦ inl here
      | inr behind ↦ inr (Contains-append_right front back y behind)
    ]
  ]

  pub new_or_old : (xs ys : List X) (y : X) → HasOneMore n xs ys → Contains ys y → (n ≡ y) ⊎ Contains xs y
  new_or_old xs ys y h there =
      let P : List X → Type 0 = λ us. Contains us y in
      elim (one_of h.front h.back y (subst P h.new there)) [ inl here ↦ inl here | inr old ↦ inr (subst P (sym h.old) old) ]

  passes_more : (p : X → Bool) (front back : List X) → length (filter p (front ++ n ∷ back)) ≡ length (filter p (front ++ back)) + one_if (p n)
  passes_more p [] back = elim (cases_Bool (p n)) [ inl hit ↦ rw hit (omega arith) | inr miss ↦ rw miss (omega arith) ]
  passes_more p (x ∷ front) back =
      let rest = passes_more p front back in
      elim (cases_Bool (p x)) [ inl hit ↦ rw hit (omega (arith, rest)) | inr miss ↦ rw miss rest ]

  pub one_passes : (p : X → Bool) (xs ys : List X) → HasOneMore n xs ys → length (filter p ys) ≡ length (filter p xs) + one_if (p n)
  one_passes p xs ys h = rw (h.new, h.old) (passes_more p h.front h.back)

  module _ {K : Type 0} (key : X → K) where
    -- one that has another key than all the others goes in front
    differ_first : (x : X) (xs : List X) → DifferBy key xs → ((y : X) → Contains xs y → key x ≢ key y) → DifferBy key (x ∷ xs)
    differ_first x xs d other zero zero u v p q same = refl
    differ_first x xs d other zero (suc j) u v p q same = absurd (other v (Contains-at xs j v q) (ap key (same_Some x u p) ∙ same))
    differ_first x xs d other (suc i) zero u v p q same = absurd (other u (Contains-at xs i u p) (ap key (same_Some x v q) ∙ sym same))
    differ_first x xs d other (suc i) (suc j) u v p q same = ap suc (d i j u v p q same)

    differ_rest : (x : X) (xs : List X) → DifferBy key (x ∷ xs) → DifferBy key xs
    differ_rest x xs h i j a b p q same = let e = h (suc i) (suc j) a b p q same in omega (arith, e)

    first_differs : (x : X) (xs : List X) → DifferBy key (x ∷ xs) → (y : X) → Contains xs y → key x ≢ key y
    first_differs x xs h y there same =
        let at = place_of xs y there in
        let e = h zero (suc at.0) x y refl at.1 same in
        omega (arith, e)

    differ_with : (front back : List X) → DifferBy key (front ++ back) → ((y : X) → Contains (front ++ back) y → key n ≢ key y)
        → DifferBy key (front ++ n ∷ back)
    differ_with [] back d other = differ_first n back d other
    differ_with (x ∷ front) back d other =
        differ_first x (front ++ n ∷ back)
        (differ_with front back (differ_rest x (front ++ back) d) (λ y there. other y (Contains-there y x (front ++ back) there)))
        (λ y there. apart y (one_of front back y there))
      where
        apart : (y : X) → (n ≡ y) ⊎ Contains (front ++ back) y → key x ≢ key y
        apart y (inl here) same = other x (Contains-here x (front ++ back)) (ap key here ∙ sym same)
        apart y (inr old) same = first_differs x (front ++ back) d y old same

    pub differ_more : (xs ys : List X) → HasOneMore n xs ys → DifferBy key xs → ((y : X) → Contains xs y → key n ≢ key y) → DifferBy key ys
    differ_more xs ys h d other =
        let P : List X → Type 0 = λ us. DifferBy key us in
        let Q : List X → Type 0 = λ us. (y : X) → Contains us y → key n ≢ key y in
        subst P (sym h.new) (differ_with h.front h.back (subst P h.old d) (subst Q h.old other))
