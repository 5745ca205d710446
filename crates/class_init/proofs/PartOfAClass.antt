-- A class's part is found by its number.
use Rattle.std.proofs.Common.{◌≡◌, ℕ, ◌<◌, ◌≤◌, ◌⊎◌, inl, inr, true, List, [], ◌∷◌, length, map, refl, sym, ◌∙◌, ap, arith, Option, Some, None, slice_get, get_or, nat_eq, is_some}
use Rattle.std.specs.Prelude.{MatchOption, position}
use Rattle.std.specs.List.{IsDistinct, list_any}
use Rattle.std.specs.Option.{option_map}
use Rattle.std.proofs.lemmas.Bool.{eqb-true, eq-eqb, cases_lt}
use Rattle.std.proofs.lemmas.List.{length-map, get_or-map}
use Rattle.std.proofs.lemmas.List.Quantifiers.{position-Some}
use Rattle.std.proofs.lemmas.Map.Keys.{apart_from_distinct}
use Rattle.std.proofs.lemmas.Option.{slice_get_within, slice_get-get_or, slice_get-map, get_or_from_slice_get}
use Rattle.jk_model.specs.declared.identifiers.ClassId.{ClassId}
use Rattle.jk_model_domains.specs.declared.states.ClassState.TheVariants as State
use Rattle.jk_model_domains.specs.OwnStates.{ClassPart}
use Rattle.class_init.specs.declared.class_parts.Part.{Part}
use Rattle.class_init.specs.Parts.{AreNumbered, class_part, class_number, part_in, IsPartAt}
use Rattle.class_init.proofs.ByKey.{Differ, none_among, found_at}

pub same_class : (a b : ClassId) → a.0 ≡ b.0 → a ≡ b
same_class a b e = let of : (m n : ℕ) → m ≡ n → (let x : ClassId = record { 0 = m } in x) ≡ record { 0 = n } = λ m n q. cc in of a.0 b.0 e

abbrev pub number : ClassPart → ℕ
number e = e.class.0

numbers_of : (ps : List Part) → map number (map class_part ps) ≡ map class_number ps
numbers_of [] = refl
numbers_of (p ∷ ps) = ap (λ (ns : List ℕ). p.class.0 ∷ ns) (numbers_of ps)

-- where numbers differ, so do the items that have them
pub differ_from_distinct : {X : Type 0} (key : X → ℕ) (xs : List X) → IsDistinct nat_eq (map key xs) → Differ key xs
differ_from_distinct {X = X} key xs h i j a b p q e = by_order (cases_lt i j) (cases_lt j i)
  where
    apart : (i j : ℕ) (a b : X) → slice_get xs i ≡ Some a → slice_get xs j ≡ Some b → key a ≡ key b → i < j → ⊥
    apart i j a b p q e low =
        let high : j < length (map key xs) = rw length-map (slice_get_within xs j b q) in
        let one : get_or (map key xs) i (key a) ≡ key a =
        get_or-map key xs i a (key a) (slice_get_within xs i a p) ∙ ap key (get_or_from_slice_get xs i a a p) in
        let two : get_or (map key xs) j (key a) ≡ key b =
        get_or-map key xs j a (key a) (slice_get_within xs j b q) ∙ ap key (get_or_from_slice_get xs j b a q) in
        let no = apart_from_distinct nat_eq (map key xs) i j (key a) h low high in
        let yes : nat_eq (get_or (map key xs) i (key a)) (get_or (map key xs) j (key a)) ≡ true = rw (one, two) (eq-eqb (key a) (key b) e) in
        cc

    by_order : (i < j) ⊎ (j ≤ i) → (j < i) ⊎ (i ≤ j) → i ≡ j
    by_order (inl low) r = absurd (apart i j a b p q e low)
    by_order (inr low) (inl high) = absurd (apart j i b a q p (sym e) high)
    by_order (inr low) (inr high) = omega (arith, low, high)

pub parts_differ : (ps : List Part) (numbers : List ℕ) → AreNumbered ps numbers → Differ number (map class_part ps)
parts_differ ps numbers h =
    differ_from_distinct number (map class_part ps) (rw (numbers_of ps, ← h.are) h.apart)

-- the class's part is the one that has its number, wherever that stands
pub part_at : (ps lent : List Part) (numbers : List ℕ) (c : ClassId) (place : ℕ) (p : Part) → AreNumbered ps numbers → lent ≡ ps
    → slice_get lent place ≡ Some p → p.class.0 ≡ c.0 → IsPartAt (map class_part ps) c place
part_at ps lent numbers c place p h is at same =
    let here : slice_get ps place ≡ Some p = ap (λ (xs : List Part). slice_get xs place) (sym is) ∙ at in
    let there : slice_get (map class_part ps) place ≡ Some (class_part p) = slice_get-map class_part ps place ∙ ap (option_map class_part) here in
    record {
      part = class_part p;
      there = there;
      is = same_class p.class c same;
      found = found_at number (map class_part ps) place c.0 (class_part p) (parts_differ ps numbers h) there same;
    }

abbrev pub IsPlaceOf : List ClassPart → ClassId → Option ℕ → Type 0
IsPlaceOf parts c r = MatchOption r (part_in parts c ≡ None) (λ place. IsPartAt parts c place)

pub place_of_class : (ps : List Part) (numbers : List ℕ) (c : ClassId) (r : Option ℕ) → AreNumbered ps numbers → r ≡ position (nat_eq c.0) numbers
    → is_some r ≡ list_any (nat_eq c.0) numbers → IsPlaceOf (map class_part ps) c r
place_of_class ps numbers c None h at found =
    none_among number (map class_part ps) c.0 (rw (numbers_of ps, ← h.are) (sym found))
place_of_class ps numbers c (Some i) h at found =
    let parts = map class_part ps in
    let here : position (nat_eq c.0) (map number parts) ≡ Some i = rw (numbers_of ps, ← h.are) (sym at) in
    let p = position-Some (nat_eq c.0) (map number parts) i c.0 here in
    let low : i < length parts = rw length-map at p.0 in
    found_part parts i low (parts_differ ps numbers h) (eqb-true c.0 (get_or (map number parts) i c.0) p.1)
  where
    found_part : (parts : List ClassPart) (i : ℕ) → i < length parts → Differ number parts → c.0 ≡ get_or (map number parts) i c.0 → IsPartAt parts c i
    found_part parts i low differ is =
        let d : ClassPart = record { class = c; state = State.Done; statics = [] } in
        let there : get_or (map number parts) i c.0 ≡ number (get_or parts i d) = get_or-map number parts i d c.0 low in
        let same : number (get_or parts i d) ≡ c.0 = sym (is ∙ there) in
        let at : slice_get parts i ≡ Some (get_or parts i d) = slice_get-get_or parts i d low in
        record {
          part = get_or parts i d;
          there = at;
          is = same_class (get_or parts i d).class c same;
          found = found_at number parts i c.0 (get_or parts i d) differ at same;
        }
