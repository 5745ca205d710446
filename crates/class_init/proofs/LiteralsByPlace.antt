-- The name of a literal is found by the place of its text, and there is room for one name for each text.
use Rattle.std.proofs.Common.{◌≡◌, ℕ, zero, suc, ◌+◌, ◌<◌, ◌≤◌, ◌⊎◌, inl, inr, Bool, true, false, true≢false, List, [], ◌∷◌, ◌++◌, length, map, find, take, refl, sym, ◌∙◌, ap, arith, Option, Some, None, slice_get, nat_eq, unwrap_or}
use Rattle.std.specs.Prelude.{Contains, bytes_eq}
use Rattle.std.specs.List.{list_any, IsDistinct, AllByRecursion}
use Rattle.std.specs.Map.{lookup, keys_of}
use Rattle.std.specs.Option.{option_map}
use Rattle.std.proofs.lemmas.Bool.{eqb-true, eq-eqb}
use Rattle.std.proofs.lemmas.List.{map-append, length-map, length_push}
use Rattle.std.proofs.lemmas.List.Elements.{Contains-append_right, Contains-get_or, Contains-push_cases}
use Rattle.std.proofs.lemmas.Map.Keys.{IsDistinct-cons}
use Rattle.std.proofs.lemmas.Map.Steps.{length-le_from_distinct_below}
use Rattle.std.proofs.lemmas.Option.{slice_get-get_or, same_Some}
use Rattle.std.proofs.lemmas.Slice.Eq.{bytes_eq-Decides}
use Rattle.indexmap.proofs.CallerLemmas.{Contains-list_any}
use Rattle.list_lemmas.proofs.ItemsByPlace.{comes_from, mapped_at}
use Rattle.list_lemmas.proofs.ItemsOfLists.{Contains-at}
use Rattle.jk_model_domains.specs.OwnStates.{Literal}
use Rattle.jk_model_domains.specs.declared.states.LiteralImage.{LiteralImage}
use Rattle.class_init.specs.Literals.{LiteralTable, literal_of, literal_from, AreNamed}
use Rattle.class_init.proofs.PartOfAClass.{differ_from_distinct}
use Rattle.class_init.proofs.PlacesInLists.{stands_at}

abbrev has_text : List ℕ → Literal → Bool
has_text text l = bytes_eq l.text text

abbrev pub name_of_literal : Literal → ℕ
name_of_literal l = l.name

abbrev Differ : List (List ℕ) → Type 0
Differ texts = (i j : ℕ) (text : List ℕ) → slice_get texts i ≡ Some text → slice_get texts j ≡ Some text → i ≡ j

abbrev Within : List (List ℕ) → List (ℕ × ℕ) → Type 0
Within texts names = (place : ℕ) → Contains (keys_of names) place → place < length texts

first_within : (texts : List (List ℕ)) (p : ℕ × ℕ) (names : List (ℕ × ℕ)) → Within texts (p ∷ names) → p.0 < length texts
first_within texts p names h = h p.0 (Contains-get_or (keys_of (p ∷ names)) 0 p.0 (omega arith))

rest_within : (texts : List (List ℕ)) (p : ℕ × ℕ) (names : List (ℕ × ℕ)) → Within texts (p ∷ names) → Within texts names
rest_within texts p names h place has = h place (Contains-append_right (p.0 ∷ []) (keys_of names) place has)

-- the text at a place
pub record TextAt (texts : List (List ℕ)) (p : ℕ × ℕ) : Type 0 where
  pub there : slice_get texts p.0 ≡ Some (literal_of texts p).text

pub text_at : (texts : List (List ℕ)) (p : ℕ × ℕ) → p.0 < length texts → TextAt texts p
text_at texts p low =
    let at = slice_get-get_or texts p.0 [] low in record { there = at ∙ ap (λ (o : Option (List ℕ)). Some (unwrap_or o [])) (sym at) }

pub literal_at : (texts : List (List ℕ)) (p : ℕ × ℕ) (text : List ℕ) → slice_get texts p.0 ≡ Some text
    → (let l : Literal = record { text = text; name = p.1 } in l) ≡ literal_of texts p
literal_at texts p text at =
    let of : List ℕ → Literal = λ t. record { text = t; name = p.1 } in
    ap (λ (o : Option (List ℕ)). of (unwrap_or o [])) (sym at)

-- ---- What is found.

-- a text that isn't known is no literal
pub unknown_unnamed : (texts : List (List ℕ)) (names : List (ℕ × ℕ)) (text : List ℕ) → Within texts names → (Contains texts text → ⊥)
    → find (has_text text) (map (literal_of texts) names) ≡ None
unknown_unnamed texts [] text h absent = refl
unknown_unnamed texts (p ∷ names) text h absent =
    by_test (has_text text (literal_of texts p)) refl (unknown_unnamed texts names text (rest_within texts p names h) absent)
  where
    by_test : (b : Bool) → has_text text (literal_of texts p) ≡ b → find (has_text text) (map (literal_of texts) names) ≡ None
        → find (has_text text) (map (literal_of texts) (p ∷ names)) ≡ None
    by_test true t rest =
        let same : (literal_of texts p).text ≡ text = (bytes_eq-Decides (literal_of texts p).text text).0 t in
        let at = (text_at texts p (first_within texts p names h)).there in
        absurd (absent (Contains-at texts p.0 text (at ∙ ap Some same)))
    by_test false t rest = rw t rest

-- a text is a literal's where its place is
same_tests : (texts : List (List ℕ)) (p : ℕ × ℕ) (text : List ℕ) (place : ℕ) → Differ texts → p.0 < length texts → slice_get texts place ≡ Some text
    → has_text text (literal_of texts p) ≡ nat_eq place p.0
same_tests texts p text place differ low at = by_tests (has_text text (literal_of texts p)) (nat_eq place p.0) refl refl
  where
    by_tests : (a b : Bool) → has_text text (literal_of texts p) ≡ a → nat_eq place p.0 ≡ b → has_text text (literal_of texts p) ≡ nat_eq place p.0
    by_tests true true s t = s ∙ sym t
    by_tests false false s t = s ∙ sym t
    by_tests true false s t =
        let same : (literal_of texts p).text ≡ text = (bytes_eq-Decides (literal_of texts p).text text).0 s in
        let here : place ≡ p.0 = differ place p.0 text at ((text_at texts p low).there ∙ ap Some same) in
        absurd (true≢false (sym (eq-eqb place p.0 here) ∙ t))
    by_tests false true s t =
        let here : place ≡ p.0 = eqb-true place p.0 t in
        let both : Some (literal_of texts p).text ≡ Some text = sym (text_at texts p low).there ∙ ap (slice_get texts) (sym here) ∙ at in
        let same : (literal_of texts p).text ≡ text = same_Some (literal_of texts p).text text both in
        absurd (true≢false (sym ((bytes_eq-Decides (literal_of texts p).text text).1 same) ∙ s))

pub named_by_place : (texts : List (List ℕ)) (names : List (ℕ × ℕ)) (text : List ℕ) (place : ℕ) → Differ texts → Within texts names
    → slice_get texts place ≡ Some text
    → option_map name_of_literal (find (has_text text) (map (literal_of texts) names)) ≡ lookup (nat_eq place) names
named_by_place texts [] text place differ h at = refl
named_by_place texts (p ∷ names) text place differ h at =
    by_test (nat_eq place p.0) refl (same_tests texts p text place differ (first_within texts p names h) at)
    (named_by_place texts names text place differ (rest_within texts p names h) at)
  where
    by_test : (b : Bool) → nat_eq place p.0 ≡ b → has_text text (literal_of texts p) ≡ nat_eq place p.0
        → option_map name_of_literal (find (has_text text) (map (literal_of texts) names)) ≡ lookup (nat_eq place) names
        → option_map name_of_literal (find (has_text text) (map (literal_of texts) (p ∷ names))) ≡ lookup (nat_eq place) (p ∷ names)
    by_test true t same rest = rw (same ∙ t, t) refl
    by_test false t same rest = rw (same ∙ t, t) rest

-- ---- Room for one more.

apart_from : (names : List (ℕ × ℕ)) (place : ℕ) → lookup (nat_eq place) names ≡ None → AllByRecursion (λ y. nat_eq place y ≡ false) (keys_of names)
apart_from [] place e = tt
apart_from (p ∷ names) place e = by_test (nat_eq place p.0) refl (λ t. apart_from names place (rw t at e))
  where
    by_test : (b : Bool) → nat_eq place p.0 ≡ b → (nat_eq place p.0 ≡ false → AllByRecursion (λ y. nat_eq place y ≡ false) (keys_of names))
        → AllByRecursion (λ y. nat_eq place y ≡ false) (keys_of (p ∷ names))
    by_test true t later = let s : Some p.1 ≡ None = rw t at e in cc
    by_test false t later = (t, later t)

pub room_for_one : (texts : List (List ℕ)) (names : List (ℕ × ℕ)) (room place : ℕ) (marks : List Bool) → AreNamed texts names room marks → place < length texts
    → lookup (nat_eq place) names ≡ None → 0 < room
room_for_one texts names room place marks h low none =
    let keys = keys_of names in
    let apart : IsDistinct nat_eq (place ∷ keys) = IsDistinct-cons nat_eq place keys (apart_from names place none) h.apart in
    let few : length (place ∷ keys) ≤ length texts = length-le_from_distinct_below (place ∷ keys) (length texts) apart below in
    let size : length keys ≡ length names = length-map names (λ (p : ℕ × ℕ). p.0) in
    let more : suc (length keys) ≤ length texts = few in
    omega (arith, h.fits, size, more)
  where
    below : (q : ℕ) → list_any (nat_eq q) (place ∷ keys_of names) ≡ true → q < length texts
    below q any = by_test (nat_eq q place) refl
      where
        by_test : (b : Bool) → nat_eq q place ≡ b → q < length texts
        by_test true t = let here : q ≡ place = eqb-true q place t in omega (arith, here, low)
        by_test false t = h.within q (Contains-list_any nat_eq (λ x y e. eqb-true x y e) (keys_of names) q (rw t at any))

pub named_more : (texts : List (List ℕ)) (names : List (ℕ × ℕ)) (room room' place name : ℕ) (marks : List Bool)
    → AreNamed texts names room marks → place < length texts
    → IsDistinct nat_eq (keys_of (names ++ (place, name) ∷ [])) → room ≤ room' + 1 → AreNamed texts (names ++ (place, name) ∷ []) room' marks
named_more texts names room room' place name marks h low apart left = record {
  texts_differ = h.texts_differ;
  within = λ q has. by_place q (Contains-push_cases (keys_of names) place q (rw (map-append (λ (p : ℕ × ℕ). p.0) names ((place, name) ∷ [])) at has));
  apart = apart;
  fits = omega (arith, h.fits, left, length_push names (place, name));
  unmarked = h.unmarked;
}
  where
    by_place : (q : ℕ) → Contains (keys_of names) q ⊎ (place ≡ q) → q < length texts
    by_place q (inl has) = h.within q has
    by_place q (inr same) = rw (← same) low

-- ---- Literals from a list.

pub table_is : (t : LiteralTable) (ls : List Literal) → t.literals ≡ ls → t ≡ record { texts = t.texts; literals = ls }
table_is t ls e = ap (λ (xs : List Literal). let u : LiteralTable = record { texts = t.texts; literals = xs } in u) e

no_literal : (ls : List Literal) (text : List ℕ) → ((j : ℕ) (l : Literal) → slice_get ls j ≡ Some l → l.text ≡ text → ⊥) → find (has_text text) ls ≡ None
no_literal [] text h = refl
no_literal (l ∷ ls) text h = by_test (has_text text l) refl (no_literal ls text (λ j x at same. h (suc j) x at same))
  where
    by_test : (b : Bool) → has_text text l ≡ b → find (has_text text) ls ≡ None → find (has_text text) (l ∷ ls) ≡ None
    by_test true t rest = absurd (h zero l refl ((bytes_eq-Decides l.text text).0 t))
    by_test false t rest = rw t rest

-- what stands among the first items
pub among_first : {X : Type 0} (xs : List X) (n k : ℕ) (x : X) → slice_get (take n xs) k ≡ Some x → (k < n) × (slice_get xs k ≡ Some x)
among_first [] zero k x at = cc
among_first [] (suc n) k x at = cc
among_first (y ∷ xs) zero k x at = cc
among_first (y ∷ xs) (suc n) zero x at = (omega arith, at)
among_first (y ∷ xs) (suc n) (suc k) x at = let rest = among_first xs n k x at in (omega (arith, rest.0), rest.1)

pub fresh_literal : (images : List LiteralImage) (i : ℕ) (x : LiteralImage)
    → ((i j : ℕ) (a b : LiteralImage) → slice_get images i ≡ Some a → slice_get images j ≡ Some b → a.text ≡ b.text → i ≡ j)
    → slice_get images i ≡ Some x → find (has_text x.text) (map literal_from (take i images)) ≡ None
fresh_literal images i x differ at = no_literal (map literal_from (take i images)) x.text others
  where
    others : (j : ℕ) (l : Literal) → slice_get (map literal_from (take i images)) j ≡ Some l → l.text ≡ x.text → ⊥
    others j l there same =
        let y = comes_from literal_from (take i images) j l there in
        let first = among_first images i j y.from y.there in
        let here : j ≡ i = differ j i y.from x first.1 at (ap (λ (z : Literal). z.text) y.gives ∙ same) in
        omega (arith, first.0, here)

-- the place of a name is that of a text
pub key_within : (texts : List (List ℕ)) (names : List (ℕ × ℕ)) (p : ℕ × ℕ) → ((place : ℕ) → Contains (keys_of names) place → place < length texts)
    → Contains names p → p.0 < length texts
key_within texts names p h has =
    let s = stands_at names p has in
    h p.0 (Contains-at (keys_of names) s.place p.0 (mapped_at (λ (q : ℕ × ℕ). q.0) names s.place p s.there))

-- ---- What holds of all literals.

-- where the text of a literal stands
record TextPlace (texts : List (List ℕ)) (names : List (ℕ × ℕ)) (k : ℕ) (l : Literal) : Type 0 where
  from : ℕ × ℕ
  there : slice_get names k ≡ Some from
  text : slice_get texts from.0 ≡ Some l.text

text_place : (texts : List (List ℕ)) (names : List (ℕ × ℕ)) (k : ℕ) (l : Literal) → Within texts names
    → slice_get (map (literal_of texts) names) k ≡ Some l → TextPlace texts names k l
text_place texts names k l within at =
    let x = comes_from (literal_of texts) names k l at in
    let low = key_within texts names x.from within (Contains-at names k x.from x.there) in
    record {
      from = x.from;
      there = x.there;
      text = (text_at texts x.from low).there ∙ ap (λ (y : Literal). Some y.text) x.gives;
    }

-- no two have one text
pub literals_differ : (texts : List (List ℕ)) (names : List (ℕ × ℕ)) (room : ℕ) (marks : List Bool) → AreNamed texts names room marks
    → (i j : ℕ) (a b : Literal) → slice_get (map (literal_of texts) names) i ≡ Some a
    → slice_get (map (literal_of texts) names) j ≡ Some b → a.text ≡ b.text → i ≡ j
literals_differ texts names room marks h i j a b p q e =
    let x = text_place texts names i a h.within p in
    let y = text_place texts names j b h.within q in
    let here : x.from.0 ≡ y.from.0 = h.texts_differ x.from.0 y.from.0 a.text x.text (y.text ∙ ap Some (sym e)) in
    differ_from_distinct (λ (n : ℕ × ℕ). n.0) names h.apart i j x.from y.from x.there y.there here

-- and each text is known
pub text_known : (texts : List (List ℕ)) (names : List (ℕ × ℕ)) (room : ℕ) (marks : List Bool) → AreNamed texts names room marks → (l : Literal)
    → Contains (map (literal_of texts) names) l → Contains texts l.text
text_known texts names room marks h l has =
    let s = stands_at (map (literal_of texts) names) l has in
    let x = text_place texts names s.place l h.within s.there in
    Contains-at texts x.from.0 l.text x.text
