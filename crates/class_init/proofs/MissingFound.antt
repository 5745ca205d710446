-- What is found of a field's missing text, and what marks say of the missing texts of several fields.
use Rattle.std.proofs.Common.{◌≡◌, ◌∙◌, ℕ, ◌+◌, ◌-◌, ◌^◌, ◌<◌, ◌⊎◌, inl, inr, Bool, true, false, is_some, List, [], ◌∷◌, ◌++◌, length, min, Some, None, map, replicate, slice_get, set, sym, ap, subst, arith, sum_by}
use Rattle.std.specs.Prelude.{Contains, nat_eq, ◌↔◌}
use Rattle.std.specs.Map.{keys_of, lookup}
use Rattle.std.proofs.lemmas.List.Elements.{Contains-append_left, Contains-append_right, Contains-push_cases}
use Rattle.std.proofs.lemmas.Option.{same_Some}
use Rattle.list_lemmas.proofs.ItemsOfLists.{Contains-at, Contains-cases, Contains-here, Contains-none, place_of}
use Rattle.list_lemmas.proofs.ItemsRead.{none_marked}
use Rattle.jk_model_classes.specs.declared.records.FieldRecord.{FieldRecord}
use Rattle.jk_model_classes.specs.declared.records.Link.{Link}
use Rattle.jk_model_classes.specs.declared.records.Link.TheVariants as To
use Rattle.jk_model_domains.specs.OwnStates.{OwnState, literal_named}
use Rattle.class_init.specs.Literals.{literal_of}
use Rattle.class_init.specs.MissingTexts.{AreMissing, HasTextConstant, IsCostOfMissing, IsMissing, IsMissingAt, IsMissingOfSome, IsMissingPlace, marked, text_words}
use Rattle.class_init.proofs.LiteralsByPlace.{named_by_place}
use Rattle.class_init.proofs.MarkedTexts.{Differ, is_marked, marked_at, marked_differ, marked_then}

abbrev Within : List (List ℕ) → List (ℕ × ℕ) → Type 0
Within texts names = (place : ℕ) → Contains (keys_of names) place → place < length texts

-- ---- One field.

abbrev text_of_link : Link → List ℕ
text_of_link (To.Text text) = text
text_of_link link = []

-- a field has one constant
pub one_text : (f : FieldRecord) (a b : List ℕ) → HasTextConstant f a → HasTextConstant f b → a ≡ b
one_text f a b p q = ap text_of_link (sym p.is ∙ q.is)

-- the text stands at one place
pub missing_place : (texts : List (List ℕ)) (names : List (ℕ × ℕ)) (f : FieldRecord) (text : List ℕ) (place : ℕ) → Differ texts
    → HasTextConstant f text → slice_get texts place ≡ Some text → lookup (nat_eq place) names ≡ None → IsMissingPlace texts names f place
missing_place texts names f text place differ has there free k = (forth, back)
  where
    forth : IsMissingAt texts names f k → k ≡ place
    forth m = differ k place text (m.there ∙ ap Some (one_text f m.text text m.has has)) there

    back : k ≡ place → IsMissingAt texts names f k
    back e = rw e (record { text = text; there = there; has = has; free = free })

-- where the place has a name, no text is missing
pub named_place : (texts : List (List ℕ)) (names : List (ℕ × ℕ)) (f : FieldRecord) (text : List ℕ) (place : ℕ) → Differ texts
    → HasTextConstant f text → slice_get texts place ≡ Some text → is_some (lookup (nat_eq place) names) ≡ true
    → (k : ℕ) → IsMissingAt texts names f k → ⊥
named_place texts names f text place differ has there taken k m =
    let here : k ≡ place = differ k place text (m.there ∙ ap Some (one_text f m.text text m.has has)) there in
    let free : lookup (nat_eq place) names ≡ None = rw here at m.free in
    let e : is_some (lookup (nat_eq place) names) ≡ false = ap is_some free in
    cc

-- nor where the text isn't known, or the field has none
pub unknown_place : (texts : List (List ℕ)) (names : List (ℕ × ℕ)) (f : FieldRecord) (text : List ℕ) → HasTextConstant f text
    → (Contains texts text → ⊥) → (k : ℕ) → IsMissingAt texts names f k → ⊥
unknown_place texts names f text has absent k m =
    absurd (absent (Contains-at texts k text (m.there ∙ ap Some (one_text f m.text text m.has has))))

pub no_text_place : (texts : List (List ℕ)) (names : List (ℕ × ℕ)) (f : FieldRecord) → ((text : List ℕ) → HasTextConstant f text → ⊥)
    → (k : ℕ) → IsMissingAt texts names f k → ⊥
no_text_place texts names f none k m = none m.text m.has

-- where the place that is missing gets a mark, that of the field is marked, and what was
pub marked_by_place : (texts : List (List ℕ)) (names : List (ℕ × ℕ)) (f : FieldRecord) (old new : List Bool) (place : ℕ) → place < length old
    → new ≡ set old place true → IsMissingPlace texts names f place
    → (k : ℕ) → (slice_get new k ≡ Some true) ↔ ((slice_get old k ≡ Some true) ⊎ IsMissingAt texts names f k)
marked_by_place texts names f old new place low is at k = (forth, back)
  where
    forth : slice_get new k ≡ Some true → (slice_get old k ≡ Some true) ⊎ IsMissingAt texts names f k
    forth on = elim ((marked_then old place k low).0 (rw is at on)) [
      | inl was ↦ inl was
      | inr here ↦ inr ((at k).1 here)
    ]

    back : (slice_get old k ≡ Some true) ⊎ IsMissingAt texts names f k → slice_get new k ≡ Some true
    back (inl was) = rw is ((marked_then old place k low).1 (inl was))
    back (inr m) = rw is ((marked_then old place k low).1 (inr ((at k).0 m)))

-- ---- Several fields.

-- with one field more, what was missing is, and what of that field is
pub of_some_more : (texts : List (List ℕ)) (names : List (ℕ × ℕ)) (fs : List FieldRecord) (f : FieldRecord) (place : ℕ)
    → IsMissingOfSome texts names (fs ++ f ∷ []) place ↔ (IsMissingOfSome texts names fs place ⊎ IsMissingAt texts names f place)
of_some_more texts names fs f place = (forth, back)
  where
    forth : IsMissingOfSome texts names (fs ++ f ∷ []) place → IsMissingOfSome texts names fs place ⊎ IsMissingAt texts names f place
    forth h = elim (Contains-push_cases fs f h.0 h.1) [
      | inl among ↦ inl (h.0, among, h.2)
      | inr same ↦ inr (rw same h.2)
    ]

    back : IsMissingOfSome texts names fs place ⊎ IsMissingAt texts names f place → IsMissingOfSome texts names (fs ++ f ∷ []) place
    back (inl h) = (h.0, Contains-append_left fs (f ∷ []) h.0 h.1, h.2)
    back (inr m) = (f, Contains-append_right fs (f ∷ []) f (Contains-here f []), m)

-- the marks are those of the missing texts of these fields
abbrev pub AreOf : List (List ℕ) → List (ℕ × ℕ) → List FieldRecord → List Bool → Type 0
AreOf texts names fields marks = (place : ℕ) → (slice_get marks place ≡ Some true) ↔ IsMissingOfSome texts names fields place

pub of_no_fields : (texts : List (List ℕ)) (names : List (ℕ × ℕ)) (n : ℕ) → AreOf texts names [] (replicate n false)
of_no_fields texts names n place = (λ on. absurd (none_marked n place on), λ h. absurd (Contains-none h.0 h.1))

pub of_one_more : (texts : List (List ℕ)) (names : List (ℕ × ℕ)) (fs : List FieldRecord) (f : FieldRecord) (old new : List Bool)
    → AreOf texts names fs old
    → ((place : ℕ) → (slice_get new place ≡ Some true) ↔ ((slice_get old place ≡ Some true) ⊎ IsMissingAt texts names f place))
    → AreOf texts names (fs ++ f ∷ []) new
of_one_more texts names fs f old new h step place = (
  λ on. (of_some_more texts names fs f place).1 (was ((step place).0 on)),
  λ some. (step place).1 (is ((of_some_more texts names fs f place).0 some)),
)
  where
    was : (slice_get old place ≡ Some true) ⊎ IsMissingAt texts names f place → IsMissingOfSome texts names fs place ⊎ IsMissingAt texts names f place
    was (inl on) = inl ((h place).0 on)
    was (inr m) = inr m

    is : IsMissingOfSome texts names fs place ⊎ IsMissingAt texts names f place → (slice_get old place ≡ Some true) ⊎ IsMissingAt texts names f place
    is (inl some) = inl ((h place).1 some)
    is (inr m) = inr m

-- the marks that are left are among those of these fields
abbrev pub AreAmong : List (List ℕ) → List (ℕ × ℕ) → List FieldRecord → List Bool → Type 0
AreAmong texts names fields marks = (place : ℕ) → slice_get marks place ≡ Some true → IsMissingOfSome texts names fields place

pub among_one_less : (texts : List (List ℕ)) (names : List (ℕ × ℕ)) (fs : List FieldRecord) (f : FieldRecord) (old new : List Bool)
    → AreAmong texts names (f ∷ fs) old
    → ((place : ℕ) → slice_get new place ≡ Some true → (slice_get old place ≡ Some true) × (IsMissingAt texts names f place → ⊥))
    → AreAmong texts names fs new
among_one_less texts names fs f old new h step place on =
    let s = step place on in
    let m = h place s.0 in
    elim (Contains-cases m.0 f fs m.1) [
      | inl same ↦ absurd (s.1 (rw same m.2))
      | inr later ↦ (m.0, later, m.2)
    ]

-- ---- The marked texts are the missing ones.

pub marked_are_missing : (own : OwnState) (texts : List (List ℕ)) (names : List (ℕ × ℕ)) (fields : List FieldRecord) (marks : List Bool)
    → Differ texts → Within texts names → own.literals ≡ map (literal_of texts) names
    → ((f : FieldRecord) (text : List ℕ) → Contains fields f → HasTextConstant f text → Contains texts text)
    → AreOf texts names fields marks → AreMissing own fields (marked texts marks)
marked_are_missing own texts names fields marks differ within literals known of = record {
  each = λ text. (forth text, back text);
  differ = marked_differ texts marks differ;
}
  where
    named_there : (text : List ℕ) (place : ℕ) → slice_get texts place ≡ Some text → literal_named own text ≡ lookup (nat_eq place) names
    named_there text place at = rw literals (named_by_place texts names text place differ within at)

    forth : (text : List ℕ) → Contains (marked texts marks) text → IsMissing own fields text
    forth text has =
        let m = marked_at texts marks text has in
        let s = (of m.place).0 m.mark in
        let same : s.2.text ≡ text = same_Some s.2.text text (sym s.2.there ∙ m.there) in
        record {
          field = s.0;
          among = s.1;
          has = subst (HasTextConstant s.0) same s.2.has;
          no_object = named_there text m.place m.there ∙ s.2.free;
        }

    back : (text : List ℕ) → IsMissing own fields text → Contains (marked texts marks) text
    back text h =
        let p = place_of texts text (known h.field text h.among h.has) in
        let free : lookup (nat_eq p.0) names ≡ None = sym (named_there text p.0 p.1) ∙ h.no_object in
        let at : IsMissingAt texts names h.field p.0 = record { text = text; there = p.1; has = h.has; free = free } in
        is_marked texts marks p.0 text p.1 ((of p.0).1 (h.field, h.among, at))

pub cost_of_marked : (own : OwnState) (texts : List (List ℕ)) (names : List (ℕ × ℕ)) (fields : List FieldRecord) (marks : List Bool) (words : ℕ)
    → AreMissing own fields (marked texts marks) → words ≡ min (sum_by text_words (marked texts marks)) (2 ^ 64 - 1) → IsCostOfMissing own fields words
cost_of_marked own texts names fields marks words are sum = record { texts = marked texts marks; are = are; sum = sum }

-- sums that end at a top
pub sum_more : (words n old new top : ℕ) → words ≡ min old top → new ≡ old + n → min (words + n) top ≡ min new top
sum_more words n old new top e more = omega (arith, e, more)
