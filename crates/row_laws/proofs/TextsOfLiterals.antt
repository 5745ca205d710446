-- The constant texts of a class that have no object yet: each stands there once, and literals of them get names from any name on.
use Rattle.std.proofs.Common.{◌≡◌, ◌≢◌, ℕ, zero, suc, ◌+◌, Bool, true, false, not, cond, List, [], ◌∷◌, length, map, filter, Option, Some, None, slice_get, refl, sym, ap, ◌∙◌, arith}
use Rattle.std.specs.Prelude.{bytes_eq, if◌then◌else◌, sum_by}
use Rattle.std.specs.List.{AllByRecursion, filter_map}
use Rattle.std.specs.Option.{option_map_or}
use Rattle.std.proofs.lemmas.List.Sums.{sum_by-cons}
use Rattle.std.proofs.lemmas.Option.{same_Some}
use Rattle.std.proofs.lemmas.Slice.Eq.{bytes_eq-Decides}
use Rattle.list_lemmas.proofs.ItemsOfLists.{each-weaker}
use Rattle.list_lemmas.proofs.TestsAndOrders.{so_not}
use Rattle.jk_model.specs.Flags.{has, STATIC}
use Rattle.jk_model_classes.specs.declared.records.ClassRecord.{ClassRecord}
use Rattle.jk_model_classes.specs.declared.records.FieldRecord.{FieldRecord}
use Rattle.jk_model_classes.specs.declared.records.Link.{Link}
use Rattle.jk_model_classes.specs.declared.records.Link.TheVariants as To
use Rattle.jk_model_classes.specs.Layouts.{HEADER_WORDS}
use Rattle.jk_model_domains.specs.Objects.{NamedObject, object_words}
use Rattle.jk_model_domains.specs.OwnStates.{Literal, OwnState, literal_named}
use Rattle.jk_model_heaps.specs.Heaps.{heap_words}
use Rattle.jk_model_heap_rows.specs.Constants.{new_texts, text_object}

-- ---- Lists that are filtered.

module _ {X : Type 0} where
  passed_by : (p : X → Bool) (x : X) (xs : List X) (b : Bool) → p x ≡ b → AllByRecursion (λ (y : X). p y ≡ true) xs
      → AllByRecursion (λ (y : X). p y ≡ true) (cond b (x ∷ xs) xs)
  passed_by p x xs true e h = (e, h)
  passed_by p x xs false e h = h

  -- what is left passes
  filter_passes : (p : X → Bool) (xs : List X) → AllByRecursion (λ (y : X). p y ≡ true) (filter p xs)
  filter_passes p [] = tt
  filter_passes p (x ∷ xs) = passed_by p x (filter p xs) (p x) refl (filter_passes p xs)

  kept_by : (P : X → Type 0) (x : X) (xs : List X) (b : Bool) → P x → AllByRecursion P xs → AllByRecursion P (cond b (x ∷ xs) xs)
  kept_by P x xs true h k = (h, k)
  kept_by P x xs false h k = k

  filter_keeps : (P : X → Type 0) (p : X → Bool) (xs : List X) → AllByRecursion P xs → AllByRecursion P (filter p xs)
  filter_keeps P p [] h = tt
  filter_keeps P p (x ∷ xs) h = kept_by P x (filter p xs) (p x) h.0 (filter_keeps P p xs h.1)

-- ---- Each text once.

abbrev Text : Type 0
Text = List ℕ

abbrev pub IsOther : Text → Text → Type 0
IsOther text other = other ≢ text

abbrev AreOnce : List Text → Type 0
AreOnce [] = Unit {0}
AreOnce (text ∷ more) = AllByRecursion (IsOther text) more × AreOnce more

once_by : (text : Text) (more : List Text) (b : Bool) → AllByRecursion (IsOther text) more → AreOnce more → AreOnce (cond b (text ∷ more) more)
once_by text more true others once = (others, once)
once_by text more false others once = once

filter_once : (p : Text → Bool) (texts : List Text) → AreOnce texts → AreOnce (filter p texts)
filter_once p [] h = tt
filter_once p (text ∷ more) h =
    once_by text (filter p more) (p text) (filter_keeps (IsOther text) p more h.0) (filter_once p more h.1)

abbrev is_other : Text → Text → Bool
is_other text other = not (bytes_eq other text)

other_by : (text other : Text) → is_other text other ≡ true → IsOther text other
other_by text other passes same = so_not (bytes_eq other text) passes ((bytes_eq-Decides other text).1 same)

-- each text at the place where it comes first
abbrev firsts : List Text → List Text
firsts [] = []
firsts (text ∷ more) = text ∷ filter (is_other text) (firsts more)

firsts_once : (texts : List Text) → AreOnce (firsts texts)
firsts_once [] = tt
firsts_once (text ∷ more) = (
  each-weaker (λ (other : Text). is_other text other ≡ true) (IsOther text) (other_by text) (filter (is_other text) (firsts more))
      (filter_passes (is_other text) (firsts more)),
  filter_once (is_other text) (firsts more) (firsts_once more),
)

-- ---- Texts that have no object.

abbrev LacksObject : OwnState → Text → Type 0
LacksObject own text = literal_named own text ≡ None

-- each once, and none has an object
abbrev pub AreNewTexts : OwnState → List Text → Type 0
AreNewTexts own [] = Unit {0}
AreNewTexts own (text ∷ more) = LacksObject own text × AllByRecursion (IsOther text) more × AreNewTexts own more

both_new : (own : OwnState) (texts : List Text) → AllByRecursion (LacksObject own) texts → AreOnce texts → AreNewTexts own texts
both_new own [] lack once = tt
both_new own (text ∷ more) lack once = (lack.0, once.0, both_new own more lack.1 once.1)

pub lacks_by : (o : Option ℕ) → option_map_or (λ (a : ℕ). false) o true ≡ true → o ≡ None
lacks_by None e = refl
lacks_by (Some a) e = absurd cc

abbrev text_said : Link → Option Text
text_said (To.Text text) = Some text
text_said link = None

-- the constant text of a static field
abbrev static_said : FieldRecord → Option Text
static_said f = if has f.flags STATIC then text_said f.constant else None

abbrev lacks_object : OwnState → Text → Bool
lacks_object own text = option_map_or (λ (a : ℕ). false) (literal_named own text) true

new_among : (own : OwnState) (texts : List Text) → AreNewTexts own (filter (lacks_object own) (firsts texts))
new_among own texts =
    both_new own (filter (lacks_object own) (firsts texts))
    (each-weaker (λ (text : Text). lacks_object own text ≡ true) (LacksObject own) (λ text passes. lacks_by (literal_named own text) passes)
    (filter (lacks_object own) (firsts texts)) (filter_passes (lacks_object own) (firsts texts)))
    (filter_once (lacks_object own) (firsts texts) (firsts_once texts))

pub texts_are_new : (own : OwnState) (r : ClassRecord) → AreNewTexts own (new_texts own r)
texts_are_new own r = new_among own (filter_map static_said r.fields)

-- ---- Literals of them, whose names rise from one on.

abbrev pub literals_from : ℕ → List Text → List Literal
literals_from n [] = []
literals_from n (text ∷ more) = record { text = text; name = n } ∷ literals_from (suc n) more

pub texts_from : (n : ℕ) (texts : List Text) → map (λ (l : Literal). l.text) (literals_from n texts) ≡ texts
texts_from n [] = refl
texts_from n (text ∷ more) = ap (λ (others : List Text). text ∷ others) (texts_from (suc n) more)

-- the object at a place has so high a name
pub name_at : (n : ℕ) (texts : List Text) (i : ℕ) (e : NamedObject) → slice_get (map text_object (literals_from n texts)) i ≡ Some e → e.name ≡ n + i
name_at n [] i e at = absurd cc
name_at n (text ∷ more) zero e at =
    let same : text_object (record { text = text; name = n }) ≡ e = same_Some (text_object (record { text = text; name = n })) e at in
    let number : n ≡ e.name = ap (λ (y : NamedObject). y.name) same in
    omega (arith, number)
name_at n (text ∷ more) (suc i) e at = let later = name_at (suc n) more i e at in omega (arith, later)

abbrev pub text_words : Text → ℕ
text_words text = HEADER_WORDS + length text

pub words_from : (classes : List ClassRecord) (n : ℕ) (texts : List Text)
    → heap_words classes (map text_object (literals_from n texts)) ≡ sum_by text_words texts
words_from classes n [] = refl
words_from classes n (text ∷ more) =
    let first : NamedObject = text_object (record { text = text; name = n }) in
    sum_by-cons (λ (e : NamedObject). object_words classes e.object) first (map text_object (literals_from (suc n) more))
    ∙ ap (λ (k : ℕ). text_words text + k) (words_from classes (suc n) more) ∙ sym (sum_by-cons text_words text more)
