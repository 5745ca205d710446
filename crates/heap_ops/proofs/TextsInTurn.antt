-- The constant texts of a class that have no object yet, with one field more.
use Rattle.std.proofs.Common.{append_assoc, inl, inr, ◌≡◌, ◌⊎◌, ℕ, ◌-◌, ◌^◌, min, Bool, true, false, not, cond, List, [], ◌∷◌, ◌++◌, map, find, filter, Contains, Option, Some, None, option_map, refl, sym, ap, subst, ◌∙◌}
use Rattle.std.specs.Prelude.{bytes_eq, if◌then◌else◌, sum_by}
use Rattle.std.specs.List.{cons_option, filter_map}
use Rattle.std.specs.Option.{option_map_or}
use Rattle.std.proofs.lemmas.List.{append-nil}
use Rattle.std.proofs.lemmas.List.Elements.{filter-append, filter_map-append}
use Rattle.std.proofs.lemmas.Option.{same_Some}
use Rattle.std.proofs.lemmas.Slice.Eq.{bytes_eq-Decides}
use Rattle.list_lemmas.proofs.ItemsOfLists.{Contains-cases, Contains-here, Contains-none, Contains-there}
use Rattle.list_lemmas.proofs.TestsAndOrders.{so_not}
use Rattle.jk_model.specs.Flags.{has, STATIC}
use Rattle.jk_model_classes.specs.declared.records.ClassRecord.{ClassRecord}
use Rattle.jk_model_classes.specs.declared.records.FieldRecord.{FieldRecord}
use Rattle.jk_model_classes.specs.declared.records.Link.{Link}
use Rattle.jk_model_classes.specs.declared.records.Link.TheVariants as To
use Rattle.jk_model_domains.specs.OwnStates.{Literal, OwnState, literal_named}
use Rattle.class_init.proofs.SameElements.{AllDiffer, all_differ}
use Rattle.jk_model_heap_rows.specs.Constants.{new_texts}
use Rattle.class_init.specs.MissingTexts.{HasTextConstant, IsCostOfMissing, IsMissing, text_words}
use Rattle.row_laws.proofs.TextsOfLiterals.{lacks_by}
use Rattle.heap_ops.proofs.CostsOfTexts.{same_sum}

abbrev Text : Type 0
Text = List ℕ

-- ---- Each text once.

abbrev is_other : Text → Text → Bool
is_other text other = not (bytes_eq other text)

-- each text at the place where it comes first
abbrev firsts : List Text → List Text
firsts [] = []
firsts (text ∷ more) = text ∷ filter (is_other text) (firsts more)

abbrev has_text : List Text → Text → Bool
has_text [] t = false
has_text (x ∷ xs) t = cond (bytes_eq t x) true (has_text xs t)

abbrev added : Bool → Text → List Text
added true t = []
added false t = t ∷ []

one_left : (x t : Text) (b s : Bool) → bytes_eq t x ≡ s → filter (is_other x) (added b t) ≡ added (cond s true b) t
one_left x t true true e = refl
one_left x t true false e = refl
one_left x t false true e = ap (λ (y : Bool). cond (not y) (t ∷ []) []) e
one_left x t false false e = ap (λ (y : Bool). cond (not y) (t ∷ []) []) e

firsts_added : (xs : List Text) (t : Text) → firsts (xs ++ t ∷ []) ≡ firsts xs ++ added (has_text xs t) t
firsts_added [] t = refl
firsts_added (x ∷ xs) t =
    ap (λ (l : List Text). x ∷ filter (is_other x) l) (firsts_added xs t)
    ∙ ap (λ (l : List Text). x ∷ l) (filter-append (is_other x) (firsts xs) (added (has_text xs t) t)
    ∙ ap (λ (l : List Text). filter (is_other x) (firsts xs) ++ l) (one_left x t (has_text xs t) (bytes_eq t x) refl))

kept_by : (p : Text → Bool) (x t : Text) (xs : List Text) (b : Bool) → p x ≡ b → (x ≡ t) ⊎ Contains xs t → p t ≡ true → Contains (cond b (x ∷ xs) xs) t
kept_by p x t xs true e (inl same) passes = subst (Contains (x ∷ xs)) same (Contains-here x xs)
kept_by p x t xs true e (inr there) passes = Contains-there t x xs there
kept_by p x t xs false e (inl same) passes = absurd (let no = sym (ap p same ∙ passes) ∙ e in cc)
kept_by p x t xs false e (inr there) passes = there

kept : (p : Text → Bool) (xs : List Text) (t : Text) → Contains xs t → p t ≡ true → Contains (filter p xs) t
kept p [] t has passes = absurd (Contains-none t has)
kept p (x ∷ xs) t has passes = elim (Contains-cases t x xs has) [
  | inl same ↦ kept_by p x t (filter p xs) (p x) refl (inl same) passes
  | inr there ↦ kept_by p x t (filter p xs) (p x) refl (inr (kept p xs t there passes)) passes
]

in_firsts : (xs : List Text) (t : Text) → has_text xs t ≡ true → Contains (firsts xs) t
in_firsts [] t e = absurd cc
in_firsts (x ∷ xs) t e = by_test (bytes_eq t x) refl (in_firsts xs t)
  where
    by_test : (s : Bool) → bytes_eq t x ≡ s → (has_text xs t ≡ true → Contains (firsts xs) t) → Contains (firsts (x ∷ xs)) t
    by_test true same rest =
        subst (Contains (firsts (x ∷ xs))) (sym ((bytes_eq-Decides t x).0 same)) (Contains-here x (filter (is_other x) (firsts xs)))
    by_test false other rest =
        let later : has_text xs t ≡ true = sym (ap (λ (s : Bool). cond s true (has_text xs t)) other) ∙ e in
        Contains-there t x (filter (is_other x) (firsts xs)) (kept (is_other x) (firsts xs) t (rest later) (ap not other))

-- ---- Those that have no object.

abbrev text_said : Link → Option Text
text_said (To.Text text) = Some text
text_said link = None

-- the constant text of a static field
abbrev pub static_said : FieldRecord → Option Text
static_said f = if has f.flags STATIC then text_said f.constant else None

abbrev lacks_object : OwnState → Text → Bool
lacks_object own text = option_map_or (λ (a : ℕ). false) (literal_named own text) true

abbrev new_among : OwnState → List Text → List Text
new_among own ts = filter (lacks_object own) (firsts ts)

lacking : (own : OwnState) (b : Bool) (t : Text) → filter (lacks_object own) (added b t) ≡ cond b [] (cond (lacks_object own t) (t ∷ []) [])
lacking own true t = refl
lacking own false t = refl

new_added : (own : OwnState) (ts : List Text) (t : Text)
    → new_among own (ts ++ t ∷ []) ≡ new_among own ts ++ cond (has_text ts t) [] (cond (lacks_object own t) (t ∷ []) [])
new_added own ts t =
    ap (filter (lacks_object own)) (firsts_added ts t)
    ∙ filter-append (lacks_object own) (firsts ts) (added (has_text ts t) t)
    ∙ ap (λ (l : List Text). new_among own ts ++ l) (lacking own (has_text ts t) t)

-- ---- Literals that were added.

abbrev of_text : Text → Literal → Bool
of_text text l = bytes_eq l.text text

abbrev name_in : List Literal → Text → Option ℕ
name_in ls text = option_map (λ (l : Literal). l.name) (find (of_text text) ls)

abbrev texts_of : List Literal → List Text
texts_of ls = map (λ (l : Literal). l.text) ls

-- what has a name in the end had one, or is the text of one that was added
named_in : (more : List Literal) (t : Text) (a : ℕ) → name_in more t ≡ Some a → Contains (texts_of more) t
named_in [] t a e = absurd cc
named_in (l ∷ more) t a e = by_test (bytes_eq l.text t) refl (named_in more t a)
  where
    by_test : (s : Bool) → bytes_eq l.text t ≡ s → (name_in more t ≡ Some a → Contains (texts_of more) t) → Contains (texts_of (l ∷ more)) t
    by_test true same rest = subst (Contains (texts_of (l ∷ more))) ((bytes_eq-Decides l.text t).0 same) (Contains-here l.text (texts_of more))
    by_test false other rest =
        let later : name_in more t ≡ Some a =
        sym (ap (λ (s : Bool). option_map (λ (k : Literal). k.name) (cond s (Some l) (find (of_text t) more))) other) ∙ e in
        Contains-there t l.text (texts_of more) (rest later)

named_before : (ls more : List Literal) (t : Text) (a : ℕ) → name_in (ls ++ more) t ≡ Some a
    → ((b : ℕ) × (name_in ls t ≡ Some b)) ⊎ Contains (texts_of more) t
named_before [] more t a e = inr (named_in more t a e)
named_before (l ∷ ls) more t a e = by_test (bytes_eq l.text t) refl (named_before ls more t a)
  where
    by_test : (s : Bool) → bytes_eq l.text t ≡ s → (name_in (ls ++ more) t ≡ Some a → ((b : ℕ) × (name_in ls t ≡ Some b)) ⊎ Contains (texts_of more) t)
        → ((b : ℕ) × (name_in (l ∷ ls) t ≡ Some b)) ⊎ Contains (texts_of more) t
    by_test true same rest = inl (l.name, ap (λ (s : Bool). option_map (λ (k : Literal). k.name) (cond s (Some l) (find (of_text t) ls))) same)
    by_test false other rest =
        let later : name_in (ls ++ more) t ≡ Some a =
        sym (ap (λ (s : Bool). option_map (λ (k : Literal). k.name) (cond s (Some l) (find (of_text t) (ls ++ more)))) other) ∙ e in
        elim (rest later) [
          | inl had ↦ inl (had.0, ap (λ (s : Bool). option_map (λ (k : Literal). k.name) (cond s (Some l) (find (of_text t) ls))) other ∙ had.1)
          | inr is ↦ inr is
        ]

-- what has none then had none, and is no text of these
none_in : (more : List Literal) (t : Text) → name_in more t ≡ None → Contains (texts_of more) t → ⊥
none_in [] t e there = Contains-none t there
none_in (l ∷ more) t e there = by_test (bytes_eq l.text t) refl (Contains-cases t l.text (texts_of more) there) (none_in more t)
  where
    by_test : (s : Bool) → bytes_eq l.text t ≡ s → (l.text ≡ t) ⊎ Contains (texts_of more) t
        → (name_in more t ≡ None → Contains (texts_of more) t → ⊥) → ⊥
    by_test true same which rest =
        let some = sym (ap (λ (s : Bool). option_map (λ (k : Literal). k.name) (cond s (Some l) (find (of_text t) more))) same) ∙ e in cc
    by_test false other (inl is) rest = let yes = (bytes_eq-Decides l.text t).1 is in let no = sym yes ∙ other in cc
    by_test false other (inr later) rest =
        rest (sym (ap (λ (s : Bool). option_map (λ (k : Literal). k.name) (cond s (Some l) (find (of_text t) more))) other) ∙ e) later

pub none_before : (ls more : List Literal) (t : Text) → name_in (ls ++ more) t ≡ None → (name_in ls t ≡ None) × (Contains (texts_of more) t → ⊥)
none_before [] more t e = (refl, none_in more t e)
none_before (l ∷ ls) more t e = by_test (bytes_eq l.text t) refl (none_before ls more t)
  where
    by_test : (s : Bool) → bytes_eq l.text t ≡ s → (name_in (ls ++ more) t ≡ None → (name_in ls t ≡ None) × (Contains (texts_of more) t → ⊥))
        → (name_in (l ∷ ls) t ≡ None) × (Contains (texts_of more) t → ⊥)
    by_test true same before =
        let some = sym (ap (λ (s : Bool). option_map (λ (k : Literal). k.name) (cond s (Some l) (find (of_text t) (ls ++ more)))) same) ∙ e in absurd cc
    by_test false other before =
        let rest = before
        (sym (ap (λ (s : Bool). option_map (λ (k : Literal). k.name) (cond s (Some l) (find (of_text t) (ls ++ more)))) other) ∙ e) in
        (ap (λ (s : Bool). option_map (λ (k : Literal). k.name) (cond s (Some l) (find (of_text t) ls))) other ∙ rest.0, rest.1)

-- ---- What is left of them, and where it was.

left_by : (x t : Text) (xs : List Text) (b : Bool) → Contains (cond b (x ∷ xs) xs) t → (x ≡ t) ⊎ Contains xs t
left_by x t xs true has = Contains-cases t x xs has
left_by x t xs false has = inr has

from_filter : (p : Text → Bool) (xs : List Text) (t : Text) → Contains (filter p xs) t → Contains xs t
from_filter p [] t has = has
from_filter p (x ∷ xs) t has = elim (left_by x t (filter p xs) (p x) has) [
  | inl same ↦ subst (Contains (x ∷ xs)) same (Contains-here x xs)
  | inr there ↦ Contains-there t x xs (from_filter p xs t there)
]

true_anyway : (s : Bool) → cond s true true ≡ true
true_anyway true = refl
true_anyway false = refl

has_from : (xs : List Text) (t : Text) → Contains (firsts xs) t → has_text xs t ≡ true
has_from [] t has = absurd (Contains-none t has)
has_from (x ∷ xs) t has = elim (Contains-cases t x (filter (is_other x) (firsts xs)) has) [
  | inl same ↦ ap (λ (s : Bool). cond s true (has_text xs t)) ((bytes_eq-Decides t x).1 (sym same))
  | inr there ↦ ap (λ (b : Bool). cond (bytes_eq t x) true b) (has_from xs t (from_filter (is_other x) (firsts xs) t there))
      ∙ true_anyway (bytes_eq t x)
]

nothing : (b : Bool) (t : Text) → cond b [] (cond false (t ∷ []) []) ≡ []
nothing true t = refl
nothing false t = refl

-- ---- One field more.

abbrev pub of_fields : ClassRecord → List FieldRecord → ClassRecord
of_fields r fs = record r { fields = fs }

module _ (own : OwnState) (r : ClassRecord) (fs : List FieldRecord) (f : FieldRecord) where
  abbrev ts : List Text
  ts = filter_map static_said fs

  split : filter_map static_said (fs ++ f ∷ []) ≡ ts ++ cons_option (static_said f) []
  split = filter_map-append static_said fs (f ∷ [])

  pub no_text : static_said f ≡ None → new_texts own (of_fields r (fs ++ f ∷ [])) ≡ new_texts own (of_fields r fs)
  no_text e = ap (new_among own) (split ∙ ap (λ (o : Option Text). ts ++ cons_option o []) e ∙ append-nil ts)

  module _ (t : Text) (is : static_said f ≡ Some t) where
    all : new_texts own (of_fields r (fs ++ f ∷ []))
        ≡ new_among own ts ++ cond (has_text ts t) [] (cond (lacks_object own t) (t ∷ []) [])
    all = ap (new_among own) (split ∙ ap (λ (o : Option Text). ts ++ cons_option o []) is) ∙ new_added own ts t

    module _ (more : List Literal) (are : texts_of more ≡ new_texts own (of_fields r fs)) where
      abbrev own_then : OwnState
      own_then = record own { literals = own.literals ++ more }

      -- its text has an object by then
      pub had_text : (a : ℕ) → literal_named own_then t ≡ Some a → new_texts own (of_fields r (fs ++ f ∷ [])) ≡ new_texts own (of_fields r fs)
      had_text a named =
          all ∙ ap (λ (l : List Text). new_among own ts ++ l) (by_which (named_before own.literals more t a named)) ∙ append-nil (new_among own ts)
        where
          by_which : ((b : ℕ) × (name_in own.literals t ≡ Some b)) ⊎ Contains (texts_of more) t
              → cond (has_text ts t) [] (cond (lacks_object own t) (t ∷ []) []) ≡ []
          by_which (inl had) =
              ap (λ (o : Option ℕ). cond (has_text ts t) [] (cond (option_map_or (λ (n : ℕ). false) o true) (t ∷ []) [])) had.1
              ∙ nothing (has_text ts t) t
          by_which (inr there) =
              let new : Contains (new_among own ts) t = subst (λ (l : List Text). Contains l t) are there in
              let has : has_text ts t ≡ true = has_from ts t (from_filter (lacks_object own) (firsts ts) t new) in
              ap (λ (b : Bool). cond b [] (cond (lacks_object own t) (t ∷ []) [])) has

      -- it has none yet
      pub new_text : literal_named own_then t ≡ None → new_texts own (of_fields r (fs ++ f ∷ [])) ≡ new_texts own (of_fields r fs) ++ t ∷ []
      new_text none = all ∙ ap (λ (l : List Text). new_among own ts ++ l) (by_test (has_text ts t) refl)
        where
          before : (name_in own.literals t ≡ None) × (Contains (texts_of more) t → ⊥)
          before = none_before own.literals more t none

          lacks : lacks_object own t ≡ true
          lacks = ap (λ (o : Option ℕ). option_map_or (λ (n : ℕ). false) o true) before.0

          by_test : (b : Bool) → has_text ts t ≡ b → cond (has_text ts t) [] (cond (lacks_object own t) (t ∷ []) []) ≡ t ∷ []
          by_test true there =
              absurd (before.1 (subst (λ (l : List Text). Contains l t) (sym are)
              (kept (lacks_object own) (firsts ts) t (in_firsts ts t there) lacks)))
          by_test false there =
              ap (λ (b : Bool). cond b [] (cond (lacks_object own t) (t ∷ []) [])) there ∙ ap (λ (b : Bool). cond b (t ∷ []) []) lacks

  -- what was new stands there still, first
  pub one_longer : (rest : List Text) × (new_texts own (of_fields r (fs ++ f ∷ [])) ≡ new_texts own (of_fields r fs) ++ rest)
  one_longer = by_text (static_said f) refl
    where
      by_text : (o : Option Text) → static_said f ≡ o
          → (rest : List Text) × (new_texts own (of_fields r (fs ++ f ∷ [])) ≡ new_texts own (of_fields r fs) ++ rest)
      by_text None e = ([], no_text e ∙ sym (append-nil (new_among own ts)))
      by_text (Some t) e = (cond (has_text ts t) [] (cond (lacks_object own t) (t ∷ []) []), all t e)

-- however many fields come
pub longer : (own : OwnState) (r : ClassRecord) (fs gs : List FieldRecord)
    → (rest : List Text) × (new_texts own (of_fields r (fs ++ gs)) ≡ new_texts own (of_fields r fs) ++ rest)
longer own r fs [] = ([], ap (λ (l : List FieldRecord). new_texts own (of_fields r l)) (append-nil fs) ∙ sym (append-nil (new_texts own (of_fields r fs))))
longer own r fs (g ∷ gs) =
    let one = one_longer own r fs g in
    let others = longer own r (fs ++ g ∷ []) gs in (
      one.0 ++ others.0,
      ap (λ (l : List FieldRecord). new_texts own (of_fields r l)) (sym (append_assoc fs (g ∷ []) gs)) ∙ others.1
          ∙ ap (λ (l : List Text). l ++ others.0) one.1 ∙ append_assoc (new_texts own (of_fields r fs)) one.0 others.0,
    )

-- ---- They are those that are missing, each once.

passes_by : (p : Text → Bool) (x t : Text) (xs : List Text) (b : Bool) → p x ≡ b → (Contains xs t → p t ≡ true) → Contains (cond b (x ∷ xs) xs) t
    → p t ≡ true
passes_by p x t xs true e rest has = elim (Contains-cases t x xs has) [
  | inl same ↦ ap p (sym same) ∙ e
  | inr there ↦ rest there
]
passes_by p x t xs false e rest has = rest has

passes : (p : Text → Bool) (xs : List Text) (t : Text) → Contains (filter p xs) t → p t ≡ true
passes p [] t has = absurd (Contains-none t has)
passes p (x ∷ xs) t has = passes_by p x t (filter p xs) (p x) refl (passes p xs t) has

differ_by : (x : Text) (xs : List Text) (b : Bool) → (Contains xs x → ⊥) → AllDiffer xs → AllDiffer (cond b (x ∷ xs) xs)
differ_by x xs true absent differ = (absent, differ)
differ_by x xs false absent differ = differ

filter_differ : (p : Text → Bool) (xs : List Text) → AllDiffer xs → AllDiffer (filter p xs)
filter_differ p [] h = tt
filter_differ p (x ∷ xs) h = differ_by x (filter p xs) (p x) (λ has. h.0 (from_filter p xs x has)) (filter_differ p xs h.1)

no_other : (x : Text) → is_other x x ≡ true → ⊥
no_other x e = so_not (bytes_eq x x) e ((bytes_eq-Decides x x).1 refl)

once : (xs : List Text) → AllDiffer (firsts xs)
once [] = tt
once (x ∷ xs) = (
  λ has. no_other x (passes (is_other x) (firsts xs) x has),
  filter_differ (is_other x) (firsts xs) (once xs),
)

pub new_differ : (own : OwnState) (r : ClassRecord) → AllDiffer (new_texts own r)
new_differ own r = filter_differ (lacks_object own) (firsts (filter_map static_said r.fields)) (once (filter_map static_said r.fields))

said_by : (f : FieldRecord) (t : Text) (o : Option Text) (texts : List Text) → static_said f ≡ o → Contains (cons_option o texts) t
    → (static_said f ≡ Some t) ⊎ Contains texts t
said_by f t None texts e has = inr has
said_by f t (Some x) texts e has = elim (Contains-cases t x texts has) [
  | inl same ↦ inl (e ∙ ap Some same)
  | inr there ↦ inr there
]

from_texts : (fs : List FieldRecord) (t : Text) → Contains (filter_map static_said fs) t → (f : FieldRecord) × Contains fs f × (static_said f ≡ Some t)
from_texts [] t has = absurd (Contains-none t has)
from_texts (f ∷ fs) t has = elim (said_by f t (static_said f) (filter_map static_said fs) refl has) [
  | inl said ↦ (f, Contains-here f fs, said)
  | inr there ↦ (let x = from_texts fs t there in (x.0, Contains-there x.0 f fs x.1, x.2))
]

with_more : (o : Option Text) (texts : List Text) (t : Text) → Contains texts t → Contains (cons_option o texts) t
with_more None texts t has = has
with_more (Some x) texts t has = Contains-there t x texts has

in_texts : (fs : List FieldRecord) (f : FieldRecord) (t : Text) → Contains fs f → static_said f ≡ Some t → Contains (filter_map static_said fs) t
in_texts [] f t has said = absurd (Contains-none f has)
in_texts (g ∷ fs) f t has said = elim (Contains-cases f g fs has) [
  | inl same ↦ subst (λ (o : Option Text). Contains (cons_option o (filter_map static_said fs)) t) (sym (ap static_said same ∙ said))
      (Contains-here t (filter_map static_said fs))
  | inr there ↦ with_more (static_said g) (filter_map static_said fs) t (in_texts fs f t there said)
]

pub says : (f : FieldRecord) (t : Text) → HasTextConstant f t → static_said f ≡ Some t
says f t h = ap (λ (b : Bool). if b then text_said f.constant else None) h.static ∙ ap text_said h.is

pub link_by : (l : Link) (t : Text) → text_said l ≡ Some t → l ≡ To.Text t
link_by (To.Text x) t e = ap To.Text (same_Some x t e)
link_by l t e = absurd cc

constant_by : (f : FieldRecord) (t : Text) (b : Bool) → has f.flags STATIC ≡ b → (if b then text_said f.constant else None) ≡ Some t → HasTextConstant f t
constant_by f t true static e = record { static = static; is = link_by f.constant t e }
constant_by f t false static e = absurd cc

pub is_constant : (f : FieldRecord) (t : Text) → static_said f ≡ Some t → HasTextConstant f t
is_constant f t e = constant_by f t (has f.flags STATIC) refl e

has_of : (xs : List Text) (t : Text) → Contains xs t → has_text xs t ≡ true
has_of [] t has = absurd (Contains-none t has)
has_of (x ∷ xs) t has = elim (Contains-cases t x xs has) [
  | inl same ↦ ap (λ (s : Bool). cond s true (has_text xs t)) ((bytes_eq-Decides t x).1 (sym same))
  | inr there ↦ ap (λ (b : Bool). cond (bytes_eq t x) true b) (has_of xs t there) ∙ true_anyway (bytes_eq t x)
]

is_in : (xs : List Text) (t : Text) → has_text xs t ≡ true → Contains xs t
is_in [] t e = absurd cc
is_in (x ∷ xs) t e = by_test (bytes_eq t x) refl (is_in xs t)
  where
    by_test : (s : Bool) → bytes_eq t x ≡ s → (has_text xs t ≡ true → Contains xs t) → Contains (x ∷ xs) t
    by_test true same rest = subst (Contains (x ∷ xs)) (sym ((bytes_eq-Decides t x).0 same)) (Contains-here x xs)
    by_test false other rest = Contains-there t x xs (rest (sym (ap (λ (s : Bool). cond s true (has_text xs t)) other) ∙ e))

pub is_missing : (own : OwnState) (r : ClassRecord) (t : Text) → Contains (new_texts own r) t → IsMissing own r.fields t
is_missing own r t there =
    let ts = filter_map static_said r.fields in
    let field = from_texts r.fields t (is_in ts t (has_from ts t (from_filter (lacks_object own) (firsts ts) t there))) in
    record {
      field = field.0;
      among = field.1;
      has = is_constant field.0 t field.2;
      no_object = lacks_by (literal_named own t) (passes (lacks_object own) (firsts ts) t there);
    }

pub is_new : (own : OwnState) (r : ClassRecord) (t : Text) → IsMissing own r.fields t → Contains (new_texts own r) t
is_new own r t m =
    let ts = filter_map static_said r.fields in
    kept (lacks_object own) (firsts ts) t (in_firsts ts t (has_of ts t (in_texts r.fields m.field t m.among (says m.field t m.has))))
    (ap (λ (o : Option ℕ). option_map_or (λ (n : ℕ). false) o true) m.no_object)

-- what their objects cost is what `missing_words` counts
pub cost_of_new : (own : OwnState) (r : ClassRecord) (words : ℕ) → IsCostOfMissing own r.fields words
    → words ≡ min (sum_by text_words (new_texts own r)) (2 ^ 64 - 1)
cost_of_new own r words c =
    c.sum ∙ ap (λ (n : ℕ). min n (2 ^ 64 - 1)) (same_sum text_words c.texts (new_texts own r) (all_differ c.texts c.are.differ) (new_differ own r)
    (λ t there. is_new own r t ((c.are.each t).0 there)) (λ t there. (c.are.each t).1 (is_missing own r t there)))
