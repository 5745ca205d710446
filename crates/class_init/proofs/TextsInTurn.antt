-- Texts are added one after the other.
use Rattle.std.proofs.Common.{◌≡◌, ℕ, ◌⊎◌, inl, inr, Result, Ok, Err, List, [], ◌∷◌, ◌++◌, refl, sym, ap, subst}
use Rattle.std.specs.Prelude.{Contains, OnOk}
use Rattle.std.proofs.lemmas.List.Elements.{Contains-append_left, Contains-push, Contains-push_cases}
use Rattle.list_lemmas.proofs.ItemsOfLists.{Contains-none}
use Rattle.jk_model_classes.specs.declared.records.ClassRecord.{ClassRecord}
use Rattle.jk_model_classes.specs.declared.records.Link.TheVariants as To
use Rattle.jk_model_domains.specs.OwnStates.{IsTextOf}
use Rattle.class_init.specs.Texts.{AddsText}
use Rattle.class_init.specs.TextsAdded.{AddsTexts, IsOfSome, LeadsTo, HasConstant}

pub none_added : (these : List ℕ → Type 0) (old : List (List ℕ)) → ((text : List ℕ) → these text → ⊥) → AddsTexts these old old
none_added these old none = record { has = λ text. (λ has. inl has, λ (h : Contains old text ⊎ these text). by_side text h) }
  where
    by_side : (text : List ℕ) → Contains old text ⊎ these text → Contains old text
    by_side text (inl has) = has
    by_side text (inr is) = absurd (none text is)

pub same_added : (these those : List ℕ → Type 0) (old new : List (List ℕ)) → ((text : List ℕ) → these text → those text)
    → ((text : List ℕ) → those text → these text) → AddsTexts these old new → AddsTexts those old new
same_added these those old new there back h = record {
  has =
      λ text. (
        λ has. to text ((h.has text).0 has),
        λ (is : Contains old text ⊎ those text). (h.has text).1 (from text is),
      );
}
  where
    to : (text : List ℕ) → Contains old text ⊎ these text → Contains old text ⊎ those text
    to text (inl has) = inl has
    to text (inr is) = inr (there text is)

    from : (text : List ℕ) → Contains old text ⊎ those text → Contains old text ⊎ these text
    from text (inl has) = inl has
    from text (inr is) = inr (back text is)

pub then_added : (these those : List ℕ → Type 0) (old mid new : List (List ℕ)) → AddsTexts these old mid → AddsTexts those mid new
    → AddsTexts (λ text. these text ⊎ those text) old new
then_added these those old mid new h g = record {
  has =
      λ text. (
        λ has. to text ((g.has text).0 has),
        λ (is : Contains old text ⊎ (these text ⊎ those text)). (g.has text).1 (from text is),
      );
}
  where
    first : (text : List ℕ) → Contains old text ⊎ these text → Contains old text ⊎ (these text ⊎ those text)
    first text (inl has) = inl has
    first text (inr is) = inr (inl is)

    to : (text : List ℕ) → Contains mid text ⊎ those text → Contains old text ⊎ (these text ⊎ those text)
    to text (inl has) = first text ((h.has text).0 has)
    to text (inr is) = inr (inr is)

    from : (text : List ℕ) → Contains old text ⊎ (these text ⊎ those text) → Contains mid text ⊎ those text
    from text (inl has) = inl ((h.has text).1 (inl has))
    from text (inr (inl is)) = inl ((h.has text).1 (inr is))
    from text (inr (inr is)) = inr is

-- ---- One text.

pub one_added : (old : List (List ℕ)) (text : List ℕ) (new : List (List ℕ)) → AddsText old text new → AddsTexts (λ t. text ≡ t) old new
one_added old text new (inl (known, same)) = record { has = λ t. (λ has. inl (rw same at has), λ (h : Contains old t ⊎ (text ≡ t)). by_side t h) }
  where
    by_side : (t : List ℕ) → Contains old t ⊎ (text ≡ t) → Contains new t
    by_side t (inl has) = rw same has
    by_side t (inr is) = rw (same, ← is) known
one_added old text new (inr (absent, is)) = record {
  has = λ t. (λ has. Contains-push_cases old text t (rw is at has), λ (h : Contains old t ⊎ (text ≡ t)). by_side t h);
}
  where
    by_side : (t : List ℕ) → Contains old t ⊎ (text ≡ t) → Contains new t
    by_side t (inl has) = rw is (Contains-append_left old (text ∷ []) t has)
    by_side t (inr same) = rw (is, ← same) (Contains-push old text)

pub link_added : (old : List (List ℕ)) (text : List ℕ) (new : List (List ℕ)) → AddsText old text new → AddsTexts (LeadsTo (To.Text text)) old new
link_added old text new h =
    same_added (λ t. text ≡ t) (LeadsTo (To.Text text)) old new (λ t e. ap To.Text e) (λ t e. same_text text t e) (one_added old text new h)
  where
    same_text : (a b : List ℕ) → To.Text a ≡ To.Text b → a ≡ b
    same_text a b e = cc

-- ---- The texts of a list of items.

pub of_none : {X : Type 0} (has : X → List ℕ → Type 0) (old : List (List ℕ)) → AddsTexts (IsOfSome has []) old old
of_none has old = none_added (IsOfSome has []) old (λ text h. Contains-none h.0 h.1)

pub one_more : {X : Type 0} (has : X → List ℕ → Type 0) (xs : List X) (x : X) (old cur new : List (List ℕ)) → AddsTexts (IsOfSome has xs) old cur
    → AddsTexts (has x) cur new → AddsTexts (IsOfSome has (xs ++ x ∷ [])) old new
one_more {X = X} has xs x old cur new h g =
    same_added (λ text. IsOfSome has xs text ⊎ has x text) (IsOfSome has (xs ++ x ∷ [])) old new to from
    (then_added (IsOfSome has xs) (has x) old cur new h g)
  where
    to : (text : List ℕ) → IsOfSome has xs text ⊎ has x text → IsOfSome has (xs ++ x ∷ []) text
    to text (inl (y, there, is)) = (y, Contains-append_left xs (x ∷ []) y there, is)
    to text (inr is) = (x, Contains-push xs x, is)

    by_place : (text : List ℕ) (y : X) → Contains xs y ⊎ (x ≡ y) → has y text → IsOfSome has xs text ⊎ has x text
    by_place text y (inl there) is = inl (y, there, is)
    by_place text y (inr same) is = inr (subst (λ z. has z text) (sym same) is)

    from : (text : List ℕ) → IsOfSome has (xs ++ x ∷ []) text → IsOfSome has xs text ⊎ has x text
    from text (y, there, is) = by_place text y (Contains-push_cases xs x y there) is

-- the texts of a class are those of its pool, and the constants of its fields
pub of_class : (r : ClassRecord) (old mid new : List (List ℕ)) → AddsTexts (IsOfSome LeadsTo r.links) old mid
    → AddsTexts (IsOfSome HasConstant r.fields) mid new → AddsTexts (IsTextOf r) old new
of_class r old mid new h g =
    same_added (λ text. IsOfSome LeadsTo r.links text ⊎ IsOfSome HasConstant r.fields text) (IsTextOf r) old new to from
    (then_added (IsOfSome LeadsTo r.links) (IsOfSome HasConstant r.fields) old mid new h g)
  where
    to : (text : List ℕ) → IsOfSome LeadsTo r.links text ⊎ IsOfSome HasConstant r.fields text → IsTextOf r text
    to text (inl (link, there, is)) = inl (subst (Contains r.links) is there)
    to text (inr is) = inr is

    from : (text : List ℕ) → IsTextOf r text → IsOfSome LeadsTo r.links text ⊎ IsOfSome HasConstant r.fields text
    from text (inl there) = inl (To.Text text, there, refl)
    from text (inr is) = inr is

pub class_added : {A E : Type 0} (result : Result A E) (r : ClassRecord) (old mid new : List (List ℕ)) → AddsTexts (IsOfSome LeadsTo r.links) old mid
    → OnOk result (AddsTexts (IsOfSome HasConstant r.fields) mid new) → OnOk result (AddsTexts (IsTextOf r) old new)
class_added (Ok x) r old mid new h g = of_class r old mid new h g
class_added (Err e) r old mid new h g = tt
