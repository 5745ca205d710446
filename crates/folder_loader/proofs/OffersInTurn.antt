-- The offers of the lines, line by line.
use Rattle.std.proofs.Common.{◌≡◌, ℕ, ◌+◌, ◌<◌, ◌≤◌, List, [], ◌∷◌, ◌++◌, length, take, get_or, Option, Some, None, inl, inr, sym, ap, subst, ◌∙◌, arith}
use Rattle.std.specs.Prelude.{Contains, IfOk, IsPermutation, Result, Ok, Err}
use Rattle.std.proofs.lemmas.List.{take_all, take_more}
use Rattle.std.proofs.lemmas.List.Elements.{Contains-append_left, Contains-push, Contains-push_cases}
use Rattle.std.proofs.lemmas.List.Sorted.{Contains-permutation, IsPermutation-sym}
use Rattle.std.proofs.lemmas.Option.{same_Some}
use Rattle.jk_model.specs.declared.identifiers.ClassId.{ClassId}
use Rattle.jk_model_classes.specs.declared.sharing.Offer.{Offer}
use Rattle.jk_model_classes.specs.declared.sharing.ResolverLine.{ResolverLine}
use Rattle.jk_model_classes.specs.declared.sharing.ResolverWord.TheVariants.{Share}
use Rattle.jk_model_classes.specs.Worlds.{NamedClass, class_named}
use Rattle.folder_loader.specs.OffersOfLines.{AreOffersOf, IsOfferOf, IsOneOffer}

-- ---- One line.

made : (a b : Offer) → a.class ≡ b.class → a.to ≡ b.to → a ≡ b
made a b classes tos =
    let of : (c d : ClassId) (s t : Option (List ℕ)) → c ≡ d → s ≡ t → (let z : Offer = record { class = c; to = s } in z) ≡ record { class = d; to = t } =
    λ c d s t p q. cc in
    of a.class b.class a.to b.to classes tos

pub share_offers : (table : List NamedClass) (line : ResolverLine) (name : List ℕ) (to : Option (List ℕ)) (o : Offer) → line.says ≡ Share name to
    → class_named table name ≡ Some o.class → o.to ≡ to → IsOneOffer table line o
share_offers table line name to o says is goes = (
  (name, to, says, is, goes),
  λ other h.
      let words : Share h.0 h.1 ≡ Share name to = sym h.2 ∙ says in
      let names : h.0 ≡ name = cc in
      let tos : h.1 ≡ to = cc in
      let class : other.class ≡ o.class = same_Some other.class o.class (sym h.3 ∙ ap (class_named table) names ∙ is) in
      made other o class (h.4 ∙ tos ∙ sym goes),
)

pub unnamed_offers_none : (table : List NamedClass) (line : ResolverLine) (name : List ℕ) (to : Option (List ℕ)) → line.says ≡ Share name to
    → class_named table name ≡ None → (o : Offer) → IsOfferOf table line o → ⊥
unnamed_offers_none table line name to says is o h =
    let words : Share h.0 h.1 ≡ Share name to = sym h.2 ∙ says in
    let names : h.0 ≡ name = cc in
    let both : None ≡ Some o.class = sym is ∙ ap (class_named table) (sym names) ∙ h.3 in
    absurd cc

-- ---- All lines.

pub none_offered : (table : List NamedClass) → AreOffersOf table [] []
none_offered table o = (λ h. absurd (omega (arith, h.1)), λ h. absurd (omega (arith, h.1.1)))

pub line_offers : (table : List NamedClass) (lines : List ResolverLine) (line : ResolverLine) (offers : List Offer) (o : Offer)
    → AreOffersOf table lines offers → IsOneOffer table line o → AreOffersOf table (lines ++ line ∷ []) (offers ++ o ∷ [])
line_offers table lines line offers o h one other = (
  λ has. elim (Contains-push_cases offers o other has) [
    | inl before ↦ let its = (h other).0 before in (its.0, Contains-append_left lines (line ∷ []) its.0 its.1, its.2)
    | inr same ↦ (line, Contains-push lines line, subst (λ (x : Offer). IsOfferOf table line x) same one.0)
  ],
  λ its. elim (Contains-push_cases lines line its.0 its.1) [
    | inl before ↦ Contains-append_left offers (o ∷ []) other ((h other).1 (its.0, before, its.2))
    | inr same ↦
        let is : other ≡ o = one.1 other (subst (λ (l : ResolverLine). IsOfferOf table l other) (sym same) its.2) in
        subst (λ (x : Offer). Contains (offers ++ o ∷ []) x) (sym is) (Contains-push offers o)
  ],
)

pub line_offers_none : (table : List NamedClass) (lines : List ResolverLine) (line : ResolverLine) (offers : List Offer)
    → AreOffersOf table lines offers → ((o : Offer) → IsOfferOf table line o → ⊥) → AreOffersOf table (lines ++ line ∷ []) offers
line_offers_none table lines line offers h none other = (
  λ has. let its = (h other).0 has in (its.0, Contains-append_left lines (line ∷ []) its.0 its.1, its.2),
  λ its. elim (Contains-push_cases lines line its.0 its.1) [
    | inl before ↦ (h other).1 (its.0, before, its.2)
    | inr same ↦ absurd (none other (subst (λ (l : ResolverLine). IsOfferOf table l other) (sym same) its.2))
  ],
)

pub in_any_order : (table : List NamedClass) (lines : List ResolverLine) (offers sorted : List Offer) → IsPermutation offers sorted
    → AreOffersOf table lines offers → AreOffersOf table lines sorted
in_any_order table lines offers sorted same h o = (
  λ has. (h o).0 (Contains-permutation sorted offers o (IsPermutation-sym offers sorted same) has),
  λ its. Contains-permutation offers sorted o same ((h o).1 its),
)

-- ---- The lines before a place.

pub lines_longer : (lines : List ResolverLine) (i : ℕ) (line : ResolverLine) → i < length lines → line ≡ get_or lines i line
    → take (i + 1) lines ≡ take i lines ++ line ∷ []
lines_longer lines i line below is = take_more lines i line below ∙ ap (λ (d : ResolverLine). take i lines ++ d ∷ []) (sym is)

pub offered_next : (table : List NamedClass) (lines : List ResolverLine) (i : ℕ) (line : ResolverLine) (offers more : List Offer) (o : Offer)
    → i < length lines → line ≡ get_or lines i line → AreOffersOf table (take i lines) offers → IsOneOffer table line o → more ≡ offers ++ o ∷ []
    → AreOffersOf table (take (i + 1) lines) more
offered_next table lines i line offers more o below is h one longer =
    rw (lines_longer lines i line below is, longer) (line_offers table (take i lines) line offers o h one)

pub offered_same : (table : List NamedClass) (lines : List ResolverLine) (i : ℕ) (line : ResolverLine) (offers more : List Offer)
    → i < length lines → line ≡ get_or lines i line → AreOffersOf table (take i lines) offers → ((o : Offer) → IsOfferOf table line o → ⊥)
    → more ≡ offers → AreOffersOf table (take (i + 1) lines) more
offered_same table lines i line offers more below is h none same =
    rw (lines_longer lines i line below is, same) (line_offers_none table (take i lines) line offers h none)

pub all_offered : (table : List NamedClass) (lines : List ResolverLine) (i : ℕ) (offers : List Offer) {E : Type 0} (r : Result (List Offer) E)
    → length lines ≤ i → AreOffersOf table (take i lines) offers → IfOk r (λ o. IsPermutation offers o) → IfOk r (λ o. AreOffersOf table lines o)
all_offered table lines i offers (Ok o) long h same =
    in_any_order table lines offers o same (subst (λ (ls : List ResolverLine). AreOffersOf table ls offers) (take_all i lines long) h)
all_offered table lines i offers (Err e) long h same = tt
