-- A map by units knows of the units that were put in what was put, and of all others what it knew.
use Rattle.std.proofs.Common.{◌≡◌, ℕ, List, refl, sym, ◌∙◌, ap, Bool, true, false, Option, Some, None, inl, inr, Vec}
use Rattle.std.proofs.lemmas.Bool.{cases_Bool}
use Rattle.std.proofs.lemmas.Map.Lookups.{exact_bytes}
use Rattle.std.specs.BTreeMap.{BTreeMap, UpdatesBy, is_at}
use Rattle.std.specs.Cmp.Lexicographic.{slice_cmp}
use Rattle.std.specs.Map.{KeepsOthers}
use Rattle.std.specs.Ordering.{is_eq, nat_cmp}
use Rattle.std.specs.declared.alloc.Global.{Global}
use Rattle.std.specs.declared.cmp.Ordering.{Ordering}
use Rattle.list_lemmas.proofs.TestsAndOrders.{equal_by as equal_from_is_eq}
use Rattle.class_rules.specs.SeenTexts.{known_of, IsJudged, IsAdded}
use Rattle.class_rules.specs.declared.texts.TextFacts.{TextFacts}

abbrev pub units_cmp : Vec ℕ Global → Vec ℕ Global → Ordering
units_cmp x y = slice_cmp nat_cmp x.items y.items

-- what looks units up finds their key
abbrev pub finds : List ℕ → Vec ℕ Global → Bool
finds units = is_at (λ k. slice_cmp nat_cmp units k.items)

found_units : (units : List ℕ) (k : Vec ℕ Global) → finds units k ≡ true → units ≡ k.items
found_units units k h = exact_bytes units k.items (equal_from_is_eq (slice_cmp nat_cmp units k.items) h)

others_kept : (m n : BTreeMap (Vec ℕ Global) TextFacts) (units : List ℕ) (w : Option TextFacts)
    → UpdatesBy units_cmp (λ k. slice_cmp nat_cmp units k.items) m n w → (others : List ℕ) → (others ≡ units → ⊥) → known_of n others ≡ known_of m others
unfolding KeepsOthers
others_kept m n units w h others differ = h.3 (finds others) is_test apart
  where
    is_test : (x y : Vec ℕ Global) → finds others x ≡ true → finds others y ≡ is_eq (units_cmp x y)
    is_test x y e = ap (λ (us : List ℕ). finds us y) (found_units others x e)

    apart : (k : Vec ℕ Global) → finds units k ≡ true → finds others k ≡ false
    apart k e = elim (cases_Bool (finds others k)) [ inl too ↦ absurd (differ (found_units others k too ∙ sym (found_units units k e))) | inr not ↦ not ]

pub was_known : (m : BTreeMap (Vec ℕ Global) TextFacts) (units : List ℕ) (index : ℕ) (facts : TextFacts) → known_of m units ≡ Some facts
    → IsAdded units index facts (known_of m) (known_of m)
was_known m units index facts e = (rw e refl, λ others. ((λ same. ap (known_of m) same ∙ e), (λ differ. refl)))

pub was_judged : (m n : BTreeMap (Vec ℕ Global) TextFacts) (key : Vec ℕ Global) (units : List ℕ) (index : ℕ) (facts : TextFacts)
    → key.items ≡ units → known_of m units ≡ None → IsJudged units index facts
    → UpdatesBy units_cmp (units_cmp key) m n (Some facts) → IsAdded units index facts (known_of m) (known_of n)
was_judged m n key units index facts its none judged h = (
  rw none judged,
  λ others. (
    (λ same. ap (known_of n) (same ∙ sym its) ∙ h.1),
    (λ differ. others_kept m n key.items (Some facts) h others (λ same. differ (same ∙ its))),
  ),
)
