-- What is known of the texts that were seen so far, by their units.
use Rattle.std.specs.Prelude.{◌≡◌, ℕ, ⊤, List, Option, Some, None, MatchOption, Vec}
use Rattle.std.specs.BTreeMap.{BTreeMap, get_by}
use Rattle.std.specs.Cmp.Lexicographic.{slice_cmp}
use Rattle.std.specs.Ordering.{nat_cmp}
use Rattle.std.specs.declared.alloc.Global.{Global}
use Rattle.jk_model.specs.declared.class_file.PoolEntry.{PoolEntry}
use Rattle.jk_model.specs.declared.class_file.PoolEntry.TheVariants.{Utf8}
use Rattle.jk_model.specs.Text.{IsModifiedUtf8, Spells}
use Rattle.class_rules.specs.Texts.{AreFactsOf, IsFirstAt}
use Rattle.class_rules.specs.declared.texts.TextFacts.{TextFacts}

-- what is known of units
abbrev pub known_of : BTreeMap (Vec ℕ Global) TextFacts → List ℕ → Option TextFacts
known_of seen units = get_by (λ k. slice_cmp nat_cmp units k.items) seen

-- these are the facts of the units, in each pool whose first text of these units stands there
abbrev pub IsJudged : List ℕ → ℕ → TextFacts → Type 0
IsJudged units first facts = (pool : List PoolEntry) → IsFirstAt pool units first → AreFactsOf pool units facts

-- what was known of the units, or what they were judged to be, is known of them, and of others what was known
abbrev pub IsAdded : List ℕ → ℕ → TextFacts → (List ℕ → Option TextFacts) → (List ℕ → Option TextFacts) → Type 0
IsAdded units index facts before after =
    MatchOption (before units) (IsJudged units index facts) (λ known. facts ≡ known)
    × ((others : List ℕ) → (others ≡ units → after others ≡ Some facts) × ((others ≡ units → ⊥) → after others ≡ before others))

abbrev pub IsText : PoolEntry → Type 0
IsText (Utf8 bytes) = IsModifiedUtf8 bytes
IsText _ = ⊤

-- The same of an entry. One that is no text changes nothing.
abbrev pub IsKept : PoolEntry → ℕ → Option TextFacts → (List ℕ → Option TextFacts) → (List ℕ → Option TextFacts) → Type 0
IsKept (Utf8 bytes) index (Some facts) before after = (units : List ℕ) × Spells bytes units × IsAdded units index facts before after
IsKept (Utf8 bytes) index None before after = ⊥
IsKept _ index (Some facts) before after = ⊥
IsKept _ index None before after = (units : List ℕ) → after units ≡ before units
