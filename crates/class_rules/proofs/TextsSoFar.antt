-- The walk over a pool knows all of its texts so far, by their units and by their indices.
use Rattle.std.proofs.Common.{◌≡◌, ℕ, ◌+◌, ◌<◌, ◌⊎◌, inl, inr, zero, suc, List, [], ◌∷◌, ◌++◌, length, slice_get, refl, sym, ◌∙◌, ap, subst, arith, length-append, Option, Some, None, MatchOption, bytes_eq}
use Rattle.std.proofs.lemmas.Bool.{cases_Bool, cases_eq}
use Rattle.std.proofs.lemmas.Slice.Eq.{bytes_eq-Decides}
use Rattle.jk_model.specs.ClassFile.{IsGoodEntry}
use Rattle.jk_model.specs.Text.{Spells}
use Rattle.jk_model.specs.declared.class_file.PoolEntry.{PoolEntry}
use Rattle.jk_model.specs.declared.class_file.PoolEntry.TheVariants.{Utf8}
use Rattle.jk_model_classes.specs.Members.{TextAt}
use Rattle.class_lemmas.proofs.OneText.{one_text}
use Rattle.class_rules.specs.SeenTexts.{IsJudged, IsAdded, IsKept, IsText}
use Rattle.class_rules.specs.Texts.{AreFacts, AreFactsAt, AreFactsOf}
use Rattle.class_rules.specs.declared.texts.TextFacts.{TextFacts}

-- ---- What holds of each item.

pub text_from_good : (pool : List PoolEntry) (e : PoolEntry) → IsGoodEntry pool e → IsText e
text_from_good pool (Utf8 bytes) h = h
text_from_good pool _ h = tt

-- ---- By units.

abbrev pub IsUnseen : List PoolEntry → ℕ → List ℕ → Type 0
IsUnseen pool i units = (k : ℕ) → k < i → TextAt pool k units → ⊥

abbrev pub IsSeen : List PoolEntry → ℕ → (List ℕ → Option TextFacts) → Type 0
IsSeen pool i known = (units : List ℕ) → MatchOption (known units) (IsUnseen pool i units) (λ facts. AreFactsOf pool units facts)

pub none_seen : (pool : List PoolEntry) (known : List ℕ → Option TextFacts) → ((units : List ℕ) → known units ≡ None) → IsSeen pool 0 known
none_seen pool known none units = rw (none units) (λ k lt text. absurd (omega arith))

facts_of_added : (pool : List PoolEntry) (i : ℕ) (units : List ℕ) (facts : TextFacts) (o : Option TextFacts)
    → MatchOption o (IsJudged units i facts) (λ known. facts ≡ known) → MatchOption o (IsUnseen pool i units) (λ known. AreFactsOf pool units known)
    → TextAt pool i units → AreFactsOf pool units facts
facts_of_added pool i units facts None judged unseen text = judged pool (text, unseen)
facts_of_added pool i units facts (Some known) same its text = subst (AreFactsOf pool units) (sym same) its

still_seen : (pool : List PoolEntry) (i : ℕ) (units : List ℕ) (o : Option TextFacts) → (TextAt pool i units → ⊥)
    → MatchOption o (IsUnseen pool i units) (λ known. AreFactsOf pool units known)
    → MatchOption o (IsUnseen pool (i + 1) units) (λ known. AreFactsOf pool units known)
still_seen pool i units None other unseen = λ k lt text.
    elim (cases_eq k i) as (λ _. ⊥) [
      | inl same ↦ other (subst (λ (j : ℕ). TextAt pool j units) same text)
      | inr differ ↦ unseen k (omega arith) text
    ]
still_seen pool i units (Some known) other its = its

abbrev pub IsNext : List PoolEntry → ℕ → PoolEntry → Option TextFacts → (List ℕ → Option TextFacts) → Type 0
IsNext pool i e facts after = IsSeen pool (i + 1) after × AreFactsAt pool e facts

seen_added : (pool : List PoolEntry) (i : ℕ) (bytes units : List ℕ) (facts : TextFacts) (before after : List ℕ → Option TextFacts)
    → slice_get pool i ≡ Some (Utf8 bytes) → Spells bytes units → IsAdded units i facts before after → IsSeen pool i before
    → IsNext pool i (Utf8 bytes) (Some facts) after
seen_added pool i bytes units facts before after at spelt (now, others) seen = (seen_after, (units, spelt, its))
  where
    its : AreFactsOf pool units facts
    its = facts_of_added pool i units facts (before units) now (seen units) (bytes, at, spelt)

    same_units : (us : List ℕ) → us ≡ units → MatchOption (after us) (IsUnseen pool (i + 1) us) (λ known. AreFactsOf pool us known)
    same_units us e = rw ((others us).0 e) (subst (λ (vs : List ℕ). AreFactsOf pool vs facts) (sym e) its)

    other_units : (us : List ℕ) → (us ≡ units → ⊥) → MatchOption (after us) (IsUnseen pool (i + 1) us) (λ known. AreFactsOf pool us known)
    other_units us differ =
        rw ((others us).1 differ) (still_seen pool i us (before us) (λ text. differ (one_text pool i us units text (bytes, at, spelt))) (seen us))

    seen_after : IsSeen pool (i + 1) after
    seen_after us =
        elim (cases_Bool (bytes_eq us units)) [
          | inl e ↦ same_units us ((bytes_eq-Decides us units).0 e)
          | inr e ↦ other_units us (λ same. let true_too = (bytes_eq-Decides us units).1 same in absurd cc)
        ]

seen_kept : (pool : List PoolEntry) (i : ℕ) (before after : List ℕ → Option TextFacts) → ((bytes : List ℕ) → slice_get pool i ≡ Some (Utf8 bytes) → ⊥)
    → ((units : List ℕ) → after units ≡ before units) → IsSeen pool i before → IsSeen pool (i + 1) after
seen_kept pool i before after no_text same seen units =
    rw (same units) (still_seen pool i units (before units) (λ (bytes, at, spelt). no_text bytes at) (seen units))

pub next_entry : (pool : List PoolEntry) (i : ℕ) (e : PoolEntry) (facts : Option TextFacts) (before after : List ℕ → Option TextFacts)
    → slice_get pool i ≡ Some e → IsKept e i facts before after → IsSeen pool i before → IsNext pool i e facts after
next_entry pool i (Utf8 bytes) (Some facts) before after at (units, spelt, added) seen = seen_added pool i bytes units facts before after at spelt added seen
next_entry pool i (Utf8 bytes) None before after at kept seen = absurd kept
next_entry pool i _ (Some facts) before after at kept seen = absurd kept
next_entry pool i _ None before after at kept seen = (seen_kept pool i before after (λ bytes at2. let both = sym at ∙ at2 in absurd cc) kept seen, tt)

-- ---- By index.

pub record IsTable (pool : List PoolEntry) (i : ℕ) (table : List (Option TextFacts)) : Type 0 where
  pub long : length table ≡ i
  pub at : (k : ℕ) (e : PoolEntry) (found : Option TextFacts) → slice_get pool k ≡ Some e → slice_get table k ≡ Some found → AreFactsAt pool e found

pub no_table : (pool : List PoolEntry) → IsTable pool 0 []
no_table pool = record { long = refl; at = λ k e found here there. absurd cc }

old_or_new : {X : Type 0} (xs : List X) (x : X) (k : ℕ) (y : X) → slice_get (xs ++ x ∷ []) k ≡ Some y → (slice_get xs k ≡ Some y) ⊎ ((k ≡ length xs) × (y ≡ x))
old_or_new [] x zero y at =
    let here : Some x ≡ Some y = at in
    inr (refl, cc)
old_or_new [] x (suc k) y at = absurd cc
old_or_new (z ∷ xs) x zero y at = inl at
old_or_new (z ∷ xs) x (suc k) y at =
    elim (old_or_new xs x k y at) [ inl old ↦ inl old | inr (last, same) ↦ inr (ap suc last, same) ]

pub table_more : (pool : List PoolEntry) (i : ℕ) (table : List (Option TextFacts)) (e : PoolEntry) (facts : Option TextFacts) → slice_get pool i ≡ Some e
    → AreFactsAt pool e facts → IsTable pool i table → IsTable pool (i + 1) (table ++ facts ∷ [])
table_more pool i table e facts here its so_far = record { long = omega (arith, length-append table (facts ∷ []), so_far.long); at = each }
  where
    last : (e2 : PoolEntry) → slice_get pool i ≡ Some e2 → AreFactsAt pool e2 facts
    last e2 here2 =
        let both : Some e ≡ Some e2 = sym here ∙ here2 in
        let same : e ≡ e2 = cc in
        subst (λ (x : PoolEntry). AreFactsAt pool x facts) same its

    each : (k : ℕ) (e2 : PoolEntry) (found : Option TextFacts) → slice_get pool k ≡ Some e2 → slice_get (table ++ facts ∷ []) k ≡ Some found
        → AreFactsAt pool e2 found
    each k e2 found here2 at =
        elim (old_or_new table facts k found at) [
          | inl old ↦ so_far.at k e2 found here2 old
          | inr (place, same) ↦
              subst (AreFactsAt pool e2) (sym same) (last e2 (subst (λ (j : ℕ). slice_get pool j ≡ Some e2) (place ∙ so_far.long) here2))
        ]

pub whole_table : (pool : List PoolEntry) (i : ℕ) (table : List (Option TextFacts)) → i ≡ length pool → IsTable pool i table → AreFacts pool table
whole_table pool i table e so_far = record { long = so_far.long ∙ e; at = so_far.at }
