-- The two texts take 10 words, and the new one 6.
use Rattle.std.proofs.Common.{◌≡◌, ℕ, ◌+◌, ◌<◌, ◌≤◌, List, [], ◌∷◌, ◌++◌, Some, codes, inl, inr, refl, ap, subst, arith}
use Rattle.std.proofs.lemmas.Option.{same_Some}
use Rattle.jk_model.specs.declared.values.Value.TheVariants as Held
use Rattle.jk_model_domains.specs.Objects.{Text, object_named, object_words}
use Rattle.jk_model_heaps.specs.Heaps.{heap_words, named}
use Rattle.jk_model_heaps.proofs.OneIsMade.{one_is_made}
use Rattle.jk_model_system_rows.specs.Answers.{Answered}
use Rattle.jk_model_system_rows.specs.Examples.{classes, joined_texts, texts}
use Rattle.jk_model_system_rows.proofs.examples.empty_text_is_joined.Goals as goal

same_text : (us vs : List ℕ) → Text us ≡ Text vs → vs ≡ us
same_text us vs e = cc

-- of the two texts
units_of_both : (units more : List ℕ) → object_named texts.heap 1 ≡ Some (Text units) → object_named texts.heap 2 ≡ Some (Text more)
    → units ++ more ≡ codes "ab"
units_of_both units more is also =
    let first : units ≡ codes "ab" = same_text (codes "ab") units (same_Some (Text (codes "ab")) (Text units) is) in
    let second : more ≡ [] = same_text [] more (same_Some (Text []) (Text more) also) in
    λ j. first j ++ second j

no_null : (a : ℕ) → Held.Obj a ≡ Held.Null → ⊥
no_null a e = cc

pub returns-clause-fits : goal.returns-clause-fits
returns-clause-fits c = (
  codes "ab",
  refl,
  inr (
    [],
    refl,
    inl (3, joined_texts.heap, one_is_made classes 16 texts.heap 3 (Text (codes "ab")) refl (omega arith), refl),
  ),
)

pub returns-clause-is_new : goal.returns-clause-is_new
returns-clause-is_new c = λ done (units, is, rest). elim rest [
  | inl (null, fails) ↦ absurd (no_null 2 null)
  | inr (more, also, made) ↦
      let both : units ++ more ≡ codes "ab" = units_of_both units more is also in
      elim made [
        | inl (a, heap, makes, left) ↦ (
          a,
          ap (λ (d : Answered). d.answer) left,
          makes.fresh (named a (Text (units ++ more))) (0, omega arith, refl),
        )
        | inr (lacks, fails) ↦
            let words : 16 < 16 =
            subst (λ (us : List ℕ). 16 < heap_words classes texts.heap + object_words classes (Text us)) both lacks in
            absurd (omega (arith, words))
      ]
]

pub returns-clause-lacks : goal.returns-clause-lacks
returns-clause-lacks c = λ done (units, is, rest). elim rest [
  | inl (null, fails) ↦ absurd (no_null 2 null)
  | inr (more, also, made) ↦
      let both : units ++ more ≡ codes "ab" = units_of_both units more is also in
      elim made [
        | inl (a, heap, makes, left) ↦
            let words : 16 ≤ 15 =
            subst (λ (us : List ℕ). heap_words classes texts.heap + heap_words classes (named a (Text us) ∷ []) ≤ 15) both makes.fits in
            absurd (omega (arith, words))
        | inr (lacks, fails) ↦ fails
      ]
]

pub returns-clause-null : goal.returns-clause-null
returns-clause-null c = λ done (units, is, rest). elim rest [
  | inl (null, fails) ↦ fails
  | inr (more, also, made) ↦ absurd also
]
