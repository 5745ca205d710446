-- The domain has 44 words used, and a throwable takes 5.
use Rattle.std.proofs.Common.{◌≡◌, ℕ, ◌==◌, ◌<◌, ◌≤◌, true, List, [], ◌∷◌, Some, refl, inl, inr, sym, ap, ◌∙◌, arith}
use Rattle.std.proofs.lemmas.Bool.{eq-eqb}
use Rattle.std.proofs.lemmas.Option.{same_Some}
use Rattle.jk_model.specs.declared.values.Value.TheVariants as Held
use Rattle.jk_model_domains.specs.NumberRows.{ARITHMETIC_EXCEPTION}
use Rattle.jk_model_domains.specs.Objects.{NamedObject, Object, Plain, object_named}
use Rattle.jk_model_heaps.specs.Examples.{classes, first_inside, with_exception}
use Rattle.jk_model_heaps.specs.Heaps.{named}
use Rattle.jk_model_heaps.specs.Workings.{Inside}
use Rattle.jk_model_heaps.proofs.NamesInHeaps.{behind}
use Rattle.jk_model_heaps.proofs.OneIsMade.{one_is_made}
use Rattle.jk_model_heaps.proofs.examples.throwable_that_just_fits.Goals as goal

abbrev exception : Object
exception = Plain ARITHMETIC_EXCEPTION (Held.Null ∷ [])

only_one : (b : ℕ) (o : Object) → object_named (named b o ∷ []) b ≡ Some o
only_one b o = let same : (b == b) ≡ true = eq-eqb b b refl in rw same refl

pub returns-clause-fits : goal.returns-clause-fits
returns-clause-fits c = inl (with_exception.heap, one_is_made classes 49 first_inside.heap 9 exception refl (omega arith), refl)

pub returns-clause-is_new : goal.returns-clause-is_new
returns-clause-is_new c = λ new b raised. elim raised [
  | inl (heap, makes, is) ↦
      let fresh = makes.fresh (named b exception) (0, omega arith, refl) in (
        fresh,
        ap (λ (i : Inside). object_named i.heap b) is
            ∙ ap (λ (h : List NamedObject). object_named h b) makes.grown
            ∙ behind first_inside.heap (named b exception ∷ []) b fresh
            ∙ only_one b exception,
      )
  | inr (lacks, same, stands) ↦ let words : 49 < 49 = lacks in absurd (omega (arith, words))
]

pub returns-clause-lacks : goal.returns-clause-lacks
returns-clause-lacks c = inr (omega arith, refl, refl)

pub returns-clause-nothing_else : goal.returns-clause-nothing_else
returns-clause-nothing_else c = λ new b raised. elim raised [
  | inl (heap, makes, is) ↦ let words : 49 ≤ 48 = makes.fits in absurd (omega (arith, words))
  | inr (lacks, same, stands) ↦ (same, sym (same_Some 1 b stands))
]
