-- Why a domain isn't opened.
use Rattle.std.proofs.Common.{◌≡◌, ◌⊎◌, inl, inr, Result, Ok, Err, IfErr}
use Rattle.std.specs.Result.{IsErrAnd}
use Rattle.jk_model.specs.declared.script.Quotas.{Quotas}
use Rattle.jk_model.specs.declared.stores.AdmitError.{AdmitError}
use Rattle.jk_model.specs.declared.stores.AdmitError.TheVariants as Why
use Rattle.kernel_openings.specs.declared.answers.AddAnswer.{AddAnswer}
use Rattle.kernel_openings.specs.declared.answers.AddAnswer.TheVariants as Adding
use Rattle.kernel_openings.specs.Joining.{IsFullFor}
use Rattle.kernel_openings.specs.OpenedParts.{IsWhyNot, LacksPlaces, OpenParts}

pub why_full : (p : OpenParts) (q : Quotas) (e : AddAnswer) → (LacksPlaces p q → ⊥) → (e ≡ Adding.OutOfMemory) ⊎ IsFullFor p.world p.shared q e
    → IsWhyNot p q e
why_full p q (Adding.Refused rule place) places (inl lacks) = absurd cc
why_full p q (Adding.Refused rule place) places (inr full) = absurd full
why_full p q Adding.ReadFault places (inl lacks) = absurd cc
why_full p q Adding.ReadFault places (inr full) = absurd full
why_full p q Adding.NoRoom places (inl lacks) = absurd cc
why_full p q Adding.NoRoom places (inr full) = absurd full
why_full p q Adding.CapNumbers places (inl lacks) = absurd cc
why_full p q Adding.CapNumbers places (inr full) = (places, full)
why_full p q Adding.TooManyDomains places (inl lacks) = absurd cc
why_full p q Adding.TooManyDomains places (inr full) = (places, full.0, full.1)
why_full p q Adding.OutOfMemory places why = tt

why_lacks : (p : OpenParts) (q : Quotas) (e : AddAnswer) → e ≡ Adding.OutOfMemory → IsWhyNot p q e
why_lacks p q (Adding.Refused rule place) is = absurd cc
why_lacks p q Adding.ReadFault is = absurd cc
why_lacks p q Adding.NoRoom is = absurd cc
why_lacks p q Adding.CapNumbers is = absurd cc
why_lacks p q Adding.TooManyDomains is = absurd cc
why_lacks p q Adding.OutOfMemory is = tt

pub why_no_memory : (p : OpenParts) (q : Quotas) (r : Result (Unit {0}) AddAnswer) → IsErrAnd r (λ e. e ≡ Adding.OutOfMemory)
    → IfErr r (IsWhyNot p q)
why_no_memory p q (Ok x) is = tt
why_no_memory p q (Err e) is = why_lacks p q e is

pub admitted_places : (p : OpenParts) (q : Quotas) (r : Result (Unit {0}) AdmitError) {x : Unit {0}} → r ≡ Ok x
    → (LacksPlaces p q → (r ≡ Err Why.NoExtent) ⊎ (r ≡ Err Why.OutOfMemory)) → LacksPlaces p q → ⊥
admitted_places p q r ok only lacks = elim (only lacks) [
  | inl other ↦ absurd cc
  | inr other ↦ absurd cc
]
