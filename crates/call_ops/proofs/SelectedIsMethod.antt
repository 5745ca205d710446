-- A method that is selected is there.
use Rattle.std.proofs.Common.{List, Option, Some, None, sym, subst, inl, inr}
use Rattle.std.proofs.lemmas.Option.{same_Some}
use Rattle.jk_model.specs.declared.identifiers.ClassId.{ClassId}
use Rattle.jk_model.specs.declared.identifiers.MemberId.{MemberId}
use Rattle.jk_model_classes.specs.declared.records.ClassRecord.{ClassRecord}
use Rattle.jk_model_classes.specs.declared.records.MethodRecord.{MethodRecord}
use Rattle.jk_model_classes.specs.Classes.{superclasses}
use Rattle.jk_model_classes.specs.Lookups.{FindsOn, IsUnlessAbstract, MethodIs, RunsFor, Selects}

module _ (classes : List ClassRecord) (class : ClassId) (named m : MemberId) where
  by_found : (found : Option MemberId) → FindsOn (RunsFor classes named) (superclasses classes class) found
      → IsUnlessAbstract classes found (Some m) → (method : MethodRecord) × MethodIs classes m method
  by_found None finds unless = absurd cc
  by_found (Some found) finds (inl (abstract, none)) = absurd cc
  by_found (Some found) finds (inr (concrete, is)) =
      let runs : RunsFor classes named found = finds.member.suits in
      (runs.other_method, subst (λ (k : MemberId). MethodIs classes k runs.other_method) (sym (same_Some m found is)) runs.other_is)

  pub selected_is_method : Selects classes class named (Some m) → (method : MethodRecord) × MethodIs classes m method
  selected_is_method (found, finds, unless) = by_found found finds unless
