-- Each part between slashes was looked at.
use Rattle.std.proofs.Common.{rules, tests}
use Rattle.std.proofs.lemmas.Iterator.{cases_from_all}
use Rattle.std.proofs.lemmas.Iterator.Search.{true_from_All}
use Rattle.std.proofs.lemmas.Iterator.Splits.{YieldsList-from_slice_split}
use Rattle.std.proofs.lemmas.List.Elements.{All-from_all_within}
use Rattle.std.specs.List.{slice_split}
use Rattle.jk_model.specs.Descriptors.{IsName}
use Rattle.class_rules.proofs.ClassNameByParts.{is_slash}
use Rattle.class_rules.proofs.texts.names.has_names.Goals as goal

pub returns : goal.returns
returns c =
    let parts = slice_split is_slash c.args.units.now in
    let cases = cases_from_all _ _ c.all.result IsName (λ name. IsName name → ⊥) c.all.ensures.ran
    (YieldsList-from_slice_split _ is_slash c.args.units.now c.split.ensures.rest c.split.ensures.done c.split.ensures.closure
    (λ x b q k. search (rules, tests))) (λ x q k. search (rules, tests)) (λ x q k. search (rules, tests)) in (
      λ t. All-from_all_within IsName parts (rw t at cases),
      λ h. true_from_All IsName (λ name. IsName name → ⊥) c.all.result parts (λ name is not. not is) cases h,
    )
