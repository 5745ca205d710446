-- The classes in a method's descriptor are those of its parameters and of what it returns.
use Rattle.std.proofs.Common.{ℕ, List, Bool, subst, sym}
use Rattle.jk_model.specs.declared.descriptors.FieldType.{FieldType}
use Rattle.jk_model_classes.specs.Items.{HasItem}
use Rattle.jk_model_classes.specs.References.{IsOfClass, Mentions}
use Rattle.name_rules.proofs.NamesLacking.{Tells, params_tell, result_tells}
use Rattle.name_rules.proofs.mentions.method_lacks.Goals as goal
use Rattle.name_rules.proofs.mentions.method_lacks.Goals.{then-types_lack, else-types_lack}

pub returns-after-types_lack : goal.returns-after-types_lack
returns-after-types_lack c =
    let x = c.args.names.now in
    let units = c.args.units.now in
    let kind = c.in-Ok.kind in
    let text = c.in-Ok.ensures.read in
    let a = c.types_lack.result in
    let params : Tells x (λ (name : List ℕ). HasItem (IsOfClass name) kind.params) a =
    subst (λ (types : List FieldType). Tells x (λ (name : List ℕ). HasItem (IsOfClass name) types) a) c.as_slice.ensures c.types_lack.ensures in
    elim c.if-types_lack.branch [
      | then-types_lack w ↦
          subst (λ (r : Bool). Tells x (Mentions units) r) (sym w.result-is) (params_tell x units kind text a params w.if-types_lack.true)
      | else-types_lack w ↦
          subst (λ (r : Bool). Tells x (Mentions units) r) (sym w.result-is)
          (result_tells x units kind text a params w.result_lacks.result w.if-types_lack.false w.result_lacks.ensures)
    ]
