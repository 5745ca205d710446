-- The class is that of its name.
use Rattle.std.proofs.Common.{sym, ◌∙◌, ap, subst, List, ℕ}
use Rattle.jk_model.specs.declared.descriptors.Base.{Base}
use Rattle.jk_model.specs.declared.descriptors.Base.TheVariants.{Class}
use Rattle.jk_model_classes.specs.SystemRecords.{IsBaseFor}
use Rattle.jk_model_classes.specs.Worlds.{class_named}
use Rattle.class_linker.specs.TextsSaid.{Answers}
use Rattle.class_linker.proofs.said.base_ref.Goals as goal

pub returns-in-Class : goal.returns-in-Class
returns-in-Class c =
    subst (λ (b : Base). Answers (IsBaseFor (class_named c.args.names.now) b) c.class_ref.result)
    (ap (λ (name : List ℕ). Class name) c.as_slice.ensures ∙ sym c.in-Class.is) c.class_ref.ensures
