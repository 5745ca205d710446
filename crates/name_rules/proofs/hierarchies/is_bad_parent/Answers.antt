-- The three ways in which a class may not be a parent.
use Rattle.std.proofs.Common.{◌≡◌, ◌∙◌, ℕ, List, true, false, not, subst, sym}
use Rattle.std.specs.Prelude.{codes}
use Rattle.std.proofs.lemmas.Bool.{iff_false}
use Rattle.jk_model_classes.specs.References.{IsClosedNamed}
use Rattle.name_rules.specs.BadHierarchies.{IsUnfit, folder_scope}
use Rattle.name_rules.proofs.BadParts.{closed_parent, denied, last_parent, unfit_parent}
use Rattle.name_rules.proofs.hierarchies.is_bad_parent.Goals as goal

pub returns-then-is_closed : goal.returns-then-is_closed
returns-then-is_closed c =
    closed_parent (folder_scope c.args.x.now) c.args.c.now c.args.name.now
    (subst (λ (n : List ℕ). IsClosedNamed n) c.as_slice.ensures (c.is_closed.ensures.0 c.if-is_closed.true))

pub returns-then-is_unfit : goal.returns-then-is_unfit
returns-then-is_unfit c =
    let s = folder_scope c.args.x.now in
    unfit_parent s c.args.c.now c.args.name.now
    (subst (λ (n : List ℕ). IsUnfit s n) c.as_slice-2.ensures (c.is_unfit.ensures.0 c.if-is_unfit.true))

pub returns-then-has : goal.returns-then-has
returns-then-has c =
    let s = folder_scope c.args.x.now in
    let name = c.args.name.now in
    last_parent s c.args.c.now name (not c.is.result)
    (λ closed. iff_false c.is_closed.ensures c.if-is_closed.false (subst (λ (n : List ℕ). IsClosedNamed n) (sym c.as_slice.ensures) closed))
    (λ unfit. iff_false c.is_unfit.ensures c.if-is_unfit.false (subst (λ (n : List ℕ). IsUnfit s n) (sym c.as_slice-2.ensures) unfit)) (
      λ t. (sym c.has.ensures ∙ c.if-has.true, (denied (name ≡ codes "java/lang/Object") c.is.result c.is.ensures).0 t),
      λ (low, other). (denied (name ≡ codes "java/lang/Object") c.is.result c.is.ensures).1 other,
    )

pub returns-else-has : goal.returns-else-has
returns-else-has c =
    let s = folder_scope c.args.x.now in
    let name = c.args.name.now in
    last_parent s c.args.c.now name c.has.result
    (λ closed. iff_false c.is_closed.ensures c.if-is_closed.false (subst (λ (n : List ℕ). IsClosedNamed n) (sym c.as_slice.ensures) closed))
    (λ unfit. iff_false c.is_unfit.ensures c.if-is_unfit.false (subst (λ (n : List ℕ). IsUnfit s n) (sym c.as_slice-2.ensures) unfit))
    (λ t. absurd (let never : false ≡ true = sym c.if-has.false ∙ t in cc), λ (low, other). c.has.ensures ∙ low)
