-- The tests of the flags are those of the class.
use Rattle.std.proofs.Common.{◌≡◌, ◌⊎◌, ◌∙◌, inl, inr, ℕ, true, false, IsTrue, sym}
use Rattle.jk_model.specs.Flags.{has, FINAL, INTERFACE}
use Rattle.jk_model_classes.specs.References.{FlagsOfNamed}
use Rattle.name_rules.specs.BadHierarchies.{folder_scope}
use Rattle.name_rules.proofs.BadParts.{none_test, some_test}
use Rattle.name_rules.proofs.hierarchies.is_unfit.Goals as goal

abbrev Unfit : ℕ → Type 0
Unfit f = IsTrue (has f INTERFACE) ⊎ IsTrue (has f FINAL)

pub returns-then-has : goal.returns-then-has
returns-then-has c =
    let flags = c.in-Some.flags in
    some_test (FlagsOfNamed (folder_scope c.args.x.now) c.args.name.now) Unfit flags c.has.result c.in-Some.ensures
    (λ t. inl (sym c.has.ensures ∙ t), λ h. c.if-has.true)

pub returns-else-has : goal.returns-else-has
returns-else-has c =
    let flags = c.in-Some.flags in
    some_test (FlagsOfNamed (folder_scope c.args.x.now) c.args.name.now) Unfit flags c.has-else-has.result c.in-Some.ensures (
      λ t. inr (sym c.has-else-has.ensures ∙ t),
      λ h. elim h [
        | inl interface ↦ absurd (let never : false ≡ true = sym c.if-has.false ∙ c.has.ensures ∙ interface in cc)
        | inr closed ↦ c.has-else-has.ensures ∙ closed
      ],
    )

pub returns-in-None : goal.returns-in-None
returns-in-None c = none_test (FlagsOfNamed (folder_scope c.args.x.now) c.args.name.now) Unfit c.in-None.ensures
