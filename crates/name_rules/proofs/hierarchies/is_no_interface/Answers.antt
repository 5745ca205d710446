-- The test of the flags is that of the class.
use Rattle.std.proofs.Common.{◌↔◌, ℕ, Bool, IsTrue, not, subst, sym}
use Rattle.jk_model.specs.Flags.{has, INTERFACE}
use Rattle.jk_model_classes.specs.References.{FlagsOfNamed}
use Rattle.name_rules.specs.BadHierarchies.{folder_scope}
use Rattle.name_rules.proofs.BadParts.{none_test, some_test}
use Rattle.name_rules.proofs.hierarchies.is_no_interface.Goals as goal

pub returns-in-Some : goal.returns-in-Some
returns-in-Some c =
    let low = λ (f : ℕ). IsTrue (not (has f INTERFACE)) in
    some_test (FlagsOfNamed (folder_scope c.args.x.now) c.args.name.now) low c.in-Some.flags (not c.has.result) c.in-Some.ensures
    (subst (λ (r : Bool). IsTrue (not r) ↔ low c.in-Some.flags) (sym c.has.ensures) (λ t. t, λ t. t))

pub returns-in-None : goal.returns-in-None
returns-in-None c =
    none_test (FlagsOfNamed (folder_scope c.args.x.now) c.args.name.now) (λ (f : ℕ). IsTrue (not (has f INTERFACE))) c.in-None.ensures
