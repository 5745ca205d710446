-- Each part of the record is that of the class file.
use Rattle.std.proofs.Common.{ℕ, List, refl, subst, sym}
use Rattle.jk_model_classes.specs.Members.{ClassAt}
use Rattle.class_linker.proofs.GoodMembers.{names_super, names_this}
use Rattle.class_linker.proofs.NamesOfScope.{class_for}
use Rattle.class_linker.proofs.records.record_in.Goals as goal

pub class_name-requires-clause-named : goal.class_name-requires-clause-named
class_name-requires-clause-named c = names_this c.args.scope.now.file.now c.args.scope.now.names.now c.requires.linkable

pub class-parent-requires-clause-named : goal.class-parent-requires-clause-named
class-parent-requires-clause-named c = names_super c.args.scope.now.file.now c.args.scope.now.names.now c.requires.linkable

pub returns-clause-record : goal.returns-clause-record
returns-clause-record c = λ s names. record {
  name = subst (λ (units : List ℕ). ClassAt c.args.scope.now.file.now.pool c.args.scope.now.file.now.this_class units) (sym c.in_ok-name.ensures)
      c.class_name.ensures;
  at_home = refl;
  flags = refl;
  parent = (
    c.class-parent.result,
    class_for c.args.scope.now.file.now c.args.scope.now.names.now c.args.scope.now.file.now.super_class c.class-parent.result s names
        c.class-parent.ensures,
    refl,
  );
  interfaces = c.in_ok-interfaces.ensures s names;
  fields = c.in_ok-fields.ensures s names;
  methods = c.in_ok-methods.ensures s names;
  references = c.in_ok-references.ensures s names;
}
