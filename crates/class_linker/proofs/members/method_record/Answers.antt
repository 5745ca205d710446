-- Each part of the record is that of the method.
use Rattle.std.proofs.Common.{ℕ, List, subst, sym}
use Rattle.jk_model_classes.specs.Members.{TextAt}
use Rattle.jk_model_classes.specs.Worlds.{class_named}
use Rattle.class_linker.specs.KnownDescriptors.{IsKindAt}
use Rattle.class_linker.proofs.NamesOfScope.{result_for, types_for}
use Rattle.class_linker.proofs.members.method_record.Goals as goal

pub returns-clause-made : goal.returns-clause-made
returns-clause-made c = λ s names.
    let m = class_named c.args.scope.now.names.now in
    let pool = c.args.scope.now.file.now.pool in
    let types = c.in_ok-types.types in
    let found : IsKindAt m pool c.args.method.now.descriptor types = c.in_ok-types.ensures.found in
    record {
      name = subst (λ (units : List ℕ). TextAt pool c.args.method.now.name units) (sym c.in_ok-name.ensures) c.text.ensures;
      flags = c.method_flags-flags.ensures;
      kind = (found.0, found.1, found.2.text);
      params = types_for m s.meaning types.kind.params types.params names found.2.params;
      result = result_for m s.meaning types.kind.result types.returns names found.2.returns;
      body = c.in_ok-body.ensures s names;
    }
