-- A class that can't but be there is there.
use Rattle.std.proofs.Common.{List, subst, sym}
use Rattle.jk_model.specs.declared.class_file.PoolEntry.{PoolEntry}
use Rattle.jk_model_classes.specs.Members.{ClassAt}
use Rattle.class_linker.proofs.scope.Scope.class_name.Goals as goal

pub unreachable-requires : goal.unreachable-requires
unreachable-requires c = c.requires.named (λ (units, at, plain).
    c.in-None.ensures units (subst (λ (pool : List PoolEntry). ClassAt pool c.args.i units) (sym c.as_slice.ensures) at))
