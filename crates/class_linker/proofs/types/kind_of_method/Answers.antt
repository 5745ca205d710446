-- The parts of the type are those of the descriptor.
use Rattle.jk_model_classes.specs.Worlds.{class_named}
use Rattle.class_linker.proofs.KnownOnce.{kind_made}
use Rattle.class_linker.proofs.types.kind_of_method.Goals as goal

pub returns : goal.returns
returns c =
    kind_made (class_named c.args.names.now) c.args.units.now c.in_ok-kind.kind c.in_ok-new.field-0 c.as_slice.result.now c.in_ok-params.params
    c.in_ok-new-2.field-0 c.result_ref-returns.result c.in_ok-kind.ensures c.in_ok-new.ensures c.as_slice.ensures c.in_ok-params.ensures
    c.in_ok-new-2.ensures c.result_ref-returns.ensures
