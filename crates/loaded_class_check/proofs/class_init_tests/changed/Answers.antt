-- The field is there.
use Rattle.loaded_class_check.proofs.class_init_tests.changed.Goals as goal

pub set_static-requires : goal.set_static-requires
set_static-requires c = c.has_static.ensures c.if-not-has_static.false c.in_ok-own.own.state c.in_ok-own.ensures.state
