-- The field is there.
use Rattle.loaded_class_check.proofs.class_init_tests.first_value.Goals as goal

pub static_value-requires : goal.static_value-requires
static_value-requires c = c.has_static.ensures c.if-not-has_static.false c.in_ok-own.own.state c.in_ok-own.ensures.state
