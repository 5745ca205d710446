-- The class that was found has a part.
use Rattle.loaded_class_check.proofs.class_init_tests.with_state.Goals as goal

pub set_state-requires : goal.set_state-requires
set_state-requires c = c.in_ok-own.ensures.state.state.all _ c.in-Some._class.now c.in-Some.ensures
