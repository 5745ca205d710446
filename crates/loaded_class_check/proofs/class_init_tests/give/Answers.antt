-- The class that the name means now is there.
use Rattle.std.proofs.Common.{arith}
use Rattle.loaded_class_check.proofs.FirstStatics.{given_is_there}
use Rattle.loaded_class_check.proofs.class_init_tests.give.Goals as goal

pub returns-in_err-give : goal.returns-in_err-give
returns-in_err-give c = rw c.in_err-give.ensures.err c.requires

pub returns-in_ok-give : goal.returns-in_ok-give
returns-in_ok-give c =
    given_is_there c.args.t.now c.args.names.now c.give-then-c-len.new.self _ c.args.c c.in_ok-give.field-0 c.in_ok-give.ensures.given
    (omega (arith, c.if-c-len.true, c.len.ensures.count)) c.requires
