-- So many calls draw few numbers.
use Rattle.std.proofs.Common.{length}
use Rattle.host_check.proofs.NumbersOfCalls.{made_more, made_none, make_next}
use Rattle.host_check.proofs.host_tests.make_all.Goals as goal

pub loop-call-init : goal.loop-call-init
loop-call-init g c = made_none c.args.kernel.now c.requires.begun

pub make-requires : goal.make-requires
make-requires g c =
    make_next c.loop-call.call-index (length c.args.calls.now) c.loop-call.kernel c.loop-call-test.true c.requires.few c.loop-call.invariant

pub loop-call-preserved : goal.loop-call-preserved
loop-call-preserved g c = made_more c.loop-call.call-index c.loop-call.kernel c.make.new.kernel c.loop-call.invariant c.make.ensures
