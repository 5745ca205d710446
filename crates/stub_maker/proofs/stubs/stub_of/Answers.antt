-- The interfaces of the walk that implement jk/Remote make the stub.
use Rattle.stub_maker.proofs.TheStub.{is-stub}
use Rattle.stub_maker.proofs.stubs.stub_of.Goals as goal

pub returns-in_ok-interfaces-in-Some-Some-clause-some : goal.returns-in_ok-interfaces-in-Some-Some-clause-some
returns-in_ok-interfaces-in-Some-Some-clause-some c =
    is-stub c.args.t.now c.in-Some-Some.remote c.in-Some-Some.ensures c.args.c _ (c.implements.ensures.0 c.if-implements.true)
    (rw (← c.in-Some-Some.ensures'.some.1) c.in_ok-interfaces-in-Some-Some.ensures)
