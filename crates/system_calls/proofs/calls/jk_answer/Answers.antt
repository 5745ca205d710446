-- The domain's objects are laid out, and its name doesn't depend on what domains share.
use Rattle.system_calls.proofs.MethodsMayBeDone.{ready}
use Rattle.system_calls.proofs.calls.jk_answer.Goals as goal

pub domain_answer-requires-clause-ready : goal.domain_answer-requires-clause-ready
domain_answer-requires-clause-ready g c =
    ready (g.H.ObjectStore.content c.args.heap.now) c.args.shared.now c.args.here.now c.requires.may.own c.requires.may.frames c.requires.may.may

pub returns-in-NamesDomain : goal.returns-in-NamesDomain
returns-in-NamesDomain g c = c.domain_answer.ensures c.args.shared.now
