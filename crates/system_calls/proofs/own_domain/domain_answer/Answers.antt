-- The setting has the domain's name.
use Rattle.system_calls.proofs.OwnDomain.{name_answered}
use Rattle.system_calls.proofs.own_domain.domain_answer.Goals as goal

pub returns-in-NamesDomain : goal.returns-in-NamesDomain
returns-in-NamesDomain g c = λ shared.
    name_answered (g.H.ObjectStore.content c.args.heap.now) (g.H.ObjectStore.content c.domain_name.new.heap) shared c.args.here.now
    c.args.meaning c.args.given.now c.in-NamesDomain.is c.domain_name.result c.domain_name.ensures.becomes
    c.domain_name.ensures.row
