-- There is no such method.
use Rattle.stub_maker.proofs.targets.is_system_method.Goals as goal

pub returns-in-None : goal.returns-in-None
returns-in-None c = (λ e. absurd cc, λ (method, is, n, more). absurd (c.in-None.ensures.none method is))
