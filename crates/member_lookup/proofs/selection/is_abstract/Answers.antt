-- There is no such method.
use Rattle.member_lookup.proofs.selection.is_abstract.Goals as goal

pub returns-in-None : goal.returns-in-None
returns-in-None c = (λ e. absurd cc, λ (method, is, more). absurd (c.in-None.ensures.none method is))
