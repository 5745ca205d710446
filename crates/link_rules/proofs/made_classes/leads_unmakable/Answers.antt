-- The entry has no name.
use Rattle.link_rules.proofs.made_classes.leads_unmakable.Goals as goal

pub returns-in-None-name_of : goal.returns-in-None-name_of
returns-in-None-name_of c = (λ t. absurd cc, λ (name, class, entry, is, bad). absurd (c.in-None-name_of.ensures name entry))
