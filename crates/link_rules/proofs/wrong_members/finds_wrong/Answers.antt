-- The entry that it names has a link, or isn't there.
use Rattle.link_rules.proofs.WrongByLinks.{no_link, wrong_by_link}
use Rattle.link_rules.proofs.wrong_members.finds_wrong.Goals as goal

pub returns-in-Some : goal.returns-in-Some
returns-in-Some c =
    let (i, names, there) = c.in-Some.ensures in
    wrong_by_link c.args.t.now c.args.links.now c.args.instr.now i c.in-Some.link.now c.leads_wrong.result names there c.leads_wrong.ensures

pub returns-in-None : goal.returns-in-None
returns-in-None c = λ s file same h.
    (λ t. absurd cc, λ f. absurd (no_link c.args.links.now c.args.instr.now c.in-None.ensures s file h f))
