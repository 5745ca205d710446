-- The entry that it names has a link, or isn't there.
use Rattle.link_rules.proofs.FinalByLinks.{final_by_link, no_final}
use Rattle.link_rules.proofs.final_fields.puts_final.Goals as goal

pub returns-in-Some : goal.returns-in-Some
returns-in-Some c =
    let (i, names, there) = c.in-Some.ensures in
    final_by_link c.args.t.now c.args.class c.args.links.now c.args.instr.now i c.in-Some.link.now c.leads_final.result names there c.leads_final.ensures

pub returns-in-None : goal.returns-in-None
returns-in-None c = λ s file same own h.
    (λ t. absurd cc, λ p. absurd (no_final c.args.links.now c.args.instr.now c.in-None.ensures s file h p))
