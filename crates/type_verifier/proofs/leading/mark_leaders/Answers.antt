-- The first place, the instructions and the catch entries have marked all that leads.
use Rattle.type_verifier.proofs.LeadersMarked.{leaders_made}
use Rattle.type_verifier.proofs.leading.mark_leaders.Goals as goal

pub returns : goal.returns
returns c =
    leaders_made c.args.code.now c.args.leads.now c.mark.new.leads c.mark_instrs.new.leads c.mark_entries.new.leads c.requires c.mark.ensures.kept
    c.mark.ensures.marked c.mark_instrs.ensures.kept (rw c.as_slice.ensures at c.mark_instrs.ensures.marked) c.mark_entries.ensures.kept
    (rw c.as_slice-2.ensures at c.mark_entries.ensures.marked)
