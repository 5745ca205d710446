-- The class above has these methods.
use Rattle.std.proofs.Common.{sym}
use Rattle.list_lemmas.proofs.ItemsByPlace.{item_lent}
use Rattle.link_rules.proofs.final_methods.first_below.Goals as goal

pub first_named-requires-clause-above : goal.first_named-requires-clause-above
first_named-requires-clause-above c =
    (c.in-Some.r.now, item_lent c.args.t.now c.args.d.0 c.in-Some.r c.in-Some.ensures, sym c.as_slice-then-asks_final_ones.ensures)
