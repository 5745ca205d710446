-- One mark more is one edge more.
use Rattle.std.proofs.Common.{get_or}
use Rattle.std.proofs.lemmas.Option.{slice_get-get_or}
use Rattle.name_rules.proofs.EdgesOfRows.{one_more}
use Rattle.name_rules.proofs.rings.mark.Goals as goal

pub returns : goal.returns
returns c =
    let rows = c.args.rows.now in
    one_more rows c.args.i c.args.j (get_or rows c.args.i c.index-rows-i.result) c.requires.square
    (slice_get-get_or rows c.args.i c.index-rows-i.result c.requires.from) c.requires.from c.requires.to
