-- The mark that is read tells whether there is an edge.
use Rattle.std.proofs.Common.{◌≡◌, ◌<◌, length, refl, arith, Some, slice_get}
use Rattle.std.proofs.lemmas.Option.{slice_get_read}
use Rattle.name_rules.proofs.EdgesOfRows.{mark_tells}
use Rattle.name_rules.proofs.rings.has_edge.Goals as goal

pub returns : goal.returns
returns c =
    let rows = c.args.rows.now in
    let row = c.index-rows-i.result in
    let at_row : slice_get rows c.args.i ≡ Some row = slice_get_read rows (length rows) c.args.i row refl c.requires.from c.index-rows-i.is in
    let below : c.args.j < length row.items = omega (arith, c.requires.square c.args.i row at_row, c.requires.to) in
    mark_tells rows c.args.i c.args.j row c.index.result.now at_row
    (slice_get_read row.items (length row.items) c.args.j c.index.result.now refl below c.index.ensures)
