-- The key is listed, and all else as before.
use Rattle.std.proofs.Common.{◌≡◌, ◌∙◌, None, subst, sym}
use Rattle.number_table.specs.NumberPlaces.{NumberPlaces, place_of}
use Rattle.number_table.proofs.EntriesListed.{inserts_listed, lookup-listed}
use Rattle.number_table.proofs.table.NumberTable.insert.Goals as goal

pub insert-requires-clause-new : goal.insert-requires-clause-new
insert-requires-clause-new c =
    let P : NumberPlaces → Type 0 = λ x. place_of x c.args.key ≡ None in
    sym (lookup-listed c.self.inside.table c.args.key) ∙ subst P (sym c.self.view_is) c.requires.new

pub returns : goal.returns
returns c = rw (← c.self.view_is) (inserts_listed c.self.inside.table c.insert.new.self c.args.key c.args.place c.insert.ensures)
