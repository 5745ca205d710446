-- The key is listed no longer, and all else as before.
use Rattle.std.proofs.Common.{Option, IsSome, subst, sym}
use Rattle.number_table.specs.declared.entry_table.Place.{Place}
use Rattle.number_table.specs.NumberPlaces.{NumberPlaces, place_of}
use Rattle.number_table.proofs.EntriesListed.{lookup-listed, removes_listed}
use Rattle.number_table.proofs.EntriesOfANumber.{room_small}
use Rattle.number_table.proofs.table.NumberTable.remove.Goals as goal

pub remove-requires : goal.remove-requires
remove-requires c =
    let P : NumberPlaces → Type 0 = λ x. IsSome (place_of x c.args.key) in
    let Q : Option Place → Type 0 = λ o. IsSome o in
    subst Q (lookup-listed c.self.inside.table c.args.key) (subst P (sym c.self.view_is) c.requires)

pub returns-clause-removes : goal.returns-clause-removes
returns-clause-removes c = rw (← c.self.view_is) (removes_listed c.self.inside.table c.remove.new.self c.args.key c.remove.ensures)

pub returns-clause-few : goal.returns-clause-few
returns-clause-few c = room_small c.remove.new.self
