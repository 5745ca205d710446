-- There is a place for each number of the ranges, and these are few.
use Rattle.std.proofs.Common.{◌≤◌, arith, rules}
use Rattle.jk_model.specs.Capabilities.{last_number}
use Rattle.capability_table.proofs.TableIsKept.{table-length}
use Rattle.capability_table.proofs.table.CapabilityTable.used.Goals as goal

pub overflow_cast-result : goal.overflow_cast-result
overflow_cast-result c =
    let t = c.self.inside in
    let many = table-length t.owners.keys t.places.items t.ranges.items c.self.invariant in
    let few : c.len.result ≤ last_number = omega (arith, many, c.self.invariant.few, c.len.ensures, t.places.ok.0) in
    search rules

pub returns-clause-numbers : goal.returns-clause-numbers
returns-clause-numbers c =
    let t = c.self.inside in
    let many = table-length t.owners.keys t.places.items t.ranges.items c.self.invariant in
    rw (← c.self.view_is) (omega (arith, many, c.len.ensures, t.places.ok.0))

pub returns-clause-few : goal.returns-clause-few
returns-clause-few c =
    let t = c.self.inside in
    let many = table-length t.owners.keys t.places.items t.ranges.items c.self.invariant in
    omega (arith, many, c.self.invariant.few, c.len.ensures, t.places.ok.0)
