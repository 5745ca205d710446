-- There are fewer ranges than numbers of 32 bits.
use Rattle.std.proofs.Common.{◌≡◌, ◌^◌, ◌<◌, None, length, rules}
use Rattle.jk_model.specs.declared.identifiers.DomainId.{DomainId}
use Rattle.jk_model.specs.Capabilities.{range_of}
use Rattle.capability_table.proofs.TableIsKept.{few_ranges}
use Rattle.capability_table.proofs.table.CapabilityTable.next_place.Goals as goal

pub overflow_cast-result : goal.overflow_cast-result
overflow_cast-result c =
    let t = c.self.inside in
    let owner : DomainId = record { 0 = c.args.owner } in
    let none : range_of t.ranges.items owner ≡ None = rw (c.self.view_is) c.requires in
    let few : length t.ranges.items < 2 ^ 32 = few_ranges t.owners.keys t.places.items t.ranges.items owner c.self.invariant c.ranges.owner.fits none in
    search rules
