-- The walk ends at the `;`, or stops where no name goes on.
use Rattle.std.proofs.Common.{length, arith, refl}
use Rattle.descriptors.proofs.NamesAreWalks.{ends_here, stops_here, stops_at_end}
use Rattle.descriptors.proofs.names.name_length.Goals as goal

pub returns-in-End : goal.returns-in-End
returns-in-End c = ends_here c.loop-i.at_start c.args.units.now c.loop-i.i c.loop-i-test.true c.loop-i.invariant c.in-End.ensures

pub returns-in-Stop : goal.returns-in-Stop
returns-in-Stop c = stops_here c.loop-i.at_start c.args.units.now c.loop-i.i c.loop-i-test.true c.loop-i.invariant c.in-Stop.ensures

pub returns : goal.returns
returns c = stops_at_end c.loop-i.at_start c.args.units.now c.loop-i.i (length c.args.units.now) (omega arith) refl c.loop-i.invariant
