-- The class that was reached declares the field, since none above it has the place.
use Rattle.std.proofs.Common.{arith}
use Rattle.class_table.specs.Entries.{records}
use Rattle.class_table.proofs.EntriesAreRight.{entry-at, field_count-at}
use Rattle.class_table.proofs.StandingAbove.{is-own_superclass, superclasses-trans}
use Rattle.class_table.proofs.upwards.holder.Goals as goal

pub loop-at-init : goal.loop-at-init
loop-at-init c =
    record {
      above = is-own_superclass (records c.args.entries.now) c.requires.table.ordered c.args.c;
      within = c.requires.class;
      place = c.requires.place;
    }

pub entry_of-requires : goal.entry_of-requires
entry_of-requires c = c.loop-at.invariant.within

pub step_to_holder-at-requires-clause-class : goal.step_to_holder-at-requires-clause-class
step_to_holder-at-requires-clause-class c = c.loop-at.invariant.within

pub step_to_holder-at-requires-clause-place : goal.step_to_holder-at-requires-clause-place
step_to_holder-at-requires-clause-place c =
    let right = entry-at c.args.entries.now c.loop-at.at c.entry_of.result.now c.entry_of.ensures c.requires.table in
    omega (arith, right.standing.before)

pub loop-at-preserved : goal.loop-at-preserved
loop-at-preserved c =
    record {
      above =
          superclasses-trans (records c.args.entries.now) c.requires.table.ordered c.args.c c.loop-at.at c.step_to_holder-at.result
          c.loop-at.invariant.above c.step_to_holder-at.ensures.above;
      within = omega (arith, c.step_to_holder-at.ensures.lower, c.loop-at.invariant.within);
      place = c.step_to_holder-at.ensures.place;
    }

pub returns : goal.returns
returns c =
    let e = c.entry_of.result.now in
    record {
      above = c.loop-at.invariant.above;
      entry = e;
      at = c.entry_of.ensures;
      not_before = c.loop-at-test.false;
      within = omega (arith, c.loop-at.invariant.place, field_count-at c.args.entries.now c.loop-at.at e c.entry_of.ensures c.requires.table);
    }
