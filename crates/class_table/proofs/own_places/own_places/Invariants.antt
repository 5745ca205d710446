-- The first fields are there.
use Rattle.std.proofs.Common.{◌≤◌, length, take}
use Rattle.jk_model.specs.declared.identifiers.ClassId.{ClassId}
use Rattle.class_table.specs.Entries.{AreOwnPlaces}
use Rattle.class_table.proofs.own_places.own_places.Given as goal

abbrev pub invariant-loop-i : goal.invariant-loop-i
invariant-loop-i l =
    record {
      few : length l.own.fields ≤ l.i;
      longs : l.own.longs ≤ l.i;
      are : (c : ClassId) → AreOwnPlaces c (take l.i l.fields) l.own;
    }
