-- The classes are in the pool, or one has no room.
use Rattle.std.proofs.Common.{◌++◌, Err, refl, ap, arith}
use Rattle.std.specs.List.{flat_map}
use Rattle.jkasm.specs.Constants.{ClassAt, for_class}
use Rattle.jkasm.proofs.FaultOfPools.{full_at_fault}
use Rattle.jkasm.proofs.ListsAgree.{agree_length}
use Rattle.jkasm.proofs.SaysLater.{class_later}
use Rattle.jkasm.proofs.TakesInTurn.{extends_trans, no_room_after, no_room_more}
use Rattle.jkasm.proofs.class_builder.build_header.Goals as goal

pub returns-in_err-this_class-clause-fault : goal.returns-in_err-this_class-clause-fault
returns-in_err-this_class-clause-fault c = λ e few.
    let line = c.args.line.now in
    let full = full_at_fault c.from_residual.result c.in_err-this_class.field-0.0 c.from_residual.ensures.1 e in
    let none = rw c.as_slice.ensures at (c.in_err-this_class.ensures.full (ap (λ x. Err x) full)) in
    no_room_more c.args.pool.now (for_class line.name) (for_class line.parent ++ flat_map for_class line.interfaces) none

pub returns-in_err-super_class-clause-fault : goal.returns-in_err-super_class-clause-fault
returns-in_err-super_class-clause-fault c = λ e few.
    let line = c.args.line.now in
    let rest = flat_map for_class line.interfaces in
    let full = full_at_fault c.from_residual-in_err-super_class.result c.in_err-super_class.field-0.0 c.from_residual-in_err-super_class.ensures.1 e in
    let none = rw c.as_slice-2.ensures at (c.in_err-super_class.ensures.full (ap (λ x. Err x) full)) in
    let takes = rw c.as_slice.ensures at c.in_ok-this_class.ensures.takes in
    no_room_after c.args.pool.now c.class.new.self (for_class line.name) (for_class line.parent ++ rest) takes
    (no_room_more c.class.new.self (for_class line.parent) rest none)

pub returns-clause-says : goal.returns-clause-says
returns-clause-says c =
    let line = c.args.line.now in
    let pool = c.class_indices.new.pool in
    let later = c.in_ok-interfaces.ensures.takes.extends in
    let all = extends_trans c.class.new.self c.class-2.new.self pool c.in_ok-super_class.ensures.takes.extends later in
    let name = rw c.as_slice.ensures at c.in_ok-this_class.ensures.says in
    let parent = rw c.as_slice-2.ensures at c.in_ok-super_class.ensures.says in
    let agree = rw c.as_slice-3.ensures at c.in_ok-interfaces.ensures.says in
    let count = agree_length (λ class i. ClassAt pool i class) line.interfaces c.in_ok-interfaces.interfaces agree in
    record {
      flags = refl;
      name = class_later c.class.new.self pool c.in_ok-this_class.this_class line.name all name;
      parent = class_later c.class-2.new.self pool c.in_ok-super_class.super_class line.parent later parent;
      interfaces = agree;
      fits = (omega arith, c.in_ok-interfaces.ensures.fit);
    }
