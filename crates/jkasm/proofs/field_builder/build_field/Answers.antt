-- The field's name and descriptor are in the pool, or one has no room.
use Rattle.std.proofs.Common.{[], ◌∷◌, Err, refl, ap}
use Rattle.jkasm.specs.Constants.{Utf8, for_constant}
use Rattle.jkasm.proofs.FaultOfPools.{full_at_fault}
use Rattle.jkasm.proofs.SaysLater.{utf8_later}
use Rattle.jkasm.proofs.TakesInTurn.{extends_trans, no_room_after, no_room_more}
use Rattle.jkasm.proofs.field_builder.build_field.Goals as goal

pub returns-in_err-name-clause-fault : goal.returns-in_err-name-clause-fault
returns-in_err-name-clause-fault c = λ e.
    let line = c.args.line.now in
    let full = full_at_fault c.from_residual.result c.in_err-name.field-0.0 c.from_residual.ensures.1 e in
    let none = rw c.as_slice.ensures at (c.in_err-name.ensures.full (ap (λ x. Err x) full)) in
    no_room_more c.args.pool.now (Utf8 line.name ∷ []) (Utf8 line.descriptor ∷ for_constant line.constant) none

pub returns-in_err-descriptor-clause-fault : goal.returns-in_err-descriptor-clause-fault
returns-in_err-descriptor-clause-fault c = λ e.
    let line = c.args.line.now in
    let full = full_at_fault c.from_residual-in_err-descriptor.result c.in_err-descriptor.field-0.0 c.from_residual-in_err-descriptor.ensures.1 e in
    let none = rw c.as_slice-2.ensures at (c.in_err-descriptor.ensures.full (ap (λ x. Err x) full)) in
    let takes = rw c.as_slice.ensures at c.in_ok-name.ensures.takes in
    no_room_after c.args.pool.now c.utf8-2.new.self (Utf8 line.name ∷ []) (Utf8 line.descriptor ∷ for_constant line.constant) takes
    (no_room_more c.utf8-2.new.self (Utf8 line.descriptor ∷ []) (for_constant line.constant) none)

pub returns-clause-says : goal.returns-clause-says
returns-clause-says c =
    let line = c.args.line.now in
    let pool = c.constant_attributes.new.pool in
    let later = c.in_ok-attributes.ensures.takes.extends in
    let all = extends_trans c.utf8-2.new.self c.utf8-2-2.new.self pool c.in_ok-descriptor.ensures.takes.extends later in
    let name = rw c.as_slice.ensures at c.in_ok-name.ensures.says in
    let descriptor = rw c.as_slice-2.ensures at c.in_ok-descriptor.ensures.says in
    rw c.member_of.ensures.parts (record {
      flags = refl;
      name = utf8_later c.utf8-2.new.self pool c.in_ok-name.name line.name all name;
      descriptor = utf8_later c.utf8-2-2.new.self pool c.in_ok-descriptor.descriptor line.descriptor later descriptor;
      attributes = c.in_ok-attributes.ensures.has;
    })
