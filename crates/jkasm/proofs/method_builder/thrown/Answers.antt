-- The attribute has the indices of the classes, and the pool its name and the classes.
use Rattle.std.proofs.Common.{◌≡◌, [], ◌∷◌, Err, sym, ap, subst, arith, codes}
use Rattle.std.specs.List.{flat_map}
use Rattle.jk_model.specs.declared.class_file.Attribute.{Attribute}
use Rattle.jk_model.specs.ClassFile.{AreAttributes, AreInterfaces, interfaces_bytes}
use Rattle.jkasm.specs.Assembled.{HasThrowsAttribute}
use Rattle.jkasm.specs.Constants.{Utf8, for_class}
use Rattle.jkasm.specs.PoolGrowth.{Takes, HasNoRoom}
use Rattle.jkasm.proofs.ClassesInTurn.{exceptions_need, throws_classes}
use Rattle.jkasm.proofs.ExceptionsBody.{some_by_length, few_indices, body_after, exceptions_fit, single}
use Rattle.jkasm.proofs.FaultOfPools.{full_at_fault, same_fault}
use Rattle.jkasm.proofs.SaysLater.{utf8_later}
use Rattle.jkasm.proofs.TakesInTurn.{takes_trans, no_room_after, no_room_more}
use Rattle.jkasm.proofs.method_builder.thrown.Goals as goal

pub returns-in_err-name-clause-fault : goal.returns-in_err-name-clause-fault
returns-in_err-name-clause-fault c = λ e few.
    let classes = c.args.classes.now in
    let pool = c.args.pool.now in
    let need = exceptions_need classes (some_by_length classes c.is_empty.result c.is_empty.ensures c.if-is_empty.false) in
    let full = full_at_fault c.from_residual.result c.in_err-name.field-0.0 c.from_residual.ensures.1 e in
    subst (HasNoRoom pool) (sym need)
    (no_room_more pool (Utf8 (codes "Exceptions") ∷ []) (flat_map for_class classes) (c.in_err-name.ensures.full (ap (λ x. Err x) full)))

pub returns-in_err-indices-clause-fault : goal.returns-in_err-indices-clause-fault
returns-in_err-indices-clause-fault c = λ e few.
    let classes = c.args.classes.now in
    let pool = c.args.pool.now in
    let need = exceptions_need classes (some_by_length classes c.is_empty.result c.is_empty.ensures c.if-is_empty.false) in
    let fault = same_fault c.from_residual-in_err-indices.result c.in_err-indices.field-0.0 c.from_residual-in_err-indices.ensures.1 e in
    subst (HasNoRoom pool) (sym need)
    (no_room_after pool c.utf8-2.new.self (Utf8 (codes "Exceptions") ∷ []) (flat_map for_class classes) c.in_ok-name.ensures.takes
    (c.in_err-indices.ensures.fault (ap (λ x. Err x) fault)))

pub append_list-requires : goal.append_list-requires
append_list-requires c =
    let fit = few_indices c.class_indices.new.pool c.args.classes.now c.in_ok-indices.indices (omega arith)
    c.in_ok-indices.ensures.says c.in_ok-indices.ensures.fit in
    subst AreInterfaces (sym c.as_slice.ensures) fit

pub returns-clause-has : goal.returns-clause-has
returns-clause-has c =
    let classes = c.args.classes.now in
    let pool = c.class_indices.new.pool in
    let indices = c.in_ok-indices.indices in
    let a : Attribute = record { name = c.in_ok-name.name; body = c.append_list.new.out } in
    let some = some_by_length classes c.is_empty.result c.is_empty.ensures c.if-is_empty.false in
    let fit = few_indices pool classes indices (omega arith) c.in_ok-indices.ensures.says c.in_ok-indices.ensures.fit in
    let body : c.append_list.new.out ≡ interfaces_bytes indices =
    body_after c.append_list.new.out c.new-body.result c.as_slice.result.now indices c.in_ok-append_list.ensures c.new-body.ensures c.as_slice.ensures in
    let name = utf8_later c.utf8-2.new.self pool c.in_ok-name.name (codes "Exceptions") c.in_ok-indices.ensures.takes.extends c.in_ok-name.ensures.says in
    let pushed = single c.push.new.self c.new-attributes.result a c.in_ok-push.ensures.ok c.new-attributes.ensures in
    subst (HasThrowsAttribute pool classes) (sym pushed) (throws_classes pool classes a indices some name fit c.in_ok-indices.ensures.says body)

pub returns-clause-fit : goal.returns-clause-fit
returns-clause-fit c =
    let indices = c.in_ok-indices.indices in
    let a : Attribute = record { name = c.in_ok-name.name; body = c.append_list.new.out } in
    let fit = few_indices c.class_indices.new.pool c.args.classes.now indices (omega arith) c.in_ok-indices.ensures.says c.in_ok-indices.ensures.fit in
    let body : c.append_list.new.out ≡ interfaces_bytes indices =
    body_after c.append_list.new.out c.new-body.result c.as_slice.result.now indices c.in_ok-append_list.ensures c.new-body.ensures c.as_slice.ensures in
    let pushed = single c.push.new.self c.new-attributes.result a c.in_ok-push.ensures.ok c.new-attributes.ensures in
    subst AreAttributes (sym pushed) (exceptions_fit c.in_ok-name.name c.append_list.new.out indices (omega arith) body fit)

pub returns-clause-takes : goal.returns-clause-takes
returns-clause-takes c =
    let classes = c.args.classes.now in
    let need = exceptions_need classes (some_by_length classes c.is_empty.result c.is_empty.ensures c.if-is_empty.false) in
    subst (Takes c.args.pool.now c.class_indices.new.pool) (sym need)
    (takes_trans c.args.pool.now c.utf8-2.new.self c.class_indices.new.pool (Utf8 (codes "Exceptions") ∷ []) (flat_map for_class classes)
    c.in_ok-name.ensures.takes c.in_ok-indices.ensures.takes)
