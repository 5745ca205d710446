-- The attribute has the index of the constant, and the pool its name and the constant.
use Rattle.std.proofs.Common.{◌≡◌, [], ◌∷◌, ◌++◌, ◌∙◌, Err, ap, codes, rules}
use Rattle.jk_model.specs.declared.class_file.Attribute.{Attribute}
use Rattle.jk_model.specs.ClassFile.{u2}
use Rattle.jkasm.specs.Constants.{Utf8, for_value}
use Rattle.jkasm.proofs.FaultOfPools.{full_at_fault}
use Rattle.jkasm.proofs.SaysLater.{utf8_later}
use Rattle.jkasm.proofs.TakesInTurn.{takes_trans, no_room_after, no_room_more}
use Rattle.jkasm.proofs.field_builder.constant_attributes.Goals as goal

pub returns-in_err-name-clause-fault : goal.returns-in_err-name-clause-fault
returns-in_err-name-clause-fault c = λ e.
    let full = full_at_fault c.from_residual.result c.in_err-name.field-0.0 c.from_residual.ensures.1 e in
    let none = c.in_err-name.ensures.full (ap (λ x. Err x) full) in
    rw c.in-Some.is (no_room_more c.args.pool.now (Utf8 (codes "ConstantValue") ∷ []) (for_value c.in-Some.constant) none)

pub returns-in_err-index-clause-fault : goal.returns-in_err-index-clause-fault
returns-in_err-index-clause-fault c = λ e.
    let full = full_at_fault c.from_residual-in_err-index.result c.in_err-index.field-0.0 c.from_residual-in_err-index.ensures.1 e in
    let none = c.in_err-index.ensures.full (ap (λ x. Err x) full) in
    rw c.in-Some.is
    (no_room_after c.args.pool.now c.utf8-2.new.self (Utf8 (codes "ConstantValue") ∷ []) (for_value c.in-Some.constant)
    c.in_ok-name.ensures.takes none)

pub returns-clause-has : goal.returns-clause-has
returns-clause-has c =
    let a : Attribute = record { name = c.in_ok-name.name; body = c.in_ok-body.body } in
    let pushed : c.push.new.self ≡ a ∷ [] = c.in_ok-push.ensures.ok ∙ ap (λ xs. xs ++ a ∷ []) c.new-attributes.ensures in
    let name = utf8_later c.utf8-2.new.self c.value.new.self c.in_ok-name.name (codes "ConstantValue")
    c.in_ok-index.ensures.takes.extends c.in_ok-name.ensures.says in
    let body : c.in_ok-body.body ≡ u2 c.in_ok-index.index = search rules in
    rw c.in-Some.is (a, pushed, (name, (c.in_ok-index.index, c.in_ok-index.ensures.says, body)))

pub returns-clause-takes : goal.returns-clause-takes
returns-clause-takes c =
    rw c.in-Some.is
    (takes_trans c.args.pool.now c.utf8-2.new.self c.value.new.self (Utf8 (codes "ConstantValue") ∷ []) (for_value c.in-Some.constant)
    c.in_ok-name.ensures.takes c.in_ok-index.ensures.takes)
