-- The pool takes what the line needs in turn, and nothing of the method is built yet.
use Rattle.std.proofs.Common.{[], ◌∷◌, Err, refl, ap, subst}
use Rattle.jkasm.specs.Assembled.{HasThrowsAttribute}
use Rattle.jkasm.specs.Constants.{Utf8, Utf8At}
use Rattle.jkasm.specs.PoolGrowth.{Takes, HasNoRoom}
use Rattle.jkasm.proofs.FaultOfPools.{full_at_fault, same_fault}
use Rattle.jkasm.proofs.MethodBegins.{begun, no_room_for_name, no_room_for_descriptor, no_room_for_code}
use Rattle.jkasm.proofs.method_builder.MethodBuilder.begin.Goals as goal

pub returns-in_err-name-clause-fault : goal.returns-in_err-name-clause-fault
returns-in_err-name-clause-fault c = λ e few.
    let pool = c.args.pool.now in
    let full = full_at_fault c.from_residual.result c.in_err-name.field-0.0 c.from_residual.ensures.1 e in
    no_room_for_name pool c.args.line.now c.args.later.now
    (subst (λ t. HasNoRoom pool (Utf8 t ∷ [])) c.as_slice.ensures (c.in_err-name.ensures.full (ap (λ x. Err x) full)))

pub returns-in_err-descriptor-clause-fault : goal.returns-in_err-descriptor-clause-fault
returns-in_err-descriptor-clause-fault c = λ e few.
    let pool = c.args.pool.now in
    let named = c.utf8-2.new.self in
    let full = full_at_fault c.from_residual-in_err-descriptor.result c.in_err-descriptor.field-0.0 c.from_residual-in_err-descriptor.ensures.1 e in
    no_room_for_descriptor pool named c.args.line.now c.args.later.now
    (subst (λ t. Takes pool named (Utf8 t ∷ [])) c.as_slice.ensures c.in_ok-name.ensures.takes)
    (subst (λ t. HasNoRoom named (Utf8 t ∷ [])) c.as_slice-2.ensures (c.in_err-descriptor.ensures.full (ap (λ x. Err x) full)))

pub returns-in_err-code_name-clause-fault : goal.returns-in_err-code_name-clause-fault
returns-in_err-code_name-clause-fault c = λ e few.
    let pool = c.args.pool.now in
    let named = c.utf8-2.new.self in
    let described = c.utf8-2-2.new.self in
    let fault = same_fault c.from_residual-in_err-code_name.result c.in_err-code_name.field-0.0 c.from_residual-in_err-code_name.ensures.1 e in
    no_room_for_code pool named described c.args.line.now c.args.later.now
    (subst (λ t. Takes pool named (Utf8 t ∷ [])) c.as_slice.ensures c.in_ok-name.ensures.takes)
    (subst (λ t. Takes named described (Utf8 t ∷ [])) c.as_slice-2.ensures c.in_ok-descriptor.ensures.takes)
    (c.in_err-code_name.ensures.fault (ap (λ x. Err x) fault))

pub returns-clause-begun : goal.returns-clause-begun
returns-clause-begun c =
    let line = c.args.line.now in
    let named = c.utf8-2.new.self in
    let described = c.utf8-2-2.new.self in
    let coded = c.code_name.new.pool in
    let all = c.thrown.new.pool in
    begun named described coded all line c.args.later.now _ _ _ _ c.in_ok-descriptor.ensures.takes c.in_ok-code_name.ensures.takes
    c.in_ok-thrown.ensures.takes
    (subst (λ t. Utf8At named c.in_ok-name.name t) c.as_slice.ensures c.in_ok-name.ensures.says)
    (subst (λ t. Utf8At described c.in_ok-descriptor.descriptor t) c.as_slice-2.ensures c.in_ok-descriptor.ensures.says)
    c.in_ok-code_name.ensures.name c.in_ok-code_name.ensures.named
    (subst (λ classes. HasThrowsAttribute all classes c.in_ok-thrown.thrown) c.as_slice-3.ensures c.in_ok-thrown.ensures.has)
    c.in_ok-thrown.ensures.fit c.in_ok-labels.ensures c.new.ensures c.new-2.ensures c.new-3.ensures refl refl refl
