-- What domains share is right of the classes, and the next place fits 32 bits.
use Rattle.std.proofs.Common.{arith}
use Rattle.std.proofs.lemmas.Option.{slice_get_within}
use Rattle.heap_ops.proofs.steps.step.Goals as goal

pub execute-requires-clause-right : goal.execute-requires-clause-right
execute-requires-clause-right g c =
    let shares = c.requires.may.domain.shares in
    record { stubs = shares.stubs; each = λ k given. (shares.capabilities k given).0 }

pub overflow_add-result : goal.overflow_add-result
overflow_add-result g c =
    let place = c.requires.may.place in
    let short = (c.requires.may.domain.codes.decoded place.method _ place.is_scope).short in
    let low = slice_get_within _ c.args.at.now.head.at _ place.stands in
    record { fits = omega (arith, low, short) }
