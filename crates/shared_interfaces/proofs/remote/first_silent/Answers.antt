-- A method is the first that is silent, or none is.
use Rattle.std.proofs.Common.{◌≡◌, ◌+◌, Some, refl, length, slice_get, arith}
use Rattle.std.proofs.lemmas.Option.{slice_get_read}
use Rattle.list_lemmas.proofs.AnswersTold.{not_so}
use Rattle.shared_interfaces.proofs.SilentMethods.{none_silent, none_silent_here}
use Rattle.shared_interfaces.proofs.remote.first_silent.Goals as goal

pub loop-i-preserved : goal.loop-i-preserved
loop-i-preserved c =
    let method = c.index-methods-i.result in
    let thrown = c.index-declared-passed.result in
    let i = c.loop-i.i in
    let at : slice_get c.args.methods.now i ≡ Some method =
    slice_get_read c.args.methods.now (length c.args.methods.now) i method refl (omega arith) c.index-methods-i.is in
    let declares : slice_get c.args.declared.now (c.args.passed + i) ≡ Some thrown =
    slice_get_read c.args.declared.now (length c.args.declared.now) (c.args.passed + i) thrown refl (omega arith) c.index-declared-passed.is in
    none_silent_here c.args.methods.now c.args.declared.now c.args.passed i c.loop-i.invariant method thrown at declares
    (not_so c.is_silent.result _ (rw c.as_slice.ensures at c.is_silent.ensures) c.if-is_silent.false)

pub returns : goal.returns
returns c = none_silent c.args.methods.now c.args.declared.now c.args.passed c.loop-i.i c.loop-i.invariant (omega arith)
