-- By whether the object is an Error.
use Rattle.std.proofs.Common.{inr, refl, arith}
use Rattle.jk_model_domains.specs.Objects.{Object, Plain}
use Rattle.step_contents.specs.Contents.{contents_of, here_at}
use Rattle.row_laws.proofs.SystemParents.{below_listed}
use Rattle.exception_unwind.proofs.InitialisersLeft.{error_left, is_error, no_error}
use Rattle.exception_unwind.proofs.leaving.replaced.Goals as goal

pub raised-requires-clause-raise : goal.raised-requires-clause-raise
raised-requires-clause-raise g c = (omega arith, below_listed c.args.w.now.classes c.requires.may.3.domain.codes 9 37 9 refl)

pub returns-then-is_error : goal.returns-then-is_error
returns-then-is_error g c = λ frames shared s.
    let object : Object = Plain c.requires.thrown.0 c.requires.thrown.1 in
    let heap = (g.H.ObjectStore.content c.args.heap.now).heap c.args.d in
    error_left (contents_of (g.H.ObjectStore.content c.args.heap.now) frames c.args.own.now) (here_at c.args.w.now shared c.args.d s) c.args.thrown
    (λ x same. is_error x c.args.w.now.classes same heap c.args.thrown object c.requires.thrown.2 c.is_error.result
    (c.is_error.ensures object c.requires.thrown.2) c.if-is_error.true)

pub returns-else-is_error : goal.returns-else-is_error
returns-else-is_error g c = λ frames shared s x may set.
    let object : Object = Plain c.requires.thrown.0 c.requires.thrown.1 in
    let heap = (g.H.ObjectStore.content c.args.heap.now).heap c.args.d in
    let done = c.raised.ensures frames shared s x may set in
    let other = no_error x c.args.w.now.classes set.classes heap c.args.thrown object c.requires.thrown.2 c.is_error.result
    (c.is_error.ensures object c.requires.thrown.2) c.if-is_error.false in
    (done.0, inr (other, done.1), done.2)
