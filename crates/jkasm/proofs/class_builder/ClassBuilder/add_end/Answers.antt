-- The method is one of those that have ended, or can't end.
use Rattle.std.proofs.Common.{Err, ap, sym}
use Rattle.jkasm.proofs.FaultOfPools.{same_fault}
use Rattle.jkasm.proofs.ItemsAdded.{method_of, end_added, end_refused, short_catches}
use Rattle.jkasm.proofs.class_builder.ClassBuilder.add_end.Goals as goal

pub returns-in_err-method-clause-fault : goal.returns-in_err-method-clause-fault
returns-in_err-method-clause-fault c = λ o later built limits e.
    let fault = same_fault c.from_residual.result c.in_err-method.field-0.0 c.from_residual.ensures.1 e in
    let (m, of, is) = method_of o _ c.args.self.now c.in-Some.method built (sym c.in-Some.ensures.value) in
    let short = short_catches o m limits of in
    end_refused o later c.args.self.now m of (c.in_err-method.ensures.fault _ m later is short (ap (λ x. Err x) fault))

pub returns-clause-added : goal.returns-clause-added
returns-clause-added c =
    λ o later built limits. let (m, of, is) = method_of o _ c.args.self.now c.in-Some.method built (sym c.in-Some.ensures.value) in
    let ends = c.in_ok-method.ensures.built _ m later is (short_catches o m limits of) in
    rw (c.in_ok-push.ensures.ok, c.in-Some.ensures.after)
    (end_added o later c.args.self.now m c.in_ok-method.method built limits of ends.0 ends.1 ends.2)
