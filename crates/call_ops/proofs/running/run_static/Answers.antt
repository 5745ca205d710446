-- As many entries are given as the method has parameters.
use Rattle.std.proofs.Common.{◌≡◌, ℕ, length, ap, ◌∙◌, sym, subst, arith}
use Rattle.type_rows.specs.CodeViews.{scope_of}
use Rattle.call_ops.specs.FramesRun.{MayRun, Ran}
use Rattle.call_ops.proofs.FramesBegin.{params_counted}
use Rattle.call_ops.proofs.running.run_static.Goals as goal

pub overflow_cast-given : goal.overflow_cast-given
overflow_cast-given g c =
    let may = c.requires.may in
    omega (
      arith,
      c.len-given.ensures,
      ap length c.get.ensures,
      params_counted c.args.t.now c.args.m may.0 may.1 (scope_of c.in-Some.code) c.in-Some.ensures.some,
      may.2,
    )

pub begin-requires-clause-may : goal.begin-requires-clause-may
begin-requires-clause-may g c =
    let may = c.requires.may in
    let as_many : may.0 ≡ c.len-given.result =
    params_counted c.args.t.now c.args.m may.0 may.1 (scope_of c.in-Some.code) c.in-Some.ensures.some ∙ sym (c.len-given.ensures ∙ ap length c.get.ensures) in
    subst (λ (k : ℕ). MayRun c.args.t.now (g.F.SegmentFrames.content c.args.frames.now) c.args.s c.args.m k) as_many may.3

pub returns-in-Some-clause-ran : goal.returns-in-Some-clause-ran
returns-in-Some-clause-ran g c = λ n has.
    let as_many : c.len-given.result ≡ n =
    (c.len-given.ensures ∙ ap length c.get.ensures) ∙ sym (params_counted c.args.t.now c.args.m n has (scope_of c.in-Some.code) c.in-Some.ensures.some) in
    subst (λ (k : ℕ). Ran c.args.t.now (g.F.SegmentFrames.content c.args.frames.now) (g.F.SegmentFrames.content c.begin.new.frames) c.args.s c.args.m k
    c.begin.result) as_many c.begin.ensures.ran
