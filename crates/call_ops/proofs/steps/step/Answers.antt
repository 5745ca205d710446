-- The call finds what it asks for, and does what its row says.
use Rattle.std.proofs.Common.{List, length, ap, ◌∙◌, refl, subst, sym, arith}
use Rattle.jk_model_classes.specs.declared.records.ClassRecord.{ClassRecord}
use Rattle.jk_model_classes.specs.Classes.{HasClass}
use Rattle.jk_model_call_rows.specs.Targets.{Fails, Runs, Through}
use Rattle.step_contents.specs.StandingFrames.{place_of}
use Rattle.step_contents.specs.StandingTops.{StandsThere}
use Rattle.call_ops.proofs.CallFound.{few_params, has_method, has_own_class, leads_to_method}
use Rattle.call_ops.proofs.CallsDone.{fails_at, has_entry, may_run_at, ran_at, refers, static_may_run, static_ran, through_at}
use Rattle.call_ops.proofs.FramesBegin.{has_first}
use Rattle.call_ops.proofs.steps.step.Goals as goal

-- ---- What it asks for.

pub method_of-named-requires : goal.method_of-named-requires
method_of-named-requires g c = leads_to_method c.requires.may.2 c.requires.kind

pub unreachable-requires : goal.unreachable-requires
unreachable-requires g c =
    let there =
    has_method c.requires.may.2 c.requires.kind c.classes-t.result.now c.classes-t.ensures c.method_of-named.result c.method_of-named.ensures in
    c.in-None.ensures.none there.0 there.1

pub overflow_cast-arguments : goal.overflow_cast-arguments
overflow_cast-arguments g c =
    omega (
      arith,
      c.len-arguments.ensures,
      ap length c.get.ensures,
      few_params c.requires.may.2 c.requires.kind c.classes-t.result.now c.classes-t.ensures c.method_of-named.result c.method_of-named.ensures
          c.in-Some.method.now c.in-Some.ensures.some,
    )

pub run_static-requires-clause-may : goal.run_static-requires-clause-may
run_static-requires-clause-may g c =
    let there =
    has_method c.requires.may.2 c.requires.kind c.classes-t.result.now c.classes-t.ensures c.method_of-named.result c.method_of-named.ensures in
    let few = few_params c.requires.may.2 c.requires.kind c.classes-t.result.now c.classes-t.ensures c.method_of-named.result c.method_of-named.ensures
    there.0 there.1 in (
      length there.0.params,
      (there.0, there.1, refl),
      few,
      static_may_run c.requires.may.2 c.requires.kind c.classes-t.result.now c.classes-t.ensures c.method_of-named.result c.method_of-named.ensures
          there.0 there.1 (length there.0.params) refl c.if-at.true,
    )

pub run_static-requires-clause-first : goal.run_static-requires-clause-first
run_static-requires-clause-first g c = has_first c.requires.may.2 c.classes-t.result.now c.classes-t.ensures c.method_of-named.result

pub peek-receiver-requires : goal.peek-receiver-requires
peek-receiver-requires g c =
    has_entry c.requires.may.2 c.requires.kind c.classes-t.result.now c.classes-t.ensures c.method_of-named.result c.method_of-named.ensures
    c.in-Some.method.now c.in-Some.ensures.some c.len-arguments.result (c.len-arguments.ensures ∙ ap length c.get.ensures) c.if-at.false

pub target_at-requires-clause-class : goal.target_at-requires-clause-class
target_at-requires-clause-class g c =
    subst (λ (l : List ClassRecord). HasClass l c.args.at.now.code.class) (sym c.classes-t.ensures)
    (has_own_class c.requires.may.2 c.requires.kind)

pub target_at-requires-clause-refers : goal.target_at-requires-clause-refers
target_at-requires-clause-refers g c =
    refers c.requires.may.2 c.requires.kind c.classes-t.result.now c.classes-t.ensures c.method_of-named.result c.method_of-named.ensures
    c.in-Some.method.now c.in-Some.ensures.some c.len-arguments.result (c.len-arguments.ensures ∙ ap length c.get.ensures)
    c.if-at.false c.peek-receiver.result c.peek-receiver.ensures

pub overflow_add-arguments : goal.overflow_add-arguments
overflow_add-arguments g c =
    omega (
      arith,
      c.len-arguments.ensures,
      ap length c.get.ensures,
      few_params c.requires.may.2 c.requires.kind c.classes-t.result.now c.classes-t.ensures c.method_of-named.result c.method_of-named.ensures
          c.in-Some.method.now c.in-Some.ensures.some,
    )

pub run-requires-clause-may : goal.run-requires-clause-may
run-requires-clause-may g c =
    may_run_at c.requires.may.2 c.requires.kind c.classes-t.result.now c.classes-t.ensures c.method_of-named.result c.method_of-named.ensures
    c.in-Some.method.now c.in-Some.ensures.some c.len-arguments.result (c.len-arguments.ensures ∙ ap length c.get.ensures)
    c.if-at.false c.peek-receiver.result c.peek-receiver.ensures (Runs c.in-Runs.m) c.in-Runs.ensures c.in-Runs.m refl

pub run-requires-clause-first : goal.run-requires-clause-first
run-requires-clause-first g c = has_first c.requires.may.2 c.classes-t.result.now c.classes-t.ensures c.in-Runs.m

-- ---- What it does.

pub returns-then-at-clause-call : goal.returns-then-at-clause-call
returns-then-at-clause-call g c = λ own shared x may is.
    let there = has_method may c.requires.kind c.classes-t.result.now c.classes-t.ensures c.method_of-named.result c.method_of-named.ensures in
    static_ran may c.requires.kind c.classes-t.result.now c.classes-t.ensures c.method_of-named.result c.method_of-named.ensures
    there.0 there.1 (length there.0.params) refl c.if-at.true x is (g.F.SegmentFrames.content c.run_static.new.frames) c.run_static.result
    (c.run_static.ensures.ran (length there.0.params) (there.0, there.1, refl))

pub returns-then-at-clause-stands : goal.returns-then-at-clause-stands
returns-then-at-clause-stands g c = λ n is.
    subst (λ (l : List ClassRecord). StandsThere (g.F.SegmentFrames.content c.run_static.new.frames) l c.args.s (place_of c.run_static.new.at))
    c.classes-t.ensures (c.run_static.ensures.stands n is)

pub returns-in-Runs-clause-call : goal.returns-in-Runs-clause-call
returns-in-Runs-clause-call g c = λ own shared x may is.
    ran_at may c.requires.kind c.classes-t.result.now c.classes-t.ensures c.method_of-named.result c.method_of-named.ensures
    c.in-Some.method.now c.in-Some.ensures.some c.len-arguments.result (c.len-arguments.ensures ∙ ap length c.get.ensures)
    c.if-at.false c.peek-receiver.result c.peek-receiver.ensures (Runs c.in-Runs.m) c.in-Runs.ensures c.in-Runs.m refl
    x is (g.F.SegmentFrames.content c.run.new.frames) c.run.result c.run.ensures.ran

pub returns-in-Runs-clause-stands : goal.returns-in-Runs-clause-stands
returns-in-Runs-clause-stands g c = λ n is.
    subst (λ (l : List ClassRecord). StandsThere (g.F.SegmentFrames.content c.run.new.frames) l c.args.s (place_of c.run.new.at))
    c.classes-t.ensures (c.run.ensures.stands n is)

pub returns-in-Fails-clause-call : goal.returns-in-Fails-clause-call
returns-in-Fails-clause-call g c = λ own shared x may is.
    fails_at may c.requires.kind c.classes-t.result.now c.classes-t.ensures c.method_of-named.result c.method_of-named.ensures
    c.in-Some.method.now c.in-Some.ensures.some c.len-arguments.result (c.len-arguments.ensures ∙ ap length c.get.ensures)
    c.if-at.false c.peek-receiver.result c.peek-receiver.ensures (Fails c.in-Fails.c) c.in-Fails.ensures c.in-Fails.c refl
    x is

pub returns-in-Crosses-clause-call : goal.returns-in-Crosses-clause-call
returns-in-Crosses-clause-call g c = λ own shared x may is.
    through_at may c.requires.kind c.classes-t.result.now c.classes-t.ensures c.method_of-named.result c.method_of-named.ensures
    c.in-Some.method.now c.in-Some.ensures.some c.len-arguments.result (c.len-arguments.ensures ∙ ap length c.get.ensures)
    c.if-at.false c.peek-receiver.result c.peek-receiver.ensures (Through c.in-Crosses.k c.method_of-named.result) c.in-Crosses.ensures
    c.in-Crosses.k c.method_of-named.result refl x is
