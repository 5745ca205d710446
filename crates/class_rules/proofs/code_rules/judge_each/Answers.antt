-- One method after the other is judged.
use Rattle.std.proofs.Common.{length, refl, arith}
use Rattle.std.proofs.lemmas.Option.{slice_get_read}
use Rattle.class_rules.proofs.CodesReadEach.{none_judged, one_more_judged, all_judged}
use Rattle.class_rules.proofs.code_rules.judge_each.Goals as goal

pub judge_method-requires : goal.judge_method-requires
judge_method-requires c =
    let at = slice_get_read c.args.methods.now (length c.args.methods.now) c.loop-method.method-index c.method-item.result refl c.loop-method-test.true
    c.method-item.is in
    record {
      facts = c.requires.facts;
      short = c.requires.short c.loop-method.method-index c.method-item.result at;
      attributes = c.requires.attributes c.loop-method.method-index c.method-item.result at;
    }

pub loop-method-init : goal.loop-method-init
loop-method-init c = rw c.new-judged.ensures (none_judged c.args.c.now c.args.methods.now)

pub loop-method-preserved : goal.loop-method-preserved
loop-method-preserved c =
    one_more_judged c.args.c.now c.args.methods.now c.loop-method.method-index c.loop-method.judged c.push.new.self c.method-item.result
    c.in_ok-found.found c.in_ok-push.ensures.ok c.loop-method-test.true c.method-item.is c.in_ok-found.ensures c.loop-method.invariant

pub returns : goal.returns
returns c =
    all_judged c.args.c.now c.args.methods.now c.loop-method.method-index c.loop-method.judged (omega arith) (omega arith) c.loop-method.invariant
