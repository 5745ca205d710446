-- Each turn puts the units of one more chunk.
use Rattle.std.proofs.Common.{◌≡◌, ◌∙◌, ◌+◌, ◌++◌, ℕ, List, length, take, drop, sym, ap, arith}
use Rattle.jk_model.specs.Text.{shown}
use Rattle.jk_outside.proofs.SentInOrder.{BreaksOff-at, SoFar-append, SoFar-nil}
use Rattle.jk_outside.proofs.Splits.{OnErr-from}
use Rattle.system_calls.proofs.LinesSaid.{shown_more, shown_split, so_far_as}
use Rattle.system_calls.proofs.printing.put_text.Goals as goal

pub loop-from-init : goal.loop-from-init
loop-from-init g c = (omega arith, λ units live many. SoFar-nil _ _ _ _ c.requires.few (g.met.S.Sink.faults_fit c.args.out.now))

pub returns-in_err-put_escaped-clause-part : goal.returns-in_err-put_escaped-clause-part
returns-in_err-put_escaped-clause-part g c = λ units live.
    let many : length units ≡ c.text_len-len.result = sym (c.text_len-len.ensures units live) in
    let same : c.front_of-units.result.now ≡ take c.read_units-count.result (drop c.loop-from.from units) =
    c.front_of-units.ensures ∙ c.read_units-count.ensures.read units live in
    OnErr-from c.from_residual.result
    (BreaksOff-at _ _ _ _ _ _ _ _ _ _ _ _ (shown units) (shown (drop (c.loop-from.from + c.read_units-count.result) units)) (c.loop-from.invariant.1
    units live many)
    c.in_err-put_escaped.ensures.part
    (shown_split units c.loop-from.from c.read_units-count.result
    ∙ ap (λ (us : List ℕ). shown (take c.loop-from.from units) ++ shown us ++ shown (drop (c.loop-from.from + c.read_units-count.result) units)) (sym same)))

pub loop-from-preserved : goal.loop-from-preserved
loop-from-preserved g c = (
  omega (arith, c.read_units-count.ensures.count, c.loop-from-test.true),
  λ units live many.
      let same : c.front_of-units.result.now ≡ take c.read_units-count.result (drop c.loop-from.from units) =
      c.front_of-units.ensures ∙ c.read_units-count.ensures.read units live in
      so_far_as _ _ _ _ _ _ _ _ (shown (take c.loop-from.from units) ++ shown c.front_of-units.result.now) (shown (take (c.loop-from.from +
      c.read_units-count.result) units))
      (ap (λ (us : List ℕ). shown (take c.loop-from.from units) ++ shown us) same ∙ sym (shown_more units c.loop-from.from c.read_units-count.result))
      (SoFar-append _ _ _ _ _ _ _ _ _ _ _ _ _ _ (c.loop-from.invariant.1 units live many) c.in_ok-put_escaped.ensures.sent
      c.in_ok-put_escaped.ensures.held c.in_ok-put_escaped.ensures.calm c.in_ok-put_escaped.ensures.faults c.in_ok-put_escaped.ensures.few),
)
