-- Each turn puts the next bytes for which there is room.
use Rattle.std.proofs.Common.{◌≡◌, ◌++◌, List, [], ℕ, refl, sym, ap, ◌∙◌, arith, rules, append_assoc}
use Rattle.std.proofs.lemmas.List.{take-append-drop}
use Rattle.jk_outside.proofs.BufferFills.{IsHeld, length_held}
use Rattle.jk_outside.proofs.SentInOrder.{SoFar-nil, SoFar-append, BreaksOff-at}
use Rattle.jk_outside.proofs.Splits.{OnErr-from}
use Rattle.jk_outside.proofs.line_buffer.LineBuffer.put_bytes.Goals as goal

pub loop-rest-init : goal.loop-rest-init
loop-rest-init g c =
    let held : IsHeld c.self.inside.bytes c.args.self.now c.self.inside.len = record { size = search rules; within = omega arith; front = c.self.view_is } in
    ([], refl, SoFar-nil _ _ _ _ (omega (arith, length_held _ _ _ held)) (g.met.S.Sink.faults_fit c.args.sink.now))

pub returns-in_err-fill-clause-part : goal.returns-in_err-fill-clause-part
returns-in_err-fill-clause-part g c =
    let split : c.loop-rest.rest.now ≡ c.split_at.result.0.now ++ c.split_at.result.1.now = let whole = take-append-drop c.min.result
    c.loop-rest.rest.now in cc in
    OnErr-from c.from_residual.result
    (BreaksOff-at _ _ _ _ _ _ _ _ _ _ c.loop-rest.invariant.0 c.split_at.result.0.now c.args.bytes.now c.split_at.result.1.now
    c.loop-rest.invariant.2 c.in_err-fill.ensures.part
    (c.loop-rest.invariant.1 ∙ ap (λ (t : List ℕ). c.loop-rest.invariant.0 ++ t) split
    ∙ sym (append_assoc c.loop-rest.invariant.0 c.split_at.result.0.now c.split_at.result.1.now)))

pub loop-rest-preserved : goal.loop-rest-preserved
loop-rest-preserved g c =
    let split : c.loop-rest.rest.now ≡ c.split_at.result.0.now ++ c.split_at.result.1.now = let whole = take-append-drop c.min.result
    c.loop-rest.rest.now in cc in (
      c.loop-rest.invariant.0 ++ c.split_at.result.0.now,
      c.loop-rest.invariant.1 ∙ ap (λ (t : List ℕ). c.loop-rest.invariant.0 ++ t) split
          ∙ sym (append_assoc c.loop-rest.invariant.0 c.split_at.result.0.now c.split_at.result.1.now),
      SoFar-append _ _ _ _ _ _ _ _ _ _ _ _ c.loop-rest.invariant.0 c.split_at.result.0.now c.loop-rest.invariant.2 c.in_ok-fill.ensures.sent
          c.in_ok-fill.ensures.held c.in_ok-fill.ensures.calm c.in_ok-fill.ensures.faults c.in_ok-fill.ensures.few,
    )
