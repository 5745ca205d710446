-- Each turn puts the units of one more character.
use Rattle.std.proofs.Common.{◌≡◌, ◌++◌, [], arith, rules}
use Rattle.std.proofs.lemmas.List.{nil_from_length}
use Rattle.std.specs.Str.Iter.{chars_rest}
use Rattle.jk_model.specs.Text.{shown, utf16_of}
use Rattle.jk_outside.proofs.BufferFills.{IsHeld, length_held}
use Rattle.jk_outside.proofs.PathCharByChar.{IsPut-nil, IsPut-append, IsPut-splits, IsPut-all}
use Rattle.jk_outside.proofs.SentInOrder.{SoFar-nil, SoFar-append, BreaksOff-at}
use Rattle.jk_outside.proofs.Splits.{OnErr-from}
use Rattle.jk_outside.proofs.line_buffer.LineBuffer.put_path.Goals as goal

pub loop-character-init : goal.loop-character-init
loop-character-init g c =
    let held : IsHeld c.self.inside.bytes c.args.self.now c.self.inside.len = record { size = search rules; within = omega arith; front = c.self.view_is } in (
      [],
      IsPut-nil c.args.path.now _ c.utf8.path (search rules),
      SoFar-nil _ _ _ _ (omega (arith, length_held _ _ _ held))
          (g.met.S.Sink.faults_fit c.args.sink.now),
    )

pub loop-character-preserved : goal.loop-character-preserved
loop-character-preserved g c = (
  c.loop-character.invariant.0 ++ shown c.encode_utf16.result.now,
  IsPut-append c.args.path.now (chars_rest c.loop-character.character-iterator) c.loop-character.invariant.0 _ c.encode_utf16.result.now
      c.in-Some.character c.loop-character.invariant.1 c.in-Some.ensures.steps.0 c.encode_utf16.ensures.value,
  SoFar-append _ _ _ _ _ _ _ _ _ _ _ _ _ _ c.loop-character.invariant.2 c.in_ok-put_escaped.ensures.sent c.in_ok-put_escaped.ensures.held
      c.in_ok-put_escaped.ensures.calm c.in_ok-put_escaped.ensures.faults c.in_ok-put_escaped.ensures.few,
)

pub returns-in_err-put_escaped-clause-part : goal.returns-in_err-put_escaped-clause-part
returns-in_err-put_escaped-clause-part g c =
    let next = IsPut-append c.args.path.now (chars_rest c.loop-character.character-iterator) c.loop-character.invariant.0
    (chars_rest c.next.new.self) c.encode_utf16.result.now c.in-Some.character c.loop-character.invariant.1 c.in-Some.ensures.steps.0
    c.encode_utf16.ensures.value in
    OnErr-from c.from_residual.result
    (BreaksOff-at _ _ _ _ _ _ _ _ _ _ _ _ (shown (utf16_of c.args.path.now))
    (shown (utf16_of (chars_rest c.next.new.self))) c.loop-character.invariant.2 c.in_err-put_escaped.ensures.part
    (IsPut-splits c.args.path.now (chars_rest c.next.new.self) _ next))

pub returns-clause-sent : goal.returns-clause-sent
returns-clause-sent g c =
    let all : c.loop-character.invariant.0 ≡ shown (utf16_of c.args.path.now) = IsPut-all c.args.path.now _ c.loop-character.invariant.0
    c.loop-character.invariant.1 (nil_from_length _ c.in-None.ensures.steps.0.0) in
    rw (← all) c.loop-character.invariant.2.sends

pub returns-clause-held : goal.returns-clause-held
returns-clause-held g c =
    let all : c.loop-character.invariant.0 ≡ shown (utf16_of c.args.path.now) = IsPut-all c.args.path.now _ c.loop-character.invariant.0
    c.loop-character.invariant.1 (nil_from_length _ c.in-None.ensures.steps.0.0) in
    rw (← all) c.loop-character.invariant.2.held
