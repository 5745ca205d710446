-- An answer tells whether a thread rests: one that a step was taken, and one that the sink failed in it, come where the thread doesn't.
use Rattle.std.proofs.Common.{◌≡◌, ◌↔◌, Bool, true, false, Result, Ok, Err, sym, ◌∙◌}
use Rattle.jk_outside.specs.declared.sinks.SinkFailed.{SinkFailed}

abbrev Same : Result Bool SinkFailed → Result Bool SinkFailed → Type 0
Same x y = x ≡ y

taken_or_not : Same (Ok true) (Ok false) → ⊥
taken_or_not is = cc

pub failed_or_not : (e : SinkFailed) → Same (Err e) (Ok false) → ⊥
failed_or_not e is = cc

pub step_taken : (Rests : Type 0) → (Rests → ⊥) → Same (Ok true) (Ok false) ↔ Rests
step_taken Rests never = (λ is. absurd (taken_or_not is), λ rests. absurd (never rests))

pub sink_failed : (Rests : Type 0) (answer : Result Bool SinkFailed) (e : SinkFailed) → answer ≡ Err e → (Rests → ⊥)
    → Same answer (Ok false) ↔ Rests
sink_failed Rests answer e broke never = (λ is. absurd (failed_or_not e (sym broke ∙ is)), λ rests. absurd (never rests))
