-- One read is all that is asked of the system.
use Rattle.std.proofs.Common.{rules, ◌≡◌, true, false, inl, inr, refl, ap}
use Rattle.std.specs.Prelude.{is_err}
use Rattle.jk_outside.specs.Systems.{GoesOn, Reads, Step}
use Rattle.jk_outside.proofs.LogsGrow.{LogsFault-one, LogsOnly-one, same_error}
use Rattle.jk_outside.proofs.reading.read_more.Goals as goal

-- ---- the read was interrupted

pub returns-in-Err-clause-grows : goal.returns-in-Err-clause-grows
returns-in-Err-clause-grows g c =
    let failed : is_err c.read.result ≡ true = ap is_err c.in-Err.is in
    λ is. inr (LogsFault-one _ _ _ c.read.ensures.log failed)

pub returns-in-Err-clause-log : goal.returns-in-Err-clause-log
returns-in-Err-clause-log g c = LogsOnly-one (λ (s : Step). s.asks ≡ Reads) _ _ _ c.read.ensures.log refl

-- ---- it failed

pub returns-in-Err-2-clause-failed : goal.returns-in-Err-2-clause-failed
returns-in-Err-2-clause-failed g c =
    let failed : is_err c.read.result ≡ true = search rules in
    λ is. LogsFault-one _ _ _ c.read.ensures.log failed

pub returns-in-Err-2-clause-log : goal.returns-in-Err-2-clause-log
returns-in-Err-2-clause-log g c = LogsOnly-one (λ (s : Step). s.asks ≡ Reads) _ _ _ c.read.ensures.log refl

pub returns-in-Err-2-clause-present : goal.returns-in-Err-2-clause-present
returns-in-Err-2-clause-present g c = λ is. c.reading_fault.ensures.present (same_error _ _ is)

pub returns-in-Err-2-clause-long : goal.returns-in-Err-2-clause-long
returns-in-Err-2-clause-long g c = λ is. absurd (c.reading_fault.ensures.short (same_error _ _ is))

pub returns-in-Err-2-clause-too_long : goal.returns-in-Err-2-clause-too_long
returns-in-Err-2-clause-too_long g c = λ is. absurd (c.reading_fault.ensures.short (same_error _ _ is))

pub returns-in-Err-2-clause-well_long : goal.returns-in-Err-2-clause-well_long
returns-in-Err-2-clause-well_long g c = λ is. absurd (c.reading_fault.ensures.short (same_error _ _ is))

-- ---- bytes were read

pub returns-in_err-extend_from_slice-clause-log : goal.returns-in_err-extend_from_slice-clause-log
returns-in_err-extend_from_slice-clause-log g c = LogsOnly-one (λ (s : Step). s.asks ≡ Reads) _ _ _ c.read.ensures.log refl

pub returns-then-len-limit-clause-log : goal.returns-then-len-limit-clause-log
returns-then-len-limit-clause-log g c = LogsOnly-one (λ (s : Step). s.asks ≡ Reads) _ _ _ c.read.ensures.log refl

pub returns-then-len-limit-clause-well_long : goal.returns-then-len-limit-clause-well_long
returns-then-len-limit-clause-well_long g c =
    let went : is_err c.read.result ≡ false = search rules in
    λ is. LogsOnly-one GoesOn _ _ _ c.read.ensures.log (inl went)

pub returns-clause-log : goal.returns-clause-log
returns-clause-log g c = LogsOnly-one (λ (s : Step). s.asks ≡ Reads) _ _ _ c.read.ensures.log refl

pub returns-clause-well : goal.returns-clause-well
returns-clause-well g c =
    let went : is_err c.read.result ≡ false = search rules in
    LogsOnly-one GoesOn _ _ _ c.read.ensures.log (inl went)
