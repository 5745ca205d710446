-- What isn't there to be read is told so, and else a call of the system failed.
use Rattle.std.proofs.Common.{rules, ◌≡◌, true, false, Option, inl, refl, sym, ap, ◌∙◌, subst}
use Rattle.std.specs.Prelude.{is_err}
use Rattle.jk_outside.specs.declared.files.FilesError.TheVariants.{Absent}
use Rattle.jk_outside.specs.Reading.{may_be_read, opening_fault}
use Rattle.jk_outside.specs.Systems.{AsksFor, GoesOn, HasNothing, IsOpenedAt, MayAsk, Places, Step}
use Rattle.jk_outside.proofs.LogsGrow.{LogsFault-back, LogsFault-one, LogsOnly-after, LogsOnly-one, same_error}
use Rattle.jk_outside.proofs.WhatIsRead.{is_open_to_read, judged, may_open, opened_seen}
use Rattle.jk_outside.proofs.reading.open_to_read.Goals as goal

-- ---- nothing was seen

pub returns-in-Err-clause-failed : goal.returns-in-Err-clause-failed
returns-in-Err-clause-failed g c =
    let failed : is_err c.look_at.result ≡ true = ap is_err c.in-Err.is in
    λ is there. LogsFault-one _ _ _ c.look_at.ensures.log failed

pub returns-in-Err-clause-short : goal.returns-in-Err-clause-short
returns-in-Err-clause-short g c = λ is. c.opening_fault.ensures.short (same_error _ _ is)

pub returns-in-Err-clause-log : goal.returns-in-Err-clause-log
returns-in-Err-clause-log g c = LogsOnly-one (λ (s : Step). AsksFor c.args.path.now s.asks) _ _ _ c.look_at.ensures.log refl

pub returns-in-Err-clause-opens : goal.returns-in-Err-clause-opens
returns-in-Err-clause-opens g c =
    let May : Step → Type 0 = λ s. MayAsk c.args.pipes (g.S.System.places c.args.system.now) c.args.path.now s.asks in
    LogsOnly-one May _ _ _ c.look_at.ensures.log tt

-- ---- what was seen isn't read

pub returns-then-not-may_be_read-clause-failed : goal.returns-then-not-may_be_read-clause-failed
returns-then-not-may_be_read-clause-failed g c = search (rules, judged)

pub returns-then-not-may_be_read-clause-log : goal.returns-then-not-may_be_read-clause-log
returns-then-not-may_be_read-clause-log g c = LogsOnly-one (λ (s : Step). AsksFor c.args.path.now s.asks) _ _ _ c.look_at.ensures.log refl

pub returns-then-not-may_be_read-clause-opens : goal.returns-then-not-may_be_read-clause-opens
returns-then-not-may_be_read-clause-opens g c =
    let May : Step → Type 0 = λ s. MayAsk c.args.pipes (g.S.System.places c.args.system.now) c.args.path.now s.asks in
    LogsOnly-one May _ _ _ c.look_at.ensures.log tt

-- ---- it wasn't opened

pub returns-in-Err-open_file-clause-failed : goal.returns-in-Err-open_file-clause-failed
returns-in-Err-open_file-clause-failed g c =
    let Is : Step → Type 0 = λ s. AsksFor c.args.path.now s.asks in
    let looked = LogsOnly-one Is _ _ _ c.look_at.ensures.log refl in
    let failed : is_err c.open_file.result ≡ true = search rules in
    λ is there. LogsFault-back Is _ _ _ looked (LogsFault-one _ _ _ c.open_file.ensures.log failed)

pub returns-in-Err-open_file-clause-absent : goal.returns-in-Err-open_file-clause-absent
returns-in-Err-open_file-clause-absent g c =
    λ is.
    let fault : c.opening_fault-in-Err-open_file.result ≡ Absent = same_error _ _ is in
    subst (λ (at : Option Places). HasNothing at c.args.path.now) c.look_at.ensures.stays
    (c.in-Err-open_file.ensures.absent (sym (ap opening_fault c.kind-in-Err-open_file.ensures) ∙ sym c.opening_fault-in-Err-open_file.ensures.value ∙ fault))

pub returns-in-Err-open_file-clause-short : goal.returns-in-Err-open_file-clause-short
returns-in-Err-open_file-clause-short g c = λ is. c.opening_fault-in-Err-open_file.ensures.short (same_error _ _ is)

pub returns-in-Err-open_file-clause-log : goal.returns-in-Err-open_file-clause-log
returns-in-Err-open_file-clause-log g c =
    let Is : Step → Type 0 = λ s. AsksFor c.args.path.now s.asks in
    LogsOnly-after Is _ _ _ (LogsOnly-one Is _ _ _ c.look_at.ensures.log refl) (LogsOnly-one Is _ _ _ c.open_file.ensures.log refl)

pub returns-in-Err-open_file-clause-opens : goal.returns-in-Err-open_file-clause-opens
returns-in-Err-open_file-clause-opens g c =
    let May : Step → Type 0 = λ s. MayAsk c.args.pipes (g.S.System.places c.args.system.now) c.args.path.now s.asks in
    let read : may_be_read c.sort_of.result c.args.pipes ≡ true = search rules in
    let told = may_open c.args.pipes (g.S.System.places c.args.system.now) c.args.path.now _ _ c.in-Ok.ensures.seen c.sort_of.ensures read in
    LogsOnly-after May _ _ _ (LogsOnly-one May _ _ _ c.look_at.ensures.log tt) (LogsOnly-one May _ _ _ c.open_file.ensures.log told)

-- ---- what was opened is read

pub returns-in-Ok-look_into-clause-opened : goal.returns-in-Ok-look_into-clause-opened
returns-in-Ok-look_into-clause-opened g c =
    subst (λ (at : Option Places). IsOpenedAt at c.args.path.now (g.S.System.opened c.in-Ok-open_file.file) (g.S.System.bytes_left c.in-Ok-open_file.file))
    c.look_at.ensures.stays c.in-Ok-open_file.ensures.opened

pub returns-in-Ok-look_into-clause-sort : goal.returns-in-Ok-look_into-clause-sort
returns-in-Ok-look_into-clause-sort g c =
    let read : may_be_read c.sort_of.result c.args.pipes ≡ true = search rules in
    may_open c.args.pipes (g.S.System.places c.args.system.now) c.args.path.now _ _ c.in-Ok.ensures.seen c.sort_of.ensures read

pub returns-in-Ok-look_into-clause-judged : goal.returns-in-Ok-look_into-clause-judged
returns-in-Ok-look_into-clause-judged g c = search (rules, is_open_to_read)

pub returns-in-Ok-look_into-clause-log : goal.returns-in-Ok-look_into-clause-log
returns-in-Ok-look_into-clause-log g c =
    let Is : Step → Type 0 = λ s. AsksFor c.args.path.now s.asks in
    LogsOnly-after Is _ _ _
    (LogsOnly-after Is _ _ _ (LogsOnly-one Is _ _ _ c.look_at.ensures.log refl) (LogsOnly-one Is _ _ _ c.open_file.ensures.log refl))
    (LogsOnly-one Is _ _ _ c.look_into.ensures.log tt)

pub returns-in-Ok-look_into-clause-opens : goal.returns-in-Ok-look_into-clause-opens
returns-in-Ok-look_into-clause-opens g c =
    let May : Step → Type 0 = λ s. MayAsk c.args.pipes (g.S.System.places c.args.system.now) c.args.path.now s.asks in
    let read : may_be_read c.sort_of.result c.args.pipes ≡ true = search rules in
    let told = may_open c.args.pipes (g.S.System.places c.args.system.now) c.args.path.now _ _ c.in-Ok.ensures.seen c.sort_of.ensures read in
    LogsOnly-after May _ _ _
    (LogsOnly-after May _ _ _ (LogsOnly-one May _ _ _ c.look_at.ensures.log tt) (LogsOnly-one May _ _ _ c.open_file.ensures.log told))
    (LogsOnly-one May _ _ _ c.look_into.ensures.log tt)

pub returns-in-Ok-look_into-clause-well : goal.returns-in-Ok-look_into-clause-well
returns-in-Ok-look_into-clause-well g c =
    let looked : is_err c.look_at.result ≡ false = search rules in
    let opened : is_err c.open_file.result ≡ false = search rules in
    let seen : is_err c.look_into.result ≡ false = search rules in
    LogsOnly-after GoesOn _ _ _
    (LogsOnly-after GoesOn _ _ _ (LogsOnly-one GoesOn _ _ _ c.look_at.ensures.log (inl looked))
    (LogsOnly-one GoesOn _ _ _ c.open_file.ensures.log (inl opened)))
    (LogsOnly-one GoesOn _ _ _ c.look_into.ensures.log (inl seen))

-- ---- what was opened isn't read

pub returns-in-Ok-2-clause-failed : goal.returns-in-Ok-2-clause-failed
returns-in-Ok-2-clause-failed g c = search (rules, judged, opened_seen)

pub returns-in-Ok-2-clause-log : goal.returns-in-Ok-2-clause-log
returns-in-Ok-2-clause-log g c =
    let Is : Step → Type 0 = λ s. AsksFor c.args.path.now s.asks in
    LogsOnly-after Is _ _ _
    (LogsOnly-after Is _ _ _ (LogsOnly-one Is _ _ _ c.look_at.ensures.log refl) (LogsOnly-one Is _ _ _ c.open_file.ensures.log refl))
    (LogsOnly-one Is _ _ _ c.look_into.ensures.log tt)

pub returns-in-Ok-2-clause-opens : goal.returns-in-Ok-2-clause-opens
returns-in-Ok-2-clause-opens g c =
    let May : Step → Type 0 = λ s. MayAsk c.args.pipes (g.S.System.places c.args.system.now) c.args.path.now s.asks in
    let read : may_be_read c.sort_of.result c.args.pipes ≡ true = search rules in
    let told = may_open c.args.pipes (g.S.System.places c.args.system.now) c.args.path.now _ _ c.in-Ok.ensures.seen c.sort_of.ensures read in
    LogsOnly-after May _ _ _
    (LogsOnly-after May _ _ _ (LogsOnly-one May _ _ _ c.look_at.ensures.log tt) (LogsOnly-one May _ _ _ c.open_file.ensures.log told))
    (LogsOnly-one May _ _ _ c.look_into.ensures.log tt)

-- ---- nothing was seen of it

pub returns-in-Err-look_into-clause-failed : goal.returns-in-Err-look_into-clause-failed
returns-in-Err-look_into-clause-failed g c =
    let Is : Step → Type 0 = λ s. AsksFor c.args.path.now s.asks in
    let looked = LogsOnly-one Is _ _ _ c.look_at.ensures.log refl in
    let opened = LogsOnly-one Is _ _ _ c.open_file.ensures.log refl in
    let failed : is_err c.look_into.result ≡ true = search rules in
    λ is there. LogsFault-back Is _ _ _ (LogsOnly-after Is _ _ _ looked opened) (LogsFault-one _ _ _ c.look_into.ensures.log failed)

pub returns-in-Err-look_into-clause-short : goal.returns-in-Err-look_into-clause-short
returns-in-Err-look_into-clause-short g c = λ is. c.reading_fault.ensures.short (same_error _ _ is)

pub returns-in-Err-look_into-clause-absent : goal.returns-in-Err-look_into-clause-absent
returns-in-Err-look_into-clause-absent g c = λ is. absurd (c.reading_fault.ensures.present (same_error _ _ is))

pub returns-in-Err-look_into-clause-log : goal.returns-in-Err-look_into-clause-log
returns-in-Err-look_into-clause-log g c =
    let Is : Step → Type 0 = λ s. AsksFor c.args.path.now s.asks in
    LogsOnly-after Is _ _ _
    (LogsOnly-after Is _ _ _ (LogsOnly-one Is _ _ _ c.look_at.ensures.log refl) (LogsOnly-one Is _ _ _ c.open_file.ensures.log refl))
    (LogsOnly-one Is _ _ _ c.look_into.ensures.log tt)

pub returns-in-Err-look_into-clause-opens : goal.returns-in-Err-look_into-clause-opens
returns-in-Err-look_into-clause-opens g c =
    let May : Step → Type 0 = λ s. MayAsk c.args.pipes (g.S.System.places c.args.system.now) c.args.path.now s.asks in
    let read : may_be_read c.sort_of.result c.args.pipes ≡ true = search rules in
    let told = may_open c.args.pipes (g.S.System.places c.args.system.now) c.args.path.now _ _ c.in-Ok.ensures.seen c.sort_of.ensures read in
    LogsOnly-after May _ _ _
    (LogsOnly-after May _ _ _ (LogsOnly-one May _ _ _ c.look_at.ensures.log tt) (LogsOnly-one May _ _ _ c.open_file.ensures.log told))
    (LogsOnly-one May _ _ _ c.look_into.ensures.log tt)
