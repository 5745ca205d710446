-- What is asked to open a file, and what is asked of the open one.
use Rattle.std.proofs.Common.{rules, ◌≡◌, Err, sym, ap, ◌∙◌, subst}
use Rattle.std.proofs.lemmas.Result.{on_ok_weaker}
use Rattle.jk_outside.specs.declared.files.FilesError.TheVariants.{TooLong}
use Rattle.jk_outside.specs.Systems.{AsksFor, GoesOn, MayAsk, Reads, Step, Question}
use Rattle.jk_outside.proofs.LogsGrow.{LogsFault-back, LogsOnly-after, LogsOnly-weaker}
use Rattle.jk_outside.proofs.reading.read_file.Goals as goal

pub returns-in_err-file-clause-long : goal.returns-in_err-file-clause-long
returns-in_err-file-clause-long g c =
    λ long.
    let is : c.in_err-file.field-0.0 ≡ TooLong = search rules in
    absurd (c.in_err-file.ensures.short (ap Err is))

pub returns-in_err-file-clause-well_long : goal.returns-in_err-file-clause-well_long
returns-in_err-file-clause-well_long g c =
    λ long.
    let is : c.in_err-file.field-0.0 ≡ TooLong = search rules in
    absurd (c.in_err-file.ensures.short (ap Err is))

pub returns-in_err-file-clause-too_long : goal.returns-in_err-file-clause-too_long
returns-in_err-file-clause-too_long g c =
    λ long.
    let is : c.in_err-file.field-0.0 ≡ TooLong = search rules in
    absurd (c.in_err-file.ensures.short (ap Err is))

pub returns-in_err-file-clause-log : goal.returns-in_err-file-clause-log
returns-in_err-file-clause-log g c = c.open_to_read.ensures.log

pub returns-in_err-file-clause-opens : goal.returns-in_err-file-clause-opens
returns-in_err-file-clause-opens g c = c.open_to_read.ensures.opens

pub returns-in_err-file-clause-stays : goal.returns-in_err-file-clause-stays
returns-in_err-file-clause-stays g c = c.open_to_read.ensures.stays

pub returns-clause-absent : goal.returns-clause-absent
returns-clause-absent g c = λ is. absurd (c.whole_file.ensures.present is)

pub returns-clause-well : goal.returns-clause-well
returns-clause-well g c = on_ok_weaker c.whole_file.result (LogsOnly-after GoesOn _ _ _ c.in_ok-file.ensures.well) c.whole_file.ensures.well

pub returns-clause-well_long : goal.returns-clause-well_long
returns-clause-well_long g c = λ is. LogsOnly-after GoesOn _ _ _ c.in_ok-file.ensures.well (c.whole_file.ensures.well_long is)

pub returns-clause-stays : goal.returns-clause-stays
returns-clause-stays g c = c.whole_file.ensures.stays ∙ c.in_ok-file.ensures.stays

pub returns-clause-failed : goal.returns-clause-failed
returns-clause-failed g c =
    λ is there. LogsFault-back (λ (s : Step). AsksFor c.args.path.now s.asks) _ _ _ c.in_ok-file.ensures.log (c.whole_file.ensures.failed is)

pub returns-clause-log : goal.returns-clause-log
returns-clause-log g c =
    let Is : Step → Type 0 = λ s. AsksFor c.args.path.now s.asks in
    LogsOnly-after Is _ _ _ c.in_ok-file.ensures.log
    (LogsOnly-weaker (λ (s : Step). s.asks ≡ Reads) Is _ _ (λ s e. subst (λ (q : Question). AsksFor c.args.path.now q) (sym e) tt) c.whole_file.ensures.log)

pub returns-clause-opens : goal.returns-clause-opens
returns-clause-opens g c =
    let May : Question → Type 0 = λ q. MayAsk c.args.pipes (g.S.System.places c.args.system.now) c.args.path.now q in
    let Is : Step → Type 0 = λ s. May s.asks in
    LogsOnly-after Is _ _ _ c.in_ok-file.ensures.opens
    (LogsOnly-weaker (λ (s : Step). s.asks ≡ Reads) Is _ _ (λ s e. subst May (sym e) tt) c.whole_file.ensures.log)
