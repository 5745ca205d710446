-- One more piece was read, or a call of the system failed.
use Rattle.std.proofs.Common.{rules, ◌≡◌, ◌≤◌, ◌+◌, ◌⊎◌, length, false, Ok, Err, arith, inl, inr, ap, ◌∙◌, ◌<◌, ◌++◌, [], take, drop}
use Rattle.std.proofs.lemmas.Grind.{common_steps}
use Rattle.jk_outside.specs.declared.files.FilesError.TheVariants.{Absent, Failed, TooLong}
use Rattle.jk_outside.specs.DiskStates.{count_after}
use Rattle.jk_outside.specs.Reading.{ReadsOn}
use Rattle.jk_outside.specs.Systems.{GoesOn, LogsFault, LogsOnly, Reads, Step}
use Rattle.jk_outside.proofs.LogsGrow.{LogsFault-back, LogsFault-front, LogsOnly-after}
use Rattle.jk_outside.proofs.reading.whole_file.Goals as goal

pub returns-in_err-read_more-clause-failed : goal.returns-in_err-read_more-clause-failed
returns-in_err-read_more-clause-failed g c =
    let Is : Step → Type 0 = λ s. s.asks ≡ Reads in
    λ failed.
    let is : c.in_err-read_more.field-0.0 ≡ Failed = search rules in
    LogsFault-back Is _ _ _ c.loop-turn.invariant.log (c.in_err-read_more.ensures.failed (ap Err is))

pub returns-in_err-read_more-clause-present : goal.returns-in_err-read_more-clause-present
returns-in_err-read_more-clause-present g c =
    λ absent.
    let is : c.in_err-read_more.field-0.0 ≡ Absent = search rules in
    c.in_err-read_more.ensures.present (ap Err is)

pub returns-in_err-read_more-clause-log : goal.returns-in_err-read_more-clause-log
returns-in_err-read_more-clause-log g c =
    LogsOnly-after (λ (s : Step). s.asks ≡ Reads) _ _ _ c.loop-turn.invariant.log c.read_more.ensures.log

pub returns-in_err-read_more-clause-well_long : goal.returns-in_err-read_more-clause-well_long
returns-in_err-read_more-clause-well_long g c =
    λ long.
    let is : c.in_err-read_more.field-0.0 ≡ TooLong = search rules in
    LogsOnly-after GoesOn _ _ _ c.loop-turn.invariant.well (c.in_err-read_more.ensures.well_long (ap Err is))

pub returns-then-branch-clause-log : goal.returns-then-branch-clause-log
returns-then-branch-clause-log g c =
    LogsOnly-after (λ (s : Step). s.asks ≡ Reads) _ _ _ c.loop-turn.invariant.log c.in_ok-read_more.ensures.log

pub returns-then-branch-clause-well : goal.returns-then-branch-clause-well
returns-then-branch-clause-well g c = LogsOnly-after GoesOn _ _ _ c.loop-turn.invariant.well c.in_ok-read_more.ensures.well

pub loop-turn-preserved : goal.loop-turn-preserved
loop-turn-preserved g c =
    let Is : Step → Type 0 = λ s. s.asks ≡ Reads in
    let before = c.loop-turn.invariant in
    let goes_on : c.read_more.result ≡ Ok false = search rules in
    let log : LogsOnly Is (g.S.System.log c.args.system.now) (g.S.System.log c.read_more.new.system) =
    LogsOnly-after Is _ _ _ before.log c.in_ok-read_more.ensures.log in
    let turns : (c.loop-turn._turn + 1 ≤ length c.read_more.new.bytes) ⊎ LogsFault (g.S.System.log c.args.system.now) (g.S.System.log c.read_more.new.system) =
    elim before.turns [
      | inl few ↦ elim (c.read_more.ensures.grows goes_on) [
        | inl more ↦ inl (omega (arith, few, more))
        | inr fault ↦ inr (LogsFault-back Is _ _ _ before.log fault)
      ]
      | inr fault ↦ inr (LogsFault-front Is _ _ _ fault c.in_ok-read_more.ensures.log)
    ] in
    let within : length c.read_more.new.bytes ≤ c.args.limit = c.in_ok-read_more.ensures.within in
    let counted : c.read_more.new.taken ≡ count_after c.args.taken.now (length c.read_more.new.bytes) = grind (arith, common_steps) in
    let on : ReadsOn (g.S.System.bytes_left c.args.file.now) (g.S.System.bytes_left c.read_more.new.file) [] c.read_more.new.bytes =
    grind (arith, common_steps) in
    let room : 0 < length (take c.loop-turn.piece.len (c.read_more.new.piece ++ drop (length c.read_more.new.piece) c.loop-turn.piece.items)) =
    grind (arith, common_steps) in
    record {
      within = within;
      counted = counted;
      on = on;
      room = room;
      log = log;
      well = LogsOnly-after GoesOn _ _ _ before.well c.in_ok-read_more.ensures.well;
      stays = c.in_ok-read_more.ensures.stays ∙ before.stays;
      turns = turns;
    }
