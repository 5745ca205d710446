-- One more name makes one more entry, or none, and the log grows by what was asked for it.
use Rattle.std.proofs.Common.{rules, ◌≡◌, true, false, Option, Some, None, Err, arith, inl, ap, ◌∙◌, subst}
use Rattle.std.specs.Prelude.{is_err}
use Rattle.jk_outside.specs.declared.files.FilesError.TheVariants.{Absent, Failed, TooLong}
use Rattle.jk_outside.specs.FolderWalks.{IsListedAs}
use Rattle.jk_outside.specs.Systems.{AsksBelow, GivesName, GoesOn, Places, Step}
use Rattle.jk_outside.proofs.FolderWalkSteps.{lists_all, lists_on, lists_long, no_more_than}
use Rattle.jk_outside.proofs.LogsGrow.{LogsFault-back, LogsFault-one, LogsOnly-after, LogsOnly-one, same_error}
use Rattle.jk_outside.proofs.folder_walk.list_names.Goals as goal

pub returns-in-Err-clause-failed : goal.returns-in-Err-clause-failed
returns-in-Err-clause-failed g c =
    let Is : Step → Type 0 = λ s. AsksBelow c.args.folder.now s.asks in
    let failed : is_err c.next_name.result ≡ true = ap is_err c.in-Err.is in
    λ is. inl (LogsFault-back Is _ _ _ c.loop-turn.invariant.log (LogsFault-one _ _ _ c.next_name.ensures.log failed))

pub returns-in-Err-clause-log : goal.returns-in-Err-clause-log
returns-in-Err-clause-log g c =
    let Is : Step → Type 0 = λ s. AsksBelow c.args.folder.now s.asks in
    LogsOnly-after Is _ _ _ c.loop-turn.invariant.log (LogsOnly-one Is _ _ _ c.next_name.ensures.log tt)

pub returns-in-Err-clause-present : goal.returns-in-Err-clause-present
returns-in-Err-clause-present g c = λ is. c.reading_fault.ensures.present (same_error _ _ is)

pub returns-in-Err-clause-long : goal.returns-in-Err-clause-long
returns-in-Err-clause-long g c = λ is. absurd (c.reading_fault.ensures.short (same_error _ _ is))

pub returns-in-Err-clause-well_long : goal.returns-in-Err-clause-well_long
returns-in-Err-clause-well_long g c = λ is. absurd (c.reading_fault.ensures.short (same_error _ _ is))

pub returns-in-Err-clause-too_long : goal.returns-in-Err-clause-too_long
returns-in-Err-clause-too_long g c = λ is. absurd (c.reading_fault.ensures.short (same_error _ _ is))

pub returns-in_default-clause-all : goal.returns-in_default-clause-all
returns-in_default-clause-all g c =
    let ends : GivesName (g.S.System.names_left c.loop-turn.names) (g.S.System.names_left c.next_name.new.folder) None = search rules in
    lists_all _ _ _ _ _ _ c.loop-turn.invariant.on ends

pub returns-in_default-clause-log : goal.returns-in_default-clause-log
returns-in_default-clause-log g c =
    let Is : Step → Type 0 = λ s. AsksBelow c.args.folder.now s.asks in
    LogsOnly-after Is _ _ _ c.loop-turn.invariant.log (LogsOnly-one Is _ _ _ c.next_name.ensures.log tt)

pub returns-in_default-clause-well : goal.returns-in_default-clause-well
returns-in_default-clause-well g c =
    let went : is_err c.next_name.result ≡ false = search rules in
    LogsOnly-after GoesOn _ _ _ c.loop-turn.invariant.well (LogsOnly-one GoesOn _ _ _ c.next_name.ensures.log (inl went))

pub returns-in_err-sort-clause-failed : goal.returns-in_err-sort-clause-failed
returns-in_err-sort-clause-failed g c =
    let Is : Step → Type 0 = λ s. AsksBelow c.args.folder.now s.asks in
    let named = LogsOnly-after Is _ _ _ c.loop-turn.invariant.log (LogsOnly-one Is _ _ _ c.next_name.ensures.log tt) in
    λ failed.
    let is : c.in_err-sort.field-0.0 ≡ Failed = search rules in
    inl (LogsFault-back Is _ _ _ named (c.in_err-sort.ensures.failed (ap Err is)))

pub returns-in_err-sort-clause-log : goal.returns-in_err-sort-clause-log
returns-in_err-sort-clause-log g c =
    let Is : Step → Type 0 = λ s. AsksBelow c.args.folder.now s.asks in
    LogsOnly-after Is _ _ _ (LogsOnly-after Is _ _ _ c.loop-turn.invariant.log (LogsOnly-one Is _ _ _ c.next_name.ensures.log tt)) c.sort_at.ensures.log

pub returns-in_err-sort-clause-present : goal.returns-in_err-sort-clause-present
returns-in_err-sort-clause-present g c =
    λ is.
    let same : c.in_err-sort.field-0.0 ≡ Absent = search rules in
    c.in_err-sort.ensures.present (ap Err same)

pub returns-in_err-sort-clause-long : goal.returns-in_err-sort-clause-long
returns-in_err-sort-clause-long g c =
    λ is.
    let same : c.in_err-sort.field-0.0 ≡ TooLong = search rules in
    absurd (c.in_err-sort.ensures.short (ap Err same))

pub returns-in_err-sort-clause-well_long : goal.returns-in_err-sort-clause-well_long
returns-in_err-sort-clause-well_long g c =
    λ is.
    let same : c.in_err-sort.field-0.0 ≡ TooLong = search rules in
    absurd (c.in_err-sort.ensures.short (ap Err same))

pub returns-in_err-sort-clause-too_long : goal.returns-in_err-sort-clause-too_long
returns-in_err-sort-clause-too_long g c =
    λ is.
    let same : c.in_err-sort.field-0.0 ≡ TooLong = search rules in
    absurd (c.in_err-sort.ensures.short (ap Err same))

pub returns-in_err-add_entry-clause-well_long : goal.returns-in_err-add_entry-clause-well_long
returns-in_err-add_entry-clause-well_long g c =
    let went : is_err c.next_name.result ≡ false = search rules in
    λ is. LogsOnly-after GoesOn _ _ _
    (LogsOnly-after GoesOn _ _ _ c.loop-turn.invariant.well (LogsOnly-one GoesOn _ _ _ c.next_name.ensures.log (inl went))) c.in_ok-sort.ensures.well

pub returns-in_err-add_entry-clause-log : goal.returns-in_err-add_entry-clause-log
returns-in_err-add_entry-clause-log g c =
    let Is : Step → Type 0 = λ s. AsksBelow c.args.folder.now s.asks in
    LogsOnly-after Is _ _ _ (LogsOnly-after Is _ _ _ c.loop-turn.invariant.log (LogsOnly-one Is _ _ _ c.next_name.ensures.log tt)) c.in_ok-sort.ensures.log

pub returns-in_err-add_entry-clause-long : goal.returns-in_err-add_entry-clause-long
returns-in_err-add_entry-clause-long g c =
    let same = c.next_name.ensures.stays ∙ c.loop-turn.invariant.stays in
    let gives : GivesName (g.S.System.names_left c.loop-turn.names) (g.S.System.names_left c.next_name.new.folder) (Some c.as_str-name.result.now) =
    search rules in
    let listed = subst (λ (at : Option Places). IsListedAs at c.args.folder.now c.as_str-name.result.now c.in_ok-sort.sort) same c.in_ok-sort.ensures.sort in
    λ long.
    let is : c.in_err-add_entry.field-0.0 ≡ TooLong = search rules in
    lists_long _ _ _ _ _ _ _ _ _ c.loop-turn.invariant.on gives listed (c.in_err-add_entry.ensures.long (ap Err is))

pub loop-turn-preserved : goal.loop-turn-preserved
loop-turn-preserved g c =
    let Is : Step → Type 0 = λ s. AsksBelow c.args.folder.now s.asks in
    let before = c.loop-turn.invariant in
    let same = c.next_name.ensures.stays ∙ before.stays in
    let went : is_err c.next_name.result ≡ false = search rules in
    let gives : GivesName (g.S.System.names_left c.loop-turn.names) (g.S.System.names_left c.next_name.new.folder) (Some c.as_str-name.result.now) =
    search rules in
    let listed = subst (λ (at : Option Places). IsListedAs at c.args.folder.now c.as_str-name.result.now c.in_ok-sort.sort) same c.in_ok-sort.ensures.sort in
    record {
      within = c.in_ok-add_entry.ensures.within;
      counted = omega (arith, before.counted);
      fewer = no_more_than _ _ _ _ c.in_ok-add_entry.ensures.ok before.fewer;
      names = c.in_ok-add_entry.ensures.names before.names;
      on = lists_on _ _ _ _ _ _ _ _ _ before.on gives listed c.in_ok-add_entry.ensures.ok;
      log = LogsOnly-after Is _ _ _ (LogsOnly-after Is _ _ _ before.log (LogsOnly-one Is _ _ _ c.next_name.ensures.log tt)) c.in_ok-sort.ensures.log;
      well = LogsOnly-after GoesOn _ _ _
          (LogsOnly-after GoesOn _ _ _ before.well (LogsOnly-one GoesOn _ _ _ c.next_name.ensures.log (inl went))) c.in_ok-sort.ensures.well;
      stays = c.in_ok-sort.ensures.stays ∙ same;
    }
