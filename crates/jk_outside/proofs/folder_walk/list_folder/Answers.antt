-- The folder is opened first.
use Rattle.std.proofs.Common.{◌≡◌, List, length, ◌<◌, true, false, inl, inr, refl, ap, ◌∙◌}
use Rattle.std.specs.Prelude.{is_err}
use Rattle.std.proofs.lemmas.Result.{IfOk-weaker, on_ok_weaker}
use Rattle.jk_model.specs.declared.entries.Entry.{Entry}
use Rattle.jk_outside.specs.Systems.{AsksBelow, GoesOn, Step}
use Rattle.jk_outside.proofs.FolderWalkSteps.{folder_is}
use Rattle.jk_outside.proofs.LogsGrow.{LogsFault-back, LogsFault-one, LogsOnly-after, LogsOnly-one, same_error}
use Rattle.jk_outside.proofs.folder_walk.list_folder.Goals as goal

pub returns-in-Err-clause-failed : goal.returns-in-Err-clause-failed
returns-in-Err-clause-failed g c =
    let failed : is_err c.open_folder.result ≡ true = ap is_err c.in-Err.is in
    λ is. inl (LogsFault-one _ _ _ c.open_folder.ensures.log failed)

pub returns-in-Err-clause-log : goal.returns-in-Err-clause-log
returns-in-Err-clause-log g c =
    let Is : Step → Type 0 = λ s. AsksBelow c.args.folder.now s.asks in
    LogsOnly-one Is _ _ _ c.open_folder.ensures.log refl

pub returns-in-Err-clause-long : goal.returns-in-Err-clause-long
returns-in-Err-clause-long g c = λ is. absurd (c.opening_fault.ensures.short (same_error _ _ is))

pub returns-in-Err-clause-well_long : goal.returns-in-Err-clause-well_long
returns-in-Err-clause-well_long g c = λ is. absurd (c.opening_fault.ensures.short (same_error _ _ is))

pub returns-in-Err-clause-too_long : goal.returns-in-Err-clause-too_long
returns-in-Err-clause-too_long g c = λ is. absurd (c.opening_fault.ensures.short (same_error _ _ is))

pub returns-in-Ok : goal.returns-in-Ok
returns-in-Ok g c =
    let Is : Step → Type 0 = λ s. AsksBelow c.args.folder.now s.asks in
    let went : is_err c.open_folder.result ≡ false = ap is_err c.in-Ok.is in
    let opened = LogsOnly-one Is _ _ _ c.open_folder.ensures.log refl in
    let opens_well = LogsOnly-one GoesOn _ _ _ c.open_folder.ensures.log (inl went) in
    record {
      told = IfOk-weaker c.list_names.result _ _
          (λ entries all. folder_is _ _ _ _ (λ (es : List Entry). entries ≡ es) c.in-Ok.ensures.opened c.open_folder.ensures.stays all)
          c.list_names.ensures.all;
      long = λ is.
          folder_is _ _ _ _ (λ (es : List Entry). c.args.limit < length es)
          c.in-Ok.ensures.opened c.open_folder.ensures.stays (c.list_names.ensures.long is);
      absent = λ is. absurd (c.list_names.ensures.present is);
      failed = λ is. elim (c.list_names.ensures.failed is) [
        | inl fault ↦ inl (LogsFault-back Is _ _ _ opened fault)
        | inr ended ↦ inr ended
      ];
      log = LogsOnly-after Is _ _ _ opened c.list_names.ensures.log;
      well = on_ok_weaker c.list_names.result (LogsOnly-after GoesOn _ _ _ opens_well) c.list_names.ensures.well;
      well_long = λ is. LogsOnly-after GoesOn _ _ _ opens_well (c.list_names.ensures.well_long is);
      stays = c.list_names.ensures.stays ∙ c.open_folder.ensures.stays;
      names = c.list_names.ensures.names;
      within = c.list_names.ensures.within;
      counted = c.list_names.ensures.counted;
      too_long = c.list_names.ensures.too_long;
      taken = c.list_names.ensures.taken;
    }
