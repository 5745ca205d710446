-- What the parts answer is answered of the folder.
use Rattle.std.proofs.Common.{Err, ap, refl, subst, sym, ◌∙◌}
use Rattle.std.specs.Prelude.{List, ℕ}
use Rattle.jk_model.specs.declared.output.Place.TheVariants.{Whole}
use Rattle.jk_model.specs.declared.output.Rule.TheVariants.{L1, L2, L5}
use Rattle.jk_model.specs.Outside.{FolderIsAbsent, ListOf, ◌/-◌}
use Rattle.jk_model_folders.specs.FolderRules.{IsLive}
use Rattle.jk_model_folders.specs.FolderTrees.{MOST_ENTRIES}
use Rattle.folder_reader.specs.FolderAnswers.{AskedFor}
use Rattle.folder_reader.proofs.AsksApart.{asks_nothing}
use Rattle.folder_loader.specs.declared.answers.LoadAnswer.TheVariants.{Refused}
use Rattle.folder_loader.proofs.FaultsAreAnswered.{fault_answered}
use Rattle.folder_loader.proofs.LoadedFolders.{folder_loads}
use Rattle.folder_loader.proofs.ToldRefusals.{absent_told, asks_of, files_refused, folder_fault, large_by, live_refused, missed_by, no_whole_refusal, not_live_by, read_refused, refused_by}
use Rattle.folder_loader.proofs.loading.load.Goals as goal

pub returns-then-is_live-clause-refused : goal.returns-then-is_live-clause-refused
returns-then-is_live-clause-refused g c = λ rule place e.
    live_refused (g.F.Files.tree c.args.files.now) c.args.root.now c.args.world.now c.args.name.now rule place (c.is_live.ensures.0 c.if-is_live.true)
    (refused_by _ _ e)

pub returns-then-is_live-clause-folder_fault : goal.returns-then-is_live-clause-folder_fault
returns-then-is_live-clause-folder_fault g c = λ t rule place told e.
    folder_fault (g.F.Files.tree c.args.files.now) t c.args.root.now c.args.world.now c.args.name.now rule place told
    (returns-then-is_live-clause-refused g c rule place e)

pub load_files-requires-clause-not_live : goal.load_files-requires-clause-not_live
load_files-requires-clause-not_live g c =
    subst (λ (x : List ℕ). IsLive c.args.world.now x → ⊥) (sym c.as_bytes.ensures.value)
    (not_live_by c.args.world.now c.args.name.now c.is_live.result c.is_live.ensures c.if-is_live.false)

pub returns-in-Ok-clause-refused : goal.returns-in-Ok-clause-refused
returns-in-Ok-clause-refused g c = λ rule place e.
    files_refused (g.F.Files.tree c.args.files.now) c.args.root.now c.args.world.now c.args.name.now c.as_str.result.now c.as_bytes.result.now c.in-Ok.found
    rule place (not_live_by c.args.world.now c.args.name.now c.is_live.result c.is_live.ensures c.if-is_live.false)
    (c.as_str.ensures.value ∙ c.in_ok-folder.ensures) c.as_bytes.ensures.value c.in-Ok.ensures.files c.in-Ok.ensures.told
    (c.load_files.ensures.refused rule place e)

pub returns-in-Ok-clause-folder_fault : goal.returns-in-Ok-clause-folder_fault
returns-in-Ok-clause-folder_fault g c = λ t rule place told e.
    folder_fault (g.F.Files.tree c.args.files.now) t c.args.root.now c.args.world.now c.args.name.now rule place told
    (returns-in-Ok-clause-refused g c rule place e)

pub returns-in-Ok-clause-asks : goal.returns-in-Ok-clause-asks
returns-in-Ok-clause-asks g c = asks_of c.as_str.result.now _ _ _ (c.as_str.ensures.value ∙ c.in_ok-folder.ensures) c.in-Ok.ensures.asks

pub returns-clause-refused : goal.returns-clause-refused
returns-clause-refused g c = λ rule place e.
    read_refused (g.F.Files.tree c.args.files.now) c.args.root.now c.args.world.now c.args.name.now c.as_str.result.now c.in-Err.e c.not_read.result
    rule place (not_live_by c.args.world.now c.args.name.now c.is_live.result c.is_live.ensures c.if-is_live.false)
    (c.as_str.ensures.value ∙ c.in_ok-folder.ensures) (λ is. absent_told _ _ _ _ (c.in-Err.ensures.no_folder (ap Err is)))
    (λ is. c.in-Err.ensures.too_large (ap Err is))
    c.not_read.ensures (refused_by _ _ e)

pub returns-clause-folder_fault : goal.returns-clause-folder_fault
returns-clause-folder_fault g c = λ t rule place told e.
    folder_fault (g.F.Files.tree c.args.files.now) t c.args.root.now c.args.world.now c.args.name.now rule place told
    (returns-clause-refused g c rule place e)

pub returns-clause-asks : goal.returns-clause-asks
returns-clause-asks g c = asks_of c.as_str.result.now _ _ _ (c.as_str.ensures.value ∙ c.in_ok-folder.ensures) c.in-Err.ensures.asks

pub returns-in-Ok-clause-ok : goal.returns-in-Ok-clause-ok
returns-in-Ok-clause-ok g c =
    folder_loads (g.F.Files.tree c.args.files.now) c.as_str.result.now (c.args.root.now /- c.args.name.now) c.as_bytes.result.now c.args.name.now
    c.in-Ok.found c.args.world.now c.load_files.new.world c.load_files.result (c.as_str.ensures.value ∙ c.in_ok-folder.ensures) c.as_bytes.ensures.value
    c.in-Ok.ensures.files c.in-Ok.ensures.told c.load_files.ensures.ok

pub returns-then-is_live-clause-only_refused : goal.returns-then-is_live-clause-only_refused
returns-then-is_live-clause-only_refused g c = λ t rule place told fault.
    fault_answered (g.F.Files.tree c.args.files.now) t told c.args.root.now c.args.world.now c.args.name.now c.args.world.now (Err (Refused L1 Whole))
    rule place tt (λ r p. returns-then-is_live-clause-folder_fault g c t r p told) fault

pub returns-clause-only_refused : goal.returns-clause-only_refused
returns-clause-only_refused g c = λ t rule place told fault.
    fault_answered (g.F.Files.tree c.args.files.now) t told c.args.root.now c.args.world.now c.args.name.now c.args.world.now (Err c.not_read.result)
    rule place tt (λ r p. returns-clause-folder_fault g c t r p told) fault

pub returns-in-Ok-clause-only_refused : goal.returns-in-Ok-clause-only_refused
returns-in-Ok-clause-only_refused g c = λ t rule place told fault.
    fault_answered (g.F.Files.tree c.args.files.now) t told c.args.root.now c.args.world.now c.args.name.now c.load_files.new.world c.load_files.result
    rule place (returns-in-Ok-clause-ok g c) (λ r p. returns-in-Ok-clause-folder_fault g c t r p told) fault

pub returns-in-Ok-clause-no_folder : goal.returns-in-Ok-clause-no_folder
returns-in-Ok-clause-no_folder g c = λ e.
    absurd (no_whole_refusal c.in-Ok.found c.args.world.now c.as_bytes.result.now c.load_files.result L2 c.load_files.ensures.refused e)

pub returns-in-Ok-clause-missed : goal.returns-in-Ok-clause-missed
returns-in-Ok-clause-missed g c = λ e.
    absurd (no_whole_refusal c.in-Ok.found c.args.world.now c.as_bytes.result.now c.load_files.result L2 c.load_files.ensures.refused e)

pub returns-in-Ok-clause-large : goal.returns-in-Ok-clause-large
returns-in-Ok-clause-large g c = λ e.
    absurd (no_whole_refusal c.in-Ok.found c.args.world.now c.as_bytes.result.now c.load_files.result L5 c.load_files.ensures.refused e)

pub returns-in-Ok-clause-live : goal.returns-in-Ok-clause-live
returns-in-Ok-clause-live g c = λ live.
    absurd (not_live_by c.args.world.now c.args.name.now c.is_live.result c.is_live.ensures c.if-is_live.false live)

pub returns-in-Ok-clause-live_asks : goal.returns-in-Ok-clause-live_asks
returns-in-Ok-clause-live_asks g c = λ live.
    absurd (not_live_by c.args.world.now c.args.name.now c.is_live.result c.is_live.ensures c.if-is_live.false live)

pub returns-clause-no_folder : goal.returns-clause-no_folder
returns-clause-no_folder g c = λ e.
    subst (λ (x : List ℕ). FolderIsAbsent (g.F.Files.tree c.args.files.now) x (g.F.Files.faults c.args.files.now) (g.F.Files.faults c.read_folder.new.files))
    (c.as_str.ensures.value ∙ c.in_ok-folder.ensures)
    (c.in-Err.ensures.no_folder (ap Err (missed_by c.in-Err.e c.not_read.result c.not_read.ensures (refused_by _ _ e))))

pub returns-clause-missed : goal.returns-clause-missed
returns-clause-missed g c = λ e.
    subst (λ (x : List ℕ). AskedFor (g.F.Files.asked c.args.files.now) (g.F.Files.asked c.read_folder.new.files) (ListOf x MOST_ENTRIES))
    (c.as_str.ensures.value ∙ c.in_ok-folder.ensures)
    (c.in-Err.ensures.missed (ap Err (missed_by c.in-Err.e c.not_read.result c.not_read.ensures (refused_by _ _ e))))

pub returns-clause-large : goal.returns-clause-large
returns-clause-large g c = λ e.
    c.in-Err.ensures.large (ap Err (large_by c.in-Err.e c.not_read.result c.not_read.ensures (refused_by _ _ e)))

pub returns-clause-live : goal.returns-clause-live
returns-clause-live g c = λ live.
    absurd (not_live_by c.args.world.now c.args.name.now c.is_live.result c.is_live.ensures c.if-is_live.false live)

pub returns-clause-live_asks : goal.returns-clause-live_asks
returns-clause-live_asks g c = λ live.
    absurd (not_live_by c.args.world.now c.args.name.now c.is_live.result c.is_live.ensures c.if-is_live.false live)

pub returns-then-is_live-clause-once : goal.returns-then-is_live-clause-once
returns-then-is_live-clause-once g c = asks_nothing _ _ _ refl

pub returns-in_err-folder-clause-once : goal.returns-in_err-folder-clause-once
returns-in_err-folder-clause-once g c = asks_nothing _ _ _ refl
