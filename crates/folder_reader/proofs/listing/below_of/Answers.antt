-- A folder with too many entries makes the one that is read too large.
use Rattle.std.proofs.Common.{Err, length, refl, sym, ap, ◌∙◌, arith}
use Rattle.folder_reader.specs.Paths.{whole_path}
use Rattle.folder_reader.proofs.CallsInTurn.{err_inner}
use Rattle.folder_reader.proofs.CountsTaken.{few_children, took_fewer}
use Rattle.folder_reader.proofs.ToldOrNot.{is_wide}
use Rattle.folder_reader.proofs.AsksApart.{asks_folder, asks_same}
use Rattle.jk_model_folders.specs.FolderTrees.{MOST_ENTRIES}
use Rattle.folder_reader.proofs.listing.below_of.Goals as goal

pub returns-clause-too_large : goal.returns-clause-too_large
returns-clause-too_large g c = λ is.
    let path = c.as_str.ensures.value ∙ c.in_ok-folder.ensures ∙ ap (whole_path c.args.root.now) (c.text_of.ensures ∙ c.as_slice.ensures) in
    let same = err_inner _ _ (Err _) refl is in
    let large = c.in-Err.is ∙ ap Err (sym c.in-Err.e-is ∙ same) in
    is_wide _ c.args.root.now c.args.above.now _ _ c.requires.place c.requires.folder
    (rw path at (c.entries_of.ensures.too_large large)) (rw path at (c.entries_of.ensures.long_named large))

pub returns-in-Ok-clause-counted : goal.returns-in-Ok-clause-counted
returns-in-Ok-clause-counted g c =
    let below = c.in_ok-named_in-in-Ok.field-0 in
    let listed = ap length c.as_slice-in-Ok.ensures in
    let as_many = ap length c.in_ok-named_in-in-Ok.ensures in
    let few = few_children c.args.above.now c.as_slice-in-Ok.result.now in
    took_fewer _ _ _ _ _ (omega (arith, as_many, few, listed, below.ok.0)) c.in-Ok.ensures.counted

pub returns-in_err-folder-clause-once : goal.returns-in_err-folder-clause-once
returns-in_err-folder-clause-once g c = asks_same _ _ _ _ refl

pub returns-in_err-named_in-in-Ok-clause-once : goal.returns-in_err-named_in-in-Ok-clause-once
returns-in_err-named_in-in-Ok-clause-once g c =
    asks_folder _ _ _ _ MOST_ENTRIES c.entries_of.ensures.asked
    (c.as_str.ensures.value ∙ c.in_ok-folder.ensures ∙ ap (whole_path c.args.root.now) (c.text_of.ensures ∙ c.as_slice.ensures))

pub returns-in-Ok-clause-once : goal.returns-in-Ok-clause-once
returns-in-Ok-clause-once g c =
    asks_folder _ _ _ _ MOST_ENTRIES c.entries_of.ensures.asked
    (c.as_str.ensures.value ∙ c.in_ok-folder.ensures ∙ ap (whole_path c.args.root.now) (c.text_of.ensures ∙ c.as_slice.ensures))

pub returns-in-Err-NoFolder-clause-once : goal.returns-in-Err-NoFolder-clause-once
returns-in-Err-NoFolder-clause-once g c =
    asks_folder _ _ _ _ MOST_ENTRIES c.entries_of.ensures.asked
    (c.as_str.ensures.value ∙ c.in_ok-folder.ensures ∙ ap (whole_path c.args.root.now) (c.text_of.ensures ∙ c.as_slice.ensures))

pub returns-clause-once : goal.returns-clause-once
returns-clause-once g c =
    asks_folder _ _ _ _ MOST_ENTRIES c.entries_of.ensures.asked
    (c.as_str.ensures.value ∙ c.in_ok-folder.ensures ∙ ap (whole_path c.args.root.now) (c.text_of.ensures ∙ c.as_slice.ensures))
