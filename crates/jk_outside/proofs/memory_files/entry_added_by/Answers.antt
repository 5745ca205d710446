use Rattle.std.proofs.Common.{◌≡◌, get_or}
use Rattle.jk_model.specs.declared.entries.Entry.{Entry}
use Rattle.jk_outside.proofs.AddedEntries.{not_below_adds_none, known_adds_none, new_is_added}
use Rattle.jk_outside.proofs.memory_files.entry_added_by.Goals as goal
use Rattle.jk_outside.proofs.memory_files.entry_added_by.Goals.{After-as_slice}

path_is : (c : After-as_slice) → c.as_slice.result.now ≡ (get_or c.args.files.now c.args.i c.index-files-i.result).path
path_is c = c.as_slice.ensures

pub returns-in_err-entry : goal.returns-in_err-entry
returns-in_err-entry c =
    rw c.from_residual.ensures
    (not_below_adds_none c.args.folder.now c.args.files.now c.args.i c.index-files-i.result c.as_slice.result.now c.requires
    (path_is (goal.at.returns-in_err-entry c).After-as_slice) c.in_err-entry.ensures)

pub returns-then-gives_name : goal.returns-then-gives_name
returns-then-gives_name c =
    let e : Entry = record { name = c.in_ok-entry.entry.0.now; folder = c.in_ok-entry.entry.1 } in
    known_adds_none c.args.folder.now c.args.files.now c.args.i c.index-files-i.result c.as_slice.result.now c.requires
    (path_is (goal.at.returns-then-gives_name c).After-as_slice) e c.in_ok-entry.ensures.0 c.in_ok-entry.ensures.1 c.if-gives_name.ensures

pub returns : goal.returns
returns c =
    let e : Entry = record { name = c.in_ok-entry.entry.0.now; folder = c.in_ok-entry.entry.1 } in
    new_is_added c.args.folder.now c.args.files.now c.args.i c.index-files-i.result c.as_slice.result.now c.requires
    (path_is (goal.at.returns c).After-as_slice) e c.in_ok-entry.ensures.0 c.in_ok-entry.ensures.1 c.if-gives_name.ensures
