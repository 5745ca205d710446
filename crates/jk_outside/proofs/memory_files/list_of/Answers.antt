use Rattle.jk_outside.proofs.NamesAreUtf8.{names_are_utf8}
use Rattle.jk_outside.proofs.NamesAreNames.{names_are_names, names_are_plain}
use Rattle.jk_outside.proofs.EachHasItsName.{are_named}
use Rattle.jk_outside.proofs.NamesDiffer.{names_differ}
use Rattle.jk_outside.proofs.ListedAreThere.{files_are_there, folders_are_there}
use Rattle.jk_outside.proofs.memory_files.list_of.Goals as goal

pub returns-clause-names : goal.returns-clause-names
returns-clause-names c = rw c.in_ok-entries_in.ensures (names_are_utf8 c.args.folder.now c.args.files.now c.requires)

pub returns-clause-named : goal.returns-clause-named
returns-clause-named c =
    rw c.in_ok-entries_in.ensures (names_are_names c.args.folder.now c.args.files.now c.requires, names_differ c.args.folder.now c.args.files.now)

pub returns-clause-plain : goal.returns-clause-plain
returns-clause-plain c = rw c.in_ok-entries_in.ensures (names_are_plain c.args.folder.now c.args.files.now c.requires)

pub returns-clause-there : goal.returns-clause-there
returns-clause-there c = rw c.in_ok-entries_in.ensures (files_are_there c.args.folder.now c.args.files.now)

pub returns-clause-folders : goal.returns-clause-folders
returns-clause-folders c = rw c.in_ok-entries_in.ensures (folders_are_there c.args.folder.now c.args.files.now)

pub returns-then-count_of_entries-limit-clause-long_named : goal.returns-then-count_of_entries-limit-clause-long_named
returns-then-count_of_entries-limit-clause-long_named c = λ long entries is. are_named c.args.files.now c.args.folder.now entries c.requires is
