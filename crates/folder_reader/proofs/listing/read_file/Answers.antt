-- Nothing is asked for but the file, and that once.
use Rattle.std.proofs.Common.{refl, ◌∙◌}
use Rattle.jk_model_folders.specs.FolderTrees.{MAX_FILE}
use Rattle.folder_reader.proofs.AsksApart.{asks_file, asks_same}
use Rattle.folder_reader.proofs.listing.read_file.Goals as goal

pub returns-in_err-whole-clause-once : goal.returns-in_err-whole-clause-once
returns-in_err-whole-clause-once g c = asks_same _ _ _ _ refl

pub returns-in-Ok-clause-once : goal.returns-in-Ok-clause-once
returns-in-Ok-clause-once g c = asks_file _ _ _ _ MAX_FILE c.read.ensures.asked (c.as_str.ensures.value ∙ c.in_ok-whole.ensures)

pub returns-in-Err-TooLong-clause-once : goal.returns-in-Err-TooLong-clause-once
returns-in-Err-TooLong-clause-once g c = asks_file _ _ _ _ MAX_FILE c.read.ensures.asked (c.as_str.ensures.value ∙ c.in_ok-whole.ensures)

pub returns-in-Err-Absent-clause-once : goal.returns-in-Err-Absent-clause-once
returns-in-Err-Absent-clause-once g c = asks_file _ _ _ _ MAX_FILE c.read.ensures.asked (c.as_str.ensures.value ∙ c.in_ok-whole.ensures)

pub returns-clause-once : goal.returns-clause-once
returns-clause-once g c = asks_file _ _ _ _ MAX_FILE c.read.ensures.asked (c.as_str.ensures.value ∙ c.in_ok-whole.ensures)
