-- The class's record has its own name.
use Rattle.list_lemmas.proofs.ItemsByPlace.{item_lent, none_lent}
use Rattle.resolver_rules.proofs.NamesJudged.{not_taken, taken_by_record}
use Rattle.jk_model_folders.specs.FolderRules.{class_paths}
use Rattle.resolver_rules.proofs.judged.is_taken_class.Goals as goal

pub returns-in-Some : goal.returns-in-Some
returns-in-Some c =
    taken_by_record (class_paths c.args.folder.now) c.args.classes.now c.args.class c.in-Some.record.now c.is_taken.result
    (item_lent c.args.classes.now c.args.class.0 c.in-Some.record c.in-Some.ensures) (rw c.as_slice.ensures at c.is_taken.ensures)

pub returns-in-None : goal.returns-in-None
returns-in-None c =
    not_taken (class_paths c.args.folder.now) c.args.classes.now c.args.class (none_lent c.args.classes.now c.args.class.0 c.in-None.ensures)
