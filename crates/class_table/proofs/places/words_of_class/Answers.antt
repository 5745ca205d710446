-- The words of those above and of the class's own fields.
use Rattle.std.proofs.Common.{◌∙◌}
use Rattle.class_table.proofs.EntriesAreRight.{few_own-at, words-at}
use Rattle.class_table.proofs.places.words_of_class.Goals as goal

pub words-requires : goal.words-requires
words-requires c = few_own-at c.args.entries.now c.args.c c.entry_of.result.now c.entry_of.ensures c.requires.table

pub returns : goal.returns
returns c = c.words.ensures ∙ words-at c.args.entries.now c.args.c c.entry_of.result.now c.entry_of.ensures c.requires.table
