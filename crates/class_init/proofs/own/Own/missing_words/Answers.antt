-- The texts are those of the literals.
use Rattle.class_init.proofs.own.Own.missing_words.Goals as goal

pub missing_words-requires : goal.missing_words-requires
missing_words-requires c = rw (← c.self.view_is) at c.requires
