-- The text at an index is the one that is known.
use Rattle.std.proofs.Common.{◌≡◌}
use Rattle.class_rules.specs.Texts.{word_text}
use Rattle.class_rules.proofs.KnownTexts.{text_decides, word_decides}
use Rattle.class_rules.proofs.known_pool.KnownPool.is_word.Goals as goal

pub returns-in-Some : goal.returns-in-Some
returns-in-Some c =
    word_decides (word_text c.args.word) c.args.self.now.entries.now c.args.i c.is.result
    (text_decides (λ units. units ≡ word_text c.args.word) c.args.self.now.entries.now c.args.i c.in-Some.text c.is.result c.in-Some.ensures c.is.ensures)

pub returns-in-None : goal.returns-in-None
returns-in-None c = (λ e. absurd cc, λ h. absurd (c.in-None.ensures _ h))
