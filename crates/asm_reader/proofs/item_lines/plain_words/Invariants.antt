-- The words so far are those in the list.
use Rattle.std.proofs.Common.{◌≡◌, map, take}
use Rattle.asm_reader.specs.declared.words.Word.TheVariants.{Plain}
use Rattle.asm_reader.proofs.item_lines.plain_words.Given as goal

abbrev pub invariant-loop-word : goal.invariant-loop-word
invariant-loop-word l = take l.word-index l.words ≡ map Plain l.plain
