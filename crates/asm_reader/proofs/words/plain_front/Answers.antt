-- The bytes in front are cut where they end.
use Rattle.std.proofs.lemmas.List.Sums.{prefix_len-le-length}
use Rattle.asm_reader.specs.Words.{is_plain_byte}
use Rattle.asm_reader.proofs.OneSplitIntoWords.{span}
use Rattle.asm_reader.proofs.words.plain_front.Goals as goal

pub split_at-requires : goal.split_at-requires
split_at-requires c = rw c.plain_in_front.ensures (prefix_len-le-length is_plain_byte c.args.text.now)

pub returns : goal.returns
returns c = rw (c.split_at.ensures.front, c.split_at.ensures.back, c.plain_in_front.ensures) (span is_plain_byte c.args.text.now)
