-- Where no word begins at the first byte, none stands in front of the line.
use Rattle.std.proofs.Common.{rules}
use Rattle.asm_reader.proofs.WhatALineBeginsWith.{no_word_at_quote, no_word_else, no_word_in_front}
use Rattle.asm_reader.proofs.words.front_of.Goals as goal

pub returns-in-None : goal.returns-in-None
returns-in-None c =
    let found = c.after_spaces-text.ensures in
    let text = c.after_spaces-text.result.now in
    no_word_in_front c.args.line.now found.0 text found.1 c.in-34.len_at_least
    (no_word_at_quote text c.in-34.len_at_least (search rules) c.in-None.ensures)

pub returns-in-None-plain_word : goal.returns-in-None-plain_word
returns-in-None-plain_word c =
    let found = c.after_spaces-text.ensures in
    let text = c.after_spaces-text.result.now in
    no_word_in_front c.args.line.now found.0 text found.1 c.in_default.len_at_least (no_word_else text (search rules) c.in-None-plain_word.ensures)
