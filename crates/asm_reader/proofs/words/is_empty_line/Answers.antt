-- What follows the spaces is a comment or not.
use Rattle.asm_reader.proofs.WhatALineBeginsWith.{empty_or_not}
use Rattle.asm_reader.proofs.words.is_empty_line.Goals as goal

pub returns-in-len1-up : goal.returns-in-len1-up
returns-in-len1-up c =
    let found = c.after_spaces.ensures in
    empty_or_not c.args.line.now found.0 c.after_spaces.result.now found.1 c.in-len1-up.len_at_least
