-- A quoted text that goes on after its quote is no word.
use Rattle.asm_reader.proofs.WhatALineBeginsWith.{not_ended}
use Rattle.asm_reader.proofs.words.quoted_word.Goals as goal

pub returns-then-not-ends_word : goal.returns-then-not-ends_word
returns-then-not-ends_word c =
    let found = c.in_ok-content.ensures in
    not_ended c.args.inside.now c.in_ok-content.content.now c.in_ok-content.rest.now found.0 found.1 c.if-not-ends_word.ensures
