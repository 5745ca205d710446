-- No plain bytes, or plain bytes with something after them, are no word.
use Rattle.std.proofs.Common.{sym, inl, inr}
use Rattle.std.proofs.lemmas.List.{nil_from_length}
use Rattle.std.proofs.lemmas.Bool.{eqb-true}
use Rattle.asm_reader.proofs.WhatALineBeginsWith.{no_plain_word}
use Rattle.asm_reader.proofs.words.plain_word.Goals as goal
use Rattle.asm_reader.proofs.words.plain_word.Goals.{then-is_empty-via-then-is_empty, then-is_empty-via-else-is_empty+then-not-ends_word}

pub returns-then-is_empty : goal.returns-then-is_empty
returns-then-is_empty c =
    no_plain_word c.args.text.now c.plain_front.result.0.now c.plain_front.result.1.now c.plain_front.ensures
    (elim c.then-is_empty.branch [
      | then-is_empty-via-then-is_empty w ↦ inl (nil_from_length _ (eqb-true _ 0 (sym w.if-is_empty.ensures)))
      | then-is_empty-via-else-is_empty+then-not-ends_word w ↦ inr w.if-not-ends_word.ensures
    ])
