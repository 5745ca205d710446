-- The first byte that may not be between quotes is the quote that ends the text, or the text is not ended.
use Rattle.std.proofs.Common.{rules}
use Rattle.std.proofs.lemmas.List.Sums.{prefix_len-le-length}
use Rattle.asm_reader.specs.Words.{is_quoted_byte}
use Rattle.asm_reader.specs.LineFronts.{IsSpan}
use Rattle.asm_reader.proofs.OneSplitIntoWords.{span}
use Rattle.asm_reader.proofs.WhatALineBeginsWith.{quote_ends, no_quote_ends}
use Rattle.asm_reader.proofs.words.quoted_front.Goals as goal
use Rattle.asm_reader.proofs.words.quoted_front.Goals.{in_default-via-then-rest-lt1, in_default-via-else-rest-lt1+in_default-1}

pub split_at-requires : goal.split_at-requires
split_at-requires c = rw c.quoted_in_front.ensures (prefix_len-le-length is_quoted_byte c.args.text.now)

pub returns-in-34 : goal.returns-in-34
returns-in-34 c =
    let cut : IsSpan is_quoted_byte c.args.text.now c.split_at.result.0.now c.split_at.result.1.now =
    rw (c.split_at.ensures.front, c.split_at.ensures.back, c.quoted_in_front.ensures) (span is_quoted_byte c.args.text.now) in
    quote_ends c.args.text.now c.split_at.result.0.now c.split_at.result.1.now cut c.in-34.len_at_least (search rules)

pub returns-in_default : goal.returns-in_default
returns-in_default c =
    let cut : IsSpan is_quoted_byte c.args.text.now c.split_at.result.0.now c.split_at.result.1.now =
    rw (c.split_at.ensures.front, c.split_at.ensures.back, c.quoted_in_front.ensures) (span is_quoted_byte c.args.text.now) in
    no_quote_ends c.args.text.now c.split_at.result.0.now c.split_at.result.1.now cut
    (elim c.in_default.branch [ in_default-via-then-rest-lt1 w ↦ search rules | in_default-via-else-rest-lt1+in_default-1 w ↦ λ _. search rules ])
