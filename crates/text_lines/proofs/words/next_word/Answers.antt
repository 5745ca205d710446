-- The first word stands from the first byte that is no blank to the next blank.
use Rattle.std.proofs.Common.{◌≡◌, ◌-◌, length, take, drop, sym, take_all, arith, length-drop}
use Rattle.model_lemmas.proofs.WordsInTurn.{word_stands}
use Rattle.text_lines.proofs.words.next_word.Goals as goal

pub returns : goal.returns
returns c =
    let begin = c.in_ok-text.field-0 in
    let line = c.args.line.now in
    let rest : take (length line - begin) (drop begin line) ≡ drop begin line =
    take_all (length line - begin) (drop begin line) (omega (arith, length-drop begin line)) in
    let w =
    word_stands line (take (length line - begin) (drop begin line)) begin c.word_end.result
    (sym c.in_ok-text.ensures) rest c.word_end.ensures in
    rw (c.split_at.ensures.front, c.split_at.ensures.back, c.unwrap_or-end.ensures) (w.parts, w.long)
