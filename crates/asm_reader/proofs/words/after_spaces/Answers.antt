-- The spaces in front are cut off where they end.
use Rattle.std.proofs.Common.{take}
use Rattle.std.specs.List.{prefix_len}
use Rattle.std.proofs.lemmas.List.{take_rest}
use Rattle.std.proofs.lemmas.List.Sums.{prefix_len-le-length}
use Rattle.asm_reader.specs.LineFronts.{is_space}
use Rattle.asm_reader.proofs.OneSplitIntoWords.{span}
use Rattle.asm_reader.proofs.words.after_spaces.Goals as goal

pub slice_bounds-result-count : goal.slice_bounds-result-count
slice_bounds-result-count c = rw c.spaces_in_front.ensures (prefix_len-le-length is_space c.args.line.now)

pub slice_bounds-result-start : goal.slice_bounds-result-start
slice_bounds-result-start c = rw c.spaces_in_front.ensures (prefix_len-le-length is_space c.args.line.now)

pub returns : goal.returns
returns c =
    let line = c.args.line.now in
    (take (prefix_len is_space line) line, rw (take_rest line c.spaces_in_front.result, c.spaces_in_front.ensures) (span is_space line))
