-- The bytes are those of `method`.
use Rattle.std.proofs.Common.{◌≡◌, length, codes, arith, rules}
use Rattle.std.proofs.lemmas.Slice.Eq.{text_from_reads}
use Rattle.asm_reader.proofs.item_lines.keyword_named.Goals as goal

pub returns-in-method : goal.returns-in-method
returns-in-method c =
    let word = c.args.word.now in
    let long : length word ≡ length (codes "method") = omega arith in
    let same : word ≡ codes "method" = text_from_reads word (codes "method") long (search rules) in
    rw same
