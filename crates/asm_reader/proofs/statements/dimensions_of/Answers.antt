-- The word writes one number alone.
use Rattle.std.proofs.lemmas.Bool.{false≢true}
use Rattle.asm_reader.proofs.OneCount.{no_dimensions}
use Rattle.asm_reader.proofs.statements.dimensions_of.Goals as goal

pub returns-then-not-is_dimensions : goal.returns-then-not-is_dimensions
returns-then-not-is_dimensions c =
    no_dimensions c.args.word.now c.in_ok-dims.dims c.in_ok-dims.ensures.0 c.in_ok-dims.ensures.1
    (λ low high. false≢true (c.if-not-is_dimensions.ensures.1 (low, high)))
