-- The word writes one number alone.
use Rattle.std.proofs.lemmas.Bool.{false≢true}
use Rattle.asm_reader.proofs.OneCount.{no_kind}
use Rattle.asm_reader.proofs.statements.kind_of.Goals as goal

pub returns-then-not-is_kind : goal.returns-then-not-is_kind
returns-then-not-is_kind c =
    no_kind c.args.word.now c.in_ok-kind.kind c.in_ok-kind.ensures.0 c.in_ok-kind.ensures.1 (λ is. false≢true (c.if-not-is_kind.ensures.1 is))
