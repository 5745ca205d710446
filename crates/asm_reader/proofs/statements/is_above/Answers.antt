-- The last case has the highest key.
use Rattle.std.proofs.Common.{rules}
use mir.Syntax.{w32}
use mir.Val.{SFits}
use Rattle.std.proofs.lemmas.Int.{to_z-of_z}
use Rattle.asm_reader.proofs.CasesRiseInTurn.{above_by_test}
use Rattle.asm_reader.proofs.statements.is_above.Goals as goal

pub returns-in-len1-up : goal.returns-in-len1-up
returns-in-len1-up c =
    let last : SFits w32 c.last-item.result.key = search rules in
    let key : SFits w32 c.args.key = search rules in
    rw (to_z-of_z w32 c.last-item.result.key last, to_z-of_z w32 c.args.key key)
    (above_by_test c.args.cases.now c.last-item.result c.args.key c.in-len1-up.len_at_least c.last-item.is)
