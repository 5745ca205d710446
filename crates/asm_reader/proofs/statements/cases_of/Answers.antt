-- Each word is one more case, or shows that the words are no cases.
use Rattle.std.proofs.Common.{◌≡◌, refl, rules}
use mir.Syntax.{w32}
use mir.Val.{SFits}
use Rattle.std.proofs.lemmas.Bool.{false≢true}
use Rattle.std.proofs.lemmas.Int.{to_z-of_z}
use Rattle.asm_reader.proofs.CasesRiseInTurn.{one_more, stops_at, falls_at}
use Rattle.asm_reader.proofs.statements.cases_of.Goals as goal

pub returns-in_default : goal.returns-in_default
returns-in_default c =
    stops_at c.args.words.now c.loop-word.word-index c.loop-word.cases c.word-item.result c.loop-word-test.true c.word-item.is
    c.loop-word.invariant (rw c.in_default.is at c.in_ok-case.ensures)

pub returns-then-not-is_above : goal.returns-then-not-is_above
returns-then-not-is_above c =
    let fits : SFits w32 c.in-Some.case.key = search rules in
    let cases : c.as_slice.result.now ≡ c.loop-word.cases = search rules in
    falls_at c.args.words.now c.loop-word.word-index c.loop-word.cases c.word-item.result c.in-Some.case c.loop-word-test.true c.word-item.is
    c.loop-word.invariant (rw c.in-Some.is at c.in_ok-case.ensures)
    (λ above. false≢true ((rw (cases, to_z-of_z w32 c.in-Some.case.key fits) at c.if-not-is_above.ensures.1) above))

pub loop-word-preserved : goal.loop-word-preserved
loop-word-preserved c =
    let fits : SFits w32 c.in-Some.case.key = search rules in
    let cases : c.as_slice.result.now ≡ c.loop-word.cases = search rules in
    one_more c.args.words.now c.loop-word.word-index c.loop-word.cases c.word-item.result c.in-Some.case c.push.new.self
    c.loop-word-test.true c.word-item.is c.loop-word.invariant (rw c.in-Some.is at c.in_ok-case.ensures)
    ((rw (cases, to_z-of_z w32 c.in-Some.case.key fits) at c.if-not-is_above.ensures.0) refl) c.in_ok-push.ensures.ok
