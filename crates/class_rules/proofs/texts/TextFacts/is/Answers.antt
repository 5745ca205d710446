-- A text is one word at most.
use Rattle.std.proofs.Common.{◌≡◌, ◌↔◌, rules, Some}
use Rattle.std.specs.Prelude.{IsTrue}
use Rattle.class_rules.proofs.KnownTexts.{known_word}
use Rattle.class_rules.proofs.texts.TextFacts.is.Goals as goal

pub returns : goal.returns
returns c =
    λ pool units known.
    let same : IsTrue c.eq.result ↔ (c.args.self.now.word ≡ Some c.args.word) = search rules in
    let here = known_word units c.args.self.now.word c.args.word known.word in
    (λ e. here.0 (same.0 e), λ h. same.1 (here.1 h))
