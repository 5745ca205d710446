-- The least method whose code breaks the rule is the least spot.
use Rattle.std.proofs.Common.{false, None}
use Rattle.class_rules.specs.CodeRules.{IsCodeRuleBroken, HasWrongMethodCode}
use Rattle.class_rules.specs.declared.members.FirstPlaces.{FirstPlaces}
use Rattle.class_rules.proofs.LeastSpots.{least_spot}
use Rattle.class_rules.proofs.CodesReadEach.{codes_read_each, least_code, false_is_never}
use Rattle.class_rules.proofs.code_rules.bad_code.Goals as goal

pub returns : goal.returns
returns c =
    let places : FirstPlaces = record { class = false; field = None; method = c.first_code.result; entry = None } in
    least_spot c.args.c.now ⊥ (λ field. ⊥) (HasWrongMethodCode c.args.rule c.args.c.now) (λ entry. ⊥) (IsCodeRuleBroken c.args.rule c.args.c.now) places _ _
    (codes_read_each c.args.rule c.args.c.now)
    (record {
      class = false_is_never;
      field = λ h. h.3;
      method = least_code c.args.rule c.args.c.now c.args.judged.now c.requires.judged c.first_code.result c.first_code.ensures.least;
      entry = λ h. h.3;
    })
    c.len.ensures c.number.ensures
