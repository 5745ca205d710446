-- What is found of the assembled file is found of the text.
use Rattle.std.proofs.Common.{ℕ, ◌^◌, ◌<◌, List, length, subst}
use Rattle.class_check.specs.FirstRule.{IsGoodFile, BreaksFirst}
use Rattle.class_check.proofs.finding.finding_of_text.Goals as goal

pub returns-in-Ok-clause-good : goal.returns-in-Ok-clause-good
returns-in-Ok-clause-good c e =
    let good : IsGoodFile c.in-Ok.bytes c.args.path.now =
    subst (λ (b : List ℕ). IsGoodFile b c.args.path.now) c.as_slice.ensures (c.finding_of_file.ensures.good e) in
    (c.in-Ok.bytes, c.in-Ok.ensures.assembled, good)

pub returns-in-Ok-clause-broken : goal.returns-in-Ok-clause-broken
returns-in-Ok-clause-broken c rule n e =
    let broken : BreaksFirst c.in-Ok.bytes c.args.path.now rule n =
    subst (λ (b : List ℕ). BreaksFirst b c.args.path.now rule n) c.as_slice.ensures (c.finding_of_file.ensures.broken rule n e) in
    (c.in-Ok.bytes, c.in-Ok.ensures.assembled, broken)

pub returns-in-Ok-clause-too_long : goal.returns-in-Ok-clause-too_long
returns-in-Ok-clause-too_long c e =
    let long : 2 ^ 20 < length c.in-Ok.bytes =
    subst (λ (b : List ℕ). 2 ^ 20 < length b) c.as_slice.ensures (c.finding_of_file.ensures.too_long e) in
    (c.in-Ok.bytes, c.in-Ok.ensures.assembled, long)
