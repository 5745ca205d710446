-- A method has no code, or one that is judged.
use Rattle.std.proofs.Common.{◌<◌, ◌↔◌, List, sym, ◌∙◌, subst}
use Rattle.std.specs.Prelude.{IsTrue, Some}
use Rattle.jk_model.specs.declared.class_file.PoolEntry.{PoolEntry}
use Rattle.class_rules.specs.Attributes.{AreShort, CountFlags, needs_code}
use Rattle.class_rules.specs.Codes.{IsJudgment}
use Rattle.class_rules.specs.MethodCodes.{TakesMore}
use Rattle.class_rules.proofs.KnownTexts.{own_known}
use Rattle.class_rules.proofs.MethodHasOneCode.{IsOneCode, own_code, own_two, some_found, none_found, one_if_good, needs_none, has_none, method_judged, code_is_short, locals_are_few}
use Rattle.class_rules.proofs.method_codes.judge_method.Goals as goal

pub one_code-requires : goal.one_code-requires
one_code-requires c =
    let counted = subst (λ (p : List PoolEntry). CountFlags p c.args.method.now c.method_flags-flags.result) c.of-pool.ensures.entries
    c.method_flags-flags.ensures in
    let needs : IsTrue (needs_code c.method_flags-flags.result) = sym c.needs_code.ensures ∙ c.if-not-needs_code.false in
    record {
      known = own_known c.of-pool.result.entries.now c.args.c.now.pool c.of-pool.result.texts.now c.args.facts.now c.of-pool.ensures.entries
          c.of-pool.ensures.texts c.requires.facts;
      short = subst AreShort (sym c.as_slice.ensures) c.requires.short;
      one = λ two. one_if_good c.args.c.now c.args.method.now c.method_flags-flags.result counted needs c.requires.attributes
          (own_two c.of-pool.result.entries.now c.args.c.now.pool c.as_slice.result.now c.args.method.now.attributes c.of-pool.ensures.entries
          c.as_slice.ensures two);
    }

pub judge_code-requires : goal.judge_code-requires
judge_code-requires c =
    let one : IsOneCode c.of-pool.result.entries.now c.as_slice.result.now (Some c.in-Some.code) =
    some_found c.of-pool.result.entries.now c.as_slice.result.now c.in_ok-code.field-0 c.in-Some.code c.in-Some.is c.in_ok-code.ensures in
    record {
      known = own_known c.of-pool.result.entries.now c.args.c.now.pool c.of-pool.result.texts.now c.args.facts.now c.of-pool.ensures.entries
          c.of-pool.ensures.texts c.requires.facts;
      short = code_is_short c.of-pool.result.entries.now c.as_slice.result.now c.in-Some.code one.0;
    }

pub returns-then-not-needs_code : goal.returns-then-not-needs_code
returns-then-not-needs_code c =
    let counted = subst (λ (p : List PoolEntry). CountFlags p c.args.method.now c.method_flags-flags.result) c.of-pool.ensures.entries
    c.method_flags-flags.ensures in
    needs_none c.args.c.now c.args.method.now c.method_flags-flags.result counted (sym c.needs_code.ensures ∙ c.if-not-needs_code.true)

pub returns-in_default : goal.returns-in_default
returns-in_default c =
    let one = own_code c.of-pool.result.entries.now c.args.c.now.pool c.as_slice.result.now c.args.method.now.attributes c.in_ok-code.field-0
    c.of-pool.ensures.entries c.as_slice.ensures c.in_ok-code.ensures in
    has_none c.args.c.now c.args.method.now
    (none_found c.args.c.now.pool c.args.method.now.attributes c.in_ok-code.field-0 c.in_default.is one)

pub returns : goal.returns
returns c =
    let counted = subst (λ (p : List PoolEntry). CountFlags p c.args.method.now c.method_flags-flags.result) c.of-pool.ensures.entries
    c.method_flags-flags.ensures in
    let needs : IsTrue (needs_code c.method_flags-flags.result) = sym c.needs_code.ensures ∙ c.if-not-needs_code.false in
    let own = own_code c.of-pool.result.entries.now c.args.c.now.pool c.as_slice.result.now c.args.method.now.attributes c.in_ok-code.field-0
    c.of-pool.ensures.entries c.as_slice.ensures c.in_ok-code.ensures in
    let one : IsOneCode c.args.c.now.pool c.args.method.now.attributes (Some c.in-Some.code) =
    some_found c.args.c.now.pool c.args.method.now.attributes c.in_ok-code.field-0 c.in-Some.code c.in-Some.is own in
    let small = locals_are_few c.args.c.now.pool c.args.method.now.attributes c.in-Some.code one.0 in
    method_judged c.args.c.now c.args.method.now c.method_flags-flags.result c.in-Some.code c.arguments_of-arguments.result c.in_ok-judgment.judgment counted
    needs one.0 one.1
    (subst (λ (p : List PoolEntry). (c.in-Some.code.max_locals < c.arguments_of-arguments.result)
    ↔ TakesMore p c.method_flags-flags.result c.args.method.now c.in-Some.code.max_locals) c.of-pool.ensures.entries
    (c.arguments_of-arguments.ensures c.in-Some.code.max_locals small))
    (subst (λ (p : List PoolEntry). IsJudgment p c.arguments_of-arguments.result c.in-Some.code c.in_ok-judgment.judgment) c.of-pool.ensures.entries
    c.in_ok-judgment.ensures)
