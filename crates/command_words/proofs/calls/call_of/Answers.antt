-- What is called for is what the values of the words are for.
use Rattle.std.proofs.Common.{map}
use Rattle.std.specs.Prelude.{string_bytes}
use Rattle.command_words.proofs.CalledFor.{for_call, for_demo, for_nothing, for_script}
use Rattle.command_words.proofs.PlainWords.{no_demo, one_script, plain_call}
use Rattle.command_words.proofs.calls.call_of.Goals as goal

-- ---- Two words without a dash are a script's call.

pub returns-in-Some-clause-call : goal.returns-in-Some-clause-call
returns-in-Some-clause-call c = plain_call (map string_bytes c.args.words.now) c.in-Some.root.now c.in-Some.script.now c.in-Some.ensures

pub returns-in-Some-clause-script : goal.returns-in-Some-clause-script
returns-in-Some-clause-script c = λ root script called.
    let words = map string_bytes c.args.words.now in
    one_script words c.in-Some.root.now c.in-Some.script.now root script
    (plain_call words c.in-Some.root.now c.in-Some.script.now c.in-Some.ensures) called

pub returns-in-Some-clause-demo : goal.returns-in-Some-clause-demo
returns-in-Some-clause-demo c = λ seed called.
    let words = map string_bytes c.args.words.now in
    absurd (no_demo words c.in-Some.root.now c.in-Some.script.now seed
    (plain_call words c.in-Some.root.now c.in-Some.script.now c.in-Some.ensures) called)

pub returns-in-Some-clause-plain : goal.returns-in-Some-clause-plain
returns-in-Some-clause-plain c = λ root script plain.
    let words = map string_bytes c.args.words.now in
    one_script words c.in-Some.root.now c.in-Some.script.now root script
    (plain_call words c.in-Some.root.now c.in-Some.script.now c.in-Some.ensures) (plain_call words root script plain)

-- ---- Other words are read by `clap`.

pub returns-clause-call : goal.returns-clause-call
returns-clause-call c =
    let v = c.in_ok-values.ensures in
    rw c.ok_or.ensures.value (for_call (map string_bytes c.args.words.now) _ _ _ c.call_with.result
    (record { taken = v.0; demo_is = v.1; root_is = v.2; script_is = v.3 }) c.call_with.ensures)

pub returns-clause-script : goal.returns-clause-script
returns-clause-script c =
    let v = c.in_ok-values.ensures in
    rw c.ok_or.ensures.value (for_script (map string_bytes c.args.words.now) _ _ _ c.call_with.result
    (record { taken = v.0; demo_is = v.1; root_is = v.2; script_is = v.3 }) c.call_with.ensures)

pub returns-clause-demo : goal.returns-clause-demo
returns-clause-demo c =
    let v = c.in_ok-values.ensures in
    rw c.ok_or.ensures.value (for_demo (map string_bytes c.args.words.now) _ _ _ c.call_with.result
    (record { taken = v.0; demo_is = v.1; root_is = v.2; script_is = v.3 }) c.call_with.ensures)

pub returns-clause-usage : goal.returns-clause-usage
returns-clause-usage c =
    let v = c.in_ok-values.ensures in
    rw c.ok_or.ensures.value (for_nothing (map string_bytes c.args.words.now) _ _ _ c.call_with.result
    (record { taken = v.0; demo_is = v.1; root_is = v.2; script_is = v.3 }) c.call_with.ensures)
