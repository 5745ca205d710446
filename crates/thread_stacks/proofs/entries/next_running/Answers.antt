-- The first live entry from there on is the one.
use Rattle.std.proofs.Common.{◌-◌, ◌∙◌, List, Option, ℕ, ap, arith, drop, find, length, length-drop, option_map, subst, sym}
use Rattle.std.proofs.lemmas.List.{take_all}
use Rattle.thread_stacks.specs.StackAnswers.{IsLeastAbove}
use Rattle.thread_stacks.specs.declared.entries.ThreadEntry.{ThreadEntry}
use Rattle.thread_stacks.specs.Stacks.{IsRunning, is_running, thread_key}
use Rattle.thread_stacks.proofs.NextEntry.{next_is}
use Rattle.thread_stacks.proofs.entries.next_running.Goals as goal

pub returns : goal.returns
returns c =
    let es = c.args.entries.now in
    let start = c.first_above-start.result in
    let P : Option ℕ → Type 0 = λ o. IsLeastAbove (IsRunning es) c.args.above o in
    let whole = take_all (length es - start) (drop start es) (omega (arith, length-drop start es)) in
    let told = ap (λ (xs : List ThreadEntry). option_map thread_key (find is_running xs)) (sym whole) ∙ sym c.first_running.ensures in
    subst P told (next_is is_running es c.args.above start c.requires c.first_above-start.ensures)
