-- What is kept are the live ones. Where there is one mark, and it stands last, these are all before it.
use Rattle.std.proofs.Common.{◌<◌, arith, length, rules}
use Rattle.std.proofs.lemmas.Fn.{filter_same}
use Rattle.list_lemmas.proofs.ItemsByPlace.{item_read}
use Rattle.list_lemmas.proofs.ItemsThatPass.{filter_short}
use Rattle.thread_stacks.specs.StackChanges.{dropped}
use Rattle.thread_stacks.specs.Stacks.{is_running}
use Rattle.thread_stacks.proofs.MarkAtTheEnd.{all_but_last}
use Rattle.thread_stacks.proofs.entries.close_up_entries.Goals as goal

pub overflow_add-live : goal.overflow_add-live
overflow_add-live c =
    let v = c.args.entries.now in
    omega (arith, filter_short is_running v.items, c.requires, v.ok.0, v.ok.1, v.small)

pub returns-then-is_none-clause-closed : goal.returns-then-is_none-clause-closed
returns-then-is_none-clause-closed c =
    let v = c.args.entries.now in
    let within : c.args.live < length v.items = omega (arith, c.if-len-live.true, v.ok.0) in
    let at = item_read v.items c.args.live c.index.result.now within c.index.ensures in
    dropped (all_but_last is_running v.items c.pop-mark.new.self.items c.pop-mark.result _ _ c.args.live c.index.result.now c.pop-mark.ensures.items
    c.pop-mark.ensures.cases (omega (arith, c.pop-mark.new.self.ok.0)) (omega (arith, c.len.ensures, c.if-len-live.true)) at
    c.if-is_none.ensures c.requires)

pub overflow_mul-live : goal.overflow_mul-live
overflow_mul-live c =
    let v = c.args.entries.now in
    omega (arith, filter_short is_running v.items, c.requires, v.ok.0, v.ok.1, v.small)

pub returns-then-len-live-2-clause-closed : goal.returns-then-len-live-2-clause-closed
returns-then-len-live-2-clause-closed c =
    dropped (filter_same _ is_running _ (λ x b g h. search rules) c.args.entries.now.items c.retain.new.self.items c.retain.ensures.filtered)
