-- The search goes by the numbers of the threads, which rise. Where the last has the number, no other has.
use Rattle.std.proofs.Common.{◌∙◌, ◌-◌, ap, arith, length, rules, sym}
use Rattle.std.specs.Ordering.{nat_cmp}
use Rattle.std.proofs.lemmas.Fn.{always_returns_same}
use Rattle.std.proofs.lemmas.Option.{get_or_from_slice_get}
use Rattle.list_lemmas.proofs.ItemsByPlace.{item_there}
use Rattle.thread_stacks.specs.declared.entries.ThreadEntry.{ThreadEntry}
use Rattle.thread_stacks.specs.Stacks.{thread_key}
use Rattle.thread_stacks.proofs.ItemsByKey.{only_at, says_place}
use Rattle.thread_stacks.proofs.entries.place_of_thread.Goals as goal

pub returns-then-entries-last : goal.returns-then-entries-last
returns-then-entries-last c =
    let es = c.args.entries.now in
    let (x, at) = item_there es (length es - 1) (omega (arith, c.if-count-gt0.true)) in
    let here = get_or_from_slice_get es (length es - 1) x _ at in
    only_at thread_key es (length es - 1) c.args.t.0 x c.requires at (ap thread_key (sym here) ∙ c.if-entries-last.true)

pub returns : goal.returns
returns c =
    let found = c.binary_search_by.ensures.position (λ (e : ThreadEntry). nat_cmp e.number c.args.t.0) (always_returns_same _ _ _ (λ a r f h. search rules)) in
    rw c.ok.ensures.value (says_place thread_key c.args.entries.now c.args.t.0 c.binary_search_by.result c.requires c.binary_search_by.ensures.bound found)
