-- One more is counted.
use Rattle.std.proofs.Common.{List, add-one, arith, refl, subst, take_all}
use Rattle.list_lemmas.proofs.ItemsByPlace.{item_read}
use Rattle.thread_segments.specs.declared.domains.DomainEntry.{DomainEntry}
use Rattle.thread_stacks.specs.declared.parts.ThreadPart.{ThreadPart}
use Rattle.thread_segments.specs.RestoredParts.{AreCountedUp, more_threads, thread_home}
use Rattle.thread_segments.proofs.RestoredCounts.{no_more_threads, none_counted, one_counted, one_fits, one_thread_more}
use Rattle.thread_segments.proofs.restoring.count_threads.Goals as goal

pub loop-thread-init : goal.loop-thread-init
loop-thread-init c = none_counted thread_home more_threads no_more_threads c.args.domains.now.items

pub count_thread-requires-clause-there : goal.count_thread-requires-clause-there
count_thread-requires-clause-there c =
    let k = c.loop-thread.thread-index in
    let x = c.thread-item.result in
    let at = item_read c.args.threads.now k x c.loop-thread-test.true c.thread-item.is in
    let low = c.requires.there k x at in
    omega (arith, low, c.loop-thread.invariant.as_many)

pub count_thread-requires-clause-few : goal.count_thread-requires-clause-few
count_thread-requires-clause-few c =
    let k = c.loop-thread.thread-index in
    let x = c.thread-item.result in
    let at = item_read c.args.threads.now k x c.loop-thread-test.true c.thread-item.is in
    one_fits thread_home more_threads c.args.domains.now.items c.loop-thread.domains.items c.args.threads.now k x at _ refl c.loop-thread.invariant
    (λ (e : DomainEntry). e.threads) (λ n e. refl) c.requires.few

pub loop-thread-preserved : goal.loop-thread-preserved
loop-thread-preserved c =
    let k = c.loop-thread.thread-index in
    let x = c.thread-item.result in
    let at = item_read c.args.threads.now k x c.loop-thread-test.true c.thread-item.is in
    rw (add-one k)
    (one_counted thread_home more_threads c.args.domains.now.items c.loop-thread.domains.items c.args.threads.now k x at _ refl c.loop-thread.invariant
    one_thread_more
    c.count_thread.new.domains.items c.count_thread.ensures)

pub returns : goal.returns
returns c =
    let P : List ThreadPart → Type 0 = λ xs. AreCountedUp thread_home more_threads c.args.domains.now.items c.loop-thread.domains.items xs in
    subst P (take_all c.loop-thread.thread-index c.args.threads.now (omega (arith, c.loop-thread-test.false))) c.loop-thread.invariant
