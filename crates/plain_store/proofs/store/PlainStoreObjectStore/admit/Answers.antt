-- A fresh heap is entered.
use Rattle.list_lemmas.proofs.FoundItems.{on_err}
use Rattle.plain_store.proofs.StoreChanges.{admits, unentered}
use Rattle.plain_store.proofs.store.PlainStoreObjectStore.admit.Goals as goal

pub returns-in_err-enter-clause-err : goal.returns-in_err-enter-clause-err
returns-in_err-enter-clause-err c = on_err _ _ (unentered c.args.self.now.heaps.items c.enter.new.self.heaps.items c.args.d c.in_err-enter.ensures.err)

pub returns-clause-ok : goal.returns-clause-ok
returns-clause-ok c =
    admits c.args.self.now.heaps.items c.enter.new.self.heaps.items c.args.d c.in_ok-heap.heap c.args.words c.in_ok-heap.ensures c.in_ok-enter.ensures.ok
