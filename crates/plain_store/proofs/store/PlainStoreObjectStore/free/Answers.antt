-- The domain's heap is found.
use Rattle.std.proofs.Common.{sym, ◌∙◌}
use Rattle.plain_store.proofs.StoreChanges.{admitted, left_is}
use Rattle.plain_store.proofs.store.PlainStoreObjectStore.free.Goals as goal

pub heap-requires : goal.heap-requires
heap-requires c = admitted c.args.self.now.heaps.items c.args.d c.requires

pub returns : goal.returns
returns c = c.free.ensures ∙ sym (left_is c.args.self.now.heaps.items c.args.d c.heap.result.now c.heap.ensures)
