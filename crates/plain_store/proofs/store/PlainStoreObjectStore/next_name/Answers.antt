-- The domain's heap is found.
use Rattle.plain_store.proofs.StoreChanges.{admitted, next_is}
use Rattle.plain_store.proofs.store.PlainStoreObjectStore.next_name.Goals as goal

pub heap-requires : goal.heap-requires
heap-requires c = admitted c.args.self.now.heaps.items c.args.d c.requires

pub returns : goal.returns
returns c = next_is c.args.self.now.heaps.items c.args.d c.heap.result.now c.heap.ensures c.args.above c.next_name.result c.next_name.ensures
