-- The domain's heap is found.
use Rattle.plain_store.proofs.StoreChanges.{live_in, name_in, there_by_name}
use Rattle.plain_store.proofs.store.PlainStoreObjectStore.shape.Goals as goal

pub heap-requires : goal.heap-requires
heap-requires c = there_by_name c.args.self.now.heaps.items c.args.d c.args.a c.requires

pub shape-requires : goal.shape-requires
shape-requires c = name_in c.args.self.now.heaps.items c.args.d c.heap.result.now c.heap.ensures c.args.a c.requires

pub returns : goal.returns
returns c = λ object live. c.shape.ensures object (live_in c.args.self.now.heaps.items c.args.d c.heap.result.now c.heap.ensures c.args.a object live)
