-- The domain's heap is found.
use Rattle.std.proofs.Common.{sym, ◌∙◌}
use Rattle.plain_store.proofs.StoreChanges.{mark_there, name_in, there_by_name}
use Rattle.plain_store.proofs.store.PlainStoreObjectStore.mark.Goals as goal

pub heap-requires : goal.heap-requires
heap-requires c = there_by_name c.args.self.now.heaps.items c.args.d c.args.a c.requires

pub mark-requires : goal.mark-requires
mark-requires c = name_in c.args.self.now.heaps.items c.args.d c.heap.result.now c.heap.ensures c.args.a c.requires

pub returns : goal.returns
returns c = c.mark.ensures ∙ sym (mark_there c.args.self.now.heaps.items c.args.d c.heap.result.now c.heap.ensures c.args.a)
