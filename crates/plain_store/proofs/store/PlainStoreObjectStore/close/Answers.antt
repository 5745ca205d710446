-- The domain goes with its heap.
use Rattle.std.proofs.Common.{None, set, arith}
use Rattle.plain_store.proofs.StoreChanges.{admitted, closes}
use Rattle.plain_store.proofs.WrittenAt.{closed_at, others_at, within_heaps}
use Rattle.plain_store.proofs.store.PlainStoreObjectStore.close.Goals as goal

pub index_mut-requires : goal.index_mut-requires
index_mut-requires c =
    let within = within_heaps c.args.self.now.heaps.items c.args.d.0 (admitted c.args.self.now.heaps.items c.args.d c.requires) in
    omega (arith, within, c.args.self.now.heaps.ok.0)

pub returns : goal.returns
returns c =
    let m = c.args.self.now.heaps.items in
    closes m (set m c.args.d.0 None) c.args.d (closed_at m c.args.d.0 (within_heaps m c.args.d.0 (admitted m c.args.d c.requires)))
    (others_at m c.args.d.0 None)
