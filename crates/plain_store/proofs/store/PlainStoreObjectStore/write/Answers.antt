-- The item is written in its domain's heap.
use Rattle.std.proofs.Common.{◌∙◌, IsSome, Some, set, subst, Option, arith}
use Rattle.plain_store.specs.declared.domain_heap.DomainHeap.{DomainHeap}
use Rattle.plain_store.proofs.StoreChanges.{live_in, taken_in, there_by_taken, writes}
use Rattle.list_lemmas.proofs.ItemsByPlace.{item_read}
use Rattle.plain_store.proofs.WrittenAt.{read_at, within_heaps, written_at}
use Rattle.plain_store.proofs.store.PlainStoreObjectStore.write.Goals as goal

pub index_mut-requires : goal.index_mut-requires
index_mut-requires c =
    let m = c.args.self.now.heaps.items in
    let within = within_heaps m c.args.d.0 (there_by_taken m c.args.d c.args._t.now c.args.a c.args.i c.args.v c.requires) in
    omega (arith, within, c.args.self.now.heaps.ok.0)

pub unreachable-requires : goal.unreachable-requires
unreachable-requires c =
    let m = c.args.self.now.heaps.items in
    let has = there_by_taken c.args.self.now.heaps.items c.args.d c.args._t.now c.args.a c.args.i c.args.v c.requires in
    let is = read_at m c.args.d.0 c.index_mut.result.now
    (item_read m c.args.d.0 c.index_mut.result.now (within_heaps m c.args.d.0 has) c.index_mut.ensures.value) in
    let wrong = subst (λ (o : Option DomainHeap). IsSome o) (is ∙ c.in-None.is) has in
    cc

pub write-requires : goal.write-requires
write-requires c =
    let m = c.args.self.now.heaps.items in
    let x = c.in-Some.heap in
    let within = within_heaps m c.args.d.0 (there_by_taken c.args.self.now.heaps.items c.args.d c.args._t.now c.args.a c.args.i c.args.v c.requires) in
    let is = read_at m c.args.d.0 c.index_mut.result.now (item_read m c.args.d.0 c.index_mut.result.now within c.index_mut.ensures.value) ∙ c.in-Some.is in
    taken_in m c.args.d x is c.args._t.now c.args.a c.args.i c.args.v c.requires

pub returns : goal.returns
returns c =
    let m = c.args.self.now.heaps.items in
    let x = c.in-Some.heap in
    let within = within_heaps m c.args.d.0 (there_by_taken c.args.self.now.heaps.items c.args.d c.args._t.now c.args.a c.args.i c.args.v c.requires) in
    let y = c.write.new.self in
    let is = read_at m c.args.d.0 c.index_mut.result.now (item_read m c.args.d.0 c.index_mut.result.now within c.index_mut.ensures.value) ∙ c.in-Some.is in
    let enters = written_at m c.args.d.0 y within in
    λ object new live written.
    writes m (set m c.args.d.0 (Some y)) c.args.d x y is enters c.args.a new (c.write.ensures object new (live_in m c.args.d x is c.args.a object live) written)
