-- The heap stands at its domain's number.
use Rattle.std.proofs.Common.{◌≡◌, None, IsSome, subst, ◌∙◌, Option, arith}
use Rattle.list_lemmas.proofs.ItemsByPlace.{item_read}
use Rattle.plain_store.specs.declared.domain_heap.DomainHeap.{DomainHeap}
use Rattle.plain_store.specs.StoreContents.{heap_at}
use Rattle.plain_store.proofs.WrittenAt.{read_at, within_heaps}
use Rattle.plain_store.proofs.store.PlainStore.heap.Goals as goal

pub index-requires : goal.index-requires
index-requires c =
    let within = within_heaps c.args.self.now.heaps.items c.args.d c.requires in
    omega (arith, within, c.args.self.now.heaps.ok.0)

pub unreachable-requires : goal.unreachable-requires
unreachable-requires c =
    let heaps = c.args.self.now.heaps.items in
    let there = item_read heaps c.args.d c.index.result.now (within_heaps heaps c.args.d c.requires) c.index.ensures in
    let none : heap_at heaps c.args.d ≡ None = read_at heaps c.args.d c.index.result.now there ∙ c.in-None.is in
    let wrong = subst (λ (o : Option DomainHeap). IsSome o) none c.requires in
    cc

pub returns : goal.returns
returns c =
    let heaps = c.args.self.now.heaps.items in
    let there = item_read heaps c.args.d c.index.result.now (within_heaps heaps c.args.d c.requires) c.index.ensures in
    read_at heaps c.args.d c.index.result.now there ∙ c.in-Some.is
