-- What an object is of stands in its header.
use Rattle.std.proofs.Common.{arith}
use Rattle.list_lemmas.proofs.ItemsByPlace.{item_read}
use Rattle.plain_store.proofs.ItemsOfObjects.{name_within, shape_is}
use Rattle.plain_store.proofs.domain_heap.DomainHeap.shape.Goals as goal

pub index-requires : goal.index-requires
index-requires c =
    let x = c.args.self.now in
    omega (arith, name_within x c.args.a c.requires.0 c.requires.1, x.headers.ok.0)

pub returns : goal.returns
returns c =
    let x = c.args.self.now in
    let h = c.index.result.now in
    let at = item_read x.headers.items c.args.a h (name_within x c.args.a c.requires.0 c.requires.1) c.index.ensures in
    λ object is. shape_is x c.args.a h object at is
