-- The mark stands in the header of the object.
use Rattle.std.proofs.Common.{Option, sym, ap, arith}
use Rattle.std.specs.Option.{option_map_or}
use Rattle.list_lemmas.proofs.ItemsByPlace.{item_read}
use Rattle.plain_store.specs.declared.domain_heap.Header.{Header}
use Rattle.plain_store.proofs.ItemsOfObjects.{name_within}
use Rattle.plain_store.proofs.domain_heap.DomainHeap.mark.Goals as goal

pub index-requires : goal.index-requires
index-requires c =
    let x = c.args.self.now in
    omega (arith, name_within x c.args.a c.requires.0 c.requires.1, x.headers.ok.0)

pub returns : goal.returns
returns c =
    let x = c.args.self.now in
    let h = c.index.result.now in
    let at = item_read x.headers.items c.args.a h (name_within x c.args.a c.requires.0 c.requires.1) c.index.ensures in
    sym (ap (λ (o : Option Header). option_map_or (λ (g : Header). g.mark) o 0) at)
