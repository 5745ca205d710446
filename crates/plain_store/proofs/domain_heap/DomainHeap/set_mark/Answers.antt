-- The mark alone is set.
use Rattle.std.proofs.Common.{refl, arith}
use Rattle.list_lemmas.proofs.ItemsByPlace.{item_read}
use Rattle.plain_store.proofs.HeapIsMarked.{mark_is, marked_heap, marked_objects, other_marks}
use Rattle.plain_store.proofs.ItemsOfObjects.{name_within}
use Rattle.plain_store.proofs.domain_heap.DomainHeap.set_mark.Goals as goal

pub index_mut-requires : goal.index_mut-requires
index_mut-requires c =
    let x = c.args.self.now in
    omega (arith, name_within x c.args.a c.requires.0 c.requires.1, x.headers.ok.0)

pub invariant_of-self : goal.invariant_of-self
invariant_of-self c =
    let x = c.args.self.now in
    let h = c.index_mut.result.now in
    let at = item_read x.headers.items c.args.a h (name_within x c.args.a c.requires.0 c.requires.1) c.index_mut.ensures.value in
    record { ok = marked_heap x c.args.a c.args.m h at; room = x.room }

pub returns : goal.returns
returns c =
    let x = c.args.self.now in
    let a = c.args.a in
    let h = c.index_mut.result.now in
    let at = item_read x.headers.items a h (name_within x a c.requires.0 c.requires.1) c.index_mut.ensures.value in
    record {
      words = refl;
      used = refl;
      objects = marked_objects x a c.args.m h at;
      mark = mark_is x a c.args.m h at;
      others = other_marks x a c.args.m h at;
    }
