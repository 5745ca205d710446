-- The object is made in its domain's heap.
use Rattle.std.proofs.Common.{◌<◌, ◌≤◌, ◌∙◌, ℕ, IsSome, OnErr, OnOk, Some, set, sym, subst, Option, arith}
use Rattle.list_lemmas.proofs.AnswersTold.{ok_map}
use Rattle.jk_model_heaps.specs.Heaps.{zero_object}
use Rattle.object_store.specs.HeapContents.{shape_words}
use Rattle.plain_store.specs.declared.domain_heap.DomainHeap.{DomainHeap}
use Rattle.plain_store.proofs.StoreChanges.{admitted, err_map, left_is, makes, stays}
use Rattle.list_lemmas.proofs.ItemsByPlace.{item_read}
use Rattle.plain_store.proofs.WrittenAt.{read_at, within_heaps, written_at}
use Rattle.plain_store.proofs.store.PlainStoreObjectStore.make.Goals as goal

pub index_mut-requires : goal.index_mut-requires
index_mut-requires c =
    let within = within_heaps c.args.self.now.heaps.items c.args.d.0 (admitted c.args.self.now.heaps.items c.args.d c.requires.admitted) in
    omega (arith, within, c.args.self.now.heaps.ok.0)

pub unreachable-requires : goal.unreachable-requires
unreachable-requires c =
    let m = c.args.self.now.heaps.items in
    let has = admitted c.args.self.now.heaps.items c.args.d c.requires.admitted in
    let is = read_at m c.args.d.0 c.index_mut.result.now
    (item_read m c.args.d.0 c.index_mut.result.now (within_heaps m c.args.d.0 has) c.index_mut.ensures.value) in
    let wrong = subst (λ (o : Option DomainHeap). IsSome o) (is ∙ c.in-None.is) has in
    cc

pub returns-clause-ok : goal.returns-clause-ok
returns-clause-ok c =
    let m = c.args.self.now.heaps.items in
    let x = c.in-Some.heap in
    let within = within_heaps m c.args.d.0 (admitted c.args.self.now.heaps.items c.args.d c.requires.admitted) in
    let y = c.make.new.self in
    let is = read_at m c.args.d.0 c.index_mut.result.now (item_read m c.args.d.0 c.index_mut.result.now within c.index_mut.ensures.value) ∙ c.in-Some.is in
    let enters = written_at m c.args.d.0 y within in
    ok_map _ _ c.make.result
    (λ a. makes m (set m c.args.d.0 (Some y)) c.args.d x y is enters c.args.t.now a (zero_object c.args.t.now c.args.shape))
    c.make.ensures.ok

pub returns-clause-err : goal.returns-clause-err
returns-clause-err c =
    let m = c.args.self.now.heaps.items in
    let x = c.in-Some.heap in
    let within = within_heaps m c.args.d.0 (admitted c.args.self.now.heaps.items c.args.d c.requires.admitted) in
    let y = c.make.new.self in
    let is = read_at m c.args.d.0 c.index_mut.result.now (item_read m c.args.d.0 c.index_mut.result.now within c.index_mut.ensures.value) ∙ c.in-Some.is in
    let enters = written_at m c.args.d.0 y within in
    err_map c.make.result (stays m (set m c.args.d.0 (Some y)) c.args.d x y is enters) c.make.ensures.err

pub returns-clause-room : goal.returns-clause-room
returns-clause-room c =
    let m = c.args.self.now.heaps.items in
    let x = c.in-Some.heap in
    let within = within_heaps m c.args.d.0 (admitted c.args.self.now.heaps.items c.args.d c.requires.admitted) in
    let is = read_at m c.args.d.0 c.index_mut.result.now (item_read m c.args.d.0 c.index_mut.result.now within c.index_mut.ensures.value) ∙ c.in-Some.is in
    let P : ℕ → Type 0 = λ n. OnOk c.make.result (shape_words c.args.t.now c.args.shape ≤ n) in
    subst P (sym (left_is m c.args.d x is)) c.make.ensures.room

pub returns-clause-no_room : goal.returns-clause-no_room
returns-clause-no_room c =
    let m = c.args.self.now.heaps.items in
    let x = c.in-Some.heap in
    let within = within_heaps m c.args.d.0 (admitted c.args.self.now.heaps.items c.args.d c.requires.admitted) in
    let is = read_at m c.args.d.0 c.index_mut.result.now (item_read m c.args.d.0 c.index_mut.result.now within c.index_mut.ensures.value) ∙ c.in-Some.is in
    let P : ℕ → Type 0 = λ n. OnErr c.make.result (n < shape_words c.args.t.now c.args.shape) in
    subst P (sym (left_is m c.args.d x is)) c.make.ensures.no_room
