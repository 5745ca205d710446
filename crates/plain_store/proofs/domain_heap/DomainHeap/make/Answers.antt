-- The object is put behind all others.
use Rattle.std.proofs.Common.{◌≡◌, ◌+◌, ◌≤◌, ℕ, length, refl, ap, arith}
use Rattle.jk_model_heaps.specs.Heaps.{zero_object}
use Rattle.object_store.specs.HeapContents.{shape_words}
use Rattle.object_store.proofs.PlainCosts.{new_is_sized}
use Rattle.plain_store.specs.declared.domain_heap.Header.{Header}
use Rattle.plain_store.proofs.HeapGrows.{made_heap, made_in}
use Rattle.plain_store.proofs.NewPayloads.{new_payload, payload_size}
use Rattle.plain_store.proofs.domain_heap.DomainHeap.make.Goals as goal

pub invariant_of-self : goal.invariant_of-self
invariant_of-self c =
    let x = c.args.self.now in
    let t = c.args.t.now in
    let shape = c.args.shape in
    let h : Header = record { shape = shape; first = c.add_payload-first.result.0; len = c.add_payload-first.result.1; mark = 0 } in
    let e = c.add_payload-first.ensures in
    let most = x.ok.most in
    let used = x.ok.within in
    let fits : shape_words t shape ≤ 16777216 = omega arith in
    let sized = new_is_sized t shape fits in
    let size = payload_size shape t in
    record {
      ok =
          made_heap x h (zero_object t shape) (new_payload t shape) e.first e.len _ c.push_reserved.new.self.items c.add_payload-first.new.values.items
          c.add_payload-first.new.units.items c.push_reserved.ensures.items e.values e.units (omega arith) (omega arith);
      room = record {
        headers = omega (arith, x.room.headers, c.push_reserved.ensures.capacity);
        values = omega (arith, x.room.values, e.values_room);
        units = omega (arith, x.room.units, e.units_room);
      };
    }

pub returns-clause-ok : goal.returns-clause-ok
returns-clause-ok c =
    let x = c.args.self.now in
    let t = c.args.t.now in
    let shape = c.args.shape in
    let h : Header = record { shape = shape; first = c.add_payload-first.result.0; len = c.add_payload-first.result.1; mark = 0 } in
    let e = c.add_payload-first.ensures in
    let last : c.len-name.result ≡ length x.headers.items = omega (arith, c.len-name.ensures, x.headers.ok.0) in
    made_in x h (zero_object t shape) (new_payload t shape) e.first e.len _ t c.len-name.result last refl refl c.push_reserved.ensures.items e.values e.units
    (ap (λ (n : ℕ). x.used + n) c.shape_words-cost.ensures)
