-- Null comes first, then what is no array, then other kinds, and then the ranges.
use Rattle.std.proofs.Common.{◌≡◌, true, false, to_z, of_z, w32, sym, rules}
use Rattle.jk_model.specs.declared.values.Value.TheVariants as Held
use Rattle.jk_model_domains.specs.NumberRows.{is_null}
use Rattle.jk_model_heaps.specs.Workings.{with_heap}
use Rattle.jk_model_system_rows.specs.Answers.{with_answer}
use Rattle.system_calls.specs.DoneRows.{answer_of}
use Rattle.system_calls.proofs.CopiedArrays.{kinds_fail, no_null, no_pair, null_fails, null_first, null_second, with_arguments}
use Rattle.system_calls.proofs.array_copies.copy_array.Goals as goal

pub returns-then-is_null-clause-row : goal.returns-then-is_null-clause-row
returns-then-is_null-clause-row g c = λ x inside is caps.
    null_fails (g.H.ObjectStore.content c.args.heap.now) c.args.t.now c.args.d x inside is c.args.source c.args.from c.args.target c.args.to c.args.count
    (null_first (is_null c.args.source) (is_null c.args.target) c.if-is_null.ensures)

pub returns-then-is_null-2-clause-row : goal.returns-then-is_null-2-clause-row
returns-then-is_null-2-clause-row g c = λ x inside is caps.
    null_fails (g.H.ObjectStore.content c.args.heap.now) c.args.t.now c.args.d x inside is c.args.source c.args.from c.args.target c.args.to c.args.count
    (null_second (is_null c.args.source) (is_null c.args.target) c.if-is_null-2.ensures)

pub returns-in_default-clause-row : goal.returns-in_default-clause-row
returns-in_default-clause-row g c = λ x inside is caps.
    kinds_fail (g.H.ObjectStore.content c.args.heap.now) c.args.t.now c.args.d x inside is c.args.source c.args.from c.args.target c.args.to c.args.count
    (no_null (is_null c.args.source) (is_null c.args.target) c.if-is_null.ensures c.if-is_null-2.ensures) (λ p. c.in_default.ensures p.source)

pub returns-in_default-array_at-clause-row : goal.returns-in_default-array_at-clause-row
returns-in_default-array_at-clause-row g c = λ x inside is caps.
    kinds_fail (g.H.ObjectStore.content c.args.heap.now) c.args.t.now c.args.d x inside is c.args.source c.args.from c.args.target c.args.to c.args.count
    (no_null (is_null c.args.source) (is_null c.args.target) c.if-is_null.ensures c.if-is_null-2.ensures) (λ p. c.in_default-array_at.ensures p.target)

pub returns-then-not-are_of_one_kind-clause-row : goal.returns-then-not-are_of_one_kind-clause-row
returns-then-not-are_of_one_kind-clause-row g c = λ x inside is caps.
    let a = c.in-Some.ensures in
    let b = c.in-Some-array_at.ensures in
    kinds_fail (g.H.ObjectStore.content c.args.heap.now) c.args.t.now c.args.d x inside is c.args.source c.args.from c.args.target c.args.to c.args.count
    (no_null (is_null c.args.source) (is_null c.args.target) c.if-is_null.ensures c.if-is_null-2.ensures)
    (no_pair (g.H.ObjectStore.content c.args.heap.now) c.args.d (record {
      source = c.args.source;
      from = c.args.from;
      target = c.args.target;
      to =
          c.args.to;
      count = c.args.count;
    })
    c.in-Some.a c.in-Some-array_at.b a.0 b.0 a.1 b.1 (λ same. let wrong : false ≡ true = c.if-not-are_of_one_kind.ensures.1 same in absurd cc))

pub returns-clause-row : goal.returns-clause-row
returns-clause-row g c = λ x inside is caps.
    let begin : to_z w32 (of_z w32 c.args.from) ≡ c.args.from = search rules in
    let end : to_z w32 (of_z w32 c.args.to) ≡ c.args.to = search rules in
    let counts : to_z w32 (of_z w32 c.args.count) ≡ c.args.count = search rules in
    with_arguments x inside (with_answer (with_heap inside ((g.H.ObjectStore.content c.copy_range.new.heap).heap c.args.d)) (answer_of c.copy_range.result))
    (Held.Obj c.in-Some.a.name) c.args.source (Held.Obj c.in-Some-array_at.b.name) c.args.target
    (to_z w32 (of_z w32 c.args.from)) c.args.from (to_z w32 (of_z w32 c.args.to)) c.args.to (to_z w32 (of_z w32 c.args.count)) c.args.count
    (sym c.in-Some.ensures.0) (sym c.in-Some-array_at.ensures.0) begin end counts (c.copy_range.ensures.row x inside is caps)
