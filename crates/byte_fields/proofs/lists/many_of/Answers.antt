-- Each turn of the loop reads one more, and what all turns read is what reading so many gives.
use Rattle.std.proofs.Common.{arith}
use Rattle.std.specs.List.{flat_map}
use Rattle.std.proofs.lemmas.Result.{err_from_is_err_and}
use Rattle.byte_fields.specs.Reading.{many_at}
use Rattle.byte_fields.specs.Layouts.{IsBytes, AreMany}
use Rattle.byte_fields.specs.OneReading.{many_reader}
use Rattle.byte_fields.specs.CutIsBeginning.{never_both, many_cut}
use Rattle.byte_fields.proofs.OneAfterAnother.{goes_on, ends, is_done}
use Rattle.byte_fields.proofs.GivenIsLaidOut.{early_is_cut, err_is}
use Rattle.byte_fields.proofs.lists.many_of.Goals as goal

pub loop-preserved : goal.loop-preserved
loop-preserved g c =
    let r = g.F.Field.read_at in
    let total = many_at r c.args.count c.args.bytes.now in
    rw c.in_ok-push.ensures.ok (goes_on r c.loop.values c.args.count c.loop.counter c.loop.rest.now c.in_ok-value.value c.in_ok-value.after.now total
    c.loop-test.true c.in_ok-value.ensures c.loop.invariant)

pub returns-in_err-value-clause-early : goal.returns-in_err-value-clause-early
returns-in_err-value-clause-early g c =
    let f = g.met.F.Field in
    let r = g.F.Field.read_at in
    let bytes = c.args.bytes.now in
    let e = c.in_err-value.field-0.0 in
    let p = err_from_is_err_and c.from_residual.result c.from_residual.ensures.1 in
    let total = many_at r c.args.count bytes in
    let fails = ends r e c.loop.values c.args.count c.loop.counter c.loop.rest.now total c.loop-test.true c.in_err-value.ensures c.loop.invariant in
    let cut = many_cut r g.F.Field.value_bytes g.F.Field.is_value f.reads f.fails_within c.args.count in
    rw (p.1, p.2) (λ same.
    early_is_cut (many_at r c.args.count) (flat_map g.F.Field.value_bytes) (AreMany g.F.Field.is_value c.args.count) cut bytes e
    (λ i. omega (arith, c.type_inv.bytes i)) fails (err_is e _ same))

pub returns : goal.returns
returns g c =
    let f = g.met.F.Field in
    let r = g.F.Field.read_at in
    let s = g.F.Field.value_bytes in
    let is = g.F.Field.is_value in
    let bytes = c.args.bytes.now in
    let fits : IsBytes bytes = λ i. omega (arith, c.type_inv.bytes i) in
    let reads = many_reader r s is f.reads c.args.count in
    let given = is_done r c.loop.values c.args.count c.loop.counter c.loop.rest.now (many_at r c.args.count bytes) c.loop-test.false c.loop.invariant in
    let took = reads.takes bytes (c.loop.values, c.loop.rest.now) fits given in
    record {
      gives = given;
      layout = took.0.parts;
      values = took.1;
      early = λ same. absurd cc;
      only_early = λ cut.
          absurd (never_both (many_at r c.args.count) (flat_map s) (AreMany is c.args.count) reads bytes (c.loop.values, c.loop.rest.now) fits given cut);
    }
