-- After each field the places are those of one field more.
use Rattle.std.proofs.Common.{◌≡◌, ◌<◌, length, take, arith}
use Rattle.std.proofs.lemmas.List.{take_more, length-take-le}
use Rattle.std.proofs.Math.Seq.{take-length}
use Rattle.class_table.proofs.own_places.own_places.Goals as goal

pub loop-i-preserved : goal.loop-i-preserved
loop-i-preserved c =
    let fields = c.args.fields.now in
    let i = c.loop-i.i in
    let f = c.index-fields-i.result in
    let within : i < length fields = omega arith in
    record {
      few = c.in_ok-add_field.ensures.few;
      longs = c.in_ok-add_field.ensures.longs;
      are = λ d.
          rw (take_more fields i f within, ← (c.index-fields-i.is))
          (c.in_ok-add_field.ensures.added d (take i fields) (length-take-le i fields (omega arith)) (c.loop-i.invariant.are d));
    }

pub returns : goal.returns
returns c = λ d.
    let fields = c.args.fields.now in
    let whole : c.loop-i.i ≡ length fields = omega arith in
    rw (whole, take-length) at (c.loop-i.invariant.are d)
