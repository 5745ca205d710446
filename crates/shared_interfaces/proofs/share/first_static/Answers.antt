-- A field is the first that is static, or none is.
use Rattle.std.proofs.Common.{refl, sym, ◌∙◌, length, arith}
use Rattle.std.proofs.lemmas.Option.{slice_get_read}
use Rattle.shared_interfaces.proofs.StaticFields.{none_static, none_static_here}
use Rattle.shared_interfaces.proofs.share.first_static.Goals as goal

pub loop-i-preserved : goal.loop-i-preserved
loop-i-preserved c =
    none_static_here c.args.fields.now c.loop-i.i c.loop-i.invariant c.index-fields-i.result
    (slice_get_read c.args.fields.now (length c.args.fields.now) c.loop-i.i c.index-fields-i.result refl (omega arith) c.index-fields-i.is)
    (sym c.has.ensures ∙ c.if-has.false)

pub returns : goal.returns
returns c = none_static c.args.fields.now c.loop-i.i c.loop-i.invariant (omega arith)
