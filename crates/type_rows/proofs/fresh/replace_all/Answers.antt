-- One entry more has become what it is to become.
use Rattle.std.proofs.Common.{get_or, arith}
use Rattle.std.specs.Prelude.{if◌then◌else◌}
use Rattle.std.proofs.Math.ListN.{length-set}
use Rattle.jk_model_typing.specs.declared.frames.VType.{VType}
use Rattle.jk_model_typing.specs.declared.frames.VType.TheVariants.{Unusable}
use Rattle.type_rows.proofs.AtPlaces.{slice_get-at}
use Rattle.type_rows.proofs.EachReplaced.{one_more, all_done}
use Rattle.type_rows.proofs.fresh.replace_all.Goals as goal

pub loop-k-preserved : goal.loop-k-preserved
loop-k-preserved c =
    let vs = c.loop-k.vs in
    let k = c.loop-k.k in
    rw c.replace.ensures.new (
      omega (arith, length-set {A = VType}),
      λ test is.
          one_more (λ (w : VType). if test w then c.args.new else w) c.args.vs.now vs k (get_or vs k Unusable) c.changed.result
          (c.loop-k.invariant.1 test is) (slice_get-at vs k Unusable (omega arith)) (rw c.as_slice.ensures at (c.changed.ensures test is)),
    )

pub returns : goal.returns
returns c =
    λ test is.
    all_done (λ (w : VType). if test w then c.args.new else w) c.args.vs.now c.loop-k.vs c.loop-k.k (c.loop-k.invariant.1 test is)
    (omega arith)
