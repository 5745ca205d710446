-- The one with more dimensions falls, and the order of the two doesn't matter.
use Rattle.std.proofs.Common.{◌<◌, arith, rules}
use Rattle.std.proofs.lemmas.Bool.Decides.{nat_tests}
use Rattle.jk_model_typing.specs.declared.frames.VType.TheVariants.{Ref}
use Rattle.type_frames.proofs.JoinsOfTypes.{IsJoin-swap}
use Rattle.type_frames.proofs.refs.join_refs.Goals as goal

pub returns-in-Greater-clause-falls : goal.returns-in-Greater-clause-falls
returns-in-Greater-clause-falls c =
    let more : c.args.b.now.dims < c.args.a.now.dims = grind (arith, nat_tests) in
    λ _. c.join_deeper.ensures.deeper c.args.a.now more (search rules)

pub returns-in-Less-clause-join : goal.returns-in-Less-clause-join
returns-in-Less-clause-join c =
    let more : c.args.a.now.dims < c.args.b.now.dims = grind (arith, nat_tests) in
    IsJoin-swap c.args.t.now (Ref c.args.b.now) (Ref c.args.a.now) c.join_deeper-in-Less.result
    (c.join_deeper-in-Less.ensures.join c.args.b.now more)
