-- Where the join is the type that stands there, nothing changes.
use Rattle.std.proofs.Common.{◌≡◌, length, refl, arith}
use Rattle.std.proofs.lemmas.Grind.{common_steps}
use Rattle.std.proofs.lemmas.Option.{slice_get_read}
use Rattle.type_frames.proofs.RaisedByPlaces.{raised-unchanged}
use Rattle.type_frames.proofs.locals.raise_at.Goals as goal

pub returns-else-changed-clause-raised : goal.returns-else-changed-clause-raised
returns-else-changed-clause-raised c =
    let same : c.join-new.result ≡ c.in-Some.old.now = grind (arith, common_steps) in
    raised-unchanged c.args.t.now c.args.i c.args.from.now c.in-Some.old.now c.join-new.result c.args.into.now
    (slice_get_read c.args.into.now (length c.args.into.now) c.args.i c.in-Some.old.now refl c.requires c.in-Some.ensures.1) same c.join-new.ensures.join
