-- A name that is too long is refused, and one that was found stands where it was found.
use Rattle.std.proofs.Common.{arith, refl}
use Rattle.std.proofs.lemmas.Option.{slice_get_within}
use Rattle.jk_model_sharing.specs.BoundNames.{too_long}
use Rattle.thread_segments.proofs.shared.Shared.bind.Goals as goal

pub returns-then-name-gt-MOST_UNITS : goal.returns-then-name-gt-MOST_UNITS
returns-then-name-gt-MOST_UNITS c = record {
  domain = c.requires.live.0;
  is_domain = c.requires.live.1;
  names = c.args.self.now.names;
  binds = too_long (omega (arith, c.if-name-gt-MOST_UNITS.true));
  becomes = refl;
}

pub bind_anew-requires-clause-bound : goal.bind_anew-requires-clause-bound
bind_anew-requires-clause-bound c =
    let n = c.in-Some.ensures in
    rw (← c.self.view_is) (slice_get_within c.self.inside.names.names c.in-Some.place n.0 n.1)
