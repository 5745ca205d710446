-- What `position` answers is the first item that passes.
use Rattle.std.proofs.Common.{refl, true, false}
use Rattle.std.proofs.lemmas.Iterator.{IsFirst-from_position, YieldsList-from_slice}
use Rattle.std.proofs.lemmas.Iterator.Adapters.{serves_from_places}
use Rattle.std.proofs.lemmas.Option.{slice_get_read}
use Rattle.std.specs.Fn.{FnReturnsAt}
use Rattle.std.proofs.lemmas.Fn.{says_at}
use Rattle.class_rules.proofs.FirstItems.{first_passed}
use Rattle.class_rules.proofs.members.first_at.Goals as goal

pub position-requires-clause-callable : goal.position-requires-clause-callable
position-requires-clause-callable g c =
    serves_from_places (YieldsList-from_slice c.args.items.now c.iter.ensures.rest)
    (λ x q k. g.met.F.Fn.1.step_stays c.args.test (x, tt) false q (record { met = k.met }))
    (λ x i below read. c.requires i x.now (slice_get_read c.args.items.now _ i x.now refl below read) x refl)

pub returns-clause-first : goal.returns-clause-first
returns-clause-first g c =
    first_passed g.F.Fn c.args.test c.args.items.now c.position.result
    (IsFirst-from_position _ c.args.test c.position.result (λ x. FnReturnsAt g.F.Fn c.args.test x true) (λ x. FnReturnsAt g.F.Fn c.args.test x false)
    c.position.ensures.ran (YieldsList-from_slice c.args.items.now c.iter.ensures.rest)
    (λ x q k. says_at g.F.Fn ((g.met.F.FnMut.1.post_iff c.args.test (x, tt) true).1 (q, record { met = k.met })) refl)
    (λ x q k. (
      g.met.F.Fn.1.step_stays c.args.test (x, tt) false q (record { met = k.met }),
      says_at g.F.Fn ((g.met.F.FnMut.1.post_iff c.args.test (x, tt) false).1 (q, record { met = k.met })) refl,
    )))
