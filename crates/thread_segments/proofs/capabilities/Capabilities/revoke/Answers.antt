-- The range that has the number alone is changed.
use Rattle.std.proofs.Common.{List, subst, sym}
use Rattle.jk_model.specs.Capabilities.{Range}
use Rattle.jk_model_heaps.specs.Capabilities.{CapRange, IsGivenOut}
use Rattle.thread_segments.specs.ClassedRanges.{AreClassed}
use Rattle.thread_segments.proofs.RevokedInRange.{classed_kept, known_in_table, ranges_revoked, revoked_keeps}
use Rattle.thread_segments.proofs.capabilities.Capabilities.revoke.Goals as goal

pub revoke-requires : goal.revoke-requires
revoke-requires c =
    let s = c.self.inside in
    let P : List CapRange → Type 0 = λ rs. IsGivenOut rs c.args.k in
    known_in_table s.classes.items c.args.k s.table (subst P (sym c.self.view_is) c.requires)

pub invariant_of-self : goal.invariant_of-self
invariant_of-self c =
    let s = c.self.inside in
    let P : List Range → Type 0 = λ rs. AreClassed s.classes.items rs in
    subst P (sym c.revoke.ensures) (classed_kept _ (revoked_keeps c.args.k) s.classes.items s.table c.self.invariant)

pub returns : goal.returns
returns c =
    let s = c.self.inside in
    rw (← c.self.view_is, c.revoke.ensures) (ranges_revoked s.classes.items c.args.k s.table)
