-- The range of the owner alone is changed.
use Rattle.std.proofs.Common.{IsSome, List, find, subst, sym}
use Rattle.jk_model.specs.Capabilities.{Range}
use Rattle.jk_model_heaps.specs.Capabilities.{CapRange}
use Rattle.thread_segments.specs.ClassedRanges.{AreClassed}
use Rattle.thread_segments.proofs.CreatedInRange.{has_range, owned_cap}
use Rattle.thread_segments.proofs.RevokedInRange.{all_keep, classed_kept, ranges_all}
use Rattle.thread_segments.proofs.capabilities.Capabilities.revoke_all.Goals as goal

pub revoke_all-requires : goal.revoke_all-requires
revoke_all-requires c =
    let s = c.self.inside in
    let P : List CapRange → Type 0 = λ rs. IsSome (find (owned_cap c.args.owner) rs) in
    has_range s.classes.items c.args.owner s.table (subst P (sym c.self.view_is) c.requires)

pub invariant_of-self : goal.invariant_of-self
invariant_of-self c =
    let s = c.self.inside in
    let P : List Range → Type 0 = λ rs. AreClassed s.classes.items rs in
    subst P (sym c.revoke_all.ensures) (classed_kept _ (all_keep c.args.owner) s.classes.items s.table c.self.invariant)

pub returns : goal.returns
returns c =
    let s = c.self.inside in
    rw (← c.self.view_is, c.revoke_all.ensures) (ranges_all s.classes.items c.args.owner s.table)
