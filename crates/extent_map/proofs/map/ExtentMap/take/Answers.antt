-- The extent that is out has its entry, which was 0.
use Rattle.std.proofs.Common.{subst, slice_set, arith, length-set}
use Rattle.jk_model.specs.Extents.{IsFirstFit, HasNoFit}
use Rattle.extent_map.specs.MapState.{MapState, IsAmong}
use Rattle.extent_map.specs.Starts.{extents_of}
use Rattle.extent_map.proofs.EntriesAreExtents.{ascending, taken_among, out_among}
use Rattle.extent_map.proofs.map.ExtentMap.take.Goals as goal

pub returns-in_err-e-clause-place : goal.returns-in_err-e-clause-place
returns-in_err-e-clause-place c =
    let None : MapState → Type 0 = λ m. HasNoFit m.pages m.out c.args.pages in
    rw c.from_residual.ensures (subst None c.self.view_is (c.in_err-e.ensures.place (extents_of 0 c.self.inside.starts.items) c.self.invariant.0))

pub invariant_of-self-2 : goal.invariant_of-self-2
invariant_of-self-2 c =
    let was = extents_of 0 c.self.inside.starts.items in
    let now = extents_of 0 (slice_set c.self.inside.starts.items c.in_ok-e.e.first c.args.pages) in
    let fits = c.in_ok-e.ensures.place was c.self.invariant.0 in
    let among =
    taken_among c.self.inside.starts.items c.self.inside.free.pages c.args.pages c.in_ok-e.e c.self.invariant.2
    c.requires.at_least_one c.in_ok-e.ensures.size fits.0 in (
      out_among c.take.new.self was now c.in_ok-e.e among (c.in_ok-e.ensures.out was c.self.invariant.0),
      ascending 0 (slice_set c.self.inside.starts.items c.in_ok-e.e.first c.args.pages),
      omega (arith, length-set c.self.inside.starts.items c.in_ok-e.e.first c.args.pages, c.self.invariant.2, c.in_ok-e.ensures.pages),
    )

pub returns-clause-place : goal.returns-clause-place
returns-clause-place c =
    let First : MapState → Type 0 = λ m. IsFirstFit m.pages m.out c.args.pages c.in_ok-e.e.first in
    subst First c.self.view_is (c.in_ok-e.ensures.place (extents_of 0 c.self.inside.starts.items) c.self.invariant.0)

pub returns-clause-out : goal.returns-clause-out
returns-clause-out c =
    let was = extents_of 0 c.self.inside.starts.items in
    let now = extents_of 0 (slice_set c.self.inside.starts.items c.in_ok-e.e.first c.args.pages) in
    let fits = c.in_ok-e.ensures.place was c.self.invariant.0 in
    let Among : MapState → Type 0 = λ m. IsAmong m.out c.in_ok-e.e now in
    subst Among c.self.view_is
    (taken_among c.self.inside.starts.items c.self.inside.free.pages c.args.pages c.in_ok-e.e c.self.invariant.2
    c.requires.at_least_one c.in_ok-e.ensures.size fits.0)

pub returns-clause-sound : goal.returns-clause-sound
returns-clause-sound c =
    let was = extents_of 0 c.self.inside.starts.items in
    let now = extents_of 0 (slice_set c.self.inside.starts.items c.in_ok-e.e.first c.args.pages) in
    let fits = c.in_ok-e.ensures.place was c.self.invariant.0 in
    let among =
    taken_among c.self.inside.starts.items c.self.inside.free.pages c.args.pages c.in_ok-e.e c.self.invariant.2
    c.requires.at_least_one c.in_ok-e.ensures.size fits.0 in
    let is = out_among c.take.new.self was now c.in_ok-e.e among (c.in_ok-e.ensures.out was c.self.invariant.0) in
    (is.placed, ascending 0 (slice_set c.self.inside.starts.items c.in_ok-e.e.first c.args.pages), is.count)
