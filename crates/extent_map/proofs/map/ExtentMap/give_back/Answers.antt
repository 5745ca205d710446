-- The entry where the extent begins is its size, and then 0.
use Rattle.std.proofs.Common.{sym, subst, slice_set, arith, length-set}
use Rattle.std.specs.List.{Contains}
use Rattle.extent_map.specs.MapState.{MapState, IsAmong}
use Rattle.extent_map.specs.Starts.{extents_of}
use Rattle.extent_map.proofs.EntriesAreExtents.{ascending, given_out, out_split, out_given}
use Rattle.extent_map.proofs.map.ExtentMap.give_back.Goals as goal

pub give_back-requires : goal.give_back-requires
give_back-requires c =
    let In : MapState → Type 0 = λ m. Contains m.out c.args.e in
    let among = given_out c.self.inside.starts.items c.args.e (subst In (sym c.self.view_is) c.requires) in
    (among.0, among.1, out_split c.self.inside.free _ _ c.args.e among c.self.invariant.0)

pub invariant_of-self : goal.invariant_of-self
invariant_of-self c =
    let In : MapState → Type 0 = λ m. Contains m.out c.args.e in
    let among = given_out c.self.inside.starts.items c.args.e (subst In (sym c.self.view_is) c.requires) in (
      out_given c.self.inside.free c.give_back.new.self _ _ c.args.e among c.self.invariant.0 c.give_back.ensures.out,
      ascending 0 (slice_set c.self.inside.starts.items c.args.e.first 0),
      omega (arith, length-set c.self.inside.starts.items c.args.e.first 0, c.self.invariant.2, c.give_back.ensures.pages),
    )

pub returns-clause-out : goal.returns-clause-out
returns-clause-out c =
    let In : MapState → Type 0 = λ m. Contains m.out c.args.e in
    let others = extents_of 0 (slice_set c.self.inside.starts.items c.args.e.first 0) in
    let Among : MapState → Type 0 = λ m. IsAmong others c.args.e m.out in
    subst Among c.self.view_is (given_out c.self.inside.starts.items c.args.e (subst In (sym c.self.view_is) c.requires))

pub returns-clause-sound : goal.returns-clause-sound
returns-clause-sound c =
    let In : MapState → Type 0 = λ m. Contains m.out c.args.e in
    let among = given_out c.self.inside.starts.items c.args.e (subst In (sym c.self.view_is) c.requires) in
    let is = out_given c.self.inside.free c.give_back.new.self _ _ c.args.e among c.self.invariant.0 c.give_back.ensures.out in
    (is.placed, ascending 0 (slice_set c.self.inside.starts.items c.args.e.first 0), is.count)
