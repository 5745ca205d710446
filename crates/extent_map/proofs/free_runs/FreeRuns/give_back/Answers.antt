-- The extent that is out gives the place, the room and the runs of then.
use Rattle.std.proofs.Common.{◌+◌, ◌-◌, ◌∷◌, ◌++◌, refl, sym, subst, arith}
use Rattle.extent_map.specs.RunState.{RunState, IsOut}
use Rattle.extent_map.specs.contracts.free_runs.FreeRuns.{the_view}
use Rattle.extent_map.proofs.RunsHavePages.{ends_at}
use Rattle.extent_map.proofs.GivenBackIsFree.{given, lies, joined_out, joined_runs, put_out, room_out, back_out}
use Rattle.extent_map.proofs.free_runs.FreeRuns.give_back.Goals as goal

pub join_low-joined-requires-clause-end_fits : goal.join_low-joined-requires-clause-end_fits
join_low-joined-requires-clause-end_fits c =
    let Out : RunState → Type 0 = λ m. IsOut m (c.requires.0 ++ c.args.e ∷ c.requires.1) in
    let was : IsOut (the_view c.self.inside) (c.requires.0 ++ c.args.e ∷ c.requires.1) = subst Out (sym c.self.view_is) c.requires.2 in
    let low = lies (the_view c.self.inside) c.requires.0 c.requires.1 c.args.e was in
    omega (arith, low.1)

pub put-requires-clause-fits : goal.put-requires-clause-fits
put-requires-clause-fits c = λ some d.
    let at = c.place_of-at.ensures in
    let old =
    given (the_view c.self.inside) _ _ c.requires.0 c.requires.1 c.args.e c.place_of-at.result c.self.view_is
    c.deref.ensures.value c.requires.2 (at.within, at.low, at.high) in
    let right =
    joined_out (the_view c.self.inside) c.requires.0 c.requires.1 c.args.e c.place_of-at.result
    c.join_low-joined.new.runs.items c.join_low-joined.result c.self.invariant.0 old.was old.place c.join_low-joined.ensures.joined in
    let runs =
    joined_runs (c.self.inside.pages + 1) c.place_of-at.result c.self.inside.free.items c.args.e
    c.join_low-joined.new.runs.items c.join_low-joined.result right in
    omega (arith, ends_at (c.self.inside.pages + 1) c.join_low-joined.new.runs.items (c.place_of-at.result - 1) runs (omega (arith, right.within)) d)

pub put-requires-clause-end_fits : goal.put-requires-clause-end_fits
put-requires-clause-end_fits c =
    let at = c.place_of-at.ensures in
    let old =
    given (the_view c.self.inside) _ _ c.requires.0 c.requires.1 c.args.e c.place_of-at.result c.self.view_is
    c.deref.ensures.value c.requires.2 (at.within, at.low, at.high) in
    let right =
    joined_out (the_view c.self.inside) c.requires.0 c.requires.1 c.args.e c.place_of-at.result
    c.join_low-joined.new.runs.items c.join_low-joined.result c.self.invariant.0 old.was old.place c.join_low-joined.ensures.joined in
    omega (arith, right.between.within)

pub put-requires-clause-room : goal.put-requires-clause-room
put-requires-clause-room c = λ gap.
    let at = c.place_of-at.ensures in
    let old =
    given (the_view c.self.inside) _ _ c.requires.0 c.requires.1 c.args.e c.place_of-at.result c.self.view_is
    c.deref.ensures.value c.requires.2 (at.within, at.low, at.high) in
    let room =
    room_out (the_view c.self.inside) c.requires.0 c.requires.1 c.args.e c.place_of-at.result
    c.join_low-joined.new.runs.items c.join_low-joined.result c.self.invariant.0 old.was old.place c.join_low-joined.ensures.joined gap in
    omega (arith, room, c.self.invariant.1, c.join_low-joined.ensures.capacity)

pub invariant_of-self : goal.invariant_of-self
invariant_of-self c =
    let at = c.place_of-at.ensures in
    let old =
    given (the_view c.self.inside) _ _ c.requires.0 c.requires.1 c.args.e c.place_of-at.result c.self.view_is
    c.deref.ensures.value c.requires.2 (at.within, at.low, at.high) in
    let put =
    put_out (the_view c.self.inside) c.requires.0 c.requires.1 c.args.e c.place_of-at.result
    c.join_low-joined.new.runs.items c.join_low-joined.result c.put.new.runs.items c.self.invariant.0
    old.was old.place c.join_low-joined.ensures.joined c.put.ensures.put in
    (put.sound, omega (arith, c.self.invariant.1, c.join_low-joined.ensures.capacity, c.put.ensures.capacity))

pub returns-clause-out : goal.returns-clause-out
returns-clause-out c = λ front back is.
    let at = c.place_of-at.ensures in
    let old =
    given (the_view c.self.inside) _ _ front back c.args.e c.place_of-at.result c.self.view_is c.deref.ensures.value is (at.within, at.low, at.high) in
    let put =
    put_out (the_view c.self.inside) front back c.args.e c.place_of-at.result c.join_low-joined.new.runs.items
    c.join_low-joined.result c.put.new.runs.items c.self.invariant.0 old.was old.place c.join_low-joined.ensures.joined c.put.ensures.put in
    back_out (the_view c.self.inside)
    (the_view (record { pages = c.self.inside.pages; extents = c.self.inside.extents; free = c.put.new.runs; spare = c.self.inside.spare + 1 }))
    front back c.args.e old.was put refl refl refl
