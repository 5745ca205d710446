-- Joining a frame into that of a place.
use Rattle.std.proofs.Common.{◌≡◌, Some, set, slice_get, subst}
use Rattle.std.specs.Option.{IfSome, IfNone}
use Rattle.jk_model_typing.specs.Typing.{FitsAt}
use Rattle.type_frames.specs.FrameViews.{seen}
use Rattle.type_verifier.specs.Progress.{AreFrames, notes_of}
use Rattle.type_verifier.specs.Rises.{CannotRise, RisesTo}
use Rattle.type_verifier.specs.Tasks.{scope_in}
use Rattle.type_verifier.proofs.FramesRise as rise
use Rattle.type_verifier.proofs.progress.raise_at.Goals as goal
use Rattle.type_verifier.proofs.progress.raise_at.Goals.{In-Some}

-- the place has what was raised there
at_place : (c : In-Some) → slice_get c.args.progress.now.frames.items c.args.place ≡ Some c.index_mut-slot.result.now
at_place c =
    rise.place-read c.args.task.now c.ordered.ensures.ordered c.args.progress.now.frames.items c.args.place (seen c.args.from)
    c.requires.frames c.requires.sized c.requires.leader c.requires.below c.requires.task c.index_mut-slot.result.now c.index_mut-slot.ensures.value

rises : (c : In-Some) → RisesTo (scope_in c.args.task.now).classes c.index_mut-slot.result.now (seen c.args.from) c.in-Some.rose c.raise_slot.new.slot
rises c =
    let RisesBy = λ (rose : _). RisesTo (scope_in c.args.task.now).classes c.index_mut-slot.result.now (seen c.args.from) rose c.raise_slot.new.slot in
    let all : IfSome c.in_ok-rise.rise RisesBy = c.in_ok-rise.ensures.rises in
    subst (λ o. IfSome o RisesBy) c.in-Some.is all

frames_after : (c : In-Some) → AreFrames c.args.task.now (set c.args.progress.now.frames.items c.args.place c.raise_slot.new.slot)
frames_after c =
    rise.raised-frames c.args.task.now c.ordered.ensures.ordered c.args.progress.now.frames.items c.args.place (seen c.args.from)
    c.requires.frames c.requires.sized c.requires.leader c.requires.below c.index_mut-slot.result.now c.in-Some.rose c.raise_slot.new.slot
    (at_place c) (rises c)

fits_after : (c : In-Some) → FitsAt (scope_in c.args.task.now) (set c.args.progress.now.frames.items c.args.place c.raise_slot.new.slot)
    c.args.place (seen c.args.from)
fits_after c =
    rise.raised-fits c.args.task.now c.ordered.ensures.ordered c.args.progress.now.frames.items c.args.place (seen c.args.from)
    c.requires.frames c.requires.sized c.requires.leader c.requires.below c.index_mut-slot.result.now c.in-Some.rose c.raise_slot.new.slot
    (at_place c) (rises c)

pub returns-in_default-clause-none : goal.returns-in_default-clause-none
returns-in_default-clause-none c =
    let Cannot = CannotRise (scope_in c.args.task.now).classes c.index_mut-slot.result.now (seen c.args.from) in
    let none : IfNone c.in_ok-rise.rise Cannot = c.in_ok-rise.ensures.none in
    let cannot = subst (λ o. IfNone o Cannot) c.in_default.is none in
    let at = rise.place-read c.args.task.now c.ordered.ensures.ordered c.args.progress.now.frames.items c.args.place (seen c.args.from)
    c.requires.frames c.requires.sized c.requires.leader c.requires.below c.requires.task c.index_mut-slot.result.now c.index_mut-slot.ensures.value in
    λ fails. rise.cannot-rise c.args.task.now c.ordered.ensures.ordered c.args.progress.now.frames.items c.args.place (seen c.args.from)
    c.requires.frames c.requires.sized c.requires.leader c.requires.below c.index_mut-slot.result.now at cannot

pub returns-in_ok-insert-clause-frames : goal.returns-in_ok-insert-clause-frames
returns-in_ok-insert-clause-frames c = λ h. frames_after (goal.at.returns-in_ok-insert-clause-frames c).In-Some

pub returns-in_ok-insert-clause-moves : goal.returns-in_ok-insert-clause-moves
returns-in_ok-insert-clause-moves c = λ h.
    let some = (goal.at.returns-in_ok-insert-clause-moves c).In-Some in
    rw c.in_ok-insert.ensures.keys
    (rise.raised-moves c.args.task.now c.ordered.ensures.ordered c.args.progress.now.frames.items c.args.place (seen c.args.from)
    c.requires.frames c.requires.sized c.requires.leader c.requires.below c.index_mut-slot.result.now c.in-Some.rose c.raise_slot.new.slot
    (at_place some) (rises some) c.args.progress.now.work.keys c.args.progress.now.rose.items c.note.new.rose.items c.range_at-known.result
    c.rising-looked.result c.risen-range.result c.if-rose.true
    (rw c.as_slice.ensures.value at c.range_at-known.ensures) c.note.ensures
    c.risen-range.ensures.first c.risen-range.ensures.known c.risen-range.ensures.looked
    c.rising-looked.ensures.outside)

pub returns-in_ok-insert-clause-fits : goal.returns-in_ok-insert-clause-fits
returns-in_ok-insert-clause-fits c = λ h. fits_after (goal.at.returns-in_ok-insert-clause-fits c).In-Some

pub returns-else-rose-clause-frames : goal.returns-else-rose-clause-frames
returns-else-rose-clause-frames c = λ h. frames_after (goal.at.returns-else-rose-clause-frames c).In-Some

pub returns-else-rose-clause-moves : goal.returns-else-rose-clause-moves
returns-else-rose-clause-moves c = λ h.
    let some = (goal.at.returns-else-rose-clause-moves c).In-Some in
    rise.stays-moves c.args.task.now c.ordered.ensures.ordered c.args.progress.now.frames.items c.args.place (seen c.args.from)
    c.requires.frames c.requires.sized c.requires.leader c.requires.below c.index_mut-slot.result.now c.in-Some.rose c.raise_slot.new.slot
    (at_place some) (rises some) (notes_of c.args.progress.now) c.if-rose.false

pub returns-else-rose-clause-fits : goal.returns-else-rose-clause-fits
returns-else-rose-clause-fits c = λ h. fits_after (goal.at.returns-else-rose-clause-fits c).In-Some
