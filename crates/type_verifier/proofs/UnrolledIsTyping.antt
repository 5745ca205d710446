-- The typing that the frames of leaders give, once all places are unrolled: it is one, and the least.
use Rattle.std.proofs.Common.{◌≡◌, ℕ, suc, ◌<◌, inl, inr, not, IsTrue, ℤ, pos, List, length, Option, Some, None, refl, sym, ap, ◌∙◌, subst, arith}
use Rattle.std.specs.Prelude.{slice_get}
use Rattle.std.proofs.lemmas.Option.{same_Some, slice_get-get_or, slice_get_within}
use Rattle.std.proofs.Math.ListN.{get_or}
use Rattle.jk_model.specs.declared.instructions.Instr.{Instr}
use Rattle.jk_model_classes.specs.MemberCode.{LeadsTo}
use Rattle.jk_model_typing.specs.declared.frames.FrameType.{FrameType}
use Rattle.jk_model_typing.specs.FrameTypes.{FrameFits}
use Rattle.jk_model_typing.specs.Rows.{Row}
use Rattle.jk_model_typing.specs.Typing.{FitsAt, FrameAt, GoesOnAt, GoesWell, IsStart, handler_frame, leaves_line}
use Rattle.type_frames.proofs.OrderOfFrames.{FrameFits-refl}
use Rattle.type_rows.proofs.RowsAreDetermined.{row-determined}
use Rattle.touched_locals.specs.TypingsIn.{IsLeastTypingIn, IsTypingIn}
use Rattle.type_verifier.specs.declared.tasks.Task.{Task}
use Rattle.type_verifier.specs.Leaders.{Leads}
use Rattle.type_verifier.specs.Progress.{AreFrames}
use Rattle.type_verifier.specs.Settling.{Settles, StepsWell, ends, joins, goes_on}
use Rattle.type_verifier.specs.Tasks.{IsTask, scope_in}
use Rattle.type_verifier.specs.Unrolling.{Leaves}
use Rattle.type_verifier.proofs.LinesStand.{not_both, steps_of}
use Rattle.type_verifier.proofs.UnrolledSoFar.{IsUnrolled}

module _ (task : Task) (frames typed : List (Option FrameType)) (line : Option FrameType) (t : IsTask task) (are : AreFrames task frames)
    (so : IsUnrolled task frames typed line) (all : length typed ≡ length (scope_in task).code.instrs) where
  -- leaders keep their frames
  fits_typed : (place : ℕ) (f : FrameType) → FitsAt (scope_in task) frames place f → FitsAt (scope_in task) typed place f
  fits_typed place f (g, at, fits) =
      let within : place < length typed = omega (arith, slice_get_within frames place (Some g) at, are.as_many) in
      (g, so.leaders place within (are.leaders place g at) ∙ at, fits)

  -- what a line leaves at a place that is no leader is the frame there
  left_there : (place : ℕ) (i : Instr) (f after : FrameType) → slice_get (scope_in task).code.instrs place ≡ Some i → FrameAt typed place f
      → Row (scope_in task) place i f after → IsTrue (not (leaves_line i.op)) → (Leads task.leads.items (suc place) → ⊥)
      → suc place < length (scope_in task).code.instrs → FitsAt (scope_in task) typed (suc place) after
  left_there place i f after at f_at row goes other within =
      let next = get_or typed (suc place) None in
      let next_at : slice_get typed (suc place) ≡ Some next = slice_get-get_or typed (suc place) None (omega (arith, all)) in
      by_cases next next_at (so.lines place i (Some f) next other at f_at next_at)
    where
      by_cases : (next : Option FrameType) → slice_get typed (suc place) ≡ Some next → Leaves (scope_in task) place i (Some f) next
          → FitsAt (scope_in task) typed (suc place) after
      by_cases next next_at (inl (stops, e)) = absurd (not_both (leaves_line i.op) stops goes)
      by_cases next next_at (inr (on, (g, e, g_row))) =
          let same : g ≡ after = row-determined (scope_in task) place i f g after g_row row in
          let P : FrameType → Type 0 = λ x. FrameFits (scope_in task).classes after x in
          (g, next_at ∙ ap Some e, subst P (sym same) (FrameFits-refl (scope_in task).classes after row.room.usable))

  -- where the line goes on, the next place has a frame that fits
  goes_to_next : (place : ℕ) (i : Instr) (f : FrameType) → slice_get (scope_in task).code.instrs place ≡ Some i → FrameAt typed place f
      → (settled : Settles (scope_in task) task.leads.items frames place f) → IsTrue (not (leaves_line i.op))
      → FitsAt (scope_in task) typed (suc place) (steps_of (scope_in task) task.leads.items frames place f settled).after
  unfolding steps_of
  goes_to_next place i f at f_at (ends _ j _ after well leaves) goes =
      let P : Instr → Type 0 = λ x. IsTrue (leaves_line x.op) in
      absurd (not_both (leaves_line i.op) (subst P (same_Some j i (sym well.instr ∙ at)) leaves) goes)
  goes_to_next place i f at f_at (joins _ j _ after well fits) goes = fits_typed (suc place) after fits
  goes_to_next place i f at f_at (goes_on _ j _ after well other on) goes =
      let P : Instr → Type 0 = λ x. Row (scope_in task) place x f after in
      let row = subst P (same_Some j i (sym well.instr ∙ at)) well.row in
      let next = steps_of (scope_in task) task.leads.items frames (suc place) after on in
      left_there place i f after at f_at row goes other (slice_get_within (scope_in task).code.instrs (suc place) next.i next.well.instr)

  -- wherever control goes, there is a frame that fits
  control : (place : ℕ) (i : Instr) (f after : FrameType) → ((next : ℤ) → LeadsTo i next → (n : ℕ) × (next ≡ pos n) × FitsAt (scope_in task) frames n after)
      → (IsTrue (not (leaves_line i.op)) → FitsAt (scope_in task) typed (suc place) after) → (next : ℤ) → GoesOnAt place i next
      → (n : ℕ) × (next ≡ pos n) × FitsAt (scope_in task) typed n after
  control place i f after jumps on next (inl (goes, e)) = (suc place, e ∙ ap pos (omega arith), on goes)
  control place i f after jumps on next (inr leads) = let (n, e, fits) = jumps next leads in (n, e, fits_typed n after fits)

  goes_well : (place : ℕ) (i : Instr) (f : FrameType) → slice_get (scope_in task).code.instrs place ≡ Some i → FrameAt typed place f
      → GoesWell (scope_in task) typed place i f
  goes_well place i f at f_at =
      let s = scope_in task in
      let settled = (so.stands place (Some f) f_at).settled f refl in
      let steps = steps_of s task.leads.items frames place f settled in
      let W : Instr → Type 0 = λ x. StepsWell s frames place x f steps.after in
      let well = subst W (same_Some steps.i i (sym steps.well.instr ∙ at)) steps.well in
      record {
        after = steps.after;
        row = well.row;
        goes_on = control place i f steps.after well.jumps (goes_to_next place i f at f_at settled);
        caught = λ h has covers. fits_typed h.handler (handler_frame s h f.locals f.fresh) (well.caught h has covers);
        caught_after = λ h has covers store.
            fits_typed h.handler (handler_frame s h steps.after.locals f.fresh) (well.caught_after h has covers store);
      }

  pub unrolled_types : (f : FrameType) → IsStart (scope_in task) f → FitsAt (scope_in task) frames 0 f
      → IsTypingIn (scope_in task) typed
  unrolled_types f start first = record {
    as_many = all;
    sized = λ place g at. (so.stands place (Some g) at).sized g refl;
    start = f;
    start_is = start;
    first = fits_typed 0 f first;
    each = goes_well;
  }

  pub unrolled_least : (f : FrameType) → IsStart (scope_in task) f → FitsAt (scope_in task) frames 0 f
      → IsLeastTypingIn (scope_in task) typed
  unrolled_least f start first = record {
    typing = unrolled_types f start first;
    least = λ other types place g at. (so.stands place (Some g) at).below other g types refl;
  }
