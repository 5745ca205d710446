-- What each typing has at a place where a frame of ours fits: the instruction may begin with ours too, and what it leaves fits
-- wherever control goes in the typing.
use Rattle.std.proofs.Common.{◌≡◌, ℕ, ◌<◌, inl, inr, pos, ℤ, IsTrue, Bool, List, [], ◌∷◌, length, Contains, Option, Some, None, slice_get, arith}
use Rattle.std.proofs.lemmas.Option.{slice_get_cases, slice_get_within}
use Rattle.std.specs.List.{AllByRecursion}
use Rattle.jk_model.specs.declared.identifiers.ClassId.{ClassId}
use Rattle.jk_model.specs.declared.instructions.Instr.{Instr}
use Rattle.jk_model_classes.specs.declared.records.Caught.{Caught}
use Rattle.jk_model_classes.specs.Classes.{AreOrdered}
use Rattle.jk_model_typing.specs.declared.frames.VType.{VType}
use Rattle.jk_model_typing.specs.declared.frames.FrameType.{FrameType}
use Rattle.jk_model_typing.specs.FrameTypes.{EachFits, FrameFits, IsFrameOf, IsUsable, of_class, throwable}
use Rattle.jk_model_typing.specs.Rows.{Row}
use Rattle.jk_model_typing.specs.Scopes.{CodeScope}
use Rattle.jk_model_typing.specs.Typing.{FrameAt, FitsAt, Covers, GoesOnAt, GoesWell, caught_value, handler_frame, is_store}
use Rattle.type_verifier.specs.declared.tasks.Task.{Task}
use Rattle.type_verifier.specs.Covers.{AreHanded}
use Rattle.type_verifier.specs.Progress.{AreFrames}
use Rattle.type_verifier.specs.Tasks.{IsTask, TypesTask, scope_in}
use Rattle.type_frames.proofs.OrderOfFrames.{EachFits-refl}
use Rattle.type_rows.proofs.RowsAreMonotone.{row-monotone, row-fits}
use Rattle.type_verifier.proofs.MovesCompose.{FitsAt-below}

-- ---- Handlers.

usable : (s : CodeScope) (class : Option ClassId)
    → AllByRecursion IsUsable ((elim class as (λ _. VType) [ Some c ↦ of_class s.classes c | None ↦ throwable ]) ∷ [])
usable s (Some c) = (tt, tt)
usable s None = (tt, tt)

caught-usable : (s : CodeScope) (h : Caught) → AllByRecursion IsUsable (caught_value s h ∷ [])
caught-usable s h = usable s h.class

-- a place that has a frame is one
pub frame-within : (task : Task) (frames : List (Option FrameType)) (place : ℕ) (f : FrameType) → AreFrames task frames
    → FrameAt frames place f → place < length (scope_in task).code.instrs
frame-within task frames place f are at = omega (arith, slice_get_within frames place (Some f) at, are.as_many)

-- ---- A place of a typing.

-- wherever control goes from an instruction there is a frame that fits
pub record StepsBelow (s : CodeScope) (typing : List (Option FrameType)) (place : ℕ) (i : Instr) (f after : FrameType) : Type 0 where
  pub goes_on : (next : ℤ) → GoesOnAt place i next → (n : ℕ) × (next ≡ pos n) × FitsAt s typing n after
  pub caught_after : (h : Caught) → Contains s.code.handlers h → Covers h place → IsTrue (is_store i.op)
      → FitsAt s typing h.handler (handler_frame s h after.locals f.fresh)

module _ (task : Task) (is : IsTask task) (ordered : AreOrdered (scope_in task).classes) (typing : List (Option FrameType))
    (types : TypesTask task typing) where
  goes-well : (place : ℕ) (i : Instr) (g : FrameType) → slice_get (scope_in task).code.instrs place ≡ Some i → FrameAt typing place g
      → GoesWell (scope_in task) typing place i g
  goes-well = types.each

  pub typing-as_many : length typing ≡ length (scope_in task).code.instrs
  typing-as_many = types.as_many

  -- a place that has a frame is one
  pub fits-within : (place : ℕ) (f : FrameType) → FitsAt (scope_in task) typing place f → place < length task.leads.items
  fits-within place f h =
      omega (arith, slice_get_within typing place (Some h.0) h.1, typing-as_many, is.leaders.as_many)

  pub may-begin : (place : ℕ) (i : Instr) (f : FrameType) → slice_get (scope_in task).code.instrs place ≡ Some i
      → IsFrameOf (scope_in task).code f → FitsAt (scope_in task) typing place f
      → (after : FrameType) × Row (scope_in task) place i f after
  may-begin place i f at sized below =
      let well = goes-well place i below.0 at below.1 in
      let ours = row-monotone (scope_in task) ordered place i f below.0 well.after below.2 sized well.row in
      (ours.0, ours.1)

  -- handlers are given what is above
  handler-below : (h : Caught) (locals above : List VType) (fresh fresh_above : Bool) → EachFits (scope_in task).classes locals above
      → (IsTrue fresh → IsTrue fresh_above) → FitsAt (scope_in task) typing h.handler (handler_frame (scope_in task) h above fresh_above)
      → FitsAt (scope_in task) typing h.handler (handler_frame (scope_in task) h locals fresh)
  handler-below h locals above fresh fresh_above fits flag at =
      let both : FrameFits (scope_in task).classes (handler_frame (scope_in task) h locals fresh) (handler_frame (scope_in task) h above fresh_above) =
      record {
        locals = fits;
        stack = EachFits-refl (scope_in task).classes (caught_value (scope_in task) h ∷ []);
        usable = caught-usable (scope_in task) h;
        fresh = flag;
      } in
      FitsAt-below (scope_in task) ordered typing h.handler _ _ both at

  pub caught-below : (place : ℕ) (i : Instr) (f : FrameType) → slice_get (scope_in task).code.instrs place ≡ Some i
      → FitsAt (scope_in task) typing place f → (h : Caught) → Contains (scope_in task).code.handlers h → Covers h place
      → FitsAt (scope_in task) typing h.handler (handler_frame (scope_in task) h f.locals f.fresh)
  caught-below place i f at below h has covers =
      let well = goes-well place i below.0 at below.1 in
      handler-below h f.locals below.0.locals f.fresh below.0.fresh below.2.locals below.2.fresh (well.caught h has covers)

  pub handed-below : (place : ℕ) (f : FrameType) → FitsAt (scope_in task) typing place f
      → AreHanded (scope_in task) typing place f.locals f.fresh
  handed-below place f below =
      let within = fits-within place f below in
      elim ((slice_get_cases (scope_in task).code.instrs place).1) [
        | inl (i, inside, at, is) ↦ caught-below place i f at below
        | inr (past, none) ↦ let many = is.leaders.as_many in absurd (omega arith)
      ]

  pub steps-below : (place : ℕ) (i : Instr) (f after : FrameType) → slice_get (scope_in task).code.instrs place ≡ Some i
      → IsFrameOf (scope_in task).code f → FitsAt (scope_in task) typing place f → Row (scope_in task) place i f after
      → StepsBelow (scope_in task) typing place i f after
  steps-below place i f after at sized below row =
      let well = goes-well place i below.0 at below.1 in
      let fits : FrameFits (scope_in task).classes after well.after =
      row-fits (scope_in task) ordered place i f below.0 after well.after below.2 sized row well.row in
      record {
        goes_on = λ next goes.
            let to = well.goes_on next goes in
            (to.0, to.1, FitsAt-below (scope_in task) ordered typing to.0 after well.after fits to.2);
        caught_after = λ h has covers store.
            handler-below h after.locals well.after.locals f.fresh below.0.fresh fits.locals below.2.fresh (well.caught_after h has covers store);
      }
