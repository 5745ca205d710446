-- A leader's frame stands, and so does what a line leaves at a place that is no leader.
use Rattle.std.proofs.Common.{◌≡◌, ℕ, suc, ◌+◌, ◌⊎◌, inl, inr, Bool, true, false, not, IsTrue, pos, List, [], Option, Some, None, Contains, refl, sym, ap, ◌∙◌, subst, arith}
use Rattle.std.specs.Prelude.{slice_get}
use Rattle.std.proofs.lemmas.Option.{same_Some, none-some}
use Rattle.jk_model.specs.declared.instructions.Instr.{Instr}
use Rattle.jk_model_classes.specs.Classes.{AreOrdered}
use Rattle.jk_model_typing.specs.declared.frames.FrameType.{FrameType}
use Rattle.jk_model_typing.specs.FrameTypes.{IsFrameOf}
use Rattle.jk_model_typing.specs.Rows.{Row}
use Rattle.jk_model_typing.specs.Scopes.{CodeScope}
use Rattle.jk_model_typing.specs.Typing.{FitsAt, FrameAt, leaves_line}
use Rattle.type_frames.proofs.OrderOfFrames.{FrameFits-trans}
use Rattle.type_rows.proofs.RowsAreDetermined.{row-determined}
use Rattle.type_rows.proofs.RowsAreMonotone.{row-fits}
use Rattle.type_verifier.specs.declared.tasks.Task.{Task}
use Rattle.type_verifier.specs.Leaders.{Leads}
use Rattle.type_verifier.specs.Progress.{AreFrames}
use Rattle.type_verifier.specs.Settling.{AreSettled, Settles, StepsWell, ends, joins, goes_on}
use Rattle.type_verifier.specs.Tasks.{IsTask, TypesTask, scope_in}
use Rattle.type_verifier.specs.Unrolling.{Leaves, MayBegin}

-- ---- A frame that is settled.

-- the step that a settled frame makes
pub record Steps (s : CodeScope) (frames : List (Option FrameType)) (place : ℕ) (f : FrameType) : Type 0 where
  pub i : Instr
  pub after : FrameType
  pub well : StepsWell s frames place i f after

unfoldable pub steps_of : (s : CodeScope) (leads : List Bool) (frames : List (Option FrameType)) (place : ℕ) (f : FrameType) → Settles s leads frames place f
    → Steps s frames place f
steps_of s leads frames place f (ends _ i _ after well leaves) = record { i = i; after = after; well = well }
steps_of s leads frames place f (joins _ i _ after well fits) = record { i = i; after = after; well = well }
steps_of s leads frames place f (goes_on _ i _ after well other on) = record { i = i; after = after; well = well }

pub settled_steps : (s : CodeScope) (leads : List Bool) (frames : List (Option FrameType)) (place : ℕ) (i : Instr) (f : FrameType)
    → slice_get s.code.instrs place ≡ Some i → Settles s leads frames place f → (after : FrameType) × Row s place i f after
settled_steps s leads frames place i f at settled =
    let steps = steps_of s leads frames place f settled in
    let P : Instr → Type 0 = λ j. Row s place j f steps.after in
    (steps.after, subst P (same_Some steps.i i (sym steps.well.instr ∙ at)) steps.well.row)

pub not_both : (b : Bool) → IsTrue b → IsTrue (not b) → ⊥
not_both true t n = cc
not_both false t n = cc

module _ (s : CodeScope) (leads : List Bool) (frames : List (Option FrameType)) (place : ℕ) (i : Instr) (f g : FrameType)
    (at : slice_get s.code.instrs place ≡ Some i) (row : Row s place i f g) where
  same_instr : (j : Instr) (after : FrameType) → StepsWell s frames place j f after → i ≡ j
  same_instr j after well = same_Some i j (sym at ∙ well.instr)

  same_after : (j : Instr) (after : FrameType) → StepsWell s frames place j f after → after ≡ g
  same_after j after well =
      let P : Instr → Type 0 = λ k. Row s place k f after in
      row-determined s place i f after g (subst P (sym (same_instr j after well)) well.row) row

  -- where the line goes on at a place that is no leader, what it leaves is settled there
  pub settled_on : ((h : FrameType) → FrameAt frames (suc place) h → Leads leads (suc place)) → (Leads leads (suc place) → ⊥)
      → IsTrue (not (leaves_line i.op)) → Settles s leads frames place f → Settles s leads frames (suc place) g
  settled_on at_leaders other goes (ends _ j _ after well leaves) =
      let P : Instr → Type 0 = λ k. IsTrue (leaves_line k.op) in
      absurd (not_both (leaves_line i.op) (subst P (sym (same_instr j after well)) leaves) goes)
  settled_on at_leaders other goes (joins _ j _ after well fits) = absurd (other (at_leaders fits.0 fits.1))
  settled_on at_leaders other goes (goes_on _ j _ after well none on) =
      let P : FrameType → Type 0 = λ h. Settles s leads frames (suc place) h in
      subst P (same_after j after well) on

-- ---- What stands at a place.

-- a frame at a place fits the code and is settled, and fits what each typing has there
pub record Stands (task : Task) (frames : List (Option FrameType)) (place : ℕ) (frame : Option FrameType) : Type 0 where
  pub sized : (f : FrameType) → frame ≡ Some f → IsFrameOf (scope_in task).code f
  pub settled : (f : FrameType) → frame ≡ Some f → Settles (scope_in task) task.leads.items frames place f
  pub below : (typing : List (Option FrameType)) (f : FrameType) → TypesTask task typing → frame ≡ Some f
      → FitsAt (scope_in task) typing place f

pub nothing_stands : (task : Task) (frames : List (Option FrameType)) (place : ℕ) → Stands task frames place None
nothing_stands task frames place = record {
  sized = λ f e. absurd (none-some f e);
  settled = λ f e. absurd (none-some f e);
  below = λ typing f types e. absurd (none-some f e);
}

-- the instruction there may begin with it
pub stands_begins : (task : Task) (frames : List (Option FrameType)) (place : ℕ) (i : Instr) (frame : Option FrameType)
    → slice_get (scope_in task).code.instrs place ≡ Some i → Stands task frames place frame → MayBegin (scope_in task) place i frame
stands_begins task frames place i frame at so = record {
  sized = so.sized;
  steps = λ f e. settled_steps (scope_in task) task.leads.items frames place i f at (so.settled f e);
}

same_pos : (m n : ℕ) → pos m ≡ pos n → m ≡ n
same_pos m n e = cc

module _ (task : Task) (frames : List (Option FrameType)) (t : IsTask task) (are : AreFrames task frames) where
  pub stands_leader : AreSettled (scope_in task) task.leads.items frames [] → (place : ℕ) (frame : Option FrameType)
      → slice_get frames place ≡ Some frame → Stands task frames place frame
  stands_leader settled place frame at = record {
    sized = λ f e. are.sized place f (at ∙ ap Some e);
    settled = λ f e. by_nothing f (settled place f (at ∙ ap Some e));
    below = λ typing f types e. are.below typing types place f (at ∙ ap Some e);
  }
    where
      by_nothing : (f : FrameType) → Contains [] place ⊎ Settles (scope_in task) task.leads.items frames place f
          → Settles (scope_in task) task.leads.items frames place f
      by_nothing f (inl has) = absurd (omega (arith, has.1))
      by_nothing f (inr h) = h

  module _ (ordered : AreOrdered (scope_in task).classes) (place : ℕ) (i : Instr) (f g : FrameType)
      (at : slice_get (scope_in task).code.instrs place ≡ Some i) (row : Row (scope_in task) place i f g)
      (goes : IsTrue (not (leaves_line i.op))) where
    -- a typing goes on from what a frame below its own leaves
    below_on : (typing : List (Option FrameType)) → TypesTask task typing → IsFrameOf (scope_in task).code f → FitsAt (scope_in task) typing place f
        → FitsAt (scope_in task) typing (suc place) g
    below_on typing types sized (h, h_at, fits) =
        let s = scope_in task in
        let well = types.each place i h at h_at in
        let (n, e, (k, k_at, k_fits)) = well.goes_on (pos (place + 1)) (inl (goes, refl)) in
        let left = row-fits s ordered place i f h g well.after fits sized row well.row in
        let here : n ≡ suc place = omega (arith, same_pos (place + 1) n e) in
        let Q : ℕ → Type 0 = λ m. FrameAt typing m k in
        (k, subst Q here k_at, FrameFits-trans s.classes ordered g well.after k left k_fits)

    pub stands_on : (Leads task.leads.items (suc place) → ⊥) → Stands task frames place (Some f) → Stands task frames (suc place) (Some g)
    stands_on other so =
        let s = scope_in task in
        let sized : (h : FrameType) → Some g ≡ Some h → IsFrameOf s.code h = λ h e. subst (λ (x : FrameType). IsFrameOf s.code x) (same_Some g h e) row.room in
        let settled : Settles s task.leads.items frames (suc place) g =
        settled_on s task.leads.items frames place i f g at row (λ h h_at. are.leaders (suc place) h h_at) other goes (so.settled f refl) in
        record {
          sized = sized;
          settled = λ h e. subst (λ (x : FrameType). Settles s task.leads.items frames (suc place) x) (same_Some g h e) settled;
          below = λ typing h types e.
              subst (λ (x : FrameType). FitsAt s typing (suc place) x) (same_Some g h e)
              (below_on typing types (so.sized f refl) (so.below typing f types refl));
        }

  -- what a line leaves at a place that is no leader
  pub stands_left : AreOrdered (scope_in task).classes → (place : ℕ) (i : Instr) (frame left : Option FrameType)
      → slice_get (scope_in task).code.instrs place ≡ Some i → (Leads task.leads.items (suc place) → ⊥) → Leaves (scope_in task) place i frame left
      → Stands task frames place frame → Stands task frames (suc place) left
  stands_left ordered place i None left at other leaves so =
      let P : Option FrameType → Type 0 = λ x. Stands task frames (suc place) x in
      subst P (sym leaves) (nothing_stands task frames (suc place))
  stands_left ordered place i (Some f) left at other (inl (stops, e)) so =
      let P : Option FrameType → Type 0 = λ x. Stands task frames (suc place) x in
      subst P (sym e) (nothing_stands task frames (suc place))
  stands_left ordered place i (Some f) left at other (inr (goes, (g, e, row))) so =
      let P : Option FrameType → Type 0 = λ x. Stands task frames (suc place) x in
      subst P (sym e) (stands_on ordered place i f g at row goes other so)
