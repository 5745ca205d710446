-- One place more is unrolled.
use Rattle.std.proofs.Common.{◌≡◌, ℕ, zero, suc, ◌<◌, ◌≤◌, ◌⊎◌, inl, inr, Bool, true, false, List, [], ◌∷◌, ◌++◌, length, Option, Some, None, refl, sym, ◌∙◌, subst, arith}
use Rattle.std.specs.Prelude.{slice_get}
use Rattle.std.proofs.lemmas.Bool.{cases_lt}
use Rattle.std.proofs.lemmas.List.{length_push}
use Rattle.std.proofs.lemmas.Option.{same_Some, none-some, slice_get_within}
use Rattle.list_lemmas.proofs.ItemsByPlace.{slice_get-last, old_or_last as front_or_last}
use Rattle.jk_model.specs.declared.instructions.Instr.{Instr}
use Rattle.jk_model_classes.specs.Classes.{AreOrdered}
use Rattle.jk_model_typing.specs.declared.frames.FrameType.{FrameType}
use Rattle.type_verifier.specs.declared.tasks.Task.{Task}
use Rattle.type_verifier.specs.Leaders.{Leads}
use Rattle.type_verifier.specs.Progress.{AreFrames}
use Rattle.type_verifier.specs.Settling.{AreSettled}
use Rattle.type_verifier.specs.Tasks.{IsTask, scope_in}
use Rattle.type_verifier.specs.Unrolling.{Leaves}
use Rattle.type_verifier.proofs.LinesStand.{Stands, nothing_stands, stands_leader, stands_left}
use Rattle.type_verifier.proofs.OnePlaceMore.{slice_get-front}

-- The first places are done: leaders have their own frames, and others what the line before left; and this is what the last
-- of them left.
pub record IsUnrolled (task : Task) (frames typed : List (Option FrameType)) (line : Option FrameType) : Type 0 where
  pub leaders : (place : ℕ) → place < length typed → Leads task.leads.items place → slice_get typed place ≡ slice_get frames place
  pub stands : (place : ℕ) (frame : Option FrameType) → slice_get typed place ≡ Some frame → Stands task frames place frame
  pub lines : (place : ℕ) (i : Instr) (before after : Option FrameType) → (Leads task.leads.items (suc place) → ⊥)
      → slice_get (scope_in task).code.instrs place ≡ Some i → slice_get typed place ≡ Some before → slice_get typed (suc place) ≡ Some after
      → Leaves (scope_in task) place i before after
  pub last : (place : ℕ) (i : Instr) (before : Option FrameType) → suc place ≡ length typed
      → slice_get (scope_in task).code.instrs place ≡ Some i → slice_get typed place ≡ Some before → Leaves (scope_in task) place i before line
  pub next : (Leads task.leads.items (length typed) → ⊥) → Stands task frames (length typed) line

pub leads_or_not : (leads : List Bool) (place : ℕ) → Leads leads place ⊎ (Leads leads place → ⊥)
leads_or_not [] place = inr (λ e. cc)
leads_or_not (true ∷ leads) zero = inl refl
leads_or_not (false ∷ leads) zero = inr (λ e. cc)
leads_or_not (b ∷ leads) (suc place) = leads_or_not leads place

module _ (task : Task) (frames : List (Option FrameType)) where
  pub unrolled_none : IsUnrolled task frames [] None
  unrolled_none = record {
    leaders = λ place within leads. absurd (omega arith);
    stands = λ place frame e. absurd (none-some frame e);
    lines = λ place i before after other at from e. absurd (none-some after e);
    last = λ place i before end. absurd (omega arith);
    next = λ other. nothing_stands task frames 0;
  }

  module _ (t : IsTask task) (are : AreFrames task frames) (settled : AreSettled (scope_in task) task.leads.items frames []) where
    -- what the next place begins with stands there
    pub stands_here : (typed : List (Option FrameType)) (line frame : Option FrameType) → IsUnrolled task frames typed line
        → (Leads task.leads.items (length typed) → slice_get frames (length typed) ≡ Some frame)
        → ((Leads task.leads.items (length typed) → ⊥) → frame ≡ line) → Stands task frames (length typed) frame
    stands_here typed line frame so leader other =
        elim (leads_or_not task.leads.items (length typed)) [
          | inl leads ↦ stands_leader task frames t are settled (length typed) frame (leader leads)
          | inr none ↦
              let P : Option FrameType → Type 0 = λ x. Stands task frames (length typed) x in
              subst P (sym (other none)) (so.next none)
        ]

  module _ (t : IsTask task) (are : AreFrames task frames) (ordered : AreOrdered (scope_in task).classes) (typed : List (Option FrameType))
      (line frame left : Option FrameType) (i : Instr) (so : IsUnrolled task frames typed line)
      (at : slice_get (scope_in task).code.instrs (length typed) ≡ Some i)
      (leader : Leads task.leads.items (length typed) → slice_get frames (length typed) ≡ Some frame)
      (other : (Leads task.leads.items (length typed) → ⊥) → frame ≡ line) (stands : Stands task frames (length typed) frame)
      (leaves : Leaves (scope_in task) (length typed) i frame left) where
    leaders_more : (place : ℕ) → place < length (typed ++ frame ∷ []) → Leads task.leads.items place
        → slice_get (typed ++ frame ∷ []) place ≡ slice_get frames place
    leaders_more place within leads =
        elim (cases_lt place (length typed)) [
          | inl less ↦ slice_get-front typed frame place less ∙ so.leaders place less leads
          | inr least ↦
              let here : length typed ≡ place = omega (arith, length_push typed frame) in
              let P : ℕ → Type 0 = λ n. slice_get (typed ++ frame ∷ []) n ≡ slice_get frames n in
              let Q : ℕ → Type 0 = λ n. Leads task.leads.items n in
              subst P here (slice_get-last typed frame ∙ sym (leader (subst Q (sym here) leads)))
        ]

    stands_more : (place : ℕ) (x : Option FrameType) → slice_get (typed ++ frame ∷ []) place ≡ Some x → Stands task frames place x
    stands_more place x e =
        elim (front_or_last typed frame place x e) [
          | inl (less, old) ↦ so.stands place x old
          | inr (here, same) ↦
              let P : ℕ → Type 0 = λ n. Stands task frames n x in
              let Q : Option FrameType → Type 0 = λ y. Stands task frames (length typed) y in
              subst P (sym here) (subst Q (sym same) stands)
        ]

    lines_more : (place : ℕ) (j : Instr) (before after : Option FrameType) → (Leads task.leads.items (suc place) → ⊥)
        → slice_get (scope_in task).code.instrs place ≡ Some j → slice_get (typed ++ frame ∷ []) place ≡ Some before
        → slice_get (typed ++ frame ∷ []) (suc place) ≡ Some after → Leaves (scope_in task) place j before after
    lines_more place j before after none j_at from e =
        let old : suc place ≤ length typed = omega (arith, length_push typed frame, slice_get_within (typed ++ frame ∷ []) (suc place) after e) in
        let was : slice_get typed place ≡ Some before = sym (slice_get-front typed frame place (omega arith)) ∙ from in
        elim (front_or_last typed frame (suc place) after e) [
          | inl (less, next) ↦ so.lines place j before after none j_at was next
          | inr (here, same) ↦
              let Q : ℕ → Type 0 = λ n. Leads task.leads.items n in
              let one : after ≡ line = same ∙ other (λ leads. none (subst Q (sym here) leads)) in
              let P : Option FrameType → Type 0 = λ x. Leaves (scope_in task) place j before x in
              subst P (sym one) (so.last place j before here j_at was)
        ]

    last_more : (place : ℕ) (j : Instr) (before : Option FrameType) → suc place ≡ length (typed ++ frame ∷ [])
        → slice_get (scope_in task).code.instrs place ≡ Some j → slice_get (typed ++ frame ∷ []) place ≡ Some before
        → Leaves (scope_in task) place j before left
    last_more place j before end j_at from =
        let here : length typed ≡ place = omega (arith, length_push typed frame) in
        let A : ℕ → Type 0 = λ n. slice_get (scope_in task).code.instrs n ≡ Some i in
        let B : ℕ → Type 0 = λ n. slice_get (typed ++ frame ∷ []) n ≡ Some frame in
        let same_instr : i ≡ j = same_Some i j (sym (subst A here at) ∙ j_at) in
        let same_frame : frame ≡ before = same_Some frame before (sym (subst B here (slice_get-last typed frame)) ∙ from) in
        let P : ℕ → Type 0 = λ n. Leaves (scope_in task) n i frame left in
        let Q : Instr → Type 0 = λ x. Leaves (scope_in task) place x frame left in
        let R : Option FrameType → Type 0 = λ x. Leaves (scope_in task) place j x left in
        subst R same_frame (subst Q same_instr (subst P here leaves))

    next_more : (Leads task.leads.items (length (typed ++ frame ∷ [])) → ⊥) → Stands task frames (length (typed ++ frame ∷ [])) left
    next_more none =
        let here : suc (length typed) ≡ length (typed ++ frame ∷ []) = omega (arith, length_push typed frame) in
        let P : ℕ → Type 0 = λ n. Stands task frames n left in
        let Q : ℕ → Type 0 = λ n. Leads task.leads.items n in
        subst P here (stands_left task frames t are ordered (length typed) i frame left at (λ leads. none (subst Q here leads)) leaves stands)

    pub unrolled_more : IsUnrolled task frames (typed ++ frame ∷ []) left
    unrolled_more = record { leaders = leaders_more; stands = stands_more; lines = lines_more; last = last_more; next = next_more }

-- ---- The same where a loop counts its places.

module _ (task : Task) (frames : List (Option FrameType)) (t : IsTask task) (are : AreFrames task frames)
    (settled : AreSettled (scope_in task) task.leads.items frames []) (typed : List (Option FrameType)) (line frame : Option FrameType) (place : ℕ)
    (so : IsUnrolled task frames typed line) (long : length typed ≡ place)
    (leader : Leads task.leads.items place → slice_get frames place ≡ Some frame)
    (other : (Leads task.leads.items place → ⊥) → frame ≡ line) where
  pub stands_at : Stands task frames place frame
  stands_at =
      let P : ℕ → Type 0 = λ n. (Leads task.leads.items n → slice_get frames n ≡ Some frame) → ((Leads task.leads.items n → ⊥) → frame ≡ line)
      → Stands task frames n frame in
      subst P long (stands_here task frames t are settled typed line frame so) leader other

  pub unrolled_at : AreOrdered (scope_in task).classes → (new : List (Option FrameType)) (left : Option FrameType) (i : Instr)
      → new ≡ typed ++ frame ∷ [] → slice_get (scope_in task).code.instrs place ≡ Some i → Leaves (scope_in task) place i frame left
      → IsUnrolled task frames new left
  unrolled_at ordered new left i is at leaves =
      let P : ℕ → Type 0 = λ n. slice_get (scope_in task).code.instrs n ≡ Some i → (Leads task.leads.items n → slice_get frames n ≡ Some frame)
      → ((Leads task.leads.items n → ⊥) → frame ≡ line) → Stands task frames n frame → Leaves (scope_in task) n i frame left
      → IsUnrolled task frames (typed ++ frame ∷ []) left in
      let Q : List (Option FrameType) → Type 0 = λ xs. IsUnrolled task frames xs left in
      subst Q (sym is) (subst P long (unrolled_more task frames t are ordered typed line frame left i so) at leader other stands_at leaves)
