-- Where the frames of all leaders are settled, there is a least typing: that of all places, unrolled one after the other.
use Rattle.std.proofs.Common.{◌≡◌, ℕ, zero, suc, ◌<◌, ◌≤◌, inl, inr, Bool, true, false, not, List, [], ◌∷◌, ◌++◌, length, Option, Some, None, refl, ap, ◌∙◌, arith}
use Rattle.std.specs.Prelude.{slice_get}
use Rattle.std.proofs.Math.ListN.{get_or}
use Rattle.std.proofs.lemmas.List.{length_push}
use Rattle.std.proofs.lemmas.Option.{slice_get-get_or}
use Rattle.list_lemmas.proofs.ItemsByPlace.{item_there}
use Rattle.jk_model.specs.declared.instructions.Instr.{Instr}
use Rattle.jk_model_classes.specs.Classes.{AreOrdered}
use Rattle.jk_model_typing.specs.declared.frames.FrameType.{FrameType}
use Rattle.jk_model_typing.specs.Rows.{Row}
use Rattle.jk_model_typing.specs.Typing.{FitsAt, IsStart, leaves_line}
use Rattle.touched_locals.specs.TypingsIn.{IsLeastTypingIn}
use Rattle.type_verifier.specs.declared.tasks.Task.{Task}
use Rattle.type_verifier.specs.Leaders.{Leads}
use Rattle.type_verifier.specs.Progress.{AreFrames}
use Rattle.type_verifier.specs.Settling.{AreSettled}
use Rattle.type_verifier.specs.Tasks.{IsTask, scope_in}
use Rattle.type_verifier.specs.Unrolling.{Leaves, MayBegin}
use Rattle.type_verifier.proofs.LinesStand.{stands_begins}
use Rattle.type_verifier.proofs.UnrolledIsTyping.{unrolled_least}
use Rattle.type_verifier.proofs.UnrolledSoFar.{IsUnrolled, leads_or_not, stands_at, unrolled_at, unrolled_none}

module _ (task : Task) (frames : List (Option FrameType)) (t : IsTask task) (are : AreFrames task frames)
    (settled : AreSettled (scope_in task) task.leads.items frames []) (ordered : AreOrdered (scope_in task).classes) where
  -- what a place begins with
  record Begins (place : ℕ) (line : Option FrameType) : Type 0 where
    frame : Option FrameType
    leader : Leads task.leads.items place → slice_get frames place ≡ Some frame
    other : (Leads task.leads.items place → ⊥) → frame ≡ line

  begins : (place : ℕ) (line : Option FrameType) → place < length (scope_in task).code.instrs → Begins place line
  begins place line within = elim (leads_or_not task.leads.items place) [
    | inl leads ↦ record {
      frame = get_or frames place None;
      leader = λ h. slice_get-get_or frames place None (omega (arith, are.as_many));
      other = λ none. absurd (none leads);
    }
    | inr none ↦ record { frame = line; leader = λ leads. absurd (none leads); other = λ h. refl }
  ]

  by_line : (place : ℕ) (i : Instr) (f after : FrameType) (b : Bool) → leaves_line i.op ≡ b → Row (scope_in task) place i f after
      → (left : Option FrameType) × Leaves (scope_in task) place i (Some f) left
  by_line place i f after true e row = (None, inl (e, refl))
  by_line place i f after false e row = (Some after, inr (ap not e, (after, refl, row)))

  left_after : (place : ℕ) (i : Instr) (frame : Option FrameType) → MayBegin (scope_in task) place i frame
      → (left : Option FrameType) × Leaves (scope_in task) place i frame left
  left_after place i None may = (None, refl)
  left_after place i (Some f) may =
      let (after, row) = may.steps f refl in
      by_line place i f after (leaves_line i.op) refl row

  -- the first places
  record Unrolled (many : ℕ) : Type 0 where
    typed : List (Option FrameType)
    line : Option FrameType
    so : IsUnrolled task frames typed line
    long : length typed ≡ many

  one_more : (many : ℕ) → many < length (scope_in task).code.instrs → Unrolled many → Unrolled (suc many)
  one_more many within u =
      let (i, at) = item_there (scope_in task).code.instrs many within in
      let b = begins many u.line within in
      let stands = stands_at task frames t are settled u.typed u.line b.frame many u.so u.long b.leader b.other in
      let (left, leaves) = left_after many i b.frame (stands_begins task frames many i b.frame at stands) in
      record {
        typed = u.typed ++ b.frame ∷ [];
        line = left;
        so = unrolled_at task frames t are settled u.typed u.line b.frame many u.so u.long b.leader b.other ordered (u.typed ++ b.frame ∷ []) left i refl
            at leaves;
        long = length_push u.typed b.frame ∙ omega (arith, u.long);
      }

  unrolled_to : (many : ℕ) → many ≤ length (scope_in task).code.instrs → Unrolled many
  unrolled_to zero within = record { typed = []; line = None; so = unrolled_none task frames; long = refl }
  unrolled_to (suc many) within = one_more many (omega arith) (unrolled_to many (omega arith))

  pub least_there : ((f : FrameType) × IsStart (scope_in task) f × FitsAt (scope_in task) frames 0 f)
      → (typed : List (Option FrameType)) × IsLeastTypingIn (scope_in task) typed
  least_there (f, start, first) =
      let u = unrolled_to (length (scope_in task).code.instrs) (omega arith) in
      (u.typed, unrolled_least task frames u.typed u.line t are u.so u.long f start first)
