-- The entry with a number that stands at a node, and its handler once locals were handed to those of the entries in front.
use Rattle.std.proofs.Common.{◌≡◌, ℕ, ◌+◌, ◌<◌, ◌≤◌, Bool, List, length, Contains, Option, Some, slice_get, get_or, refl, sym, ap, subst, ◌∙◌, inl, inr, arith}
use Rattle.std.proofs.lemmas.Bool.{cases_lt}
use Rattle.std.proofs.lemmas.List.{get_or_default}
use Rattle.std.proofs.lemmas.List.Elements.{Contains-get_or}
use Rattle.std.proofs.lemmas.Option.{same_Some, slice_get_within, slice_get_read, get_or_from_slice_get}
use Rattle.jk_model_classes.specs.declared.records.Caught.{Caught}
use Rattle.jk_model_classes.specs.Classes.{AreOrdered}
use Rattle.jk_model_typing.specs.declared.frames.VType.{VType}
use Rattle.jk_model_typing.specs.declared.frames.FrameType.{FrameType}
use Rattle.jk_model_typing.specs.Typing.{FitsAt, handler_frame, Covers as CoversPlace}
use Rattle.handler_cover.specs.Covering.{node_over, entries_at}
use Rattle.type_verifier.specs.declared.tasks.Task.{Task}
use Rattle.type_verifier.specs.Progress.{Moves, Notes}
use Rattle.type_verifier.specs.Tasks.{IsTask, scope_in}
use Rattle.type_verifier.proofs.MovesCompose.{FitsAt-moves}

pub record IsEntry (task : Task) (level node x : ℕ) (h : Caught) : Type 0 where
  pub here : Contains (entries_at task.tree level node) x
  pub at : slice_get (scope_in task).code.handlers x ≡ Some h
  pub among : Contains (scope_in task).code.handlers h
  pub covers : (place : ℕ) → node_over level place ≡ node → CoversPlace h place

-- the entry with a number of a node
pub entry-at : (task : Task) → IsTask task → (level node x : ℕ) (h : Caught) → Contains (entries_at task.tree level node) x
    → slice_get (scope_in task).code.handlers x ≡ Some h → IsEntry task level node x h
entry-at task is level node x h here at =
    let (known, known_at, covers) = is.tree.right level node x here in
    let same : known ≡ h = same_Some known h (sym known_at ∙ at) in
    record {
      here = here;
      at = at;
      among = (x, slice_get_within (scope_in task).code.handlers x h at, get_or_from_slice_get (scope_in task).code.handlers x h h at);
      covers = λ place over. subst (λ (y : Caught). CoversPlace y place) same (covers place over);
    }

-- that of the number at a place of the node's list
pub entry-in_turn : (task : Task) → IsTask task → (level node k : ℕ) (xs : List ℕ) (h : Caught) → xs ≡ entries_at task.tree level node
    → k < length xs → get_or xs k 0 < length (scope_in task).code.handlers → h ≡ get_or (scope_in task).code.handlers (get_or xs k 0) h
    → IsEntry task level node (get_or xs k 0) h
entry-in_turn task is level node k xs h entries within low read =
    entry-at task is level node (get_or xs k 0) h (subst (λ (l : List ℕ). Contains l (get_or xs k 0)) entries (Contains-get_or xs k 0 within))
    (slice_get_read (scope_in task).code.handlers (length (scope_in task).code.handlers) (get_or xs k 0) h refl low read)

-- each number of a node is an entry's
pub entry-within : (task : Task) → IsTask task → (level node k : ℕ) (xs : List ℕ) → xs ≡ entries_at task.tree level node
    → k < length xs → get_or xs k 0 < length (scope_in task).code.handlers
entry-within task is level node k xs entries within =
    let here = subst (λ (l : List ℕ). Contains l (get_or xs k 0)) entries (Contains-get_or xs k 0 within) in
    let (h, at, covers) = is.tree.right level node (get_or xs k 0) here in
    slice_get_within (scope_in task).code.handlers (get_or xs k 0) h at

module _ (task : Task) (ordered : AreOrdered (scope_in task).classes) (xs : List ℕ) (locals : List VType) (fresh : Bool) where
  -- the handlers of the entries so far have frames that the locals fit
  abbrev pub AreHandedTo : List (Option FrameType) → ℕ → Type 0
  AreHandedTo frames n = (k : ℕ) (h : Caught) → k < n → slice_get (scope_in task).code.handlers (get_or xs k 0) ≡ Some h
      → FitsAt (scope_in task) frames h.handler (handler_frame (scope_in task) h locals fresh)

  pub AreHandedTo-more : (old : List (Option FrameType)) (old_work : Notes) (new : List (Option FrameType)) (new_work : Notes)
      (n : ℕ) (h : Caught) → AreHandedTo old n → Moves (scope_in task) old old_work new new_work
      → slice_get (scope_in task).code.handlers (get_or xs n 0) ≡ Some h
      → FitsAt (scope_in task) new h.handler (handler_frame (scope_in task) h locals fresh) → AreHandedTo new (n + 1)
  AreHandedTo-more old old_work new new_work n h before moves at fits k other low other_at = elim (cases_lt k n) [
    | inl lower ↦
        FitsAt-moves (scope_in task) ordered old old_work new new_work other.handler (handler_frame (scope_in task) other locals fresh) moves
        (before k other lower other_at)
    | inr upper ↦
        let last : k ≡ n = omega arith in
        let here = ap (λ (i : ℕ). slice_get (scope_in task).code.handlers (get_or xs i 0)) (sym last) in
        let one : h ≡ other = same_Some h other (sym at ∙ here ∙ other_at) in
        subst (λ (y : Caught). FitsAt (scope_in task) new y.handler (handler_frame (scope_in task) y locals fresh)) one fits
  ]

  pub AreHandedTo-all : (frames : List (Option FrameType)) (n : ℕ) → AreHandedTo frames n → length xs ≤ n → (x : ℕ) (h : Caught)
      → Contains xs x → slice_get (scope_in task).code.handlers x ≡ Some h
      → FitsAt (scope_in task) frames h.handler (handler_frame (scope_in task) h locals fresh)
  AreHandedTo-all frames n all past x h (k, within, is) at =
      all k h (omega arith) (ap (slice_get (scope_in task).code.handlers) (get_or_default xs k 0 x within ∙ is) ∙ at)
