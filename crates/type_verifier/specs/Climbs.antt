-- The way up from a place's node: what holds before the nodes over it from one level on have got the locals of the place.
use Rattle.std.specs.Prelude.{◌≡◌, ℕ, suc, ◌<◌, ◌/◌, ◌⊎◌, Bool, List, length, Contains, Option, Some, None, slice_get, option_and_then}
use Rattle.jk_model_classes.specs.declared.records.Caught.{Caught}
use Rattle.jk_model_typing.specs.declared.frames.VType.{VType}
use Rattle.jk_model_typing.specs.declared.frames.FrameType.{FrameType}
use Rattle.jk_model_typing.specs.FrameTypes.{IsFrameOf}
use Rattle.jk_model_typing.specs.Scopes.{CodeScope}
use Rattle.jk_model_typing.specs.Typing.{FitsAt, Covers as CoversPlace, handler_frame}
use Rattle.handler_cover.specs.Covering.{node_over, entries_at}
use Rattle.type_frames.specs.FrameJoins.{FitOutside}
use Rattle.type_verifier.specs.declared.covers.Handed.{Handed}
use Rattle.type_verifier.specs.declared.covers.Seen.{Seen}
use Rattle.type_verifier.specs.declared.tasks.Task.{Task}
use Rattle.type_verifier.specs.Covers.{Nodes, NodeAt, SeenFits, bare}
use Rattle.type_verifier.specs.Tasks.{scope_in, TypesTask}

abbrev pub AllUnseen : ℕ → List (Option Seen) → Type 0
AllUnseen width row =
    (length row ≡ width) × ((node : ℕ) (c : Seen) → slice_get row node ≡ Some (Some c) → ⊥)

-- where a node has seen nothing, all locals may have changed
abbrev pub IsWidened : Option Seen → Handed → Handed → Type 0
IsWidened None at wide =
    (wide.place ≡ at.place) × (wide.locals ≡ at.locals) × (wide.fresh ≡ at.fresh)
    × (wide.first ≡ 0) × (wide.end ≡ length at.locals.now)
IsWidened (Some c) at wide = wide ≡ at

-- outside of a range, which may be all, these locals fit those of the frame at a place
abbrev pub FitsBut : CodeScope → List (Option FrameType) → ℕ → ℕ → ℕ → List VType → Type 0
FitsBut s frames place first end locals =
    ((first ≡ 0) × (end ≡ length locals))
    ⊎ ((b : FrameType) × FitsAt s frames place b × FitOutside s.classes first end locals b.locals)

-- The same of the range that is handed to a node: all where it has seen nothing yet.
abbrev pub IsRange : CodeScope → Option Seen → ℕ → ℕ → List VType → Type 0
IsRange s slot first end locals =
    ((slot ≡ None) × (first ≡ 0) × (end ≡ length locals))
    ⊎ ((c : Seen) × (slot ≡ Some c) × FitOutside s.classes first end locals c.locals)

abbrev pub node_in : Nodes → ℕ → ℕ → Option (Option Seen)
node_in nodes level node = option_and_then (λ row. slice_get row node) (slice_get nodes level)

-- one node has changed
pub record IsNodeSet (nodes : Nodes) (level node : ℕ) (slot : Option Seen) (new : Nodes) : Type 0 where
  pub levels : length new ≡ length nodes
  pub wide : (l : ℕ) (row : List (Option Seen)) → slice_get new l ≡ Some row
      → (old : List (Option Seen)) × (slice_get nodes l ≡ Some old) × (length row ≡ length old)
  pub there : node_in new level node ≡ Some slot
  pub others : (l n : ℕ) → (l ≡ level → n ≡ node → ⊥) → node_in new l n ≡ node_in nodes l n

-- what holds of the nodes at each moment of the way up
pub record AreNodes (task : Task) (frames : List (Option FrameType)) (nodes : Nodes) : Type 0 where
  pub levels : length nodes ≡ length task.tree
  pub wide : (level : ℕ) (row : List (Option Seen)) (entries : List (List ℕ)) → slice_get nodes level ≡ Some row
      → slice_get task.tree level ≡ Some entries → length row ≡ length entries
  pub sized : (level node : ℕ) (c : Seen) → NodeAt nodes level node c → IsFrameOf (scope_in task).code (bare c.locals c.fresh)
  pub handed : (level node x : ℕ) (c : Seen) (h : Caught) → NodeAt nodes level node c → Contains (entries_at task.tree level node) x
      → slice_get (scope_in task).code.handlers x ≡ Some h
      → FitsAt (scope_in task) frames h.handler (handler_frame (scope_in task) h c.locals c.fresh)
  pub below : (typing : List (Option FrameType)) (level node : ℕ) (c : Seen) (h : Caught) → TypesTask task typing
      → NodeAt nodes level node c → Contains (scope_in task).code.handlers h
      → ((place : ℕ) → node_over level place ≡ node → CoversPlace h place)
      → FitsAt (scope_in task) typing h.handler (handler_frame (scope_in task) h c.locals c.fresh)

-- The nodes over a place have its locals, as far as to this level. What the last of them has got fits the node above it as
-- soon as that has the place's locals too.
pub record ClimbsTo (task : Task) (nodes : Nodes) (place : ℕ) (locals : List VType) (fresh : Bool) (level : ℕ) : Type 0 where
  pub up : (l node : ℕ) (c : Seen) → NodeAt nodes l node c → suc l < length nodes → (suc l ≡ level → node ≡ node_over l place → ⊥)
      → (d : Seen) × NodeAt nodes (suc l) (node / 2) d × SeenFits (scope_in task) c.locals c.fresh d
  pub next : (l : ℕ) (c d : Seen) → suc l ≡ level → level < length nodes → NodeAt nodes l (node_over l place) c
      → SeenFits (scope_in task) locals fresh d
      → ((e : Seen) → NodeAt nodes level (node_over level place) e → SeenFits (scope_in task) e.locals e.fresh d)
      → SeenFits (scope_in task) c.locals c.fresh d
  pub risen : (l : ℕ) → l < level → (c : Seen) × NodeAt nodes l (node_over l place) c × SeenFits (scope_in task) locals fresh c

-- as many levels have been made, whose nodes have seen nothing
pub record UnseenTo (tree : List (List (List ℕ))) (nodes : Nodes) (level : ℕ) : Type 0 where
  pub count : length nodes ≡ level
  pub rows : (l : ℕ) (row : List (Option Seen)) → slice_get nodes l ≡ Some row
      → (entries : List (List ℕ)) × (slice_get tree l ≡ Some entries) × AllUnseen (length entries) row
