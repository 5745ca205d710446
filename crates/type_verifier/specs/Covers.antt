-- What the nodes of the tree of catch entries keep: locals that those of all places below have fitted, with their flag. A
-- node's fit those of the node above it, and were handed to the handlers of the entries that stand at it.
use Rattle.std.specs.Prelude.{◌≡◌, ℕ, suc, ◌<◌, ◌/◌, Bool, IsTrue, List, [], length, Contains, Option, Some, Vec, map, slice_get, option_and_then}
use Rattle.std.specs.declared.alloc.Global.{Global}
use Rattle.jk_model_classes.specs.declared.records.Caught.{Caught}
use Rattle.jk_model_typing.specs.declared.frames.VType.{VType}
use Rattle.jk_model_typing.specs.declared.frames.FrameType.{FrameType}
use Rattle.jk_model_typing.specs.FrameTypes.{EachFits, IsFrameOf}
use Rattle.jk_model_typing.specs.Scopes.{CodeScope}
use Rattle.jk_model_typing.specs.Typing.{FitsAt, Covers as CoversPlace, handler_frame}
use Rattle.handler_cover.specs.Covering.{node_over, entries_at}
use Rattle.type_verifier.specs.declared.covers.Seen.{Seen}
use Rattle.type_verifier.specs.declared.tasks.Task.{Task}
use Rattle.type_verifier.specs.Tasks.{scope_in, TypesTask}

-- the nodes, level by level
abbrev pub Nodes : Type 0
Nodes = List (List (Option Seen))

abbrev pub nodes_of : Vec (Vec (Option Seen) Global) Global → Nodes
nodes_of nodes = map (λ row. row.items) nodes.items

abbrev pub NodeAt : Nodes → ℕ → ℕ → Seen → Type 0
NodeAt nodes level node c = option_and_then (λ row. slice_get row node) (slice_get nodes level) ≡ Some (Some c)

-- a frame with these locals, whose stack doesn't matter
abbrev pub bare : List VType → Bool → FrameType
bare locals fresh = record { locals = locals; stack = []; fresh = fresh }

abbrev pub SeenFits : CodeScope → List VType → Bool → Seen → Type 0
SeenFits s locals fresh c = EachFits s.classes locals c.locals × (IsTrue fresh → IsTrue c.fresh)

pub record AreCovers (task : Task) (frames : List (Option FrameType)) (nodes : Nodes) : Type 0 where
  pub levels : length nodes ≡ length task.tree
  pub wide : (level : ℕ) (row : List (Option Seen)) (entries : List (List ℕ)) → slice_get nodes level ≡ Some row
      → slice_get task.tree level ≡ Some entries → length row ≡ length entries
  pub sized : (level node : ℕ) (c : Seen) → NodeAt nodes level node c → IsFrameOf (scope_in task).code (bare c.locals c.fresh)
  pub up : (level node : ℕ) (c : Seen) → NodeAt nodes level node c → suc level < length nodes
      → (d : Seen) × NodeAt nodes (suc level) (node / 2) d × SeenFits (scope_in task) c.locals c.fresh d
  pub handed : (level node x : ℕ) (c : Seen) (h : Caught) → NodeAt nodes level node c → Contains (entries_at task.tree level node) x
      → slice_get (scope_in task).code.handlers x ≡ Some h
      → FitsAt (scope_in task) frames h.handler (handler_frame (scope_in task) h c.locals c.fresh)
  -- no node says more than the handlers of the entries that cover all places below it have in each typing
  pub below : (typing : List (Option FrameType)) (level node : ℕ) (c : Seen) (h : Caught) → TypesTask task typing
      → NodeAt nodes level node c → Contains (scope_in task).code.handlers h
      → ((place : ℕ) → node_over level place ≡ node → CoversPlace h place)
      → FitsAt (scope_in task) typing h.handler (handler_frame (scope_in task) h c.locals c.fresh)

-- the node of a place has locals that these fit, where there are catch entries at all
abbrev pub LeafFits : CodeScope → Nodes → ℕ → List VType → Bool → Type 0
LeafFits s nodes place locals fresh = 0 < length nodes → (c : Seen) × NodeAt nodes 0 place c × SeenFits s locals fresh c

-- what a node has seen it still has
abbrev pub KeepsSeen : CodeScope → Nodes → Nodes → Type 0
KeepsSeen s old new = (place : ℕ) (locals : List VType) (fresh : Bool) → LeafFits s old place locals fresh → LeafFits s new place locals fresh

-- the handlers of all entries that cover a place have frames which these locals fit
abbrev pub AreHanded : CodeScope → List (Option FrameType) → ℕ → List VType → Bool → Type 0
AreHanded s frames place locals fresh =
    (h : Caught) → Contains s.code.handlers h → CoversPlace h place
    → FitsAt s frames h.handler (handler_frame s h locals fresh)
