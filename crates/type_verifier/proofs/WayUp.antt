-- Where the way up from a place begins and ends: what is handed at each level, and that after the last level, or where a
-- node stays as it is, all handlers of the place have its locals.
use Rattle.std.proofs.Common.{◌≡◌, ℕ, zero, suc, ◌+◌, ◌-◌, ◌<◌, ◌≤◌, ◌/◌, Bool, List, [], length, map, set, get_or, Contains, Option, Some, None, slice_get, refl, sym, ap, subst, ◌∙◌, inl, inr, arith}
use Rattle.std.proofs.lemmas.Bool.{cases_lt}
use Rattle.std.proofs.lemmas.List.{length-map}
use Rattle.std.proofs.lemmas.Option.{same_Some, slice_get_within, slice_get-get_or, slice_get-map, slice_get_read}
use Rattle.std.specs.Option.{option_map}
use Rattle.jk_model_classes.specs.declared.records.Caught.{Caught}
use Rattle.jk_model_classes.specs.Classes.{AreOrdered}
use Rattle.jk_model_typing.specs.declared.frames.VType.{VType}
use Rattle.jk_model_typing.specs.declared.frames.FrameType.{FrameType}
use Rattle.jk_model_typing.specs.Typing.{handler_frame}
use Rattle.handler_cover.specs.Covering.{node_over, entries_at}
use Rattle.type_frames.specs.FrameJoins.{FitOutside}
use Rattle.type_verifier.specs.declared.covers.Handed.{Handed}
use Rattle.type_verifier.specs.declared.covers.Seen.{Seen}
use Rattle.type_verifier.specs.declared.tasks.Task.{Task}
use Rattle.type_verifier.specs.Climbs.{AreNodes, ClimbsTo, IsNodeSet, IsRange, IsWidened, FitsBut, node_in}
use Rattle.type_verifier.specs.Covers.{Nodes, NodeAt, AreCovers, SeenFits, AreHanded, LeafFits}
use Rattle.type_verifier.specs.Tasks.{IsTask, scope_in}
use Rattle.type_verifier.proofs.FramesInOrder.{FitOutside-above}
use Rattle.type_verifier.proofs.HandlersHaveFrames.{FitOutside-all}
use Rattle.type_verifier.proofs.NodesByPlace.{node-level, node-read, node-set, node-set_same}
use Rattle.type_verifier.proofs.NodesRise.{NodeAt-one, NodeAt-along, node_cases, SeenFits-refl, SeenFits-trans, FitsAt-seen}

-- each level has a node over the place
row-wide : (task : Task) → IsTask task → (frames : List (Option FrameType)) (nodes : Nodes) (level place : ℕ) (row : List (Option Seen))
    → AreNodes task frames nodes → place < length (scope_in task).code.instrs → slice_get nodes level ≡ Some row
    → node_over level place < length row
row-wide task is frames nodes level place row are within at =
    let low : level < length task.tree = subst (λ (i : ℕ). level < i) are.levels (slice_get_within nodes level row at) in
    let entries = get_or task.tree level [] in
    let at_tree = slice_get-get_or task.tree level [] low in
    subst (λ (i : ℕ). node_over level place < i) (sym (are.wide level row entries at at_tree))
    (is.tree.wide level place entries at_tree within)

-- what the code reads at a level, and at the node of it that is over the place
module _ {Row : Type 0} (items : Row → List (Option Seen)) (task : Task) (is : IsTask task) (frames : List (Option FrameType))
    (rows : List Row) (are : AreNodes task frames (map items rows)) (level node place : ℕ) (low : level < length task.tree)
    (over : node ≡ node_over level place) (within : place < length (scope_in task).code.instrs) (row : Row)
    (read : row ≡ get_or rows level row) where
  pub row-read : slice_get rows level ≡ Some row
  row-read =
      let count = length-map rows items in
      let levels = are.levels in
      slice_get_read rows (length rows) level row refl (omega arith) read

  pub node-within : node < length (items row)
  node-within =
      let at : slice_get (map items rows) level ≡ Some (items row) = slice_get-map items rows level ∙ ap (option_map items) row-read in
      subst (λ (i : ℕ). i < length (items row)) (sym over) (row-wide task is frames (map items rows) level place (items row) are within at)

  pub slot-read : (slot : Option Seen) → slot ≡ get_or (items row) node slot → node_in (map items rows) level node ≡ Some slot
  slot-read slot read_slot =
      node-read items rows level node row slot row-read
      (slice_get_read (items row) (length (items row)) node slot refl node-within read_slot)

  pub slot-written : (new : Row) (slot : Option Seen) → items new ≡ set (items row) node slot
      → IsNodeSet (map items rows) level node slot (map items (set rows level new))
  slot-written new slot written = node-set items rows level node row new slot row-read node-within written

  pub slot-stays : (new : Row) (slot slot_new : Option Seen) → slot ≡ get_or (items row) node slot → slot_new ≡ slot
      → items new ≡ set (items row) node slot_new → map items (set rows level new) ≡ map items rows
  slot-stays new slot slot_new read_slot stays written =
      node-set_same items rows level node row new slot row-read
      (slice_get_read (items row) (length (items row)) node slot refl node-within read_slot)
      (written ∙ ap (set (items row) node) stays)

-- ---- What is handed to a node.

widened-same_as : (slot : Option Seen) (at wide : Handed) → IsWidened slot at wide
    → (wide.place ≡ at.place) × (wide.locals ≡ at.locals) × (wide.fresh ≡ at.fresh)
widened-same_as None at wide (place, locals, fresh, first, end) = (place, locals, fresh)
widened-same_as (Some c) at wide same =
    (ap (λ (h : Handed). h.place) same, ap (λ (h : Handed). h.locals) same, ap (λ (h : Handed). h.fresh) same)

-- it is of the place from which the way began
pub widened-same : (slot : Option Seen) (begun at wide : Handed) → IsWidened slot at wide
    → at.place ≡ begun.place → at.locals ≡ begun.locals → at.fresh ≡ begun.fresh
    → (wide.place ≡ begun.place) × (wide.locals ≡ begun.locals) × (wide.fresh ≡ begun.fresh)
widened-same slot begun at wide is place locals fresh =
    let same = widened-same_as slot at wide is in (same.0 ∙ place, same.1 ∙ locals, same.2 ∙ fresh)

pub widened-end : (slot : Option Seen) (at wide : Handed) → IsWidened slot at wide → at.end ≤ length at.locals.now
    → wide.end ≤ length at.locals.now
widened-end None at wide (place, locals, fresh, first, end) within = omega (arith, end)
widened-end (Some c) at wide same within = subst (λ (h : Handed). h.end ≤ length at.locals.now) (sym same) within

module _ (task : Task) (ordered : AreOrdered (scope_in task).classes) where
  pub widened-range : (slot : Option Seen) (at wide : Handed) → IsWidened slot at wide
      → ((c : Seen) → slot ≡ Some c → FitOutside (scope_in task).classes at.first at.end at.locals.now c.locals)
      → IsRange (scope_in task) slot wide.first wide.end at.locals.now
  widened-range None at wide (place, locals, fresh, first, end) out = inl (refl, first, end)
  widened-range (Some c) at wide same out = inr (
    c,
    refl,
    subst (λ (h : Handed). FitOutside (scope_in task).classes h.first h.end at.locals.now c.locals) (sym same) (out c refl),
  )

  pub range-outside : (slot : Option Seen) (first end : ℕ) (locals : List VType) (c : Seen)
      → IsRange (scope_in task) slot first end locals → slot ≡ Some c → FitOutside (scope_in task).classes first end locals c.locals
  range-outside slot first end locals c (inl (none, begins, ends)) e = FitOutside-all (scope_in task) first end locals c.locals begins ends
  range-outside slot first end locals c (inr (d, is, out)) e =
      subst (λ (y : Seen). FitOutside (scope_in task).classes first end locals y.locals) (same_Some d c (sym is ∙ e)) out

  module _ (frames : List (Option FrameType)) (nodes : Nodes) (k n : ℕ) (slot : Option Seen) (had : node_in nodes k n ≡ Some slot)
      (are : AreNodes task frames nodes) (first end : ℕ) (locals : List VType) (range : IsRange (scope_in task) slot first end locals) where
    pub range-handlers : (x : ℕ) (h : Caught) → Contains (entries_at task.tree k n) x → slice_get (scope_in task).code.handlers x ≡ Some h
        → FitsBut (scope_in task) frames h.handler first end locals
    range-handlers x h here at = elim range [
      | inl (none, begins, ends) ↦ inl (begins, ends)
      | inr (c, is, out) ↦ inr (handler_frame (scope_in task) h c.locals c.fresh, are.handed k n x c h (had ∙ ap Some is) here at, out)
    ]

    -- the node above has what this one had
    pub range-above : (place : ℕ) (fresh : Bool) (new : Nodes) (slot_new : Option Seen) → ClimbsTo task nodes place locals fresh k
        → IsNodeSet nodes k n slot_new new → (c : Seen) → NodeAt new (suc k) (n / 2) c
        → FitOutside (scope_in task).classes first end locals c.locals
    range-above place fresh new slot_new climbs is_set c at = elim range [
      | inl (none, begins, ends) ↦ FitOutside-all (scope_in task) first end locals c.locals begins ends
      | inr (c0, is, out) ↦
          let at_old : NodeAt nodes (suc k) (n / 2) c = sym (is_set.others (suc k) (n / 2) (λ a b. omega (arith, a))) ∙ at in
          let more : suc k < length nodes = node-level nodes (suc k) (n / 2) (Some c) at_old in
          let (u, at_u, fits) = climbs.up k n c0 (had ∙ ap Some is) more (λ a b. absurd (omega (arith, a))) in
          let out_u = FitOutside-above (scope_in task).classes ordered first end locals c0.locals u.locals out fits.0 in
          subst (λ (y : Seen). FitOutside (scope_in task).classes first end locals y.locals)
          (NodeAt-one nodes (suc k) (n / 2) u c at_u at_old) out_u
    ]

-- ---- Where the way begins.

pub nodes-begin : (task : Task) (frames : List (Option FrameType)) (nodes : Nodes) → AreCovers task frames nodes → AreNodes task frames nodes
nodes-begin task frames nodes covers = record {
  levels = covers.levels;
  wide = covers.wide;
  sized = covers.sized;
  handed = covers.handed;
  below = covers.below;
}

pub climb-begins : (task : Task) (frames : List (Option FrameType)) (nodes : Nodes) (place : ℕ) (locals : List VType) (fresh : Bool)
    → AreCovers task frames nodes → ClimbsTo task nodes place locals fresh 0
climb-begins task frames nodes place locals fresh covers = record {
  up = λ l n c at more usual. covers.up l n c at more;
  next = λ l c d a more at fits above. absurd (omega (arith, a));
  risen = λ l low. absurd (omega arith);
}

-- ---- Where it ends.

pub covers-end : (task : Task) (frames : List (Option FrameType)) (nodes : Nodes) → AreNodes task frames nodes
    → ((l n : ℕ) (c : Seen) → NodeAt nodes l n c → suc l < length nodes
    → (d : Seen) × NodeAt nodes (suc l) (n / 2) d × SeenFits (scope_in task) c.locals c.fresh d)
    → AreCovers task frames nodes
covers-end task frames nodes are up = record {
  levels = are.levels;
  wide = are.wide;
  sized = are.sized;
  up = up;
  handed = are.handed;
  below = are.below;
}

-- all nodes over a place have its locals
abbrev pub AreRisen : Task → Nodes → ℕ → List VType → Bool → Type 0
AreRisen task nodes place locals fresh =
    (l : ℕ) → l < length nodes → (c : Seen) × NodeAt nodes l (node_over l place) c × SeenFits (scope_in task) locals fresh c

pub leaf-end : (task : Task) (nodes : Nodes) (place : ℕ) (locals : List VType) (fresh : Bool) → AreRisen task nodes place locals fresh
    → LeafFits (scope_in task) nodes place locals fresh
leaf-end task nodes place locals fresh risen = λ some. risen 0 some

pub handed-end : (task : Task) → IsTask task → AreOrdered (scope_in task).classes → (frames : List (Option FrameType)) (nodes : Nodes)
    (place : ℕ) (locals : List VType) (fresh : Bool) → place < length (scope_in task).code.instrs → AreNodes task frames nodes
    → AreRisen task nodes place locals fresh → AreHanded (scope_in task) frames place locals fresh
handed-end task is ordered frames nodes place locals fresh within are risen h (x, low, read) covers =
    let at : slice_get (scope_in task).code.handlers x ≡ Some h =
    slice_get-get_or (scope_in task).code.handlers x h low ∙ ap Some read in
    let (l, l_low, here) = is.tree.all x place h at covers within in
    let (c, at_c, fits) = risen l (rw are.levels l_low) in
    FitsAt-seen task ordered frames h locals fresh c fits (are.handed l (node_over l place) x c h at_c here at)

module _ (task : Task) (nodes : Nodes) (place : ℕ) (locals : List VType) (fresh : Bool) (k : ℕ)
    (climbs : ClimbsTo task nodes place locals fresh k) where
  -- after the last level
  pub up-last : length nodes ≤ k → (l n : ℕ) (c : Seen) → NodeAt nodes l n c → suc l < length nodes
      → (d : Seen) × NodeAt nodes (suc l) (n / 2) d × SeenFits (scope_in task) c.locals c.fresh d
  up-last past l n c at more = climbs.up l n c at more (λ a b. omega (arith, a))

  pub risen-last : length nodes ≤ k → AreRisen task nodes place locals fresh
  risen-last past l low = climbs.risen l (omega arith)

  -- where a node has the locals already, those above it have them too
  module _ (ordered : AreOrdered (scope_in task).classes) (now : Seen) (at_now : NodeAt nodes k (node_over k place) now)
      (fits : SeenFits (scope_in task) locals fresh now) where
    pub up-stays : (l n : ℕ) (c : Seen) → NodeAt nodes l n c → suc l < length nodes
        → (d : Seen) × NodeAt nodes (suc l) (n / 2) d × SeenFits (scope_in task) c.locals c.fresh d
    up-stays l n c at more = elim (node_cases (suc l) n k (node_over l place)) [
      | inr usual ↦ climbs.up l n c at more usual
      | inl (a, b) ↦
          let at_l : NodeAt nodes l (node_over l place) c = subst (λ (i : ℕ). NodeAt nodes l i c) b at in
          let over_l : node_over k place ≡ n / 2 = ap (λ (i : ℕ). node_over i place) (sym a) ∙ ap (λ (i : ℕ). i / 2) (sym b) in (
            now,
            NodeAt-along nodes k (node_over k place) (suc l) (n / 2) now (sym a) over_l at_now,
            climbs.next l c now a (subst (λ (i : ℕ). i < length nodes) a more) at_l fits
                (λ e at_e. subst (λ (y : Seen). SeenFits (scope_in task) e.locals e.fresh y)
                (NodeAt-one nodes k (node_over k place) e now at_e at_now) (SeenFits-refl task ordered e)),
          )
    ]

    risen-above : (j l : ℕ) → l ≡ k + j → l < length nodes
        → (c : Seen) × NodeAt nodes l (node_over l place) c × SeenFits (scope_in task) locals fresh c
    risen-above zero l e low =
        let same : k ≡ l = omega (arith, e) in
        (now, NodeAt-along nodes k (node_over k place) l (node_over l place) now same (ap (λ (i : ℕ). node_over i place) same) at_now, fits)
    risen-above (suc j) l e low =
        let (c, at, fits_c) = risen-above j (k + j) refl (omega arith) in
        let more : suc (k + j) < length nodes = omega arith in
        let (d, at_d, fits_d) = up-stays (k + j) (node_over (k + j) place) c at more in
        let same : suc (k + j) ≡ l = omega arith in (
          d,
          NodeAt-along nodes (suc (k + j)) (node_over (suc (k + j)) place) l (node_over l place) d same
              (ap (λ (i : ℕ). node_over i place) same) at_d,
          SeenFits-trans task ordered locals fresh c d fits_c fits_d,
        )

    pub risen-stays : AreRisen task nodes place locals fresh
    risen-stays l low = elim (cases_lt l k) [
      | inl below ↦ climbs.risen l below
      | inr above ↦ risen-above (l - k) l (omega arith) low
    ]
