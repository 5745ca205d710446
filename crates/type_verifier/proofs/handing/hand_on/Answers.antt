-- The way up from a place's node.
use Rattle.std.proofs.Common.{◌≡◌, ℕ, suc, ◌+◌, ◌≤◌, ◌/◌, length, Some, refl, sym, ap, subst, ◌∙◌, arith}
use Rattle.std.specs.Vec.{with_item}
use Rattle.handler_cover.specs.Covering.{node_over}
use Rattle.type_verifier.specs.Progress.{notes_of}
use Rattle.type_verifier.specs.declared.covers.Seen.{Seen}
use Rattle.type_verifier.specs.Climbs.{IsNodeSet, IsRange, node_in}
use Rattle.type_verifier.specs.Covers.{NodeAt, SeenFits, nodes_of}
use Rattle.type_verifier.specs.Rises.{IsNodeRise}
use Rattle.type_verifier.specs.Tasks.{scope_in}
use Rattle.type_verifier.proofs.MovesCompose.{Moves-refl, Moves-trans}
use Rattle.type_verifier.proofs.NodesRise as rise
use Rattle.type_verifier.proofs.WayUp as way
use Rattle.type_verifier.proofs.handing.hand_on.Goals as goal
use Rattle.type_verifier.proofs.handing.hand_on.Goals.{After-widened-at, In_ok-raise_node}

-- ---- What a turn reads and writes.

slot_at : (c : After-widened-at)
    → node_in (nodes_of c.loop-level.nodes) c.loop-level.level c.loop-level.node ≡ Some c.index_mut-slot.result.now
slot_at c =
    let inv = c.loop-level.invariant in
    way.slot-read (λ row. row.items) c.args.task.now c.requires.task c.loop-level.progress.frames.items c.loop-level.nodes.items inv.nodes
    c.loop-level.level c.loop-level.node c.args.at.place (omega arith) inv.node c.requires.within c.index_mut.result.now
    c.index_mut.ensures.value c.index_mut-slot.result.now c.index_mut-slot.ensures.value

same_at : (c : After-widened-at) → (c.widened-at.result.place ≡ c.args.at.place) × (c.widened-at.result.locals ≡ c.args.at.locals)
    × (c.widened-at.result.fresh ≡ c.args.at.fresh)
same_at c =
    let inv = c.loop-level.invariant in
    way.widened-same c.index_mut-slot.result.now c.args.at c.loop-level.at c.widened-at.result c.widened-at.ensures
    inv.place inv.locals inv.fresh

range_at : (c : After-widened-at) → IsRange (scope_in c.args.task.now) c.index_mut-slot.result.now c.widened-at.result.first
    c.widened-at.result.end c.args.at.locals.now
range_at c =
    let inv = c.loop-level.invariant in
    let locals : c.loop-level.at.locals.now ≡ c.args.at.locals.now = ap (λ b. b.now) inv.locals in
    let range = way.widened-range c.args.task.now c.ordered.ensures.ordered c.index_mut-slot.result.now c.loop-level.at c.widened-at.result
    c.widened-at.ensures (λ d e. rw locals (inv.outside d (slot_at c ∙ ap Some e))) in
    subst (λ ls. IsRange (scope_in c.args.task.now) c.index_mut-slot.result.now c.widened-at.result.first c.widened-at.result.end ls)
    locals range

rise_at : (c : In_ok-raise_node) → c.widened-at.result.locals ≡ c.args.at.locals → c.widened-at.result.fresh ≡ c.args.at.fresh
    → IsNodeRise (scope_in c.args.task.now).classes c.index_mut-slot.result.now c.args.at.locals.now c.args.at.fresh c.raise_node.new.slot
rise_at c locals fresh =
    let s = scope_in c.args.task.now in
    let slot = c.index_mut-slot.result.now in
    let with_flag = subst (λ f. IsNodeRise s.classes slot c.widened-at.result.locals.now f c.raise_node.new.slot) fresh
    c.in_ok-raise_node.ensures.rises in
    subst (λ b. IsNodeRise s.classes slot b.now c.args.at.fresh c.raise_node.new.slot) locals with_flag

set_at : (c : In_ok-raise_node) → IsNodeSet (nodes_of c.loop-level.nodes) c.loop-level.level c.loop-level.node c.raise_node.new.slot
    (nodes_of (with_item c.loop-level.nodes c.loop-level.level (with_item c.index_mut.result.now c.loop-level.node c.raise_node.new.slot)))
set_at c =
    let inv = c.loop-level.invariant in
    way.slot-written (λ row. row.items) c.args.task.now c.requires.task c.loop-level.progress.frames.items c.loop-level.nodes.items inv.nodes
    c.loop-level.level c.loop-level.node c.args.at.place (omega arith) inv.node c.requires.within c.index_mut.result.now
    c.index_mut.ensures.value (with_item c.index_mut.result.now c.loop-level.node c.raise_node.new.slot) c.raise_node.new.slot refl

-- where the node stays as it is, so do all
stays_at : (c : In_ok-raise_node) → c.raise_node.new.slot ≡ c.index_mut-slot.result.now
    → nodes_of (with_item c.loop-level.nodes c.loop-level.level (with_item c.index_mut.result.now c.loop-level.node c.raise_node.new.slot))
    ≡ nodes_of c.loop-level.nodes
stays_at c stays =
    let inv = c.loop-level.invariant in
    way.slot-stays (λ row. row.items) c.args.task.now c.requires.task c.loop-level.progress.frames.items c.loop-level.nodes.items inv.nodes
    c.loop-level.level c.loop-level.node c.args.at.place (omega arith) inv.node c.requires.within c.index_mut.result.now
    c.index_mut.ensures.value (with_item c.index_mut.result.now c.loop-level.node c.raise_node.new.slot) c.index_mut-slot.result.now
    c.raise_node.new.slot c.index_mut-slot.ensures.value stays refl

-- what the node has then, which the locals fit
has_at : (c : In_ok-raise_node) → c.raise_node.new.slot ≡ c.index_mut-slot.result.now
    → node_in (nodes_of c.loop-level.nodes) c.loop-level.level c.loop-level.node ≡ Some c.index_mut-slot.result.now
    → c.widened-at.result.locals ≡ c.args.at.locals → c.widened-at.result.fresh ≡ c.args.at.fresh
    → (now : Seen) × NodeAt (nodes_of c.loop-level.nodes) c.loop-level.level (node_over c.loop-level.level c.args.at.place) now
    × SeenFits (scope_in c.args.task.now) c.args.at.locals.now c.args.at.fresh now
has_at c stays had locals fresh =
    let r = rise_at c locals fresh in
    let at : NodeAt (nodes_of c.loop-level.nodes) c.loop-level.level c.loop-level.node r.now = had ∙ ap Some (sym stays ∙ r.is) in
    (r.now, subst (λ n. NodeAt (nodes_of c.loop-level.nodes) c.loop-level.level n r.now) c.loop-level.invariant.node at, r.right)

pub loop-level-init : goal.loop-level-init
loop-level-init c = record {
  place = refl;
  locals = refl;
  fresh = refl;
  end = c.requires.end;
  node = refl;
  frames = c.requires.frames;
  moves = Moves-refl c.args.task.now c.args.progress.now.frames.items (notes_of c.args.progress.now) c.requires.frames;
  seen = λ place locals fresh leaf. leaf;
  nodes = way.nodes-begin c.args.task.now c.args.progress.now.frames.items (nodes_of c.args.nodes.now) c.requires.covers;
  climbs = way.climb-begins c.args.task.now c.args.progress.now.frames.items (nodes_of c.args.nodes.now) c.args.at.place c.args.at.locals.now
      c.args.at.fresh c.requires.covers;
  outside = c.requires.outside;
}

pub returns-clause-handed : goal.returns-clause-handed
returns-clause-handed c = λ all.
    let inv = c.loop-level.invariant in
    way.handed-end c.args.task.now c.requires.task c.ordered.ensures.ordered c.loop-level.progress.frames.items (nodes_of c.loop-level.nodes)
    c.args.at.place c.args.at.locals.now c.args.at.fresh c.requires.within inv.nodes
    (way.risen-last c.args.task.now (nodes_of c.loop-level.nodes) c.args.at.place c.args.at.locals.now c.args.at.fresh c.loop-level.level
    inv.climbs (omega (arith, inv.nodes.levels)))

pub index_mut-slot-requires : goal.index_mut-slot-requires
index_mut-slot-requires c =
    let inv = c.loop-level.invariant in
    let len = c.index_mut.result.now.ok.0 in
    let within = way.node-within (λ row. row.items) c.args.task.now c.requires.task c.loop-level.progress.frames.items c.loop-level.nodes.items
    inv.nodes c.loop-level.level c.loop-level.node c.args.at.place (omega arith) inv.node c.requires.within c.index_mut.result.now
    c.index_mut.ensures.value in
    omega arith

pub raise_node-requires-clause-length : goal.raise_node-requires-clause-length
raise_node-requires-clause-length c = λ d e.
    let inv = c.loop-level.invariant in
    let w = (goal.at.raise_node-requires-clause-length c).After-widened-at in
    let locals = (same_at w).1 in
    let known = inv.nodes.sized c.loop-level.level c.loop-level.node d (slot_at w ∙ ap Some e) in
    known.locals ∙ sym c.requires.sized.locals ∙ sym (ap (λ b. length b.now) locals)

pub raise_node-requires-clause-outside : goal.raise_node-requires-clause-outside
raise_node-requires-clause-outside c = λ d e.
    let w = (goal.at.raise_node-requires-clause-outside c).After-widened-at in
    rw (same_at w).1 (way.range-outside c.args.task.now c.ordered.ensures.ordered c.index_mut-slot.result.now c.widened-at.result.first
    c.widened-at.result.end c.args.at.locals.now d (range_at w) e)

pub hand_to_entries-requires-clause-below : goal.hand_to_entries-requires-clause-below
hand_to_entries-requires-clause-below c =
    let (place, locals, fresh) = same_at (goal.at.hand_to_entries-requires-clause-below c).After-widened-at in
    rw (place, locals, fresh) c.requires.below

pub hand_to_entries-requires-clause-outside : goal.hand_to_entries-requires-clause-outside
hand_to_entries-requires-clause-outside c = λ x h here at.
    let inv = c.loop-level.invariant in
    let w = (goal.at.hand_to_entries-requires-clause-outside c).After-widened-at in
    rw (same_at w).1 (way.range-handlers c.args.task.now c.ordered.ensures.ordered c.loop-level.progress.frames.items
    (nodes_of c.loop-level.nodes) c.loop-level.level c.loop-level.node c.index_mut-slot.result.now (slot_at w) inv.nodes
    c.widened-at.result.first c.widened-at.result.end c.args.at.locals.now (range_at w) x h here at)

pub returns-then-not-branch-2-clause-none : goal.returns-then-not-branch-2-clause-none
returns-then-not-branch-2-clause-none c = λ fails. c.in_ok-hand_to_entries.ensures.none c.if-not-branch-2.true

pub returns-then-not-branch-clause-covers : goal.returns-then-not-branch-clause-covers
returns-then-not-branch-clause-covers c = λ all.
    let inv = c.loop-level.invariant in
    let w = (goal.at.returns-then-not-branch-clause-covers c).After-widened-at in
    let r = (goal.at.returns-then-not-branch-clause-covers c).In_ok-raise_node in
    let stays = c.in_ok-raise_node.ensures.same c.if-not-branch.true in
    let (place, locals, fresh) = same_at w in
    let (now, at_now, fits) = has_at r stays (slot_at w) locals fresh in
    rw (stays_at r stays) (way.covers-end c.args.task.now c.loop-level.progress.frames.items (nodes_of c.loop-level.nodes) inv.nodes
    (way.up-stays c.args.task.now (nodes_of c.loop-level.nodes) c.args.at.place c.args.at.locals.now c.args.at.fresh c.loop-level.level
    inv.climbs c.ordered.ensures.ordered now at_now fits))

pub returns-then-not-branch-clause-seen : goal.returns-then-not-branch-clause-seen
returns-then-not-branch-clause-seen c = λ all.
    let inv = c.loop-level.invariant in
    let r = (goal.at.returns-then-not-branch-clause-seen c).In_ok-raise_node in
    let stays = c.in_ok-raise_node.ensures.same c.if-not-branch.true in
    rw (stays_at r stays) inv.seen

pub returns-then-not-branch-clause-leaf : goal.returns-then-not-branch-clause-leaf
returns-then-not-branch-clause-leaf c = λ all.
    let inv = c.loop-level.invariant in
    let w = (goal.at.returns-then-not-branch-clause-leaf c).After-widened-at in
    let r = (goal.at.returns-then-not-branch-clause-leaf c).In_ok-raise_node in
    let stays = c.in_ok-raise_node.ensures.same c.if-not-branch.true in
    let (place, locals, fresh) = same_at w in
    let (now, at_now, fits) = has_at r stays (slot_at w) locals fresh in
    rw (stays_at r stays) (way.leaf-end c.args.task.now (nodes_of c.loop-level.nodes) c.args.at.place c.args.at.locals.now c.args.at.fresh
    (way.risen-stays c.args.task.now (nodes_of c.loop-level.nodes) c.args.at.place c.args.at.locals.now c.args.at.fresh c.loop-level.level
    inv.climbs c.ordered.ensures.ordered now at_now fits))

pub returns-then-not-branch-clause-handed : goal.returns-then-not-branch-clause-handed
returns-then-not-branch-clause-handed c = λ all.
    let inv = c.loop-level.invariant in
    let w = (goal.at.returns-then-not-branch-clause-handed c).After-widened-at in
    let r = (goal.at.returns-then-not-branch-clause-handed c).In_ok-raise_node in
    let stays = c.in_ok-raise_node.ensures.same c.if-not-branch.true in
    let (place, locals, fresh) = same_at w in
    let (now, at_now, fits) = has_at r stays (slot_at w) locals fresh in
    way.handed-end c.args.task.now c.requires.task c.ordered.ensures.ordered c.loop-level.progress.frames.items (nodes_of c.loop-level.nodes)
    c.args.at.place c.args.at.locals.now c.args.at.fresh c.requires.within inv.nodes
    (way.risen-stays c.args.task.now (nodes_of c.loop-level.nodes) c.args.at.place c.args.at.locals.now c.args.at.fresh c.loop-level.level
    inv.climbs c.ordered.ensures.ordered now at_now fits)

pub loop-level-preserved : goal.loop-level-preserved
loop-level-preserved c =
    let task = c.args.task.now in
    let inv = c.loop-level.invariant in
    let ordered = c.ordered.ensures.ordered in
    let w = (goal.at.loop-level-preserved c).After-widened-at in
    let r = (goal.at.loop-level-preserved c).In_ok-raise_node in
    let (place, locals, fresh) = same_at w in
    let handed = c.in_ok-hand_to_entries.ensures in
    let moves = handed.moves c.if-not-branch-2.false in
    let new = nodes_of (with_item c.loop-level.nodes c.loop-level.level
    (with_item c.index_mut.result.now c.loop-level.node c.raise_node.new.slot)) in
    let next : c.loop-level.level + 1 ≡ suc c.loop-level.level = omega arith in
    let end : c.widened-at.result.end ≤ length c.args.at.locals.now =
    rw (← inv.locals) (way.widened-end c.index_mut-slot.result.now c.loop-level.at c.widened-at.result c.widened-at.ensures (rw inv.locals inv.end)) in
    record {
      place = place;
      locals = locals;
      fresh = fresh;
      end = end;
      node = rw next (ap (λ (i : ℕ). i / 2) inv.node);
      frames = handed.frames c.if-not-branch-2.false;
      moves = Moves-trans (scope_in task) ordered c.args.progress.now.frames.items (notes_of c.args.progress.now)
          c.loop-level.progress.frames.items (notes_of c.loop-level.progress)
          c.hand_to_entries.new.progress.frames.items (notes_of c.hand_to_entries.new.progress) inv.moves moves;
      seen = λ p seen flag leaf. rise.seen-kept task ordered c.loop-level.level c.loop-level.node c.args.at.place inv.node c.args.at.locals.now
          c.args.at.fresh (nodes_of c.loop-level.nodes) new c.index_mut-slot.result.now c.raise_node.new.slot (slot_at w)
          (rise_at r locals fresh) (set_at r) p seen flag (inv.seen p seen flag leaf);
      nodes = rise.nodes-risen task ordered c.loop-level.level c.loop-level.node c.args.at.place inv.node c.args.at.locals.now c.args.at.fresh
          (nodes_of c.loop-level.nodes) new c.index_mut-slot.result.now c.raise_node.new.slot (slot_at w) (rise_at r locals fresh) (set_at r)
          c.loop-level.progress.frames.items (notes_of c.loop-level.progress)
          c.hand_to_entries.new.progress.frames.items (notes_of c.hand_to_entries.new.progress) moves inv.nodes c.requires.sized c.requires.below
          (rw (← locals, ← fresh) (handed.handed c.if-not-branch-2.false));
      climbs = rw next (rise.climbs-on task ordered c.loop-level.level c.loop-level.node c.args.at.place inv.node c.args.at.locals.now c.args.at.fresh
          (nodes_of c.loop-level.nodes) new c.index_mut-slot.result.now c.raise_node.new.slot (slot_at w) (rise_at r locals fresh) (set_at r)
          inv.climbs);
      outside = λ d at. way.range-above task ordered c.loop-level.progress.frames.items (nodes_of c.loop-level.nodes) c.loop-level.level
          c.loop-level.node c.index_mut-slot.result.now (slot_at w) inv.nodes c.widened-at.result.first c.widened-at.result.end
          c.args.at.locals.now (range_at w) c.args.at.place c.args.at.fresh new c.raise_node.new.slot inv.climbs (set_at r) d (rw next at at);
    }
