-- One node has risen to what a place's locals and its own fit: what holds of all nodes after it, and how far the way up has
-- come.
use Rattle.std.proofs.Common.{◌≡◌, ℕ, suc, ◌<◌, ◌/◌, ◌⊎◌, Bool, IsTrue, List, length, Contains, Option, Some, slice_get, sym, ap, subst, ◌∙◌, inl, inr, arith}
use Rattle.std.proofs.lemmas.Bool.{cases_eq}
use Rattle.std.proofs.lemmas.Option.{same_Some}
use Rattle.jk_model_classes.specs.declared.records.Caught.{Caught}
use Rattle.jk_model_classes.specs.Classes.{AreOrdered}
use Rattle.jk_model_typing.specs.declared.frames.VType.{VType}
use Rattle.jk_model_typing.specs.declared.frames.FrameType.{FrameType}
use Rattle.jk_model_typing.specs.FrameTypes.{EachFits, IsFrameOf}
use Rattle.jk_model_typing.specs.Typing.{FitsAt, handler_frame, Covers as CoversPlace}
use Rattle.handler_cover.specs.Covering.{node_over, entries_at}
use Rattle.type_frames.proofs.OrderOfFrames.{EachFits-refl, EachFits-trans}
use Rattle.type_verifier.specs.declared.covers.Seen.{Seen}
use Rattle.type_verifier.specs.declared.tasks.Task.{Task}
use Rattle.type_verifier.specs.Climbs.{AreNodes, ClimbsTo, IsNodeSet, node_in}
use Rattle.type_verifier.specs.Covers.{Nodes, NodeAt, SeenFits, AreHanded, KeepsSeen, bare}
use Rattle.type_verifier.specs.Progress.{Moves, Notes}
use Rattle.type_verifier.specs.Rises.{IsNodeRise}
use Rattle.type_verifier.specs.Tasks.{scope_in, TypesTask}
use Rattle.type_verifier.proofs.FramesInOrder.{IsFrameOf-above}
use Rattle.type_verifier.proofs.MovesCompose.{FrameAt-one, FitsAt-moves}

-- a node has one thing
pub NodeAt-one : (nodes : Nodes) (l n : ℕ) (c d : Seen) → NodeAt nodes l n c → NodeAt nodes l n d → c ≡ d
NodeAt-one nodes l n c d a b = same_Some c d (same_Some (Some c) (Some d) (sym a ∙ b))

-- it is at this node, or at another
pub node_cases : (l m k n : ℕ) → ((l ≡ k) × (m ≡ n)) ⊎ (l ≡ k → m ≡ n → ⊥)
node_cases l m k n = elim (cases_eq l k) [
  | inr apart ↦ inr (λ a b. apart a)
  | inl a ↦ elim (cases_eq m n) [ inl b ↦ inl (a, b) | inr apart ↦ inr (λ x b. apart b) ]
]

pub NodeAt-along : (nodes : Nodes) (l m k n : ℕ) (c : Seen) → l ≡ k → m ≡ n → NodeAt nodes l m c → NodeAt nodes k n c
NodeAt-along nodes l m k n c a b at = subst (λ (i : ℕ). NodeAt nodes i n c) a (subst (λ (i : ℕ). NodeAt nodes l i c) b at)

module _ (task : Task) (ordered : AreOrdered (scope_in task).classes) where
  pub SeenFits-trans : (locals : List VType) (fresh : Bool) (c d : Seen) → SeenFits (scope_in task) locals fresh c
      → SeenFits (scope_in task) c.locals c.fresh d → SeenFits (scope_in task) locals fresh d
  SeenFits-trans locals fresh c d a b =
      (EachFits-trans (scope_in task).classes ordered locals c.locals d.locals a.0 b.0, λ h. b.1 (a.1 h))

  pub SeenFits-refl : (c : Seen) → SeenFits (scope_in task) c.locals c.fresh c
  SeenFits-refl c = (EachFits-refl (scope_in task).classes c.locals, λ h. h)

  -- what fits a node's locals fits where these were handed to
  pub FitsAt-seen : (frames : List (Option FrameType)) (h : Caught) (locals : List VType) (fresh : Bool) (c : Seen)
      → SeenFits (scope_in task) locals fresh c
      → FitsAt (scope_in task) frames h.handler (handler_frame (scope_in task) h c.locals c.fresh)
      → FitsAt (scope_in task) frames h.handler (handler_frame (scope_in task) h locals fresh)
  FitsAt-seen frames h locals fresh c fits (g, at, above) = (
    g,
    at,
    record {
      locals = EachFits-trans (scope_in task).classes ordered locals c.locals g.locals fits.0 above.locals;
      stack = above.stack;
      usable = above.usable;
      fresh = λ t. above.fresh (fits.1 t);
    },
  )

  module _ (k n : ℕ) (place : ℕ) (over : n ≡ node_over k place) (locals : List VType) (fresh : Bool)
      (nodes new : Nodes) (slot slot_new : Option Seen) (had : node_in nodes k n ≡ Some slot)
      (rise : IsNodeRise (scope_in task).classes slot locals fresh slot_new) (is_set : IsNodeSet nodes k n slot_new new) where
    pub now : Seen
    now = rise.now

    at_now : NodeAt new k n rise.now
    at_now = is_set.there ∙ ap Some rise.is

    at_slot : (c : Seen) → slot ≡ Some c → NodeAt nodes k n c
    at_slot c e = had ∙ ap Some e

    slot_at : (c : Seen) → NodeAt nodes k n c → slot ≡ Some c
    slot_at c at = same_Some slot (Some c) (sym had ∙ at)

    at_cases : (l m : ℕ) (c : Seen) → NodeAt new l m c
        → ((l ≡ k) × (m ≡ n) × (rise.now ≡ c)) ⊎ ((l ≡ k → m ≡ n → ⊥) × NodeAt nodes l m c)
    at_cases l m c at = elim (node_cases l m k n) [
      | inl (a, b) ↦ inl (a, b, NodeAt-one new k n rise.now c at_now (NodeAt-along new l m k n c a b at))
      | inr apart ↦ inr (apart, sym (is_set.others l m apart) ∙ at)
    ]

    stays_at : (l m : ℕ) (c : Seen) → (l ≡ k → m ≡ n → ⊥) → NodeAt nodes l m c → NodeAt new l m c
    stays_at l m c apart at = is_set.others l m apart ∙ at

    pub seen-kept : KeepsSeen (scope_in task) nodes new
    seen-kept p seen flag leaf some =
        let (c, at, fits) = leaf (omega (arith, is_set.levels)) in
        elim (node_cases 0 p k n) [
          | inl (a, b) ↦ (
            rise.now,
            NodeAt-along new k n 0 p rise.now (sym a) (sym b) at_now,
            SeenFits-trans seen flag c rise.now fits (rise.left c (slot_at c (NodeAt-along nodes 0 p k n c a b at))),
          )
          | inr apart ↦ (c, stays_at 0 p c apart at, fits)
        ]

    -- a frame that the locals and what the node had fit
    risen-fits : (frames : List (Option FrameType)) (h : Caught)
        → FitsAt (scope_in task) frames h.handler (handler_frame (scope_in task) h locals fresh)
        → ((c : Seen) → slot ≡ Some c → FitsAt (scope_in task) frames h.handler (handler_frame (scope_in task) h c.locals c.fresh))
        → FitsAt (scope_in task) frames h.handler (handler_frame (scope_in task) h rise.now.locals rise.now.fresh)
    risen-fits frames h (g, at, fits) before =
        let d : Seen = record { locals = g.locals; fresh = g.fresh } in
        let least = rise.least d (fits.locals, fits.fresh) (λ c e.
        let (g2, at2, fits2) = before c e in
        let same = FrameAt-one frames h.handler g2 g at2 at in (
          subst (λ (y : FrameType). EachFits (scope_in task).classes c.locals y.locals) same fits2.locals,
          subst (λ (y : FrameType). IsTrue c.fresh → IsTrue y.fresh) same fits2.fresh,
        )) in
        (g, at, record { locals = least.0; stack = fits.stack; usable = fits.usable; fresh = least.1 })

    module _ (old : List (Option FrameType)) (old_work : Notes) (frames : List (Option FrameType)) (work : Notes)
        (moves : Moves (scope_in task) old old_work frames work)
        (are : AreNodes task old nodes) (sized : IsFrameOf (scope_in task).code (bare locals fresh))
        (below : (typing : List (Option FrameType)) → TypesTask task typing → AreHanded (scope_in task) typing place locals fresh)
        (handed : (x : ℕ) (h : Caught) → Contains (entries_at task.tree k n) x → slice_get (scope_in task).code.handlers x ≡ Some h
        → FitsAt (scope_in task) frames h.handler (handler_frame (scope_in task) h locals fresh)) where
      kept : (h : Caught) (c : Seen) → FitsAt (scope_in task) old h.handler (handler_frame (scope_in task) h c.locals c.fresh)
          → FitsAt (scope_in task) frames h.handler (handler_frame (scope_in task) h c.locals c.fresh)
      kept h c fits =
          FitsAt-moves (scope_in task) ordered old old_work frames work h.handler (handler_frame (scope_in task) h c.locals c.fresh) moves fits

      sized_now : IsFrameOf (scope_in task).code (bare rise.now.locals rise.now.fresh)
      sized_now = IsFrameOf-above (scope_in task).classes (scope_in task).code (bare locals fresh) (bare rise.now.locals rise.now.fresh) sized
          (record { locals = rise.right.0; stack = tt; usable = tt; fresh = rise.right.1 })

      handed_now : (x : ℕ) (h : Caught) → Contains (entries_at task.tree k n) x → slice_get (scope_in task).code.handlers x ≡ Some h
          → FitsAt (scope_in task) frames h.handler (handler_frame (scope_in task) h rise.now.locals rise.now.fresh)
      handed_now x h here at =
          risen-fits frames h (handed x h here at) (λ c e. kept h c (are.handed k n x c h (at_slot c e) here at))

      below_now : (typing : List (Option FrameType)) (h : Caught) → TypesTask task typing → Contains (scope_in task).code.handlers h
          → ((p : ℕ) → node_over k p ≡ n → CoversPlace h p)
          → FitsAt (scope_in task) typing h.handler (handler_frame (scope_in task) h rise.now.locals rise.now.fresh)
      below_now typing h types among covers =
          risen-fits typing h (below typing types h among (covers place (sym over)))
          (λ c e. are.below typing k n c h types (at_slot c e) among covers)

      pub nodes-risen : AreNodes task frames new
      nodes-risen = record {
        levels = is_set.levels ∙ are.levels;
        wide = λ l row entries e at.
            let (before, is, count) = is_set.wide l row e in
            count ∙ are.wide l before entries is at;
        sized = λ l m c at. elim (at_cases l m c at) [
          | inl (a, b, same) ↦ subst (λ (y : Seen). IsFrameOf (scope_in task).code (bare y.locals y.fresh)) same sized_now
          | inr (apart, before) ↦ are.sized l m c before
        ];
        handed = λ l m x c h at here is. elim (at_cases l m c at) [
          | inl (a, b, same) ↦
              let here_now : Contains (entries_at task.tree k n) x =
              subst (λ (i : ℕ). Contains (entries_at task.tree i n) x) a (subst (λ (i : ℕ). Contains (entries_at task.tree l i) x) b here) in
              subst (λ (y : Seen). FitsAt (scope_in task) frames h.handler (handler_frame (scope_in task) h y.locals y.fresh)) same
              (handed_now x h here_now is)
          | inr (apart, before) ↦ kept h c (are.handed l m x c h before here is)
        ];
        below = λ typing l m c h types at among covers. elim (at_cases l m c at) [
          | inl (a, b, same) ↦
              let covers_now : (p : ℕ) → node_over k p ≡ n → CoversPlace h p =
              λ p e. covers p (ap (λ (i : ℕ). node_over i p) a ∙ e ∙ sym b) in
              subst (λ (y : Seen). FitsAt (scope_in task) typing h.handler (handler_frame (scope_in task) h y.locals y.fresh)) same
              (below_now typing h types among covers_now)
          | inr (apart, before) ↦ are.below typing l m c h types before among covers
        ];
      }

    module _ (climbs : ClimbsTo task nodes place locals fresh k) where
      -- what stands over another node than the one that rose
      up_from : (l m : ℕ) (c : Seen) → NodeAt nodes l m c → suc l < length nodes
          → (d : Seen) × NodeAt new (suc l) (m / 2) d × SeenFits (scope_in task) c.locals c.fresh d
      up_from l m c at more = elim (node_cases (suc l) m k (node_over l place)) [
        | inl (a, b) ↦
            let at_l : NodeAt nodes l (node_over l place) c = subst (λ (i : ℕ). NodeAt nodes l i c) b at in
            let over_l : m / 2 ≡ n = ap (λ (i : ℕ). i / 2) b ∙ ap (λ (i : ℕ). node_over i place) a ∙ sym over in
            let more_k : k < length nodes = subst (λ (i : ℕ). i < length nodes) a more in (
              rise.now,
              NodeAt-along new k n (suc l) (m / 2) rise.now (sym a) (sym over_l) at_now,
              climbs.next l c rise.now a more_k at_l rise.right
                  (λ e at_e. rise.left e (slot_at e (subst (λ (i : ℕ). NodeAt nodes k i e) (sym over) at_e))),
            )
        | inr usual ↦
            let (d, at_d, fits) = climbs.up l m c at more usual in
            elim (node_cases (suc l) (m / 2) k n) [
              | inl (a, b) ↦
                  let e = slot_at d (NodeAt-along nodes (suc l) (m / 2) k n d a b at_d) in (
                    rise.now,
                    NodeAt-along new k n (suc l) (m / 2) rise.now (sym a) (sym b) at_now,
                    SeenFits-trans c.locals c.fresh d rise.now fits (rise.left d e),
                  )
              | inr apart ↦ (d, stays_at (suc l) (m / 2) d apart at_d, fits)
            ]
      ]

      -- what stands over the one that rose
      up_slot : (c : Seen) → slot ≡ Some c → suc k < length nodes
          → (d : Seen) × NodeAt nodes (suc k) (n / 2) d × SeenFits (scope_in task) c.locals c.fresh d
      up_slot c e more = climbs.up k n c (at_slot c e) more (λ a b. absurd (omega (arith, a)))

      pub climbs-on : ClimbsTo task new place locals fresh (suc k)
      climbs-on = record {
        up = λ l m c at more usual. elim (at_cases l m c at) [
          | inl (a, b, same) ↦ absurd (usual (ap suc a) (b ∙ over ∙ ap (λ (i : ℕ). node_over i place) (sym a)))
          | inr (apart, before) ↦ up_from l m c before (subst (λ (i : ℕ). suc l < i) is_set.levels more)
        ];
        next = λ l c d a more at fits above.
            let same_level : l ≡ k = omega (arith, a) in
            let over_l : node_over l place ≡ n = ap (λ (i : ℕ). node_over i place) same_level ∙ sym over in
            let same = NodeAt-one new k n rise.now c at_now (NodeAt-along new l (node_over l place) k n c same_level over_l at) in
            let more_k : suc k < length nodes = subst (λ (i : ℕ). suc k < i) is_set.levels more in
            subst (λ (y : Seen). SeenFits (scope_in task) y.locals y.fresh d) same
            (rise.least d fits (λ c0 e0.
            let (u, at_u, fits_u) = up_slot c0 e0 more_k in
            let at_new : NodeAt new (suc k) (node_over (suc k) place) u =
            subst (λ (i : ℕ). NodeAt new (suc k) i u) (ap (λ (i : ℕ). i / 2) over)
            (stays_at (suc k) (n / 2) u (λ x y. omega (arith, x)) at_u) in
            SeenFits-trans c0.locals c0.fresh u d fits_u (above u at_new)));
        risen = λ l low. elim (cases_eq l k) [
          | inl same ↦ (
            rise.now,
            NodeAt-along new k n l (node_over l place) rise.now (sym same)
                (over ∙ ap (λ (i : ℕ). node_over i place) (sym same)) at_now,
            rise.right,
          )
          | inr other ↦
              let (c, at, fits) = climbs.risen l (omega arith) in
              (c, stays_at l (node_over l place) c (λ x y. other x) at, fits)
        ];
      }
