-- The locals that may differ in a walk from those that were looked at before it: in which range an instruction leaves them, and
-- that outside of it they fit wherever control goes on.
use Rattle.std.proofs.Common.{◌≡◌, ◌≢◌, ℕ, suc, ◌<◌, ◌⊎◌, inl, inr, pos, ℤ, IsTrue, Bool, true, false, not, List, length, replicate, Option, None, Some, slice_get, sym, ap, subst, refl, ◌∙◌, arith}
use Rattle.std.proofs.lemmas.Bool.{cases_eq, false≢true}
use Rattle.std.proofs.lemmas.Option.{same_Some, slice_get_cases, slice_get_within}
use Rattle.jk_model.specs.declared.instructions.Instr.{Instr}
use Rattle.jk_model.specs.declared.opcodes.TheConstants.{NEW, INVOKESPECIAL}
use Rattle.jk_model_classes.specs.Classes.{AreOrdered}
use Rattle.jk_model_classes.specs.MemberCode.{LeadsTo}
use Rattle.jk_model_typing.specs.declared.frames.VType.{VType}
use Rattle.jk_model_typing.specs.declared.frames.FrameType.{FrameType}
use Rattle.jk_model_typing.specs.Rows.{Row}
use Rattle.jk_model_typing.specs.Scopes.{CodeScope}
use Rattle.jk_model_typing.specs.Typing.{FrameAt, FitsAt, is_store, leaves_line}
use Rattle.type_frames.specs.FrameJoins.{FitOutside}
use Rattle.type_rows.proofs.RowsKeepLocals.{row-keeps_locals, row-changes_local}
use Rattle.type_verifier.specs.declared.covers.Seen.{Seen}
use Rattle.type_verifier.specs.declared.ranges.LocalRange.{LocalRange}
use Rattle.type_verifier.specs.declared.tasks.Task.{Task}
use Rattle.type_verifier.specs.Climbs.{FitsBut}
use Rattle.type_verifier.specs.Covers.{KeepsSeen, LeafFits, NodeAt, Nodes}
use Rattle.type_verifier.specs.Known.{AreKnown, AreKnownBut, DiffersIn, IsKnown}
use Rattle.type_verifier.specs.Leaders.{Leads}
use Rattle.type_verifier.specs.Progress.{AreFrames, Moves, Notes}
use Rattle.type_verifier.specs.Ranges.{IsClipped, IsLeft, IsWhole, RangeAt}
use Rattle.type_verifier.specs.Settling.{Settles, StepsWell}
use Rattle.type_verifier.specs.Settling.Settles.{ends, joins, goes_on}
use Rattle.type_verifier.specs.Tasks.{scope_in}
use Rattle.type_verifier.proofs.FramesInOrder.{FitOutside-above}
use Rattle.type_verifier.proofs.HandlersHaveFrames.{FitOutside-all}
use Rattle.type_verifier.proofs.LinesStand.{not_both}
use Rattle.type_verifier.proofs.MovesCompose.{FrameAt-one, IsWhole-wider}
use Rattle.type_verifier.proofs.PartsOfLocals.{FitOutside-trans, FitOutside-wider}
use Rattle.type_verifier.proofs.SettledStays.{Grows, Settles-grown}
use Rattle.type_verifier.proofs.StartsOfTypings.{no-frame}
use Rattle.type_verifier.proofs.NodesByPlace.{node-level}
use Rattle.type_verifier.proofs.NodesRise.{NodeAt-one}

-- ---- One instruction.

-- new and invokespecial, and all others
calls_or_not : (op : ℕ) → ((op ≡ NEW) ⊎ (op ≡ INVOKESPECIAL)) ⊎ ((op ≢ NEW) × (op ≢ INVOKESPECIAL))
calls_or_not op = elim (cases_eq op NEW) [
  | inl new ↦ inl (inl new)
  | inr other ↦ elim (cases_eq op INVOKESPECIAL) [ inl special ↦ inl (inr special) | inr another ↦ inr (other, another) ]
]

module _ (s : CodeScope) (place : ℕ) (i : Instr) (f after o left : FrameType) (row : Row s place i f after) (row_old : Row s place i o left)
    (as_many : length o.locals ≡ length f.locals) (q r : LocalRange) (is : IsLeft i q (length f.locals) r)
    (out : FitOutside s.classes q.first q.end f.locals o.locals) where
  pub record LeftOutside : Type 0 where
    pub count : length left.locals ≡ length after.locals
    pub outside : FitOutside s.classes r.first r.end after.locals left.locals

  after-store : IsTrue (is_store i.op) → LeftOutside
  after-store store =
      let ours = row-changes_local s place i f after store row in
      let theirs = row-changes_local s place i o left store row_old in
      record {
        count = theirs.as_many ∙ as_many ∙ sym ours.as_many;
        outside = λ k a b at there away.
            let low : k < length f.locals = omega (arith, slice_get_within after.locals k a at, ours.as_many) in
            let mine = is.store store ours.local k ours.local_is low away in
            let other = is.store store theirs.local k theirs.local_is low away in
            out k a b (sym (ours.others k mine) ∙ at) (sym (theirs.others k other) ∙ there) (is.kept k low away);
      }

  after-other : (IsTrue (is_store i.op) → ⊥) → i.op ≢ NEW → i.op ≢ INVOKESPECIAL → LeftOutside
  after-other store new special =
      let ours = row-keeps_locals s place i f after store new special row in
      let theirs = row-keeps_locals s place i o left store new special row_old in
      record {
        count = ap length theirs.0 ∙ as_many ∙ sym (ap length ours.0);
        outside = λ k a b at there away.
            let at_f : slice_get f.locals k ≡ Some a = ap (λ (vs : List VType). slice_get vs k) (sym ours.0) ∙ at in
            let at_o : slice_get o.locals k ≡ Some b = ap (λ (vs : List VType). slice_get vs k) (sym theirs.0) ∙ there in
            out k a b at_f at_o (is.kept k (slice_get_within f.locals k a at_f) away);
      }

  pub left-outside : i.op ≢ NEW → i.op ≢ INVOKESPECIAL → LeftOutside
  left-outside new special = by (is_store i.op) refl
    where
      by : (b : Bool) → is_store i.op ≡ b → LeftOutside
      by true store = after-store store
      by false other = after-other (λ store. false≢true (sym other ∙ store)) new special

-- what a settled frame leaves, and where it fits
record Onward (s : CodeScope) (leads : List Bool) (frames : List (Option FrameType)) (place : ℕ) (i : Instr) (o : FrameType) : Type 0 where
  left : FrameType
  row : Row s place i o left
  jumps : (next : ℤ) → LeadsTo i next → (n : ℕ) × (next ≡ pos n) × FitsAt s frames n left
  next : IsTrue (not (leaves_line i.op)) → FitsAt s frames (suc place) left ⊎ ((Leads leads (suc place) → ⊥) × Settles s leads frames (suc place) left)

module _ (s : CodeScope) (leads : List Bool) (frames : List (Option FrameType)) (place : ℕ) (i : Instr)
    (at : slice_get s.code.instrs place ≡ Some i) where
  onward_of : (j : Instr) (o left : FrameType) → StepsWell s frames place j o left
      → (IsTrue (not (leaves_line j.op)) → FitsAt s frames (suc place) left ⊎ ((Leads leads (suc place) → ⊥) × Settles s leads frames (suc place) left))
      → Onward s leads frames place i o
  onward_of j o left well next =
      subst (λ (x : Instr). Onward s leads frames place x o) (same_Some j i (sym well.instr ∙ at))
      (record { left = left; row = well.row; jumps = well.jumps; next = next })

onward : (s : CodeScope) (leads : List Bool) (frames : List (Option FrameType)) (place : ℕ) (i : Instr) (o : FrameType)
    → slice_get s.code.instrs place ≡ Some i → Settles s leads frames place o → Onward s leads frames place i o
onward s leads frames place i o at (ends _ j _ left well leaves) =
    onward_of s leads frames place i at j o left well (λ stays. absurd (not_both (leaves_line j.op) leaves stays))
onward s leads frames place i o at (joins _ j _ left well fits) =
    onward_of s leads frames place i at j o left well (λ stays. inl fits)
onward s leads frames place i o at (goes_on _ j _ left well none rest) =
    onward_of s leads frames place i at j o left well (λ stays. inr (none, rest))

module _ (task : Task) (frames : List (Option FrameType)) (place : ℕ) (i : Instr) (f after : FrameType)
    (at : slice_get (scope_in task).code.instrs place ≡ Some i) (row : Row (scope_in task) place i f after)
    (same : length after.locals ≡ length f.locals) (q r : LocalRange) (is_after : IsLeft i q (length after.locals) r)
    (differs : DiffersIn (scope_in task) task.leads.items frames place f q) where
  is : IsLeft i q (length f.locals) r
  is = subst (λ (n : ℕ). IsLeft i q n r) same is_after

  -- the range has all locals, or they fit what a settled frame left
  abbrev IsAll : Type 0
  IsAll = (r.first ≡ 0) × (r.end ≡ length after.locals)

  whole : (r.first ≡ 0) × (r.end ≡ length f.locals) → IsAll
  whole all = (all.0, all.1 ∙ sym same)

  left-cases : IsAll ⊎ ((o : FrameType) × (on : Onward (scope_in task) task.leads.items frames place i o)
      × (length on.left.locals ≡ length after.locals)
      × FitOutside (scope_in task).classes r.first r.end after.locals on.left.locals)
  left-cases = elim differs [
    | inl all ↦ inl (whole (is.whole all.0 all.1))
    | inr old ↦ elim (calls_or_not i.op) [
      | inl calls ↦ inl (whole (is.calls calls))
      | inr (new, special) ↦
          let on = onward (scope_in task) task.leads.items frames place i old.frame at old.settled in
          let left = left-outside (scope_in task) place i f after old.frame on.left row on.row old.as_many q r is old.outside new special in
          inr (old.frame, on, left.count, left.outside)
    ]
  ]

  pub differs-jumps : (n : ℕ) → LeadsTo i (pos n) → FitsBut (scope_in task) frames n r.first r.end after.locals
  differs-jumps n leads = elim left-cases [
    | inl all ↦ inl all
    | inr (o, on, count, out) ↦
        let to = on.jumps (pos n) leads in
        let e : to.0 ≡ n = let is_to = to.1 in cc in
        inr (on.left, subst (λ (m : ℕ). FitsAt (scope_in task) frames m on.left) e to.2, out)
  ]

  pub differs-next : IsTrue (not (leaves_line i.op)) → Leads task.leads.items (suc place)
      → FitsBut (scope_in task) frames (suc place) r.first r.end after.locals
  differs-next stays leads = elim left-cases [
    | inl all ↦ inl all
    | inr (o, on, count, out) ↦ elim (on.next stays) [
      | inl fits ↦ inr (on.left, fits, out)
      | inr (none, rest) ↦ absurd (none leads)
    ]
  ]

  pub differs-on : AreFrames task frames → IsTrue (not (leaves_line i.op)) → (Leads task.leads.items (suc place) → ⊥)
      → DiffersIn (scope_in task) task.leads.items frames (suc place) after r
  differs-on are stays none = elim left-cases [
    | inl all ↦ inl all
    | inr (o, on, count, out) ↦ elim (on.next stays) [
      | inl fits ↦ absurd (none (are.leaders (suc place) fits.0 fits.1))
      | inr (other, rest) ↦ inr (record { frame = on.left; settled = rest; as_many = count; outside = out })
    ]
  ]

-- ---- Before and after a walk.

module _ (s : CodeScope) (ordered : AreOrdered s.classes) (leads : List Bool) where
  pub DiffersIn-grown : (old new : List (Option FrameType)) → Grows s old new → (place : ℕ) (f : FrameType) (r : LocalRange)
      → DiffersIn s leads old place f r → DiffersIn s leads new place f r
  DiffersIn-grown old new grows place f r (inl all) = inl all
  DiffersIn-grown old new grows place f r (inr before) = inr (record {
    frame = before.frame;
    settled = Settles-grown s ordered old new grows leads place before.frame before.settled;
    as_many = before.as_many;
    outside = before.outside;
  })

  module _ (frames : List (Option FrameType)) (nodes : Nodes) (place : ℕ) (f : FrameType) (q r : LocalRange)
      (sized : length f.locals ≡ s.code.max_locals) (clipped : IsClipped q (length f.locals) r)
      (known : IsKnown s leads frames nodes place f q) where
    clipped-outside : (ys : List VType) → FitOutside s.classes q.first q.end f.locals ys → FitOutside s.classes r.first r.end f.locals ys
    clipped-outside ys out k a b at there (inl before) = out k a b at there (inl (omega (arith, clipped.0)))
    clipped-outside ys out k a b at there (inr past) =
        out k a b at there (inr (omega (arith, clipped.1, slice_get_within f.locals k a at)))

    all-clipped : IsWhole s q → (r.first ≡ 0) × (r.end ≡ length f.locals)
    all-clipped all = (omega (arith, clipped.0, all.0), omega (arith, clipped.1, all.1, sized))

    -- what the place's node has seen
    pub known-seen : (c : Seen) → NodeAt nodes 0 place c → FitOutside s.classes r.first r.end f.locals c.locals
    known-seen c there = elim known [
      | inl all ↦ let (begins, past) = all-clipped all in FitOutside-all s r.first r.end f.locals c.locals begins past
      | inr (old, leaf) ↦
          let (d, at_d, fits) = leaf (node-level nodes 0 place (Some c) there) in
          let same : d ≡ c = NodeAt-one nodes 0 place d c at_d there in
          let out = FitOutside-above s.classes ordered q.first q.end f.locals old.frame.locals d.locals old.outside fits.0 in
          clipped-outside c.locals (subst (λ (x : Seen). FitOutside s.classes q.first q.end f.locals x.locals) same out)
    ]

    pub known-differs : DiffersIn s leads frames place f r
    known-differs = elim known [
      | inl all ↦ inl (all-clipped all)
      | inr (old, leaf) ↦ inr (record {
        frame = old.frame;
        settled = old.settled;
        as_many = old.as_many;
        outside = clipped-outside old.frame.locals old.outside;
      })
    ]

  -- after a leader's visit
  pub known-visited : (old new : List (Option FrameType)) (old_notes new_notes : Notes) (nodes seen : Nodes) (leader : ℕ) (f : FrameType)
      → AreKnownBut s leads old old_notes.rose nodes leader → Moves s old old_notes new new_notes → KeepsSeen s nodes seen
      → FrameAt old leader f → Settles s leads new leader f → LeafFits s seen leader f.locals f.fresh
      → AreKnown s leads new new_notes.rose seen
  known-visited old new old_notes new_notes nodes seen leader f but moves keeps at settles leaf place g r at_g at_r =
      elim (moves.noted place g r at_g at_r) [
        | inl all ↦ inl all
        | inr (h, q, at_h, at_q, rose) ↦ elim (cases_eq place leader) [
          | inl e ↦
              let one : f ≡ h = FrameAt-one old place f h (subst (λ (p : ℕ). FrameAt old p f) (sym e) at) at_h in
              let here = subst (λ (p : ℕ). Settles s leads new p h) (sym e) (subst (λ (x : FrameType). Settles s leads new leader x) one settles) in
              let has = subst (λ (x : FrameType). LeafFits s seen leader x.locals x.fresh) one leaf in
              inr (
                record { frame = h; settled = here; as_many = rose.as_many; outside = rose.outside },
                subst (λ (p : ℕ). LeafFits s seen p h.locals h.fresh) (sym e) has,
              )
          | inr other ↦ elim (but place h q other at_h at_q) [
            | inl all ↦ inl (IsWhole-wider s q r rose.within all)
            | inr (o, has) ↦ inr (
              record {
                frame = o.frame;
                settled = Settles-grown s ordered old new moves.grows leads place o.frame o.settled;
                as_many = o.as_many ∙ rose.as_many;
                outside = FitOutside-trans s.classes ordered r.first r.end g.locals h.locals o.frame.locals rose.as_many rose.outside
                    (FitOutside-wider s.classes q r h.locals o.frame.locals rose.within o.outside);
              },
              keeps place o.frame.locals o.frame.fresh has,
            )
          ]
        ]
      ]

-- where the one place has no frame
pub known-without : (s : CodeScope) (leads : List Bool) (frames : List (Option FrameType)) (rose : List LocalRange) (nodes : Nodes) (leader : ℕ)
    → AreKnownBut s leads frames rose nodes leader → ((f : FrameType) → FrameAt frames leader f → ⊥) → AreKnown s leads frames rose nodes
known-without s leads frames rose nodes leader but none place f r at there = elim (cases_eq place leader) [
  | inl e ↦ absurd (none f (subst (λ (p : ℕ). FrameAt frames p f) e at))
  | inr other ↦ but place f r other at there
]

-- of first frames all locals are noted
pub known-begun : (s : CodeScope) (leads : List Bool) (n : ℕ) (old_notes : Notes) (new : List (Option FrameType)) (new_notes : Notes) (nodes : Nodes)
    → Moves s (replicate n None) old_notes new new_notes → AreKnown s leads new new_notes.rose nodes
known-begun s leads n old_notes new new_notes nodes moves place f r at there = elim (moves.noted place f r at there) [
  | inl all ↦ inl all
  | inr (g, q, at_g, at_q, rose) ↦ absurd (no-frame n place g at_g)
]

-- the range that is read at a place is known to be its frame's
pub known-read : (s : CodeScope) (leads : List Bool) (frames : List (Option FrameType)) (rose : List LocalRange) (nodes : Nodes) (place : ℕ)
    (r : LocalRange) → length rose ≡ length frames → AreKnown s leads frames rose nodes → RangeAt rose place r → (f : FrameType)
    → FrameAt frames place f → IsKnown s leads frames nodes place f r
known-read s leads frames rose nodes place r as_many known read f at = elim (slice_get_cases rose place).1 [
  | inl (q, within, is, same) ↦ subst (λ (x : LocalRange). IsKnown s leads frames nodes place f x) (sym (read q is)) (known place f q at is)
  | inr (past, none) ↦ absurd (omega (arith, slice_get_within frames place (Some f) at))
]
