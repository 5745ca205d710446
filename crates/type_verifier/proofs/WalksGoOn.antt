-- What one instruction of a walk asks and leaves: what a store changes, where it leads, and what holds at the next place.
use Rattle.std.proofs.Common.{◌≡◌, ℕ, suc, ◌+◌, ◌<◌, ◌⊎◌, inl, inr, pos, ℤ, IsTrue, Bool, true, false, not, List, length, min, Option, Some, slice_get, sym, subst, refl, ◌∙◌, add-one, arith, [], ◌∷◌}
use Rattle.std.proofs.lemmas.Option.{same_Some, slice_get_within}
use Rattle.std.proofs.lemmas.Bool.{false≢true}
use Rattle.jk_model.specs.declared.instructions.Instr.{Instr}
use Rattle.jk_model_classes.specs.declared.records.ClassRecord.{ClassRecord}
use Rattle.jk_model_classes.specs.MemberCode.{LeadsTo}
use Rattle.jk_model_typing.specs.declared.frames.VType.{VType}
use Rattle.jk_model_typing.specs.declared.frames.FrameType.{FrameType}
use Rattle.jk_model_typing.specs.FrameTypes.{EachFits}
use Rattle.jk_model_typing.specs.Rows.{Row}
use Rattle.jk_model_typing.specs.Typing.{FitsAt, handler_frame, is_store, leaves_line}
use Rattle.type_frames.specs.FrameJoins.{FitOutside}
use Rattle.type_frames.proofs.OrderOfFrames.{EachFits-at}
use Rattle.type_rows.proofs.RowsKeepLocals.{ChangesLocal, row-keeps_locals, row-changes_local}
use Rattle.type_verifier.specs.declared.covers.Seen.{Seen}
use Rattle.type_verifier.specs.declared.tasks.Task.{Task}
use Rattle.type_verifier.specs.Covers.{AreHanded, LeafFits, NodeAt, Nodes}
use Rattle.type_verifier.specs.Leaders.{Leads}
use Rattle.type_verifier.specs.Settling.{StepsWell, Settles}
use Rattle.type_verifier.specs.Settling.Settles.{ends, joins}
use Rattle.type_verifier.specs.Tasks.{TypesTask, scope_in}
use Rattle.type_verifier.specs.Walking.{FitsTarget, IsReady, IsStored, IsTarget, IsWalking}
use Rattle.type_verifier.proofs.BelowTypings.{StepsBelow, steps-below}
use Rattle.type_verifier.proofs.SettledStays.{AreHanded-grown, FitsAt-grown, Grows, Grows-compose}

-- ---- Parts of locals.

-- an end past the last local is at the last
pub FitOutside-clipped : (classes : List ClassRecord) (first end : ℕ) (xs ys : List VType) → FitOutside classes first end xs ys
    → FitOutside classes first (min (length xs) end) xs ys
FitOutside-clipped classes first end xs ys h k a b at there (inl before) = h k a b at there (inl before)
FitOutside-clipped classes first end xs ys h k a b at there (inr past) =
    let within = slice_get_within xs k a at in h k a b at there (inr (omega arith))

-- ---- What an instruction leaves.

node-some : (nodes : Nodes) (node : ℕ) (c : Seen) → NodeAt nodes 0 node c → 0 < length nodes
node-some [] node c there = cc
node-some (row ∷ rows) node c there = omega arith

-- a node has seen one thing
one-seen : (nodes : Nodes) (node : ℕ) (c d : Seen) → NodeAt nodes 0 node c → NodeAt nodes 0 node d → c ≡ d
one-seen nodes node c d there too = same_Some c d (same_Some (Some c) (Some d) (sym there ∙ too))

module _ (task : Task) (frames : List (Option FrameType)) (nodes : Nodes) (leader place : ℕ) (i : Instr) (f after : FrameType)
    (ready : IsReady task frames) (walking : IsWalking task frames nodes leader place f)
    (at : slice_get (scope_in task).code.instrs place ≡ Some i) (row : Row (scope_in task) place i f after) where
  stepped : (typing : List (Option FrameType)) → TypesTask task typing → StepsBelow (scope_in task) typing place i f after
  stepped typing types =
      steps-below task ready.known ready.ordered typing types place i f after at walking.sized (walking.below typing types) row

  change : IsTrue (is_store i.op) → ChangesLocal i f after
  change store = row-changes_local (scope_in task) place i f after store row

  -- ---- Before it is handed on.

  -- the leader's node has seen what a store leaves of the locals
  pub stored-outside : IsTrue (is_store i.op) → IsStored (scope_in task) nodes leader i after
  stored-outside store = (
    (change store).local,
    (change store).local_is,
    λ c there k a b ours seen away.
        let leaf = walking.leaf (node-some nodes leader c there) in
        let same : leaf.0 ≡ c = one-seen nodes leader leaf.0 c leaf.1 there in
        let far : (suc k < (change store).local) ⊎ ((change store).local + 1 < k) =
        elim away [ inl before ↦ inl (omega arith) | inr past ↦ inr (omega arith) ] in
        let kept : slice_get f.locals k ≡ Some a = sym ((change store).others k far) ∙ ours in
        let fits : EachFits (scope_in task).classes f.locals c.locals =
        subst (λ (d : Seen). EachFits (scope_in task).classes f.locals d.locals) same leaf.2.0 in
        EachFits-at (scope_in task).classes f.locals c.locals k a b fits kept seen,
  )

  pub stored-below : IsTrue (is_store i.op) → (typing : List (Option FrameType)) → TypesTask task typing
      → AreHanded (scope_in task) typing leader after.locals after.fresh
  stored-below store typing types h has covers =
      subst (λ (b : Bool). FitsAt (scope_in task) typing h.handler (handler_frame (scope_in task) h after.locals b))
      (sym (change store).fresh) ((stepped typing types).caught_after h has ((walking.covered h has).0 covers) store)

  pub targets : (next : ℤ) → LeadsTo i next → IsTarget task next after
  targets next leads = record {
    leader = λ n e within. ready.known.leaders.targets place n i at (subst (λ (z : ℤ). LeadsTo i z) e leads) within;
    below = λ typing types. (stepped typing types).goes_on next (inr leads);
  }

  pub line-below : (typing : List (Option FrameType)) → TypesTask task typing → IsTrue (not (leaves_line i.op))
      → FitsAt (scope_in task) typing (place + 1) after
  line-below typing types stays =
      let to = (stepped typing types).goes_on (pos (place + 1)) (inl (stays, refl)) in
      let same : to.0 ≡ place + 1 = let e = to.1 in cc in
      subst (λ (n : ℕ). FitsAt (scope_in task) typing n after) same to.2

  -- ---- After it was handed on.

  module _ (stored jumped new : List (Option FrameType)) (seen : Nodes) (storing : Grows (scope_in task) frames stored)
      (jumping : Grows (scope_in task) stored jumped) (from_jumped : Grows (scope_in task) jumped new)
      (handed : IsTrue (is_store i.op) → AreHanded (scope_in task) stored leader after.locals after.fresh)
      (fit : (next : ℤ) → LeadsTo i next → FitsTarget (scope_in task) jumped next after) where
    from_stored : Grows (scope_in task) stored new
    from_stored = Grows-compose (scope_in task) ready.ordered stored jumped new jumping from_jumped

    from_start : Grows (scope_in task) frames new
    from_start = Grows-compose (scope_in task) ready.ordered frames stored new storing from_stored

    pub steps : StepsWell (scope_in task) new place i f after
    steps = record {
      instr = at;
      row = row;
      jumps = λ next leads.
          let to = fit next leads in
          (to.0, to.1, FitsAt-grown (scope_in task) ready.ordered jumped new from_jumped to.0 after to.2);
      caught = λ h has covers.
          FitsAt-grown (scope_in task) ready.ordered frames new from_start h.handler _ (walking.handed h has ((walking.covered h has).1 covers));
      caught_after = λ h has covers store.
          subst (λ (b : Bool). FitsAt (scope_in task) new h.handler (handler_frame (scope_in task) h after.locals b)) (change store).fresh
          (FitsAt-grown (scope_in task) ready.ordered stored new from_stored h.handler _ (handed store h has ((walking.covered h has).1 covers)));
    }

    pub settles-here : IsTrue (leaves_line i.op) ⊎ FitsAt (scope_in task) new (place + 1) after
        → Settles (scope_in task) task.leads.items new place f
    settles-here (inl leaves) = ends place i f after steps leaves
    settles-here (inr fits) =
        joins place i f after steps (subst (λ (n : ℕ). FitsAt (scope_in task) new n after) (add-one place) fits)

    module _ (leaf : IsTrue (is_store i.op) → LeafFits (scope_in task) seen leader after.locals after.fresh)
        (others : is_store i.op ≡ false → seen ≡ nodes) (next_within : place + 1 < length (scope_in task).code.instrs)
        (next_none : Leads task.leads.items (place + 1) → ⊥) (stays : IsTrue (not (leaves_line i.op))) where
      within : suc place < length (scope_in task).code.instrs
      within = omega arith

      pub none : Leads task.leads.items (suc place) → ⊥
      none leads = next_none (subst (λ (n : ℕ). Leads task.leads.items n) (sym (add-one place)) leads)

      on : suc place < length task.leads.items
      on = omega (arith, ready.known.leaders.as_many)

      keeps : is_store i.op ≡ false → (after.locals ≡ f.locals) × (after.fresh ≡ f.fresh)
      keeps other =
          row-keeps_locals (scope_in task) place i f after (λ store. false≢true (sym other ∙ store))
          (λ e. none (ready.known.leaders.calls place i at (inl e) on)) (λ e. none (ready.known.leaders.calls place i at (inr e) on)) row

      leaf-here : (b : Bool) → is_store i.op ≡ b → LeafFits (scope_in task) seen leader after.locals after.fresh
      leaf-here true store = leaf store
      leaf-here false other =
          let kept = keeps other in
          subst (λ (ns : Nodes). LeafFits (scope_in task) ns leader after.locals after.fresh) (sym (others other))
          (subst (λ (b : Bool). LeafFits (scope_in task) nodes leader after.locals b) (sym kept.1)
          (subst (λ (vs : List VType). LeafFits (scope_in task) nodes leader vs f.fresh) (sym kept.0) walking.leaf))

      handed-here : (b : Bool) → is_store i.op ≡ b → AreHanded (scope_in task) new leader after.locals after.fresh
      handed-here true store =
          AreHanded-grown (scope_in task) ready.ordered stored new from_stored leader after.locals after.fresh (handed store)
      handed-here false other =
          let kept = keeps other in
          let before = AreHanded-grown (scope_in task) ready.ordered frames new from_start leader f.locals f.fresh walking.handed in
          subst (λ (b : Bool). AreHanded (scope_in task) new leader after.locals b) (sym kept.1)
          (subst (λ (vs : List VType). AreHanded (scope_in task) new leader vs f.fresh) (sym kept.0) before)

      pub walks-on : IsWalking task new seen leader (suc place) after
      walks-on = record {
        within = within;
        sized = row.room;
        below = λ typing types.
            subst (λ (n : ℕ). FitsAt (scope_in task) typing n after) (add-one place) (line-below typing types stays);
        leaf = leaf-here (is_store i.op) refl;
        handed = handed-here (is_store i.op) refl;
        covered = λ h has.
            let here = walking.covered h has in
            let next = ready.known.leaders.covered place h on none has in
            (λ covers. next.0 (here.0 covers), λ covers. here.1 (next.1 covers));
      }
