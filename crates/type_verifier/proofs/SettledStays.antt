-- What is settled stays settled while frames grow, and what was handed on stays so.
use Rattle.std.proofs.Common.{◌≡◌, ℕ, suc, inl, inr, Bool, List, Contains, Option, sym, subst, ◌∙◌, [], ◌∷◌, length, arith}
use Rattle.jk_model.specs.declared.instructions.Instr.{Instr}
use Rattle.jk_model_classes.specs.Classes.{AreOrdered}
use Rattle.list_lemmas.proofs.ItemsOfLists.{Contains-cases}
use Rattle.jk_model_typing.specs.declared.frames.VType.{VType}
use Rattle.jk_model_typing.specs.declared.frames.FrameType.{FrameType}
use Rattle.jk_model_typing.specs.Scopes.{CodeScope}
use Rattle.jk_model_typing.specs.Typing.{FrameAt, FitsAt}
use Rattle.type_verifier.specs.declared.tasks.Task.{Task}
use Rattle.type_verifier.specs.Covers.{AreCovers, AreHanded, Nodes}
use Rattle.type_verifier.specs.Progress.{Moves, Notes}
use Rattle.type_verifier.specs.Settling.{StepsWell, Settles, AreSettled, AreSettledBut}
use Rattle.type_verifier.specs.Settling.Settles.{ends, joins, goes_on}
use Rattle.type_verifier.specs.Tasks.{scope_in}
use Rattle.type_verifier.proofs.MovesCompose.{FitsAt-below}

-- each frame of the first fits that of the second at its place
abbrev pub Grows : CodeScope → List (Option FrameType) → List (Option FrameType) → Type 0
Grows s old new = (place : ℕ) (f : FrameType) → FrameAt old place f → FitsAt s new place f

module _ (s : CodeScope) (ordered : AreOrdered s.classes) where
  pub FitsAt-grown : (old new : List (Option FrameType)) → Grows s old new → (place : ℕ) (f : FrameType) → FitsAt s old place f
      → FitsAt s new place f
  FitsAt-grown old new grows place f h = FitsAt-below s ordered new place f h.0 h.2 (grows place h.0 h.1)

  pub Grows-compose : (a b c : List (Option FrameType)) → Grows s a b → Grows s b c → Grows s a c
  Grows-compose a b c first then place f h = FitsAt-grown b c then place f (first place f h)

module _ (s : CodeScope) (ordered : AreOrdered s.classes) (old new : List (Option FrameType)) (grows : Grows s old new) where
  pub StepsWell-grown : (place : ℕ) (i : Instr) (f after : FrameType) → StepsWell s old place i f after → StepsWell s new place i f after
  StepsWell-grown place i f after h = record {
    instr = h.instr;
    row = h.row;
    jumps = λ next leads. let to = h.jumps next leads in (to.0, to.1, FitsAt-grown s ordered old new grows to.0 after to.2);
    caught = λ e has covers. FitsAt-grown s ordered old new grows e.handler _ (h.caught e has covers);
    caught_after = λ e has covers store. FitsAt-grown s ordered old new grows e.handler _ (h.caught_after e has covers store);
  }

  pub Settles-grown : (leads : List Bool) (place : ℕ) (f : FrameType) → Settles s leads old place f → Settles s leads new place f
  Settles-grown leads _ _ (ends place i f after steps leaves) = ends place i f after (StepsWell-grown place i f after steps) leaves
  Settles-grown leads _ _ (joins place i f after steps fits) =
      joins place i f after (StepsWell-grown place i f after steps) (FitsAt-grown s ordered old new grows (suc place) after fits)
  Settles-grown leads _ _ (goes_on place i f after steps none rest) =
      goes_on place i f after (StepsWell-grown place i f after steps) none (Settles-grown leads (suc place) after rest)

  pub AreHanded-grown : (place : ℕ) (locals : List VType) (fresh : Bool) → AreHanded s old place locals fresh → AreHanded s new place locals fresh
  AreHanded-grown place locals fresh h e has covers = FitsAt-grown s ordered old new grows e.handler _ (h e has covers)

pub AreCovers-grown : (task : Task) → AreOrdered (scope_in task).classes → (old new : List (Option FrameType))
    → Grows (scope_in task) old new → (nodes : Nodes) → AreCovers task old nodes → AreCovers task new nodes
AreCovers-grown task ordered old new grows nodes h = record {
  levels = h.levels;
  wide = h.wide;
  sized = h.sized;
  up = h.up;
  handed = λ level node x c e at has is. FitsAt-grown (scope_in task) ordered old new grows e.handler _ (h.handed level node x c e at has is);
  below = h.below;
}

-- after a leader's visit all frames are settled, or are still to be looked at
pub AreSettled-visited : (s : CodeScope) → AreOrdered s.classes → (leads : List Bool) (old new : List (Option FrameType)) (old_work new_work : Notes)
    (leader : ℕ) (f : FrameType) → AreSettledBut s leads old old_work.work leader → Moves s old old_work new new_work → FrameAt old leader f
    → Settles s leads new leader f → AreSettled s leads new new_work.work
AreSettled-visited s ordered leads old new old_work new_work leader f but moves at settles place g there =
    elim (moves.pending place) [
      | inl same ↦
          let was : FrameAt old place g = sym same ∙ there in
          elim (but place g was) [
            | inl is ↦
                let e : f ≡ g = cc in
                let here : Settles s leads new leader g = subst (λ (h : FrameType). Settles s leads new leader h) e settles in
                inr (subst (λ (p : ℕ). Settles s leads new p g) (sym is) here)
            | inr (inl waits) ↦ inl (moves.kept place waits)
            | inr (inr done) ↦ inr (Settles-grown s ordered old new moves.grows leads place g done)
          ]
      | inr waits ↦ inl waits
    ]

-- where the one place has no frame, all frames are settled, or are still to be looked at
pub AreSettled-without : (s : CodeScope) (leads : List Bool) (frames : List (Option FrameType)) (work : List ℕ) (place : ℕ)
    → AreSettledBut s leads frames work place → ((f : FrameType) → FrameAt frames place f → ⊥) → AreSettled s leads frames work
AreSettled-without s leads frames work place but none other f at = elim (but other f at) [
  | inl is ↦ absurd (none f (subst (λ (p : ℕ). FrameAt frames p f) is at))
  | inr (inl waits) ↦ inl waits
  | inr (inr done) ↦ inr done
]

-- once a place is taken from the work, its frame alone may be unsettled
pub AreSettledBut-taken : (s : CodeScope) (leads : List Bool) (frames : List (Option FrameType)) (work rest : List ℕ) (place : ℕ)
    → work ≡ place ∷ rest → AreSettled s leads frames work → AreSettledBut s leads frames rest place
AreSettledBut-taken s leads frames work rest place taken settled other f at = elim (settled other f at) [
  | inl waits ↦ elim (Contains-cases other place rest (subst (λ (ns : List ℕ). Contains ns other) taken waits)) [
    | inl is ↦ inl (sym is)
    | inr later ↦ inr (inl later)
  ]
  | inr done ↦ inr (inr done)
]

-- no place waits in an empty work
pub AreSettled-done : (s : CodeScope) (leads : List Bool) (frames : List (Option FrameType)) (work : List ℕ) → length work ≡ 0
    → AreSettled s leads frames work → AreSettled s leads frames []
AreSettled-done s leads frames [] none settled = settled
AreSettled-done s leads frames (place ∷ work) none settled = absurd (omega arith)
