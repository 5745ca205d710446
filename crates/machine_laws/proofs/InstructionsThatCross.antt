-- An instruction crosses to another domain only where it is an invokeinterface at a capability, which is left where it stands.
use Rattle.std.proofs.Common.{◌≡◌, ◌⊎◌, inl, inr, List, refl, sym, subst}
use Rattle.std.specs.Prelude.{⊤}
use Rattle.jk_model.specs.declared.identifiers.CapId.{CapId}
use Rattle.jk_model.specs.declared.identifiers.MemberId.{MemberId}
use Rattle.jk_model.specs.declared.instructions.Instr.{Instr}
use Rattle.jk_model.specs.declared.steps.After.{After}
use Rattle.jk_model.specs.declared.steps.After.TheVariants as Next
use Rattle.jk_model.specs.declared.steps.Raise.{Raise}
use Rattle.jk_model.specs.declared.values.Value.{Value}
use Rattle.jk_model_typing.specs.Scopes.{CodeScope}
use Rattle.jk_model_frames.specs.Frames.{FrameState}
use Rattle.jk_model_heaps.specs.declared.shapes.Shape.{Shape}
use Rattle.jk_model_heaps.specs.declared.shapes.Shape.TheVariants as Of
use Rattle.jk_model_heaps.specs.Workings.{Crosses, GoesOnWith, Inside, Outcome, RaisesHere, Setting, Working}
use Rattle.jk_model_heap_rows.specs.HeapRows.{HeapRow}
use Rattle.jk_model_heap_rows.specs.NewObjectRows.{PushesNew}
use Rattle.jk_model_call_rows.specs.CallRows.{FollowsTarget, MethodCall}
use Rattle.jk_model_call_rows.specs.Targets.{Fails as FailsBy, Runs, Target, Through}
use Rattle.jk_model_running.specs.Executions.{Executes, IsOutcome, calls, heap, numbers, system}
use Rattle.jk_model_system_rows.specs.Answers.{Answer, Ends, Fails, Gives, Tells, Wants}
use Rattle.jk_model_system_rows.specs.SystemCalls.{Answering}

-- no method is called through a capability
abbrev pub IsNoCrossing : Outcome → Type 0
IsNoCrossing (Crosses k m) = ⊥
IsNoCrossing outcome = ⊤

stays_at : (o outcome : Outcome) → IsNoCrossing o → outcome ≡ o → IsNoCrossing outcome
stays_at o outcome within is = subst IsNoCrossing (sym is) within

module _ (x : Setting) (s : CodeScope) (i : Instr) (w new : Working) (outcome : Outcome) where
  abbrev Stays : Type 0
  Stays = IsNoCrossing outcome

  goes : (taken pushed : List Value) (inside : Inside) → GoesOnWith w taken pushed inside new outcome → Stays
  goes taken pushed inside h = stays_at _ outcome tt h.goes_on

  raises : (r : Raise) → RaisesHere w r new outcome → Stays
  raises r h = stays_at _ outcome tt h.1

  -- ---- Numbers.

  of_numbers : (after : After) → IsOutcome after outcome → Stays
  of_numbers (Next.Goto n) is = stays_at _ outcome tt is
  of_numbers (Next.Raise r) is = stays_at _ outcome tt is
  of_numbers (Next.Return v) is = stays_at _ outcome tt is
  of_numbers after is = absurd is

  -- ---- Objects.

  pushes : (taken : List Value) (shape : Shape) → PushesNew x w taken shape new outcome → Stays
  pushes taken shape (inl (a, then, makes, on)) = goes _ _ _ on
  pushes taken shape (inr (lacks, fails)) = raises _ fails

  of_heaps : HeapRow x s i w new outcome → Stays
  of_heaps (HeapRow.loads_text row) = elim row.does [
    | inl (a, has, on) ↦ goes _ _ _ on
    | inr (inl (a, then, none, makes, on)) ↦ goes _ _ _ on
    | inr (inr (none, (lacks, fails))) ↦ raises _ fails
  ]
  of_heaps (HeapRow.gets_static row) = goes _ _ _ row.does
  of_heaps (HeapRow.puts_static row) = goes _ _ _ row.does
  of_heaps (HeapRow.gets_field row) = elim row.does [
    | inl (null, fails) ↦ raises _ fails
    | inr (f, on) ↦ goes _ _ _ on
  ]
  of_heaps (HeapRow.puts_field row) = elim row.does [
    | inl (null, fails) ↦ raises _ fails
    | inr (f, on) ↦ goes _ _ _ on
  ]
  of_heaps (HeapRow.loads_element row) = elim row.does [
    | inl (null, fails) ↦ raises _ fails
    | inr (inl (a, (outside, fails))) ↦ raises _ fails
    | inr (inr (a, place, item, at, has, on)) ↦ goes _ _ _ on
  ]
  of_heaps (HeapRow.stores_element row) = elim row.does [
    | inl (null, fails) ↦ raises _ fails
    | inr (inl (a, (outside, fails))) ↦ raises _ fails
    | inr (inr (inl (a, place, at, op, other, fails))) ↦ raises _ fails
    | inr (inr (inr (a, place, at, fits, on))) ↦ goes _ _ _ on
  ]
  of_heaps (HeapRow.array_length row) = elim row.does [
    | inl (null, fails) ↦ raises _ fails
    | inr (a, on) ↦ goes _ _ _ on
  ]
  of_heaps (HeapRow.makes_object row) = pushes _ (Of.Plain row.class) row.does
  of_heaps (HeapRow.makes_array row) = elim row.does [
    | inl (none, fails) ↦ raises _ fails
    | inr (n, is, does) ↦ pushes _ (Of.Array row.element n) does
  ]
  of_heaps (HeapRow.makes_arrays row) = elim row.does [
    | inl (none, fails) ↦ raises _ fails
    | inr (inl (sizes, are, (lacks, fails))) ↦ raises _ fails
    | inr (inr (sizes, a, then, are, room, makes, on)) ↦ goes _ _ _ on
  ]
  of_heaps (HeapRow.casts row) = elim row.does [
    | inl (fits, on) ↦ goes _ _ _ on
    | inr (other, fails) ↦ raises _ fails
  ]
  of_heaps (HeapRow.tests row) = elim row.does [
    | inl (fits, on) ↦ goes _ _ _ on
    | inr (other, on) ↦ goes _ _ _ on
  ]
  of_heaps (HeapRow.raises_object row) = elim row.does [
    | inl (null, fails) ↦ raises _ fails
    | inr (a, is, fails) ↦ raises _ fails
  ]

  -- ---- Calls.

  of_targets : (target : Target) (given : List Value) → FollowsTarget x target given w new outcome → ((k : CapId) (m : MemberId) → target ≡ Through k m → ⊥)
      → Stays
  of_targets (Runs m) given row none = elim row.does [
    | inl (called, room, is, replaced, same, calling) ↦ stays_at _ outcome tt calling
    | inr (short, fails) ↦ raises _ fails
  ]
  of_targets (FailsBy c) given row none = raises _ row
  of_targets (Through k m) given row none = absurd (none k m refl)

  answered : (f g : FrameState) (given : List Value) (answer : Answer) → Answering f given answer g outcome → Stays
  answered f g given (Gives v) h = stays_at _ outcome tt h.1
  answered f g given (Tells text) h = stays_at _ outcome tt h.1
  answered f g given (Fails r) h = stays_at _ outcome tt h.1
  answered f g given (Wants request) h = stays_at _ outcome tt h.1
  answered f g given Ends h = stays_at _ outcome tt h.1

  -- What crosses is a call through this capability of this method, and changes nothing.
  pub record CrossingCall : Type 0 where
    pub call : MethodCall x s i w
    pub cap : CapId
    pub member : MemberId
    pub through : call.target ≡ Through cap member
    pub same : new ≡ w
    pub crosses : outcome ≡ Crosses cap member

  by_target : (call : MethodCall x s i w) (target : Target) → call.target ≡ target → FollowsTarget x target call.given w new outcome → Stays ⊎ CrossingCall
  by_target call (Runs m) is row = inl (of_targets (Runs m) call.given row (λ k n e. absurd cc))
  by_target call (FailsBy c) is row = inl (of_targets (FailsBy c) call.given row (λ k n e. absurd cc))
  by_target call (Through k m) is row =
      inr (record { call = call; cap = k; member = m; through = is; same = row.0; crosses = row.1 })

  pub crossing_call : Executes x s i w new outcome → Stays ⊎ CrossingCall
  crossing_call (numbers after row inside is) = inl (of_numbers after is)
  crossing_call (heap row) = inl (of_heaps row)
  crossing_call (calls row) = by_target row.call row.call.target refl row.follows
  crossing_call (system call does) = inl (answered w.frame new.frame call.call.given does.done.answer does.answering)
