-- What an instruction on objects leaves is kept and fits: where it goes on, by what it pushes; and where something is raised, for nothing
-- else changes.
use Rattle.std.proofs.Common.{inl, ◌≡◌, ℕ, ◌+◌, ◌<◌, true, not, List, length, refl, sym, ap, subst, ◌∙◌, arith}
use Rattle.std.specs.Prelude.{IsTrue}
use Rattle.list_lemmas.proofs.EndsOfLists.{one_split}
use Rattle.jk_model.specs.declared.identifiers.ClassId.{ClassId}
use Rattle.jk_model.specs.declared.instructions.Instr.{Instr}
use Rattle.jk_model.specs.declared.steps.Raise.{Raise}
use Rattle.jk_model.specs.declared.steps.Raise.TheVariants as Raised
use Rattle.jk_model.specs.declared.values.Value.{Value}
use Rattle.jk_model.specs.SystemTable.{system_classes}
use Rattle.jk_model_classes.specs.declared.records.ClassRecord.{ClassRecord}
use Rattle.jk_model_classes.specs.declared.records.TypeRef.{TypeRef}
use Rattle.jk_model_classes.specs.Classes.{AreOrdered}
use Rattle.jk_model_typing.specs.declared.frames.Demand.{Demand}
use Rattle.jk_model_typing.specs.declared.frames.Demand.TheVariants.{Fitting}
use Rattle.jk_model_typing.specs.declared.frames.VType.{VType}
use Rattle.jk_model_typing.specs.FrameTypes.{value_of}
use Rattle.jk_model_typing.specs.Groups.{Takes, group_of}
use Rattle.jk_model_typing.specs.Rows.{HasShape}
use Rattle.jk_model_typing.specs.Typing.{leaves_line}
use Rattle.jk_model_frames.specs.Frames.{FrameState}
use Rattle.jk_model_domains.specs.NumberRows.{IsOnTop, Replaces}
use Rattle.jk_model_domains.specs.Objects.{NamedObject}
use Rattle.jk_model_domains.specs.OwnStates.{state_of}
use Rattle.jk_model_domains.specs.ValueTypes.{EachValueFits, FrameHolds, HoldsDeclared, ValueFits}
use Rattle.jk_model_heaps.specs.RunningCode.{RunsCode}
use Rattle.jk_model_heaps.specs.Workings.{GoesOn, GoesOnWith, Inside, Outcome, Raises, RaisesHere, Setting, Working}
use Rattle.jk_model_sealing.specs.SealedInsides.{Surroundings}
use Rattle.heap_laws.proofs.GrownHeaps.{grown_self}
use Rattle.heap_laws.proofs.StillFits.{names_known}
use Rattle.number_laws.proofs.ValuesAbove.{value-above}
use Rattle.heap_laws.specs.FittingOutcomes.{FitsOutcome}
use Rattle.heap_laws.specs.KeptInsides.{IsKept, KeepsInside}
use Rattle.heap_laws.specs.RaisableObjects.{MayBeRaised}
use Rattle.heap_laws.specs.RunningFrames.{RunsWell}
use Rattle.row_laws.specs.Operands.{ValueMeets, ValuesMeet}
use Rattle.row_laws.specs.StandingFrames.{StandsTyped}
use Rattle.row_laws.proofs.HeldValues.{fits_here, held_here}
use Rattle.row_laws.proofs.NamesStayKnown.{AreKnown, replaced-known}
use Rattle.row_laws.proofs.OperandsOnTop.{as_many_meet, pushed_fit, taken_meet}
use Rattle.row_laws.proofs.StandsHere.{stands_typed}
use Rattle.row_laws.proofs.SystemParents.{below_listed, is_listed_below, numbered}

-- control goes on at the next instruction
abbrev pub StaysInLine : Instr → Type 0
StaysInLine i = IsTrue (not (leaves_line i.op))

pub in_line : (i : Instr) (op : ℕ) → i.op ≡ op → IsTrue (not (leaves_line op)) → StaysInLine i
in_line i op is stays = subst (λ (k : ℕ). IsTrue (not (leaves_line k))) (sym is) stays

-- how far classes are initialised stays
abbrev pub KeepsStates : Inside → Inside → Type 0
KeepsStates old new = (c : ClassId) → state_of new.own c ≡ state_of old.own c

module _ (around : Surroundings) (x : Setting) (w : Working) (runs : RunsWell around x w) (code : RunsCode around.classes w.frame) where
  pub typed : StandsTyped around.classes w.inside.heap w.frame code
  typed = stands_typed around.classes runs.setting.codes w.frame code runs.fits.0 w.inside.heap runs.fits.1

  pub shape_at : (op : ℕ) → code.instr.op ≡ op → HasShape code.scope code.instr (group_of op) typed.typed.row.shape
  shape_at op is = subst (λ (k : ℕ). HasShape code.scope code.instr (group_of k) typed.typed.row.shape) is typed.typed.row.shape_is

  -- what is held where a type is declared fits there on the stack
  pub declared_fits : (heap : List NamedObject) (v : Value) (t : TypeRef) → HoldsDeclared around.classes heap v t
      → ValueFits code.scope heap v (value_of code.scope.classes t)
  declared_fits heap v t held =
      fits_here code.scope heap v t (subst (λ (classes : List ClassRecord). HoldsDeclared classes heap v t) (sym code.is_scope.all) held)

  -- and the other way round: what meets a demand for the type may be held there
  pub met_declared : (v : Value) (t : TypeRef) → ValueMeets code.scope w.inside.heap (Fitting (value_of code.scope.classes t)) v
      → HoldsDeclared around.classes w.inside.heap v t
  met_declared v t (u, meets, fits) =
      let ordered = subst AreOrdered (sym code.is_scope.all) runs.setting.codes.ordered in
      let above = value-above code.scope w.inside.heap ordered v u (value_of code.scope.classes t) fits meets in
      subst (λ (classes : List ClassRecord). HoldsDeclared classes w.inside.heap v t) code.is_scope.all
      (held_here code.scope w.inside.heap v t above)

  -- ---- What is kept.

  abbrev pub Keeps : Working → Outcome → Type 0
  Keeps new outcome = IsKept around x w new × FitsOutcome around x code.scope new outcome

  -- nothing of the inside changes
  pub same_inside : KeepsInside around x w.inside w.inside
  same_inside = record { sealed = runs.inside; grown = grown_self w.inside.heap; tasks = λ a n is. inl is; pages = (refl, refl) }

  pub raised : (r : Raise) (new : Working) (outcome : Outcome) → RaisesHere w r new outcome → MayBeRaised around.classes w.inside.heap r
      → Keeps new outcome
  raised r new outcome (same, is) may =
      let here : Keeps w (Raises r) = (
        record { inside = same_inside; states = λ c. refl; head = refl; known = runs.known },
        (runs.fits, may),
      ) in
      subst (λ (y : Working). Keeps y outcome) (sym same) (subst (λ (o : Outcome). Keeps w o) (sym is) here)

  -- a new throwable of a system class
  pub fresh_raised : (n height : ℕ) (new : Working) (outcome : Outcome) → n < length system_classes → is_listed_below height n 9 ≡ true
      → RaisesHere w (Raised.Fresh (numbered n)) new outcome → Keeps new outcome
  fresh_raised n height new outcome low listed raises =
      raised (Raised.Fresh (numbered n)) new outcome raises (low, below_listed around.classes runs.setting.codes height n 9 listed)

  -- ---- The next instruction follows.

  module _ (taken pushed : List Value) (inside : Inside) (g : FrameState) (replaces : Replaces w.frame g taken pushed)
      (keeps : KeepsInside around x w.inside inside) (states : KeepsStates w.inside inside) (known : AreKnown around.caps inside.heap pushed) where
    same_head : g.head ≡ w.frame.head
    same_head = ap (λ (f : FrameState). f.head) replaces.after

    left_kept : IsKept around x w (record { inside = inside; frame = g })
    left_kept = record {
      inside = keeps;
      states = states;
      head = same_head;
      known = replaced-known around.caps inside.heap w.frame g taken pushed
          (names_known w.inside.heap inside.heap keeps.grown around.caps w.frame runs.known) replaces known;
    }

    left_fits : StaysInLine code.instr → FrameHolds code.scope inside.heap g typed.after
        → Keeps (record { inside = inside; frame = g }) (GoesOn (w.frame.head.at + 1))
    left_fits stays holds = (left_kept, typed.goes_on inside.heap g (w.frame.head.at + 1) same_head holds (inl (stays, refl)))

  pub went_on : (taken pushed : List Value) (inside : Inside) (new : Working) (outcome : Outcome) → GoesOnWith w taken pushed inside new outcome
      → StaysInLine code.instr → KeepsInside around x w.inside inside → KeepsStates w.inside inside → AreKnown around.caps inside.heap pushed
      → FrameHolds code.scope inside.heap new.frame typed.after → Keeps new outcome
  went_on taken pushed inside new outcome goes stays keeps states known holds =
      let here = left_fits taken pushed inside new.frame goes.replaced keeps states known stays holds in
      let there = subst (λ (o : Outcome). Keeps (record { inside = inside; frame = new.frame }) o) (sym goes.goes_on) here in
      subst (λ (y : Inside). Keeps (record { inside = y; frame = new.frame }) outcome) (sym goes.inside_is) there

  -- ---- Entries that meet demands are taken.

  module _ (demands : List Demand) (gives : List VType) (takes : typed.typed.row.shape ≡ Takes demands gives) where
    pub met : (taken : List Value) → IsOnTop w.frame taken → length taken ≡ length demands → ValuesMeet code.scope w.inside.heap demands taken
    met taken (below, is) many =
        let found = taken_meet code.scope w.inside.heap w.frame.head.at code.instr w.frame typed.before typed.after demands gives typed.typed takes in
        let as_many = as_many_meet code.scope w.inside.heap demands found.0 found.2 in
        let same = one_split found.1.0 below found.0 taken (sym found.1.1 ∙ is) (omega (arith, as_many, many)) in
        subst (ValuesMeet code.scope w.inside.heap demands) same.1 found.2

    -- and what fits is put in their place
    pub took : (taken pushed : List Value) (inside : Inside) (new : Working) (outcome : Outcome) → GoesOnWith w taken pushed inside new outcome
        → StaysInLine code.instr → length taken ≡ length demands → KeepsInside around x w.inside inside → KeepsStates w.inside inside
        → AreKnown around.caps inside.heap pushed → EachValueFits code.scope inside.heap pushed gives → Keeps new outcome
    took taken pushed inside new outcome goes stays many keeps states known fit =
        let meet = met taken (goes.replaced.below, goes.replaced.before) many in
        went_on taken pushed inside new outcome goes stays keeps states known
        (pushed_fit code.scope w.inside.heap w.frame.head.at code.instr w.frame typed.before typed.after demands gives typed.typed takes
        inside.heap new.frame taken pushed meet goes.replaced keeps.grown fit)

    -- the inside stays as it is
    pub took_only : (taken pushed : List Value) (new : Working) (outcome : Outcome) → GoesOnWith w taken pushed w.inside new outcome
        → StaysInLine code.instr → length taken ≡ length demands → AreKnown around.caps w.inside.heap pushed
        → EachValueFits code.scope w.inside.heap pushed gives → Keeps new outcome
    took_only taken pushed new outcome goes stays many known fit =
        took taken pushed w.inside new outcome goes stays many same_inside (λ c. refl) known fit
