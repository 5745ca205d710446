-- Casts, tests of instances, and athrow (the Java Virtual Machine Specification, 6, checkcast, instanceof, athrow). What is an
-- instance of what goes by the real hierarchy, interfaces included; null is an instance of nothing, and may be cast to everything.
use Rattle.std.specs.Prelude.{◌≡◌, ℕ, ◌⊎◌, pos, [], ◌∷◌}
use Rattle.jk_model.specs.declared.instructions.Instr.{Instr}
use Rattle.jk_model.specs.declared.opcodes.TheConstants.{ATHROW, CHECKCAST, INSTANCEOF}
use Rattle.jk_model.specs.declared.steps.Raise.TheVariants as Raised
use Rattle.jk_model.specs.declared.values.Value.{Value}
use Rattle.jk_model.specs.declared.values.Value.TheVariants as Held
use Rattle.jk_model_classes.specs.declared.records.Link.TheVariants as To
use Rattle.jk_model_classes.specs.declared.records.TypeRef.{TypeRef}
use Rattle.jk_model_typing.specs.Scopes.{CodeScope, LeadsToLink}
use Rattle.jk_model_domains.specs.NumberRows.{IsOnTop}
use Rattle.jk_model_heaps.specs.Instances.{IsInstance}
use Rattle.jk_model_heaps.specs.References.{IsNullOrInstance}
use Rattle.jk_model_heaps.specs.SystemClasses.{CLASS_CAST_EXCEPTION}
use Rattle.jk_model_heaps.specs.Workings.{GoesOnWith, Outcome, RaisesHere, Setting, Working}
use Rattle.jk_model_heap_rows.specs.NullReferences.{FailsAtNull}

pub record Casts (x : Setting) (s : CodeScope) (i : Instr) (w new : Working) (outcome : Outcome) : Type 0 where
  pub op : i.op ≡ CHECKCAST
  pub kind : TypeRef
  pub names : LeadsToLink s i (To.Class kind)
  pub value : Value
  pub on_top : IsOnTop w.frame (value ∷ [])
  pub does :
      (IsNullOrInstance x w.inside.heap value kind × GoesOnWith w (value ∷ []) (value ∷ []) w.inside new outcome)
      ⊎ ((IsNullOrInstance x w.inside.heap value kind → ⊥) × RaisesHere w (Raised.Fresh CLASS_CAST_EXCEPTION) new outcome)

pub record Tests (x : Setting) (s : CodeScope) (i : Instr) (w new : Working) (outcome : Outcome) : Type 0 where
  pub op : i.op ≡ INSTANCEOF
  pub kind : TypeRef
  pub names : LeadsToLink s i (To.Class kind)
  pub value : Value
  pub on_top : IsOnTop w.frame (value ∷ [])
  pub does :
      (IsInstance x.classes x.caps w.inside.heap value kind × GoesOnWith w (value ∷ []) (Held.Int (pos 1) ∷ []) w.inside new outcome)
      ⊎ ((IsInstance x.classes x.caps w.inside.heap value kind → ⊥)
      × GoesOnWith w (value ∷ []) (Held.Int (pos 0) ∷ []) w.inside new outcome)

-- athrow raises the object on top
pub record RaisesObject (i : Instr) (w new : Working) (outcome : Outcome) : Type 0 where
  pub op : i.op ≡ ATHROW
  pub value : Value
  pub on_top : IsOnTop w.frame (value ∷ [])
  pub does :
      FailsAtNull value w new outcome
      ⊎ ((a : ℕ) × (value ≡ Held.Obj a) × RaisesHere w (Raised.Object a) new outcome)
