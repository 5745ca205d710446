-- The methods of package jk. Those that touch their own domain's inside alone are whole here. The others see to their arguments, and what
-- they want is answered outside of the domain. A null receiver is met before a method begins.
use Rattle.std.specs.Prelude.{◌≡◌, ℕ, ◌⊎◌, ◌||◌, IsTrue, pos, List, [], ◌∷◌, Some}
use Rattle.jk_model.specs.declared.identifiers.CapId.{CapId}
use Rattle.jk_model.specs.declared.identifiers.ClassId.{ClassId}
use Rattle.jk_model.specs.declared.identifiers.SegmentNo.{SegmentNo}
use Rattle.jk_model.specs.declared.values.Value.{Value}
use Rattle.jk_model.specs.declared.values.Value.TheVariants as Held
use Rattle.jk_model_classes.specs.declared.records.ClassRecord.{ClassRecord}
use Rattle.jk_model_classes.specs.Stubs.{ImplementsRemote}
use Rattle.jk_model_domains.specs.NumberRows.{is_null}
use Rattle.jk_model_domains.specs.Objects.{Object, Plain, Task, object_named}
use Rattle.jk_model_heaps.specs.Heaps.{free_words}
use Rattle.jk_model_heaps.specs.SystemClasses.{ILLEGAL_ARGUMENT_EXCEPTION, NULL_POINTER_EXCEPTION}
use Rattle.jk_model_heaps.specs.Workings.{Binds, Creates, Inside, Request, Revokes, Setting}
use Rattle.jk_model_system_rows.specs.Answers.{Answered, Answers, Wants, fails_by, gives_int}
use Rattle.jk_model_system_rows.specs.Texts.{IsText}

-- ---- Capabilities.

-- an object of this class, which implements jk/Remote; no text, no array and no Task is one
abbrev pub IsRemoteObject : List ClassRecord → Object → ClassId → Type 0
IsRemoteObject classes (Plain c fields) class = (class ≡ c) × ImplementsRemote classes c
IsRemoteObject classes object class = ⊥

abbrev pub CreatesCapability : Setting → List Value → Inside → Answered → Type 0
CreatesCapability x (Held.Null ∷ []) old done = Answers old (fails_by NULL_POINTER_EXCEPTION) done
CreatesCapability x (Held.Cap k ∷ []) old done = Answers old (fails_by ILLEGAL_ARGUMENT_EXCEPTION) done
CreatesCapability x (Held.Obj a ∷ []) old done =
    (object : Object) × (object_named old.heap a ≡ Some object)
    × (((class : ClassId) × IsRemoteObject x.classes object class × Answers old (Wants (Creates class a)) done)
    ⊎ (((class : ClassId) → IsRemoteObject x.classes object class → ⊥) × Answers old (fails_by ILLEGAL_ARGUMENT_EXCEPTION) done))
CreatesCapability x given old done = ⊥

abbrev pub RevokesCapability : List Value → Inside → Answered → Type 0
RevokesCapability (Held.Cap k ∷ []) old done = Answers old (Wants (Revokes k)) done
RevokesCapability given old done = ⊥

-- ---- The repository of names.

abbrev pub BindsName : List Value → Inside → Answered → Type 0
BindsName (name ∷ v ∷ []) old done =
    (IsTrue (is_null name || is_null v) × Answers old (fails_by NULL_POINTER_EXCEPTION) done)
    ⊎ ((text : List ℕ) × (k : CapId) × IsText old.heap name text × (v ≡ Held.Cap k) × Answers old (Wants (Binds text k)) done)
BindsName given old done = ⊥

-- lookup, unbind
abbrev pub AsksByName : (List ℕ → Request) → List Value → Inside → Answered → Type 0
AsksByName request (name ∷ []) old done =
    ((name ≡ Held.Null) × Answers old (fails_by NULL_POINTER_EXCEPTION) done)
    ⊎ ((text : List ℕ) × IsText old.heap name text × Answers old (Wants (request text)) done)
AsksByName request given old done = ⊥

-- ---- Domains.

-- as the step begins
abbrev pub CountsWords : Setting → Inside → Answered → Type 0
CountsWords x old done = Answers old (gives_int (pos (free_words x.classes x.quota old.heap))) done

-- ---- Tasks.

-- suspend, resume, stop: of the Task's segment
abbrev pub AsksOfTask : (SegmentNo → Request) → List Value → Inside → Answered → Type 0
AsksOfTask request (Held.Obj a ∷ []) old done =
    (s : SegmentNo) × (object_named old.heap a ≡ Some (Task s)) × Answers old (Wants (request s)) done
AsksOfTask request given old done = ⊥
