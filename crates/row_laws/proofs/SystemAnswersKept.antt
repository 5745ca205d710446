-- What is kept by a method that changes nothing, or makes one object, and what its answer is.
use Rattle.std.proofs.Common.{inl, inr, ◌≡◌, ℕ, ◌<◌, true, List, length, Option, Some, None, refl, sym, subst, arith}
use Rattle.std.specs.Prelude.{⊤}
use Rattle.jk_model.specs.SystemTable.{system_classes}
use Rattle.jk_model.specs.declared.steps.Raise.TheVariants as Raised
use Rattle.jk_model.specs.declared.values.Value.TheVariants as Held
use Rattle.jk_model_classes.specs.declared.records.ClassRecord.{ClassRecord}
use Rattle.jk_model_classes.specs.declared.records.TypeRef.{TypeRef}
use Rattle.jk_model_classes.specs.Worlds.{IsNamed}
use Rattle.jk_model_typing.specs.FrameTypes.{STRING}
use Rattle.jk_model_domains.specs.Objects.{NamedObject, Object, Task, Text, TASK, class_type, object_named}
use Rattle.jk_model_heaps.specs.Heaps.{MakesOne}
use Rattle.jk_model_heaps.specs.Workings.{Inside, Setting, with_heap}
use Rattle.jk_model_sealing.specs.SealedInsides.{IsSealedInside, Surroundings}
use Rattle.jk_model_system_rows.specs.Answers.{Answer, Answered, Answers, AnswersNew, Ends, Fails, Gives, MakesAnd, Tells, Wants, fails_for_memory, gives_value, with_answer}
use Rattle.class_table.proofs.StandingAbove.{is-own_superclass}
use Rattle.heap_laws.specs.FittingOutcomes.{IsKnownRequest, IsOfType, IsResult, answer_type}
use Rattle.heap_laws.specs.KeptInsides.{KeepsInside}
use Rattle.heap_laws.specs.RaisableObjects.{MayBeRaised}
use Rattle.heap_laws.specs.RunningFrames.{IsKnownSetting}
use Rattle.heap_laws.specs.SoundCodes.{AreSoundCodes}
use Rattle.row_laws.proofs.InstancesFitTypes.{class_fits}
use Rattle.row_laws.proofs.SystemParents.{below_listed, is_listed_below, numbered}
use Rattle.row_laws.proofs.InsidesKept.{IsTaskOf, kept_same, one_kept, one_there}

-- what is known of the answer of a method that has such a result, by what is done with it
abbrev pub AnswerFits : Surroundings → List NamedObject → Option TypeRef → Answer → Type 0
AnswerFits around heap result (Gives v) = IsResult around heap result v
AnswerFits around heap result (Tells text) = result ≡ None
AnswerFits around heap result (Fails r) = MayBeRaised around.classes heap r
AnswerFits around heap result (Wants request) = (answer_type request ≡ result) × IsKnownRequest around heap request
AnswerFits around heap result Ends = ⊤

pub record KeepsAnswer (around : Surroundings) (x : Setting) (old : Inside) (result : Option TypeRef) (done : Answered) : Type 0 where
  pub inside : KeepsInside around x old done.inside
  pub own : done.inside.own ≡ old.own
  pub answer : AnswerFits around done.inside.heap result done.answer

module _ (around : Surroundings) (x : Setting) (known : IsKnownSetting around x) (old : Inside) (sealed : IsSealedInside around x.quota old)
    (result : Option TypeRef) (done : Answered) where
  abbrev Keeps : Type 0
  Keeps = KeepsAnswer around x old result done

  pub kept_by : (new : Inside) (answer : Answer) → done ≡ with_answer new answer → KeepsInside around x old new → new.own ≡ old.own
      → AnswerFits around new.heap result answer → Keeps
  kept_by new answer is inside own fits =
      subst (λ (d : Answered). KeepsAnswer around x old result d) (sym is) (record { inside = inside; own = own; answer = fits })

  pub answered : (answer : Answer) → AnswerFits around old.heap result answer → Answers old answer done → Keeps
  answered answer fits is = kept_by old answer is (kept_same around x old sealed) refl fits

  -- one object is made, or nothing changes
  pub made_and : (object : Object) (leaves : ℕ → List NamedObject → Answered)
      → ((a : ℕ) (heap : List NamedObject) → MakesOne around.classes x.quota old.heap a object heap
      → KeepsAnswer around x old result (leaves a heap)) → MakesAnd x old object leaves done → Keeps
  made_and object leaves keeps (inl (a, heap, makes, is)) =
      subst (λ (d : Answered). KeepsAnswer around x old result d) (sym is)
      (keeps a heap (subst (λ (classes : List ClassRecord). MakesOne classes x.quota old.heap a object heap) known.classes makes))
  made_and object leaves keeps (inr (lacks, is)) = answered fails_for_memory tt is

-- ---- Failures.

pub fails_fit : (around : Surroundings) (sound : AreSoundCodes around.classes) (heap : List NamedObject) (n : ℕ) → n < length system_classes
    → is_listed_below 45 n 9 ≡ true → MayBeRaised around.classes heap (Raised.Fresh (numbered n))
fails_fit around sound heap n low below = (low, below_listed around.classes sound 45 n 9 below)

-- ---- New objects that are the answer.

pub text_of_type : (around : Surroundings) (sound : AreSoundCodes around.classes) (heap : List NamedObject) (a : ℕ) (units : List ℕ)
    → object_named heap a ≡ Some (Text units) → IsOfType around heap (class_type STRING) (Held.Obj a)
text_of_type around sound heap a units is = (
  (Text units, is, class_fits around.classes sound STRING STRING (is-own_superclass around.classes sound.ordered STRING)),
  (Text units, is),
)

task_of_type : (around : Surroundings) (sound : AreSoundCodes around.classes) (heap : List NamedObject) (x : Setting) (a : ℕ)
    → object_named heap a ≡ Some (Task x.segment) → IsOfType around heap (class_type TASK) (Held.Obj a)
task_of_type around sound heap x a is = (
  (Task x.segment, is, class_fits around.classes sound TASK TASK (is-own_superclass around.classes sound.ordered TASK)),
  (Task x.segment, is),
)

pub string_named : (around : Surroundings) (x : Setting) → IsKnownSetting around x → IsNamed around.table STRING
string_named around x known = known.table.knows_system STRING (omega arith)

task_named : (around : Surroundings) (x : Setting) → IsKnownSetting around x → IsNamed around.table TASK
task_named around x known = known.table.knows_system TASK (omega arith)

-- a text is no Task
pub text_no_task : (around : Surroundings) (x : Setting) (units : List ℕ) → IsTaskOf x.segment (Text units)
text_no_task around x units = λ n e. absurd cc

own_segment : (x : Setting) → IsTaskOf x.segment (Task x.segment)
own_segment x = λ n e. sym cc

module _ (around : Surroundings) (x : Setting) (known : IsKnownSetting around x) (old : Inside) (sealed : IsSealedInside around x.quota old)
    (done : Answered) where
  pub new_text_kept : (units : List ℕ) → AnswersNew x old (Text units) done → KeepsAnswer around x old (Some (class_type STRING)) done
  new_text_kept units row =
      made_and around x known old sealed (Some (class_type STRING)) done (Text units)
      (λ a heap. with_answer (with_heap old heap) (gives_value (Held.Obj a)))
      (λ a heap makes. record {
        inside = one_kept around x old sealed a (Text units) heap makes (string_named around x known) (text_no_task around x units);
        own = refl;
        answer = text_of_type around known.codes heap a units (one_there around x old sealed a (Text units) heap makes);
      }) row

  pub new_task_kept : AnswersNew x old (Task x.segment) done → KeepsAnswer around x old (Some (class_type TASK)) done
  new_task_kept row =
      made_and around x known old sealed (Some (class_type TASK)) done (Task x.segment)
      (λ a heap. with_answer (with_heap old heap) (gives_value (Held.Obj a)))
      (λ a heap makes. record {
        inside = one_kept around x old sealed a (Task x.segment) heap makes (task_named around x known) (own_segment x);
        own = refl;
        answer = task_of_type around known.codes heap x a (one_there around x old sealed a (Task x.segment) heap makes);
      }) row
