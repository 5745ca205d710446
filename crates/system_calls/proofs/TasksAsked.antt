-- What is asked of the segment of a Task is granted.
use Rattle.std.proofs.Common.{◌≡◌, inl, inr, ℕ, List, [], ◌∷◌, Some, None, Ok, refl, sym, ap, subst, ◌∙◌}
use Rattle.jk_model.specs.declared.identifiers.SegmentNo.{SegmentNo}
use Rattle.jk_model.specs.declared.values.Value.{Value}
use Rattle.jk_model.specs.declared.values.Value.TheVariants as Held
use Rattle.jk_model_domains.specs.Objects.{NamedObject, Task, object_named}
use Rattle.jk_model_heaps.specs.Workings.{Inside, Request, Resumes, Setting, Stops, Suspends}
use Rattle.jk_model_sharing.specs.Answers.{Answers, resumes, stops, suspends}
use Rattle.jk_model_sharing.specs.SharedStates as shared_words
use Rattle.jk_model_sharing.specs.SharedStates.{SharedState}
use Rattle.jk_model_system_rows.specs.declared.meanings.SystemMeaning.{SystemMeaning}
use Rattle.jk_model_system_rows.specs.declared.meanings.SystemMeaning.TheVariants as Means
use Rattle.jk_model_system_rows.specs.Answers.{Answered, Wants, with_answer}
use Rattle.jk_model_system_rows.specs.PackageJk.{AsksOfTask}
use Rattle.jk_model_system_rows.specs.SystemRows.{SystemRow}
use Rattle.object_store.specs.HeapContents.{HeapContent, IsLive}
use Rattle.row_laws.specs.GivenValues.{GivenFor, IsSomeTask, One}
use Rattle.row_laws.proofs.GivenByNumber.{one}
use Rattle.system_calls.specs.declared.here.Here.{Here}
use Rattle.system_calls.specs.MethodGroups.{IsOfTasks}
use Rattle.system_calls.specs.MethodsDone.{IsAround, MayAnswer, MethodDone, asks}
use Rattle.system_calls.proofs.MethodsAreDone.{asked}
use Rattle.system_calls.proofs.MethodsMayBeDone.{ready}

-- each of them is given a Task
pub task_given : (heap : List NamedObject) (meaning : SystemMeaning) (given : List Value) → IsOfTasks meaning → GivenFor heap meaning given
    → One (IsSomeTask heap) given
task_given heap meaning given (inl is) h = subst (λ (m : SystemMeaning). GivenFor heap m given) is h
task_given heap meaning given (inr (inl is)) h = subst (λ (m : SystemMeaning). GivenFor heap m given) is h
task_given heap meaning given (inr (inr is)) h = subst (λ (m : SystemMeaning). GivenFor heap m given) is h

same_object : (a b : ℕ) → Held.Obj a ∷ [] ≡ Held.Obj b ∷ [] → a ≡ b
same_object a b is = cc

-- the object that is given is one
pub task_there : (heap : List NamedObject) (given : List Value) (a : ℕ) → One (IsSomeTask heap) given → given ≡ Held.Obj a ∷ []
    → (n : SegmentNo) × (object_named heap a ≡ Some (Task n))
task_there heap given a h is =
    one (IsSomeTask heap) (λ xs. xs ≡ Held.Obj a ∷ [] → (n : SegmentNo) × (object_named heap a ≡ Some (Task n)))
    (λ v (b, n, named, there) same.
    let one_name : b ≡ a = same_object b a (ap (λ (u : Value). u ∷ []) (sym named) ∙ same) in
    (n, subst (λ (c : ℕ). object_named heap c ≡ Some (Task n)) one_name there)) given h is

module _ (heaps : HeapContent) (shared new : SharedState) (h : Here) (meaning : SystemMeaning) (given : List Value)
    (may : MayAnswer heaps shared h meaning given) (a : ℕ) (read : given ≡ Held.Obj a ∷ []) (n : SegmentNo)
    (live : IsLive heaps h.domain a (Task n)) where
  module _ (request : SegmentNo → Request) (m : SystemMeaning) (same : meaning ≡ m)
      (is : (x : Setting) (xs : List Value) (inside : Inside) (done : Answered) → AsksOfTask request xs inside done → SystemRow x m xs inside done)
      (answered : Answers shared h.domain (request n) (Ok None) new) where
    task_row : (x : Setting) (inside : Inside) → IsAround heaps shared h x inside
        → SystemRow x meaning given inside (with_answer inside (Wants (request n)))
    task_row x inside around =
        subst (λ (k : SystemMeaning). SystemRow x k given inside (with_answer inside (Wants (request n)))) (sym same)
        (subst (λ (xs : List Value). SystemRow x m xs inside (with_answer inside (Wants (request n)))) (sym read)
        (is x (Held.Obj a ∷ []) inside (with_answer inside (Wants (request n)))
        (n, ap (λ (heap : List NamedObject). object_named heap a) around.own.heap ∙ live, refl)))

    task_asked : MethodDone heaps heaps shared new h meaning given (Ok None)
    task_asked =
        asked heaps shared new h (ready heaps shared h may.own may.frames may.may) meaning given (Ok None)
        (λ x inside around. asks (request n) (task_row x inside around) answered (sym around.own.heap))

  pub suspended : meaning ≡ Means.SuspendsTask → shared_words.Suspends shared n new → MethodDone heaps heaps shared new h meaning given (Ok None)
  suspended same does = task_asked Suspends Means.SuspendsTask same (λ x xs inside done row. row) (suspends n new does)

  pub let_go_on : meaning ≡ Means.ResumesTask → shared_words.Resumes shared n new → MethodDone heaps heaps shared new h meaning given (Ok None)
  let_go_on same does = task_asked Resumes Means.ResumesTask same (λ x xs inside done row. row) (resumes n new does)

  pub stopped : meaning ≡ Means.StopsTask → shared_words.Stops shared n new → MethodDone heaps heaps shared new h meaning given (Ok None)
  stopped same does = task_asked Stops Means.StopsTask same (λ x xs inside done row. row) (stops n new does)
