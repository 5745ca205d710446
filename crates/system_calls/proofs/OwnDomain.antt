-- Rows of methods that ask of their own domain: its free words, and a handle of its running segment.
use Rattle.std.proofs.Common.{◌≡◌, ℕ, ◌-◌, ◌<◌, ◌≤◌, List, [], Option, Some, None, Result, to_z, pos, w32, ℤ, refl, sym, ap, ◌∙◌, subst, arith}
use Rattle.std.specs.Option.{option_map_or}
use Rattle.std.proofs.lemmas.Int.{to_z_pos}
use Rattle.jk_model.specs.declared.identifiers.DomainId.{DomainId}
use Rattle.jk_model.specs.declared.identifiers.SegmentNo.{SegmentNo}
use Rattle.jk_model.specs.declared.steps.Raise.{Raise}
use Rattle.jk_model.specs.declared.values.Value.{Value}
use Rattle.jk_model.specs.declared.values.Value.TheVariants as Held
use Rattle.jk_model_classes.specs.declared.records.ClassRecord.{ClassRecord}
use Rattle.jk_model_classes.specs.Worlds.{DomainRecord, domain_of}
use Rattle.jk_model_domains.specs.Objects.{Task}
use Rattle.jk_model_heaps.specs.Heaps.{free_words, heap_words}
use Rattle.jk_model_heaps.specs.Workings.{Inside, Setting, with_heap}
use Rattle.jk_model_sharing.specs.SharedStates.{SharedState}
use Rattle.jk_model_system_rows.specs.declared.meanings.SystemMeaning.{SystemMeaning}
use Rattle.jk_model_system_rows.specs.declared.meanings.SystemMeaning.TheVariants as Means
use Rattle.jk_model_system_rows.specs.Answers.{AnswersNew, fails_for_memory, gives_int, gives_value, with_answer}
use Rattle.jk_model_system_rows.specs.SystemRows.{SystemRow}
use Rattle.object_store.specs.HeapContents.{HeapBecomes, HeapContent, IsHeapContent, IsSame, MakesObject, words_left}
use Rattle.system_calls.specs.declared.here.Here.{Here}
use Rattle.system_calls.specs.DoneRows.{Does, IsFor, IsReady, answer_of}
use Rattle.system_calls.specs.MethodsDone.{MethodDone, answers}
use Rattle.system_calls.proofs.RowsOfNewObjects.{answers_lack, answers_new, counted_still, same_inside}
use Rattle.system_calls.proofs.TextRows.{same_self}

few_by : (c : HeapContent) (d : DomainId) (quota : Option ℕ) → IsHeapContent c → c.quota d ≡ quota
    → option_map_or (λ (q : ℕ). q - c.used d) quota 0 ≤ 16777216
few_by c d None holds is = omega arith
few_by c d (Some q) holds is = let within = holds.within d q is in omega arith

pub few_words : (c : HeapContent) (d : DomainId) → IsHeapContent c → words_left c d ≤ 16777216
few_words c d holds = few_by c d (c.quota d) holds refl

pub words_counted : (c : HeapContent) (classes : List ClassRecord) (d : DomainId) (n : ℕ) → IsReady c classes d → IsHeapContent c → n ≡ words_left c d
    → Does c c classes d Means.CountsFreeWords [] (gives_int (to_z w32 n))
words_counted c classes d n ready holds is = record {
  becomes = counted_still c c classes d ready (same_self c);
  row = λ x inside here. row x inside here;
}
  where
    row : (x : Setting) (inside : Inside) → IsFor c classes d x inside
        → with_answer (with_heap inside (c.heap d)) (gives_int (to_z w32 n))
        ≡ with_answer inside (gives_int (pos (free_words x.classes x.quota inside.heap)))
    row x inside here =
        let few = few_words c d holds in
        let words : heap_words x.classes inside.heap ≡ c.used d =
        ap (λ (cs : List ClassRecord). heap_words cs inside.heap) here.classes ∙ ap (heap_words classes) here.heap ∙ sym ready.used in
        let left : n ≡ free_words x.classes x.quota inside.heap =
        is ∙ ap (λ (q : Option ℕ). option_map_or (λ (m : ℕ). m - c.used d) q 0) here.quota ∙ ap (λ (m : ℕ). x.quota - m) (sym words) in
        let value : to_z w32 n ≡ pos (free_words x.classes x.quota inside.heap) = to_z_pos w32 n (omega (arith, few, is)) ∙ ap pos left in
        ap (λ (i : Inside). with_answer i (gives_int (to_z w32 n))) (same_inside inside (c.heap d) (c.heap d) here.heap refl)
        ∙ ap (λ (z : ℤ). with_answer inside (gives_int z)) value

module _ (c new : HeapContent) (classes : List ClassRecord) (d : DomainId) (ready : IsReady c classes d) (s : SegmentNo) (x : Setting)
    (inside : Inside) (is : IsFor c classes d x inside) (same : x.segment ≡ s) where
  pub task_answered : IsHeapContent c → (a : ℕ) → MakesObject c new classes d a (Task s) → 6 ≤ words_left c d
      → AnswersNew x inside (Task x.segment) (with_answer (with_heap inside (new.heap d)) (gives_value (Held.Obj a)))
  task_answered holds a made fits =
      subst (λ (n : SegmentNo). AnswersNew x inside (Task n) (with_answer (with_heap inside (new.heap d)) (gives_value (Held.Obj a)))) (sym same)
      (answers_new c new classes d ready a (Task s) made holds fits x inside is)

  pub task_lacks_room : IsSame c new → words_left c d < 6
      → AnswersNew x inside (Task x.segment) (with_answer (with_heap inside (new.heap d)) fails_for_memory)
  task_lacks_room kept lacks =
      subst (λ (n : SegmentNo). AnswersNew x inside (Task n) (with_answer (with_heap inside (new.heap d)) fails_for_memory)) (sym same)
      (answers_lack c new classes d ready (Task s) lacks kept x inside is)

-- ---- The domain's name.

module _ (old new : HeapContent) (shared : SharedState) (h : Here) (meaning : SystemMeaning) (given : List Value) (same : meaning ≡ Means.NamesDomain)
    (result : Result (Option Value) Raise) where
  pub name_answered : HeapBecomes old new h.domain (new.heap h.domain) (heap_words h.world.now.classes (new.heap h.domain))
      → ((x : Setting) (inside : Inside) (names : DomainRecord) → IsFor old h.world.now.classes h.domain x inside
      → domain_of h.world.now h.domain ≡ Some names → x.name ≡ names.name
      → SystemRow x Means.NamesDomain [] inside (with_answer (with_heap inside (new.heap h.domain)) (answer_of result)))
      → MethodDone old new shared shared h meaning given result
  name_answered becomes rows = record {
    becomes = becomes;
    row = λ x inside is. answers (subst (λ (m : SystemMeaning). SystemRow x m given inside
        (with_answer (with_heap inside (new.heap h.domain)) (answer_of result))) (sym same)
        (rows x inside is.names is.own is.is_domain is.name)) refl;
  }
