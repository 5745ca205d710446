-- What was done by a row of the domain's own is what a method does; and arrays are copied alike, however stand-ins are listed.
use Rattle.std.proofs.Common.{◌≡◌, inl, inr, ℕ, List, length, take, drop, Option, Some, None, Result, Err, MatchOption, refl, sym, subst, ◌∙◌}
use Rattle.jk_model.specs.declared.steps.Raise.{Raise}
use Rattle.jk_model.specs.declared.values.Value.{Value}
use Rattle.jk_model_classes.specs.declared.records.BaseRef.{BaseRef}
use Rattle.jk_model_classes.specs.declared.records.ClassRecord.{ClassRecord}
use Rattle.jk_model_classes.specs.declared.records.TypeRef.{TypeRef}
use Rattle.jk_model_domains.specs.Objects.{NamedObject}
use Rattle.jk_model_heaps.specs.Heaps.{heap_words}
use Rattle.jk_model_heaps.specs.References.{IsNullOrInstance}
use Rattle.jk_model_heaps.specs.Workings.{Inside, Setting, with_heap}
use Rattle.jk_model_sharing.specs.SharedStates.{SharedState}
use Rattle.jk_model_system_rows.specs.declared.meanings.SystemMeaning.{SystemMeaning}
use Rattle.jk_model_system_rows.specs.declared.meanings.SystemMeaning.TheVariants as Means
use Rattle.jk_model_system_rows.specs.Answers.{Answered, Fails, with_answer}
use Rattle.jk_model_system_rows.specs.ArrayCopies.{ArrayCopy, CopiesArray, CopiesItems, IsFittingFront, at_null, copies, number_kind, of_other_kinds, out_of_range}
use Rattle.jk_model_system_rows.specs.SystemRows.{SystemRow}
use Rattle.object_store.specs.HeapContents.{HeapBecomes, HeapContent}
use Rattle.step_contents.specs.Settings.{AreKnown}
use Rattle.thread_segments.specs.KnownStubs.{known_capabilities}
use Rattle.thread_segments.proofs.SameInstances.{same_instances}
use Rattle.system_calls.specs.declared.here.Here.{Here}
use Rattle.system_calls.specs.DoneRows.{Does, IsFor, IsReady, answer_of}
use Rattle.system_calls.specs.MethodsDone.{Doing, IsAround, IsByRow, MethodDone, answers}
use Rattle.system_calls.proofs.RowsOfNewObjects.{counted_still, same_inside}
use Rattle.system_calls.proofs.TextRows.{same_self}

module _ (old new : HeapContent) (shared : SharedState) (h : Here) (meaning : SystemMeaning) (given : List Value)
    (result : Result (Option Value) Raise) where
  pub does_method : Does old new h.world.now.classes h.domain meaning given (answer_of result)
      → MethodDone old new shared shared h meaning given result
  does_method does = record { becomes = does.becomes; row = λ x inside is. answers (does.row x inside is.own) refl }

-- ---- Arrays.

-- the setting with what is known of capabilities by stubs
abbrev pub by_stubs : SharedState → Setting → Setting
by_stubs shared x = record x { caps = known_capabilities shared }

module _ (shared : SharedState) (x : Setting) (known : AreKnown x.classes shared x.caps) where
  module _ (heap : List NamedObject) (v : Value) (t : TypeRef) where
    fits_too : IsNullOrInstance (by_stubs shared x) heap v t → IsNullOrInstance x heap v t
    fits_too (inl null) = inl null
    fits_too (inr is) = inr ((same_instances x.classes shared x.caps known.ranges known.stand_ins heap v t).0 is)

    fits_back : IsNullOrInstance x heap v t → IsNullOrInstance (by_stubs shared x) heap v t
    fits_back (inl null) = inl null
    fits_back (inr is) = inr ((same_instances x.classes shared x.caps known.ranges known.stand_ins heap v t).1 is)

  front_by : (heap : List NamedObject) (t : TypeRef) (items : List Value) (front : ℕ) (kind : Option BaseRef)
      → MatchOption kind (IsFittingFront (by_stubs shared x) heap t items front) (λ (k : BaseRef). front ≡ length items)
      → MatchOption kind (IsFittingFront x heap t items front) (λ (k : BaseRef). front ≡ length items)
  front_by heap t items front (Some k) h = h
  front_by heap t items front None h = record {
    within = h.within;
    fit = λ i v low at. fits_too heap v t (h.fit i v low at);
    next = λ v at fits. h.next v at (fits_back heap v t fits);
  }

  items_copied : (c : ArrayCopy) (old : Inside) (done : Answered) → CopiesItems (by_stubs shared x) c old done → CopiesItems x c old done
  items_copied c old done (at_null null fails) = at_null null fails
  items_copied c old done (of_other_kinds some no_pair fails) = of_other_kinds some no_pair fails
  items_copied c old done (out_of_range p no_range fails) = out_of_range p no_range fails
  items_copied c old done (copies p r front is_front is) =
      copies p r front
      (front_by old.heap p.target.element (take r.count (drop r.from p.source.items)) front (number_kind p.target.element) is_front) is

  pub copied_too : (given : List Value) (old : Inside) (done : Answered) → CopiesArray (by_stubs shared x) given old done
      → CopiesArray x given old done
  copied_too given old done (c, is, copied) = (c, is, items_copied c old done copied)

module _ (old new : HeapContent) (shared : SharedState) (h : Here) (given : List Value) (result : Result (Option Value) Raise) where
  pub copy_done : (cs : List ClassRecord) → cs ≡ h.world.now.classes
      → HeapBecomes old new h.domain (new.heap h.domain) (heap_words cs (new.heap h.domain))
      → ((x : Setting) (inside : Inside) → IsFor old cs h.domain x inside → x.caps ≡ known_capabilities shared
      → CopiesArray x given inside (with_answer (with_heap inside (new.heap h.domain)) (answer_of result)))
      → (meaning : SystemMeaning) → meaning ≡ Means.CopiesArray → MethodDone old new shared shared h meaning given result
  copy_done cs same becomes row meaning is =
      subst (λ (m : SystemMeaning). MethodDone old new shared shared h m given result) (sym is) (record {
        becomes = subst (λ (l : List ClassRecord). HeapBecomes old new h.domain (new.heap h.domain) (heap_words l (new.heap h.domain))) same becomes;
        row = λ x inside around. answers (copied_row x inside around) refl;
      })
    where
      copied_row : (x : Setting) (inside : Inside) → IsAround old shared h x inside
          → CopiesArray x given inside (with_answer (with_heap inside (new.heap h.domain)) (answer_of result))
      copied_row x inside around =
          copied_too shared x (subst (λ (classes : List ClassRecord). AreKnown classes shared x.caps) (sym around.own.classes) around.caps)
          given inside (with_answer (with_heap inside (new.heap h.domain)) (answer_of result))
          (row (by_stubs shared x) inside
          (record { classes = around.own.classes ∙ sym same; quota = around.own.quota; heap = around.own.heap }) refl)

-- ---- The heap stays as it is.

module _ (heaps : HeapContent) (shared : SharedState) where
  -- what is asked for is granted or denied
  pub asked : (new : SharedState) (h : Here) → IsReady heaps h.world.now.classes h.domain → (meaning : SystemMeaning) (given : List Value)
      (result : Result (Option Value) Raise)
      → ((x : Setting) (inside : Inside) → IsAround heaps shared h x inside → IsByRow x h.domain inside
      (let k : Doing = record {
        meaning = meaning;
        given = given;
        heap = heaps.heap h.domain;
        shared = shared;
        new_shared = new;
        result = result;
      } in k))
      → MethodDone heaps heaps shared new h meaning given result
  asked new h ready meaning given result rows =
      record { becomes = counted_still heaps heaps h.world.now.classes h.domain ready (same_self heaps); row = rows }

  -- something is raised
  pub failed : (h : Here) → IsReady heaps h.world.now.classes h.domain → (meaning : SystemMeaning) (given : List Value) (r : Raise)
      → ((x : Setting) (inside : Inside) → IsAround heaps shared h x inside → SystemRow x meaning given inside (with_answer inside (Fails r)))
      → MethodDone heaps heaps shared shared h meaning given (Err r)
  failed h ready meaning given r rows =
      asked shared h ready meaning given (Err r)
      (λ x inside is. answers (subst (λ (i : Inside). SystemRow x meaning given inside (with_answer i (Fails r)))
      (sym (same_inside inside (heaps.heap h.domain) (heaps.heap h.domain) is.own.heap refl)) (rows x inside is)) refl)
