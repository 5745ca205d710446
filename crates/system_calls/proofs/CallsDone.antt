-- What is done to the stores where a method of the system is called is what comes of the call.
use Rattle.std.proofs.Common.{◌≡◌, ℕ, ◌+◌, List, [], ◌∷◌, ◌++◌, length, Option, Some, Result, Ok, Err, refl, sym, ap, subst}
use Rattle.std.proofs.lemmas.List.{append-nil}
use Rattle.jk_model.specs.declared.frames.FrameHead.{FrameHead}
use Rattle.jk_model.specs.declared.identifiers.MemberId.{MemberId}
use Rattle.jk_model.specs.declared.output.Line.{Line}
use Rattle.jk_model.specs.declared.output.Line.TheVariants.{Said}
use Rattle.jk_model.specs.declared.steps.After.{After}
use Rattle.jk_model.specs.declared.steps.After.TheVariants as Next
use Rattle.jk_model.specs.declared.steps.Raise.{Raise}
use Rattle.jk_model.specs.declared.values.Value.{Value}
use Rattle.jk_model_frames.specs.Frames.{FrameState}
use Rattle.jk_model_domains.specs.NumberRows.{IsOnTop, Replaces}
use Rattle.jk_model_domains.specs.Objects.{NamedObject}
use Rattle.jk_model_heaps.specs.CalledFrames.{as_entries}
use Rattle.jk_model_heaps.specs.Heaps.{heap_words}
use Rattle.jk_model_heaps.specs.Workings.{Asks, GoesOn, Outcome, Raises, Request, Says, Setting, Terminates, Working, with_heap}
use Rattle.jk_model_sharing.specs.Answers.{Answers}
use Rattle.jk_model_sharing.specs.SharedStates.{SharedState}
use Rattle.jk_model_system_rows.specs.declared.meanings.SystemMeaning.{SystemMeaning}
use Rattle.jk_model_system_rows.specs.declared.meanings.SystemMeaning.TheVariants as Means
use Rattle.jk_model_system_rows.specs.Answers.{Answered, Ends, Tells, Wants, with_answer}
use Rattle.jk_model_system_rows.specs.Meanings.{meaning_of}
use Rattle.jk_model_system_rows.specs.SystemCalls.{Answering, DoesSystem}
use Rattle.jk_model_system_rows.specs.SystemRows.{SystemRow}
use Rattle.class_init.specs.KeptStates.{KeptState}
use Rattle.frame_store.specs.FrameContents.{FrameContent, SetsTop}
use Rattle.number_laws.proofs.FrameParts.{with_stack}
use Rattle.number_ops.proofs.TopFrames as tops
use Rattle.object_store.specs.HeapContents.{HeapBecomes, HeapContent}
use Rattle.step_contents.specs.Conditions.{MayDo, working}
use Rattle.step_contents.specs.Contents.{Contents, contents_of, left_behind}
use Rattle.step_contents.specs.Contents.{Here as Within}
use Rattle.step_contents.specs.PlacesInCode.{PlaceInCode}
use Rattle.step_contents.specs.Settings.{IsSetting}
use Rattle.system_calls.specs.declared.here.Here.{Here}
use Rattle.system_calls.specs.DoneRows.{Finds, answer_of}
use Rattle.system_calls.specs.GivenOnTop.{FramesAfter, PutsFor, TakesOff, given_count, next_after}
use Rattle.system_calls.specs.MethodsDone.{Doing, IsByRow, MethodDone, among, answers, asks}
use Rattle.system_calls.specs.SystemSteps.{CallSite, SystemFollows, call_site, denies, goes_on, grants, raises, says, terminates}
use Rattle.system_calls.proofs.CallsFound.{may_change, same_heap, top}
use Rattle.system_calls.proofs.MethodsMayBeDone.{is_around, ready}
use Rattle.system_calls.proofs.RowsOfNewObjects.{counted_still}
use Rattle.system_calls.proofs.StoresBecome.{becomes, heap_stays, stays}
use Rattle.system_calls.proofs.TextRows.{same_self}

module _ (heaps : HeapContent) (frames : FrameContent) (own : KeptState) (shared : SharedState) (h : Here) (at : PlaceInCode)
    (may : MayDo (contents_of heaps frames own) (among h shared) at) (x : Setting)
    (is : IsSetting (contents_of heaps frames own) (among h shared) x) (m : MemberId) (meaning : SystemMeaning)
    (means : meaning_of m ≡ Some meaning) (given : List Value) (on_top : IsOnTop may.frame given) (many : length given ≡ given_count meaning)
  where
    abbrev old : Contents
    old = contents_of heaps frames own

    abbrev here : Within
    here = among h shared

    abbrev site : CallSite
    site = call_site here at m

    abbrev pub Follows : HeapContent → FrameContent → SharedState → After → List Line → Type 0
    Follows new_heaps new_frames new_shared after lines =
        SystemFollows site x may given (left_behind (contents_of new_heaps new_frames own) new_shared) after lines

    -- the frame with this in the place of what was given
    abbrev put_frame : List Value → FrameState
    put_frame pushed = with_stack may.frame (on_top.0 ++ pushed)

    replaced : (pushed : List Value) → Replaces may.frame (put_frame pushed) given pushed
    replaced pushed = record { below = on_top.0; before = on_top.1; after = refl }

    abbrev Does : Working → Outcome → Type 0
    Does w outcome = DoesSystem x m given (working may) w outcome

    does : (w : Working) (outcome : Outcome) (done : Answered) → SystemRow x meaning given may.run.inside done
        → Answering may.frame given done.answer w.frame outcome → w.inside ≡ done.inside → Does w outcome
    does w outcome done row answering inside =
        record { meaning = meaning; means = means; done = done; row = row; answering = answering; inside = inside }

    -- the frame goes on behind the call
    next : GoesOn (may.frame.head.at + 1) ≡ GoesOn (at.head.at + 1)
    next = ap (λ (head : FrameHead). GoesOn (head.at + 1)) (sym may.head)

    -- the top frame as it was
    frame_stays : SetsTop frames frames h.segment may.frame
    frame_stays = tops.stays frames h.segment may.frame (top heaps frames own shared h at may)

    put_at : (new_frames : FrameContent) (v : Option Value) → PutsFor frames new_frames h.segment (given_count meaning) v
        → SetsTop frames new_frames h.segment (put_frame (as_entries v))
    put_at new_frames v puts = puts may.frame on_top.0 given (top heaps frames own shared h at may) on_top.1 many

    module _ (new_heaps : HeapContent)
        (grown : HeapBecomes heaps new_heaps h.domain (new_heaps.heap h.domain) (heap_words h.world.now.classes (new_heaps.heap h.domain))) where
      abbrev heap_after : List NamedObject
      heap_after = new_heaps.heap h.domain

      module _ (new_frames : FrameContent) (new_shared : SharedState) where
        abbrev new : Contents
        new = contents_of new_heaps new_frames own

        -- ---- By a row of the domain's own.

        gives : (v : Option Value) → PutsFor frames new_frames h.segment (given_count meaning) v
            → SystemRow x meaning given may.run.inside (with_answer (with_heap may.run.inside heap_after) (answer_of (Ok v))) → new_shared ≡ shared
            → Follows new_heaps new_frames new_shared (Next.Goto (at.head.at + 1)) []
        gives v puts row same =
            let g = put_frame (as_entries v) in
            let w : Working = record { inside = with_heap may.run.inside heap_after; frame = g } in
            goes_on w (at.head.at + 1)
            (does w (GoesOn (at.head.at + 1)) (with_answer (with_heap may.run.inside heap_after) (answer_of (Ok v))) row
            (replaced (as_entries v), sym next) refl)
            (becomes old new here at may refl grown g (put_at new_frames v puts) refl) same

        fails : (r : Raise) → new_frames ≡ frames
            → SystemRow x meaning given may.run.inside (with_answer (with_heap may.run.inside heap_after) (answer_of (Err r))) → new_shared ≡ shared
            → Follows new_heaps new_frames new_shared (Next.Raise r) []
        fails r kept row same =
            let w : Working = record { inside = with_heap may.run.inside heap_after; frame = may.frame } in
            raises w r
            (does w (Raises r) (with_answer (with_heap may.run.inside heap_after) (answer_of (Err r))) row (refl, refl) refl)
            (becomes old new here at may refl grown may.frame
            (subst (λ (fs : FrameContent). SetsTop frames fs h.segment may.frame) (sym kept) frame_stays) refl) same

        -- ---- By what is answered to a request.

        module _ (request : Request) (row : SystemRow x meaning given may.run.inside (with_answer may.run.inside (Wants request)))
            (kept : heap_after ≡ may.run.inside.heap) where
          abbrev asking : Working
          asking = record { inside = may.run.inside; frame = put_frame [] }

          wants : Does asking (Asks request)
          wants = does asking (Asks request) (with_answer may.run.inside (Wants request)) row (replaced [], refl) refl

          granted : (v : Option Value) → PutsFor frames new_frames h.segment (given_count meaning) v
              → Answers shared h.domain request (Ok v) new_shared → Follows new_heaps new_frames new_shared (Next.Goto (at.head.at + 1)) []
          granted v puts answered =
              let stack : on_top.0 ++ as_entries v ≡ (on_top.0 ++ []) ++ as_entries v =
              ap (λ (xs : List Value). xs ++ as_entries v) (sym (append-nil on_top.0)) in
              grants asking request v wants answered
              (heap_stays old new here at may refl grown (with_stack may.frame ((on_top.0 ++ []) ++ as_entries v))
              (subst (λ (xs : List Value). SetsTop frames new_frames h.segment (with_stack may.frame xs)) stack (put_at new_frames v puts)) refl kept)

          denied : (r : Raise) → new_frames ≡ frames → Answers shared h.domain request (Err r) new_shared
              → Follows new_heaps new_frames new_shared (Next.Raise r) []
          denied r same answered =
              denies asking request r wants answered
              (stays old new here at may refl grown may.frame
              (subst (λ (fs : FrameContent). SetsTop frames fs h.segment may.frame) (sym same) frame_stays) refl kept refl)

        abbrev Did : Result (Option Value) Raise → Doing
        Did result = record {
          meaning = meaning;
          given = given;
          heap = heap_after;
          shared = shared;
          new_shared = new_shared;
          result = result;
        }

        pub follows : (result : Result (Option Value) Raise) → FramesAfter frames new_frames h.segment (given_count meaning) result
            → IsByRow x h.domain may.run.inside (Did result) → Follows new_heaps new_frames new_shared (next_after (at.head.at + 1) result) []
        follows (Ok v) puts (answers row same) = gives v puts row same
        follows (Ok v) puts (asks request row answered kept) = granted request row kept v puts answered
        follows (Err r) puts (answers row same) = fails r puts row same
        follows (Err r) puts (asks request row answered kept) = denied request row kept r puts answered

    -- ---- The method that was done.

    pub method_follows : (new_heaps : HeapContent) (new_frames : FrameContent) (new_shared : SharedState) (result : Result (Option Value) Raise)
        → FramesAfter frames new_frames h.segment (given_count meaning) result → MethodDone heaps new_heaps shared new_shared h meaning given result
        → Follows new_heaps new_frames new_shared (next_after (at.head.at + 1) result) []
    method_follows new_heaps new_frames new_shared result after done =
        follows new_heaps done.becomes new_frames new_shared result after
        (done.row x may.run.inside (is_around heaps shared h own frames x may.run.inside is may.holds.inside))

    -- ---- Nothing happens to the heap.

    heap_same : HeapBecomes heaps heaps h.domain (heaps.heap h.domain) (heap_words h.world.now.classes (heaps.heap h.domain))
    heap_same =
        counted_still heaps heaps h.world.now.classes h.domain (ready heaps shared h own frames (may_change heaps frames own shared h at may))
        (same_self heaps)

    pub said : (text : List ℕ) → Finds heaps h.domain meaning given (Tells text) → (new_frames : FrameContent)
        → TakesOff frames new_frames h.segment (given_count meaning)
        → Follows heaps new_frames shared (Next.Goto (at.head.at + 1)) (Said x.name text ∷ [])
    said text finds new_frames takes =
        let g = put_frame [] in
        let w : Working = record { inside = may.run.inside; frame = g } in
        let sets : SetsTop frames new_frames h.segment g =
        subst (λ (xs : List Value). SetsTop frames new_frames h.segment (with_stack may.frame xs)) (sym (append-nil on_top.0))
        (takes may.frame on_top.0 given (top heaps frames own shared h at may) on_top.1 many) in
        says w text (at.head.at + 1)
        (does w (Says text (at.head.at + 1)) (with_answer may.run.inside (Tells text))
        (finds x may.run.inside (same_heap heaps frames own shared h at may))
        (replaced [], ap (λ (head : FrameHead). Says text (head.at + 1)) may.head) refl)
        (heap_stays old (contents_of heaps new_frames own) here at may refl heap_same g sets refl
        (sym (same_heap heaps frames own shared h at may)))
        refl

    pub ended : meaning ≡ Means.TerminatesDomain → Follows heaps frames shared Next.Terminate []
    ended ends =
        terminates (working may)
        (does (working may) Terminates (with_answer may.run.inside Ends)
        (subst (λ (k : SystemMeaning). SystemRow x k given may.run.inside (with_answer may.run.inside Ends)) (sym ends) refl) (refl, refl) refl)
        (stays old old here at may refl heap_same may.frame frame_stays refl
        (sym (same_heap heaps frames own shared h at may)) refl)
        refl
