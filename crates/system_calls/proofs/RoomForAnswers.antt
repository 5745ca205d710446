-- The stack of a frame that calls a method of the system has room for the answer in the place of what was given.
use Rattle.std.proofs.Common.{◌≡◌, inl, inr, ℕ, zero, suc, ◌+◌, ◌≤◌, List, ◌++◌, length, Option, Some, None, Ok, refl, sym, ap, subst, ◌∙◌, arith}
use Rattle.std.proofs.lemmas.List.{length-append}
use Rattle.list_lemmas.proofs.EndsOfLists.{one_split}
use Rattle.jk_model.specs.declared.steps.Raise.{Raise}
use Rattle.jk_model.specs.declared.values.Value.{Value}
use Rattle.jk_model_classes.specs.declared.records.ClassRecord.{ClassRecord}
use Rattle.jk_model_frames.specs.Frames.{FrameState}
use Rattle.jk_model_domains.specs.NumberRows.{IsOnTop}
use Rattle.jk_model_domains.specs.Objects.{NamedObject}
use Rattle.jk_model_heaps.specs.CalledFrames.{as_entries, at_place}
use Rattle.jk_model_heaps.specs.Workings.{GoesOn, Inside, Request, Setting, Working, with_heap}
use Rattle.number_ops.proofs.EntriesTaken.{stack_fits}
use Rattle.jk_model_call_rows.specs.CallRows.{CallsSystem}
use Rattle.jk_model_sealing.specs.FittingFrames.{FitsHere}
use Rattle.jk_model_sharing.specs.SharedStates.{SharedState}
use Rattle.jk_model_system_rows.specs.declared.meanings.SystemMeaning.{SystemMeaning}
use Rattle.jk_model_system_rows.specs.declared.meanings.SystemMeaning.TheVariants as Means
use Rattle.jk_model_system_rows.specs.Answers.{Answered, Ends, Fails, Gives, Wants, with_answer}
use Rattle.jk_model_system_rows.specs.Meanings.{meaning_of}
use Rattle.jk_model_system_rows.specs.SystemCalls.{DoesSystem}
use Rattle.jk_model_system_rows.specs.SystemRows.{SystemRow}
use Rattle.class_init.specs.KeptStates.{KeptState}
use Rattle.frame_store.specs.FrameContents.{FrameContent, IsContent}
use Rattle.number_laws.proofs.FrameParts.{with_stack}
use Rattle.number_laws.proofs.ValuesFit.{fits-length, long_slots}
use Rattle.number_ops.proofs.TopFrames.{same_top}
use Rattle.object_store.specs.HeapContents.{HeapContent}
use Rattle.heap_laws.specs.SoundCodes.{AreSoundCodes}
use Rattle.row_laws.proofs.CallsOfSystem.{row_keeps}
use Rattle.row_laws.proofs.StandsHere.{code_here, room, stands_typed}
use Rattle.step_contents.specs.Conditions.{MayDo, around, working}
use Rattle.step_contents.specs.Contents.{contents_of}
use Rattle.step_contents.specs.PlacesInCode.{PlaceInCode}
use Rattle.step_contents.specs.Settings.{IsSetting}
use Rattle.step_contents.proofs.InstructionsBegin.{runs_code}
use Rattle.system_calls.specs.declared.here.Here.{Here}
use Rattle.system_calls.specs.GivenOnTop.{HasRoomAfter, given_count}
use Rattle.system_calls.specs.MethodsDone.{Doing, IsByRow, MethodDone, among, answers, asks}
use Rattle.system_calls.proofs.CallsFound.{runs, top}
use Rattle.system_calls.proofs.MethodsMayBeDone.{is_around}

-- a frame that fits where it stands has no more entries than its head says
typed_fits : (classes : List ClassRecord) (heap : List NamedObject) (f : FrameState) → AreSoundCodes classes → FitsHere classes heap f
    → length f.stack ≤ f.head.max_stack
typed_fits classes heap f sound fits =
    let code = code_here classes f fits.0 in
    let typed = stands_typed classes sound f code fits.0 heap fits.1 in
    let most = (room classes sound f code fits.0).1 in
    let many = fits-length code.scope heap f.stack typed.before.stack typed.typed.holds.stack in
    let few = long_slots typed.before.stack in
    let slots_fit = typed.typed.sized.stack in
    omega (arith, most, many, few, slots_fit)

one_at_most : (v : Option Value) → length (as_entries v) ≤ 1
one_at_most None = omega arith
one_at_most (Some v) = omega arith

no_value : {request : Request} {v : Option Value} → Wants request ≡ Gives v → ⊥
no_value is = absurd cc

no_failure : {request : Request} {r : Raise} → Wants request ≡ Fails r → ⊥
no_failure is = absurd cc

no_end : {request : Request} → Wants request ≡ Ends → ⊥
no_end is = absurd cc

-- a method that is given nothing asks for nothing
asks_nothing : (x : Setting) (meaning : SystemMeaning) (given : List Value) (inside : Inside) (request : Request) → given_count meaning ≡ 0
    → SystemRow x meaning given inside (with_answer inside (Wants request)) → ⊥
asks_nothing x Means.NamesDomain given inside request none (inl (a, heap, made, is)) = no_value (ap (λ (d : Answered). d.answer) is)
asks_nothing x Means.NamesDomain given inside request none (inr (lacks, is)) = no_failure (ap (λ (d : Answered). d.answer) is)
asks_nothing x Means.CountsFreeWords given inside request none row = no_value (ap (λ (d : Answered). d.answer) row)
asks_nothing x Means.TerminatesDomain given inside request none row = no_end (ap (λ (d : Answered). d.answer) row)
asks_nothing x Means.GetsTask given inside request none (inl (a, heap, made, is)) = no_value (ap (λ (d : Answered). d.answer) is)
asks_nothing x Means.GetsTask given inside request none (inr (lacks, is)) = no_failure (ap (λ (d : Answered). d.answer) is)
asks_nothing x meaning given inside request none row = absurd (omega (arith, none))

module _ (heaps : HeapContent) (frames : FrameContent) (own : KeptState) (shared : SharedState) (h : Here) (at : PlaceInCode)
    (may : MayDo (contents_of heaps frames own) (among h shared) at) (x : Setting)
    (is : IsSetting (contents_of heaps frames own) (among h shared) x) (call : CallsSystem x at.scope at.instr (working may))
    (meaning : SystemMeaning) (means : meaning_of call.member ≡ Some meaning) (given : List Value) (given_is : call.call.given ≡ given)
    (many : length given ≡ given_count meaning) (content : IsContent frames) where
  on_top : IsOnTop may.frame given
  on_top = (call.call.on_top.0, call.call.on_top.1 ∙ ap (λ (xs : List Value). call.call.on_top.0 ++ xs) given_is)

  abbrev Fits : Option Value → Type 0
  Fits v = length (on_top.0 ++ as_entries v) ≤ may.frame.head.max_stack

  -- where something was given its place is free
  fits_for_given : (v : Option Value) (n : ℕ) → given_count meaning ≡ suc n → Fits v
  fits_for_given v n some =
      let few = stack_fits frames h.segment may.frame content (top heaps frames own shared h at may) in
      let one = one_at_most v in
      omega (arith, few, one, some, many, ap length on_top.1, length-append on_top.0 given, length-append on_top.0 (as_entries v))

  -- where nothing was, typing has room for the answer
  fits_by_row : (heap : List NamedObject) (v : Option Value)
      → SystemRow x meaning given may.run.inside (with_answer (with_heap may.run.inside heap) (Gives v)) → Fits v
  fits_by_row heap v row =
      let g = with_stack may.frame (on_top.0 ++ as_entries v) in
      let w : Working = record { inside = with_heap may.run.inside heap; frame = g } in
      let does : DoesSystem x call.member given (working may) w (GoesOn (may.frame.head.at + 1)) = record {
        meaning = meaning;
        means = means;
        done = with_answer (with_heap may.run.inside heap) (Gives v);
        row = row;
        answering = (record { below = on_top.0; before = on_top.1; after = refl }, refl);
        inside = refl;
      } in
      let kept = row_keeps (around may.domain) x (working may) (runs heaps frames own shared h at may x is call) (runs_code may) call w
      (GoesOn (may.frame.head.at + 1))
      (subst (λ (xs : List Value). DoesSystem x call.member xs (working may) w (GoesOn (may.frame.head.at + 1))) (sym given_is) does) in
      typed_fits h.world.now.classes (with_heap may.run.inside heap).heap (at_place g (may.frame.head.at + 1)) may.domain.codes kept.1

  fits_by : (n : ℕ) → given_count meaning ≡ n → (new_heap : List NamedObject) (new_shared : SharedState) (v : Option Value)
      → IsByRow x h.domain may.run.inside
      (let k : Doing = record { meaning = meaning; given = given; heap = new_heap; shared = shared; new_shared = new_shared; result = Ok v } in k)
      → Fits v
  fits_by (suc n) some new_heap new_shared v by_row = fits_for_given v n some
  fits_by zero none new_heap new_shared v (answers row same) = fits_by_row new_heap v row
  fits_by zero none new_heap new_shared v (asks request row answered kept) = absurd (asks_nothing x meaning given may.run.inside request none row)

  pub room_after : (new_heaps : HeapContent) (new_shared : SharedState) (v : Option Value)
      → MethodDone heaps new_heaps shared new_shared h meaning given (Ok v) → HasRoomAfter frames h.segment (given_count meaning) v
  room_after new_heaps new_shared v done = λ f below taken top_one stack long.
      let same : may.frame ≡ f = same_top frames h.segment may.frame f (top heaps frames own shared h at may) top_one in
      let whole : on_top.0 ++ given ≡ below ++ taken = sym on_top.1 ∙ ap (λ (y : FrameState). y.stack) same ∙ stack in
      let first : on_top.0 ≡ below = (one_split on_top.0 below given taken whole (many ∙ sym long)).0 in
      let fits = fits_by (given_count meaning) refl (new_heaps.heap h.domain) new_shared v
      (done.row x may.run.inside (is_around heaps shared h own frames x may.run.inside is may.holds.inside)) in
      subst (λ (y : FrameState). length (below ++ as_entries v) ≤ y.head.max_stack) same
      (subst (λ (xs : List Value). length (xs ++ as_entries v) ≤ may.frame.head.max_stack) first fits)
