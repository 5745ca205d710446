-- A call of a method of the system that may be done: what is known of it before anything is done, and what comes of it.
use Rattle.std.proofs.Common.{◌≡◌, ℕ, ◌+◌, ◌<◌, ◌^◌, List, [], ◌∷◌, length, take, Option, Some, None, Result, Ok, Err, sym, ap, subst, ◌∙◌, arith}
use Rattle.std.specs.Result.{IfOk}
use Rattle.std.proofs.lemmas.Option.{none-some, slice_get_within}
use Rattle.jk_model.specs.declared.identifiers.MemberId.{MemberId}
use Rattle.jk_model.specs.declared.output.Line.{Line}
use Rattle.jk_model.specs.declared.output.Line.TheVariants.{Said}
use Rattle.jk_model.specs.declared.steps.After.{After}
use Rattle.jk_model.specs.declared.steps.After.TheVariants as Next
use Rattle.jk_model.specs.declared.steps.Raise.{Raise}
use Rattle.jk_model.specs.declared.values.Value.{Value}
use Rattle.jk_model_classes.specs.Worlds.{DomainRecord, domain_of}
use Rattle.jk_model_heaps.specs.Workings.{Setting}
use Rattle.jk_model_call_rows.specs.CallRows.{CallsSystem}
use Rattle.jk_model_sharing.specs.SharedStates.{SharedState}
use Rattle.jk_model_system_rows.specs.declared.meanings.SystemMeaning.{SystemMeaning}
use Rattle.jk_model_system_rows.specs.declared.meanings.SystemMeaning.TheVariants as Means
use Rattle.jk_model_system_rows.specs.Answers.{Tells}
use Rattle.jk_model_system_rows.specs.Meanings.{meaning_of}
use Rattle.class_init.specs.KeptStates.{KeptState}
use Rattle.frame_store.specs.FrameContents.{FrameContent, IsContent}
use Rattle.object_store.specs.HeapContents.{HeapContent}
use Rattle.step_contents.specs.Conditions.{working}
use Rattle.step_contents.specs.Contents.{contents_of, left_behind}
use Rattle.step_contents.specs.PlacesInCode.{PlaceInCode}
use Rattle.step_contents.specs.Settings.{IsSetting}
use Rattle.step_contents.proofs.InstructionsBegin.{is_some_setting, some_setting}
use Rattle.system_calls.specs.declared.here.Here.{Here}
use Rattle.system_calls.specs.DoneRows.{Finds}
use Rattle.system_calls.specs.GivenOnTop.{FramesAfter, HasGiven, HasRoomAfter, IsGiven, TakesOff, given_count, next_after}
use Rattle.system_calls.specs.MethodsDone.{MayAnswer, MethodDone, among}
use Rattle.system_calls.specs.SystemSteps.{MayCall, SystemDone, SystemFollows, call_site}
use Rattle.system_calls.proofs.CallsDone.{ended, method_follows, said}
use Rattle.system_calls.proofs.CallsFound as found
use Rattle.system_calls.proofs.RoomForAnswers as rooms

module _ (heaps : HeapContent) (frames : FrameContent) (shared : SharedState) (h : Here) (at : PlaceInCode) (m : MemberId) where
  -- it may be done where the own state is some one
  abbrev pub Begins : Type 0
  Begins = (own : KeptState) × MayCall (contents_of heaps frames own) (call_site (among h shared) at m)

  module _ (may : Begins) where
    abbrev x : Setting
    x = some_setting may.1.may

    abbrev is : IsSetting (contents_of heaps frames may.0) (among h shared) x
    is = is_some_setting may.1.may

    abbrev call : CallsSystem x at.scope at.instr (working may.1.may)
    call = (may.1.calls x is).0

    abbrev member : call.member ≡ m
    member = (may.1.calls x is).1

    pub some_meaning : meaning_of m ≡ None → ⊥
    some_meaning none =
        let means = found.has_meaning heaps frames may.0 shared h at may.1.may x is call m member in
        none-some means.0 (sym none ∙ means.1)

    pub place_fits : at.head.at + 1 < 2 ^ 32
    place_fits =
        let place = may.1.may.place in
        let short = (may.1.may.domain.codes.decoded place.method at.scope place.is_scope).short in
        let low = slice_get_within at.scope.code.instrs at.head.at at.instr place.stands in
        omega (arith, low, short)

    pub domain_there : (names : DomainRecord) × (domain_of h.world.now h.domain ≡ Some names)
    domain_there = (may.1.may.domain.names, may.1.may.domain.is_domain)

    module _ (meaning : SystemMeaning) (means : meaning_of m ≡ Some meaning) where
      pub has_given : HasGiven frames h.segment (given_count meaning)
      has_given = found.has_given heaps frames may.0 shared h at may.1.may x is call m member meaning means

      module _ (given : List Value) (read : IsGiven frames h.segment given) (long : length given ≡ given_count meaning) where
        pub may_answer : MayAnswer heaps shared h meaning given
        may_answer = found.may_answer heaps frames may.0 shared h at may.1.may x is call m member meaning means given read long

        room : IsContent frames → (new_heaps : HeapContent) (new_shared : SharedState) (v : Option Value)
            → MethodDone heaps new_heaps shared new_shared h meaning given (Ok v) → HasRoomAfter frames h.segment (given_count meaning) v
        room content new_heaps new_shared v done =
            rooms.room_after heaps frames may.0 shared h at may.1.may x is call meaning (ap meaning_of member ∙ means) given
            (found.given_is heaps frames may.0 shared h at may.1.may x is call m member meaning means given read long) long content
            new_heaps new_shared v done

        -- there is room for what is answered
        pub room_if : IsContent frames → (new_heaps : HeapContent) (new_shared : SharedState) (result : Result (Option Value) Raise) (count : ℕ)
            → count ≡ given_count meaning → MethodDone heaps new_heaps shared new_shared h meaning given result
            → IfOk result (λ v. HasRoomAfter frames h.segment count v)
        room_if content new_heaps new_shared (Ok v) count is_count done =
            subst (λ (n : ℕ). HasRoomAfter frames h.segment n v) (sym is_count) (room content new_heaps new_shared v done)
        room_if content new_heaps new_shared (Err r) count is_count done = tt

  -- what was read is as long
  pub as_read : (meaning : SystemMeaning) (values : List Value) (count n : ℕ) → n ≡ count → count ≡ given_count meaning
      → IsGiven frames h.segment (take count values) → length (take count values) ≡ count
      → IsGiven frames h.segment (take n values) × (length (take n values) ≡ given_count meaning)
  as_read meaning values count n same counts read long = (
    subst (λ (k : ℕ). IsGiven frames h.segment (take k values)) (sym same) read,
    ap (λ (k : ℕ). length (take k values)) same ∙ long ∙ counts,
  )

  -- ---- What comes of it, in each setting and whatever the own state is.

  module _ (meaning : SystemMeaning) (means : meaning_of m ≡ Some meaning) (given : List Value) (read : IsGiven frames h.segment given)
      (long : length given ≡ given_count meaning) where
    abbrev Comes : KeptState → HeapContent → FrameContent → SharedState → After → (List Line → Type 0) → Type 0
    Comes own new_heaps new_frames new_shared after GoOut =
        SystemDone (contents_of heaps frames own) (call_site (among h shared) at m) (left_behind (contents_of new_heaps new_frames own) new_shared)
        after GoOut

    comes : (own : KeptState) (new_heaps : HeapContent) (new_frames : FrameContent) (new_shared : SharedState)
        (result : Result (Option Value) Raise) (GoOut : List Line → Type 0) → FramesAfter frames new_frames h.segment (given_count meaning) result
        → MethodDone heaps new_heaps shared new_shared h meaning given result → GoOut []
        → Comes own new_heaps new_frames new_shared (next_after (at.head.at + 1) result) GoOut
    comes own new_heaps new_frames new_shared result GoOut after done out = λ x may call is member. (
      [],
      subst (λ (xs : List Value). SystemFollows (call_site (among h shared) at m) x may xs
          (left_behind (contents_of new_heaps new_frames own) new_shared) (next_after (at.head.at + 1) result) [])
          (sym (found.given_is heaps frames own shared h at may x is call m member meaning means given read long))
          (method_follows heaps frames own shared h at may x is m meaning means given
          (found.on_top heaps frames own shared h at may x is call m member meaning means given read long) long
          new_heaps new_frames new_shared result after done),
      out,
    )

    -- the same by what a function answers
    pub comes_so : (own : KeptState) (new_heaps : HeapContent) (new_frames : FrameContent) (new_shared : SharedState)
        (result : Result (Option Value) Raise) (after : After) (count : ℕ) (GoOut : List Line → Type 0) → after ≡ next_after (at.head.at + 1) result
        → count ≡ given_count meaning → FramesAfter frames new_frames h.segment count result
        → MethodDone heaps new_heaps shared new_shared h meaning given result → GoOut [] → Comes own new_heaps new_frames new_shared after GoOut
    comes_so own new_heaps new_frames new_shared result after count GoOut is_after is_count frames_after done out =
        subst (λ (a : After). Comes own new_heaps new_frames new_shared a GoOut) (sym is_after)
        (comes own new_heaps new_frames new_shared result GoOut
        (subst (λ (n : ℕ). FramesAfter frames new_frames h.segment n result) is_count frames_after) done out)

    pub line_comes : (own : KeptState) (new_frames : FrameContent) (text : List ℕ) (GoOut : List Line → Type 0)
        → TakesOff frames new_frames h.segment (given_count meaning) → Finds heaps h.domain meaning given (Tells text)
        → ((names : DomainRecord) → domain_of h.world.now h.domain ≡ Some names → GoOut (Said names.name text ∷ []))
        → Comes own heaps new_frames shared (Next.Goto (at.head.at + 1)) GoOut
    line_comes own new_frames text GoOut takes finds out = λ x may call is member. (
      Said x.name text ∷ [],
      subst (λ (xs : List Value). SystemFollows (call_site (among h shared) at m) x may xs
          (left_behind (contents_of heaps new_frames own) shared) (Next.Goto (at.head.at + 1)) (Said x.name text ∷ []))
          (sym (found.given_is heaps frames own shared h at may x is call m member meaning means given read long))
          (said heaps frames own shared h at may x is m meaning means given
          (found.on_top heaps frames own shared h at may x is call m member meaning means given read long) long text finds new_frames takes),
      subst (λ (name : List ℕ). GoOut (Said name text ∷ [])) (sym is.name) (out is.names is.is_domain),
    )

    pub end_comes : (own : KeptState) (GoOut : List Line → Type 0) → meaning ≡ Means.TerminatesDomain → GoOut []
        → Comes own heaps frames shared Next.Terminate GoOut
    end_comes own GoOut ends out = λ x may call is member. (
      [],
      subst (λ (xs : List Value). SystemFollows (call_site (among h shared) at m) x may xs
          (left_behind (contents_of heaps frames own) shared) Next.Terminate [])
          (sym (found.given_is heaps frames own shared h at may x is call m member meaning means given read long))
          (ended heaps frames own shared h at may x is m meaning means given
          (found.on_top heaps frames own shared h at may x is call m member meaning means given read long) long ends),
      out,
    )
