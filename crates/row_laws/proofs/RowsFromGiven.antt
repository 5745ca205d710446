-- Where what a method is given is as its meaning asks there is a row of it.
use Rattle.std.proofs.Common.{inl, inr, ◌≡◌, ◌≢◌, ◌⊎◌, ℕ, ◌+◌, ◌||◌, pos, Bool, true, false, List, [], ◌∷◌, ◌++◌, length, Option, Some, None, MatchOption, refl, sym, ap, subst, ◌∙◌}
use Rattle.std.specs.Prelude.{MatchBool}
use Rattle.std.proofs.lemmas.Bool.{cases_lt}
use Rattle.std.proofs.lemmas.Option.{same_Some}
use Rattle.jk_model.specs.declared.identifiers.ClassId.{ClassId}
use Rattle.jk_model.specs.declared.identifiers.MemberId.{MemberId}
use Rattle.jk_model.specs.declared.identifiers.SegmentNo.{SegmentNo}
use Rattle.jk_model.specs.declared.values.Value.{Value}
use Rattle.jk_model.specs.declared.values.Value.TheVariants as Held
use Rattle.jk_model_classes.specs.Classes.{Implements}
use Rattle.jk_model_frames.specs.Frames.{FrameState}
use Rattle.jk_model_domains.specs.NumberRows.{IsOnTop, Replaces, is_null, is_same_reference}
use Rattle.jk_model_domains.specs.Objects.{NamedObject, Object, Array, Plain, Task, Text, object_named, object_words}
use Rattle.jk_model_heaps.specs.CalledFrames.{as_entries}
use Rattle.jk_model_heaps.specs.Heaps.{free_words, heap_words}
use Rattle.jk_model_heaps.specs.SystemClasses.{ILLEGAL_ARGUMENT_EXCEPTION, NULL_POINTER_EXCEPTION, REMOTE, STRING_INDEX_EXCEPTION}
use Rattle.jk_model_heaps.specs.Workings.{Asks, Binds, Creates, GoesOn, Inside, LooksUp, Outcome, Raises, Request, Resumes, Revokes, Says, Setting, Stops, Suspends, Terminates, Unbinds, Working, with_heap}
use Rattle.jk_model_system_rows.specs.declared.meanings.Shown.{Shown}
use Rattle.jk_model_system_rows.specs.declared.meanings.SystemMeaning.{SystemMeaning}
use Rattle.jk_model_system_rows.specs.declared.meanings.SystemMeaning.TheVariants as Means
use Rattle.jk_model_system_rows.specs.Answers.{Answer, Answered, Answers, AnswersNew, Ends, Fails, Gives, MakesAnd, Tells, Wants, fails_by, fails_for_memory, gives_int, gives_nothing, gives_truth, gives_value, with_answer}
use Rattle.jk_model_system_rows.specs.ArrayCopies.{ArrayCopy, CopiesArray}
use Rattle.jk_model_system_rows.specs.HiddenTexts.{AppendsTo, BeginsBuffer, BeginsBufferWith, GivesBufferLength, GivesBufferText, GivesMessage, SetsMessage, SetsNewText, TextHolder, with_text}
use Rattle.jk_model_system_rows.specs.Meanings.{meaning_of}
use Rattle.jk_model_system_rows.specs.PackageJk.{AsksByName, AsksOfTask, BindsName, CreatesCapability, IsRemoteObject, RevokesCapability}
use Rattle.jk_model_system_rows.specs.ParsedNumbers.{parsed}
use Rattle.jk_model_system_rows.specs.SystemCalls.{Answering, DoesSystem}
use Rattle.jk_model_system_rows.specs.SystemRows.{SystemRow}
use Rattle.jk_model_system_rows.specs.TextMethods.{CutsText, GivesTextLength, GivesUnit, JoinsTexts, PrintsText, ReadsNumber, TellsEqual, TellsSame, WritesText, number_answer, unit_answer}
use Rattle.jk_model_system_rows.specs.Texts.{IsText, is_equal_text, substring, unit_at}
use Rattle.decided_lookups.specs.Decisions.{IsDecided}
use Rattle.decided_lookups.proofs.DecidedRecords.{implements_decided}
use Rattle.heap_laws.proofs.FreshNames.{fitting_made}
use Rattle.model_lemmas.proofs.SameNumbers.{same_class}
use Rattle.row_laws.specs.GivenValues.{Anything, ArraysAndPlaces, GivenFor, HasWording, HoldsText, IsInt, IsSomeCapability, IsSomeReference, IsSomeTask, IsSomeText, IsTextOrNull}
use Rattle.row_laws.proofs.ArraysCopied.{copy_there}
use Rattle.row_laws.proofs.GivenByNumber.{one, three, two}

or_true : (b : Bool) → (b || true) ≡ true
or_true true = refl
or_true false = refl

module _ (x : Setting) (old : Inside) where
  -- something is done, by such a row
  abbrev Done : (Answered → Type 0) → Type 0
  Done Row = (done : Answered) × Row done

  -- ---- New objects.

  makes_and : (object : Object) (leaves : ℕ → List NamedObject → Answered) → Done (MakesAnd x old object leaves)
  makes_and object leaves = elim (cases_lt x.quota (heap_words x.classes old.heap + object_words x.classes object)) [
    | inl lacks ↦ (with_answer old fails_for_memory, inr (lacks, refl))
    | inr fits ↦
        let made = fitting_made x.classes x.quota old.heap object fits in
        (leaves made.0 made.1, inl (made.0, made.1, made.2, refl))
  ]

  new_answer : (object : Object) → Done (AnswersNew x old object)
  new_answer object = makes_and object (λ a heap. with_answer (with_heap old heap) (gives_value (Held.Obj a)))

  new_text_set : {v : Value} (h : TextHolder old.heap v) (units : List ℕ) (answer : Answer) → Done (SetsNewText x old h units answer)
  new_text_set h units answer = makes_and (Text units) (λ a heap. with_answer (with_heap old (with_text h (Held.Obj a) heap)) answer)

  -- ---- Texts.

  abbrev SomeText : Value → Type 0
  SomeText = IsSomeText old.heap

  abbrev TextOrNull : Value → Type 0
  TextOrNull = IsTextOrNull old.heap

  no_null_text : (v : Value) (units : List ℕ) → IsText old.heap v units → v ≢ Held.Null
  no_null_text v units is null = subst (λ (u : Value). IsText old.heap u units) null is

  same_there : (v w : Value) → Anything v → Anything w → Done (TellsSame (v ∷ w ∷ []) old)
  same_there v w a b = (with_answer old (gives_truth (is_same_reference v w)), refl)

  length_there : (v : Value) → SomeText v → Done (GivesTextLength (v ∷ []) old)
  length_there v (units, is) = (with_answer old (gives_int (pos (length units))), (units, is, refl))

  unit_there : (v w : Value) → SomeText v → IsInt w → Done (GivesUnit (v ∷ w ∷ []) old)
  unit_there v w (units, is) (n, int) =
      subst (λ (u : Value). Done (GivesUnit (v ∷ u ∷ []) old)) (sym int)
      (with_answer old (unit_answer (unit_at units n)), (units, is, refl))

  equal_there : (v w : Value) → SomeText v → Anything w → Done (TellsEqual (v ∷ w ∷ []) old)
  equal_there v w (units, is) any = (with_answer old (gives_truth (is_equal_text old.heap units w)), (units, is, refl))

  joined_there : (v w : Value) → SomeText v → TextOrNull w → Done (JoinsTexts x (v ∷ w ∷ []) old)
  joined_there v w (units, is) (inl null) = (with_answer old (fails_by NULL_POINTER_EXCEPTION), (units, is, inl (null, refl)))
  joined_there v w (units, is) (inr (more, too)) =
      let made = new_answer (Text (units ++ more)) in (made.0, (units, is, inr (more, too, made.1)))

  abbrev Cuts : Option (List ℕ) → Answered → Type 0
  Cuts part done = MatchOption part (Answers old (fails_by STRING_INDEX_EXCEPTION) done) (λ (units : List ℕ). AnswersNew x old (Text units) done)

  cut_by : (part : Option (List ℕ)) → Done (Cuts part)
  cut_by None = (with_answer old (fails_by STRING_INDEX_EXCEPTION), refl)
  cut_by (Some units) = new_answer (Text units)

  cut_there : (v w u : Value) → SomeText v → IsInt w → IsInt u → Done (CutsText x (v ∷ w ∷ u ∷ []) old)
  cut_there v w u (units, is) (b, int) (e, also) =
      let cut = cut_by (substring units b e) in
      subst (λ (y : Value). Done (CutsText x (v ∷ y ∷ u ∷ []) old)) (sym int)
      (subst (λ (y : Value). Done (CutsText x (v ∷ Held.Int b ∷ y ∷ []) old)) (sym also) (cut.0, (units, is, cut.1)))

  written_there : (shown : Shown) (v : Value) → HasWording old.heap shown v → Done (WritesText x shown (v ∷ []) old)
  written_there shown v (text, reads) = let made = new_answer (Text text) in (made.0, (text, reads, made.1))

  printed_there : (shown : Shown) (v w : Value) → Anything v → HasWording old.heap shown w → Done (PrintsText shown (v ∷ w ∷ []) old)
  printed_there shown v w any (text, reads) = (with_answer old (Tells text), (text, reads, refl))

  number_there : (v : Value) → TextOrNull v → Done (ReadsNumber (v ∷ []) old)
  number_there v (inl null) = (with_answer old (number_answer None), inl (null, refl))
  number_there v (inr (units, is)) = (with_answer old (number_answer (parsed units)), inr (units, is, refl))

  -- ---- Hidden texts.

  abbrev Holds : Value → Type 0
  Holds = HoldsText old.heap

  begun_there : (v : Value) → Holds v → Done (BeginsBuffer x (v ∷ []) old)
  begun_there v (h, units, hides) = let made = new_text_set h [] gives_nothing in (made.0, (h, made.1))

  begun_with_there : (v w : Value) → Holds v → TextOrNull w → Done (BeginsBufferWith (v ∷ w ∷ []) old)
  begun_with_there v w (h, units, hides) (inl null) = (with_answer old (fails_by NULL_POINTER_EXCEPTION), inl (null, refl))
  begun_with_there v w (h, units, hides) (inr (text, is)) = (
    with_answer (with_heap old (with_text h w old.heap)) gives_nothing,
    inr (no_null_text w text is, (h, refl)),
  )

  buffer_length_there : (v : Value) → Holds v → Done (GivesBufferLength (v ∷ []) old)
  buffer_length_there v (h, units, hides) = (with_answer old (gives_int (pos (length units))), (h, units, hides, refl))

  text_by : (text : Value) (b : Bool)
      → Done (λ done. MatchBool b (AnswersNew x old (Text []) done) (Answers old (gives_value text) done))
  text_by text true = new_answer (Text [])
  text_by text false = (with_answer old (gives_value text), refl)

  buffer_text_there : (v : Value) → Holds v → Done (GivesBufferText x (v ∷ []) old)
  buffer_text_there v (h, units, hides) = let given = text_by h.text (is_null h.text) in (given.0, (h, given.1))

  appended_there : (shown : Shown) (v w : Value) → Holds v → HasWording old.heap shown w → Done (AppendsTo x shown (v ∷ w ∷ []) old)
  appended_there shown v w (h, units, hides) (added, reads) =
      let made = new_text_set h (units ++ added) (gives_value v) in (made.0, (h, units, added, hides, reads, made.1))

  message_set_there : (v w : Value) → Holds v → TextOrNull w → Done (SetsMessage (v ∷ w ∷ []) old)
  message_set_there v w (h, units, hides) is = (with_answer (with_heap old (with_text h w old.heap)) gives_nothing, (h, refl))

  message_there : (v : Value) → Holds v → Done (GivesMessage (v ∷ []) old)
  message_there v (h, units, hides) = (with_answer old (gives_value h.text), (h, refl))

  -- ---- Arrays.

  copied_there : (given : List Value) → ArraysAndPlaces old.heap given → Done (CopiesArray x given old)
  copied_there [] h = absurd h
  copied_there (s ∷ []) h = absurd h
  copied_there (s ∷ f ∷ []) h = absurd h
  copied_there (s ∷ f ∷ t ∷ []) h = absurd h
  copied_there (s ∷ f ∷ t ∷ p ∷ []) h = absurd h
  copied_there (s ∷ f ∷ t ∷ p ∷ n ∷ y ∷ more) h = absurd h
  copied_there (s ∷ f ∷ t ∷ p ∷ n ∷ []) (source, (from, is_from), target, (to, is_to), (count, is_count)) =
      let c : ArrayCopy = record { source = s; from = from; target = t; to = to; count = count } in
      let made = copy_there x c old in (
        made.0,
        (c, (λ j. s ∷ is_from j ∷ t ∷ is_to j ∷ is_count j ∷ []), made.1),
      )

  -- ---- Package jk.

  abbrev IsRemoteOf : Object → Type 0
  IsRemoteOf object = (class : ClassId) × IsRemoteObject x.classes object class

  remote_decided : (object : Object) → IsDecided (IsRemoteOf object)
  remote_decided (Array t items) = inr (λ (class, is). is)
  remote_decided (Text units) = inr (λ (class, is). is)
  remote_decided (Task n) = inr (λ (class, is). is)
  remote_decided (Plain c fields) = elim (implements_decided x.classes c REMOTE) [
    | inl implements ↦ inl (c, (refl, (REMOTE, refl, implements)))
    | inr none ↦ inr (λ (class, (same, (remote, is, implements))).
        none (subst (λ (i : ClassId). Implements x.classes c i) (same_class remote REMOTE (sym (same_Some 10 remote.0 is))) implements))
  ]

  created_of : (a : ℕ) (object : Object) → object_named old.heap a ≡ Some object → Done (CreatesCapability x (Held.Obj a ∷ []) old)
  created_of a object is = elim (remote_decided object) [
    | inl (class, remote) ↦ (with_answer old (Wants (Creates class a)), (object, is, inl (class, remote, refl)))
    | inr none ↦ (with_answer old (fails_by ILLEGAL_ARGUMENT_EXCEPTION), (object, is, inr ((λ class remote. none (class, remote)), refl)))
  ]

  created_there : (v : Value) → IsSomeReference old.heap v → Done (CreatesCapability x (v ∷ []) old)
  created_there v (inl null) =
      subst (λ (u : Value). Done (CreatesCapability x (u ∷ []) old)) (sym null) (with_answer old (fails_by NULL_POINTER_EXCEPTION), refl)
  created_there v (inr (inl (a, object, is, named))) =
      subst (λ (u : Value). Done (CreatesCapability x (u ∷ []) old)) (sym is) (created_of a object named)
  created_there v (inr (inr (k, is))) =
      subst (λ (u : Value). Done (CreatesCapability x (u ∷ []) old)) (sym is) (with_answer old (fails_by ILLEGAL_ARGUMENT_EXCEPTION), refl)

  revoked_there : (v : Value) → IsSomeCapability v → Done (RevokesCapability (v ∷ []) old)
  revoked_there v (k, is) =
      subst (λ (u : Value). Done (RevokesCapability (u ∷ []) old)) (sym is) (with_answer old (Wants (Revokes k)), refl)

  bound_there : (v w : Value) → TextOrNull v → (w ≡ Held.Null) ⊎ IsSomeCapability w → Done (BindsName (v ∷ w ∷ []) old)
  bound_there v w (inl null) cap =
      (with_answer old (fails_by NULL_POINTER_EXCEPTION), inl (ap (λ (u : Value). is_null u || is_null w) null, refl))
  bound_there v w (inr text) (inl null) = (
    with_answer old (fails_by NULL_POINTER_EXCEPTION),
    inl (ap (λ (u : Value). is_null v || is_null u) null ∙ or_true (is_null v), refl),
  )
  bound_there v w (inr (units, is)) (inr (k, cap)) = (with_answer old (Wants (Binds units k)), inr (units, k, is, cap, refl))

  asked_there : (request : List ℕ → Request) (v : Value) → TextOrNull v → Done (AsksByName request (v ∷ []) old)
  asked_there request v (inl null) = (with_answer old (fails_by NULL_POINTER_EXCEPTION), inl (null, refl))
  asked_there request v (inr (units, is)) = (with_answer old (Wants (request units)), inr (units, is, refl))

  task_there : (request : SegmentNo → Request) (v : Value) → IsSomeTask old.heap v → Done (AsksOfTask request (v ∷ []) old)
  task_there request v (a, n, is, named) =
      subst (λ (u : Value). Done (AsksOfTask request (u ∷ []) old)) (sym is) (with_answer old (Wants (request n)), (n, named, refl))

  -- ---- By the meaning.

  pub row_there : (meaning : SystemMeaning) (given : List Value) → GivenFor old.heap meaning given → Done (SystemRow x meaning given old)
  row_there Means.Initialises given h = (with_answer old gives_nothing, refl)
  row_there Means.IsSame given h = two Anything Anything (λ vs. Done (TellsSame vs old)) same_there given h
  row_there Means.TextLength given h = one SomeText (λ vs. Done (GivesTextLength vs old)) length_there given h
  row_there Means.CharAt given h = two SomeText IsInt (λ vs. Done (GivesUnit vs old)) unit_there given h
  row_there Means.IsSameText given h = two SomeText Anything (λ vs. Done (TellsEqual vs old)) equal_there given h
  row_there Means.Concat given h = two SomeText TextOrNull (λ vs. Done (JoinsTexts x vs old)) joined_there given h
  row_there Means.Substring given h = three SomeText IsInt IsInt (λ vs. Done (CutsText x vs old)) cut_there given h
  row_there (Means.TextOf shown) given h = one (HasWording old.heap shown) (λ vs. Done (WritesText x shown vs old)) (written_there shown) given h
  row_there Means.BufferInitialises given h = one Holds (λ vs. Done (BeginsBuffer x vs old)) begun_there given h
  row_there Means.BufferInitialisesWith given h = two Holds TextOrNull (λ vs. Done (BeginsBufferWith vs old)) begun_with_there given h
  row_there Means.BufferLength given h = one Holds (λ vs. Done (GivesBufferLength vs old)) buffer_length_there given h
  row_there Means.BufferText given h = one Holds (λ vs. Done (GivesBufferText x vs old)) buffer_text_there given h
  row_there (Means.Appends shown) given h =
      two Holds (HasWording old.heap shown) (λ vs. Done (AppendsTo x shown vs old)) (appended_there shown) given h
  row_there Means.PrintsEmptyLine given h = (with_answer old (Tells []), refl)
  row_there (Means.Prints shown) given h =
      two Anything (HasWording old.heap shown) (λ vs. Done (PrintsText shown vs old)) (printed_there shown) given h
  row_there Means.CopiesArray given h = copied_there given h
  row_there Means.ParsesInt given h = one TextOrNull (λ vs. Done (ReadsNumber vs old)) number_there given h
  row_there Means.SetsMessage given h = two Holds TextOrNull (λ vs. Done (SetsMessage vs old)) message_set_there given h
  row_there Means.GetsMessage given h = one Holds (λ vs. Done (GivesMessage vs old)) message_there given h
  row_there Means.CreatesCapability given h = one (IsSomeReference old.heap) (λ vs. Done (CreatesCapability x vs old)) created_there given h
  row_there Means.RevokesCapability given h = one IsSomeCapability (λ vs. Done (RevokesCapability vs old)) revoked_there given h
  row_there Means.BindsName given h =
      two TextOrNull (λ v. (v ≡ Held.Null) ⊎ IsSomeCapability v) (λ vs. Done (BindsName vs old)) bound_there given h
  row_there Means.LooksUpName given h = one TextOrNull (λ vs. Done (AsksByName LooksUp vs old)) (asked_there LooksUp) given h
  row_there Means.UnbindsName given h = one TextOrNull (λ vs. Done (AsksByName Unbinds vs old)) (asked_there Unbinds) given h
  row_there Means.NamesDomain given h = new_answer (Text x.name)
  row_there Means.CountsFreeWords given h = (with_answer old (gives_int (pos (free_words x.classes x.quota old.heap))), refl)
  row_there Means.TerminatesDomain given h = (with_answer old Ends, refl)
  row_there Means.GetsTask given h = new_answer (Task x.segment)
  row_there Means.SuspendsTask given h = one (IsSomeTask old.heap) (λ vs. Done (AsksOfTask Suspends vs old)) (task_there Suspends) given h
  row_there Means.ResumesTask given h = one (IsSomeTask old.heap) (λ vs. Done (AsksOfTask Resumes vs old)) (task_there Resumes) given h
  row_there Means.StopsTask given h = one (IsSomeTask old.heap) (λ vs. Done (AsksOfTask Stops vs old)) (task_there Stops) given h

-- ---- In the frame that calls.

module _ (f : FrameState) (given : List Value) (top : IsOnTop f given) where
  abbrev Follows : Answer → Type 0
  Follows answer = (g : FrameState) × (outcome : Outcome) × Answering f given answer g outcome

  replaced : (pushed : List Value) → (g : FrameState) × Replaces f g given pushed
  replaced pushed = (record f { stack = top.0 ++ pushed }, record { below = top.0; before = top.1; after = refl })

  answering : (answer : Answer) → Follows answer
  answering (Gives v) = let r = replaced (as_entries v) in (r.0, GoesOn (f.head.at + 1), (r.1, refl))
  answering (Tells text) = let r = replaced [] in (r.0, Says text (f.head.at + 1), (r.1, refl))
  answering (Fails raise) = (f, Raises raise, (refl, refl))
  answering (Wants request) = let r = replaced [] in (r.0, Asks request, (r.1, refl))
  answering Ends = (f, Terminates, (refl, refl))

pub call_there : (x : Setting) (w : Working) (m : MemberId) (meaning : SystemMeaning) (given : List Value) → meaning_of m ≡ Some meaning
    → GivenFor w.inside.heap meaning given → IsOnTop w.frame given → (new : Working) × (outcome : Outcome) × DoesSystem x m given w new outcome
call_there x w m meaning given means h top =
    let row = row_there x w.inside meaning given h in
    let after = answering w.frame given top row.0.answer in (
      record { inside = row.0.inside; frame = after.0 },
      after.1,
      record { meaning = meaning; means = means; done = row.0; row = row.1; answering = after.2; inside = refl },
    )
