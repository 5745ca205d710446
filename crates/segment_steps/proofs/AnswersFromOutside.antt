-- A method of the system that is answered from outside of its domain, or ends it, leaves its domain's inside as it was.
use Rattle.std.proofs.Common.{inl, inr, ◌≡◌, ◌⊎◌, ◌==◌, ℕ, Bool, true, false, cond, List, [], ◌∷◌, ◌++◌, Option, Some, None, sym, ap, subst, ◌∙◌}
use Rattle.std.specs.Prelude.{MatchBool, MatchOption, ⊤}
use Rattle.jk_model.specs.declared.identifiers.MemberId.{MemberId}
use Rattle.jk_model.specs.declared.identifiers.SegmentNo.{SegmentNo}
use Rattle.jk_model.specs.declared.steps.Raise.TheVariants as Raised
use Rattle.jk_model.specs.declared.values.Value.{Value}
use Rattle.jk_model.specs.declared.values.Value.TheVariants as Held
use Rattle.jk_model_domains.specs.NumberRows.{is_null}
use Rattle.jk_model_domains.specs.Objects.{NamedObject, Object, Text}
use Rattle.jk_model_frames.specs.Frames.{FrameState}
use Rattle.jk_model_heaps.specs.SystemClasses.{ARRAY_STORE_EXCEPTION}
use Rattle.jk_model_heaps.specs.Workings.{Asks, Inside, LooksUp, Request, Resumes, Setting, Stops, Suspends, Terminates, Unbinds, Working}
use Rattle.jk_model_system_rows.specs.declared.meanings.Shown.{Shown}
use Rattle.jk_model_system_rows.specs.declared.meanings.SystemMeaning.{SystemMeaning}
use Rattle.jk_model_system_rows.specs.declared.meanings.SystemMeaning.TheVariants as Means
use Rattle.jk_model_system_rows.specs.Answers.{Answer, Answered, Answers, AnswersNew, Ends, Fails, Gives, MakesAnd, Tells, Wants, gives_nothing, with_answer}
use Rattle.jk_model_system_rows.specs.ArrayCopies.{ArrayCopy, CopiesItems, at_null, copies, copy_answer, of_other_kinds, out_of_range}
use Rattle.jk_model_system_rows.specs.HiddenTexts.{AppendsTo, BeginsBuffer, BeginsBufferWith, GivesBufferLength, GivesBufferText, GivesMessage, SetsMessage}
use Rattle.jk_model_system_rows.specs.PackageJk.{AsksByName, AsksOfTask, BindsName, CreatesCapability, RevokesCapability}
use Rattle.jk_model_system_rows.specs.SystemRows.{SystemRow}
use Rattle.jk_model_system_rows.specs.TextMethods.{CutsText, GivesTextLength, GivesUnit, JoinsTexts, PrintsText, ReadsNumber, TellsEqual, TellsSame, WritesText}
use Rattle.jk_model_system_rows.specs.SystemCalls.{Answering, DoesSystem}
use Rattle.jk_model_system_rows.specs.Texts.{substring}

-- the answer is the domain's own
abbrev pub IsWithin : Answer → Type 0
IsWithin (Gives v) = ⊤
IsWithin (Tells text) = ⊤
IsWithin (Fails r) = ⊤
IsWithin (Wants request) = ⊥
IsWithin Ends = ⊥

module _ (old : Inside) (done : Answered) where
  abbrev Stays : Type 0
  Stays = (done.inside ≡ old) ⊎ IsWithin done.answer

  as_it_was : (answer : Answer) → Answers old answer done → Stays
  as_it_was answer is = inl (ap (λ (d : Answered). d.inside) is)

  within : (new : Inside) (answer : Answer) → IsWithin answer → done ≡ with_answer new answer → Stays
  within new answer own is = inr (subst (λ (d : Answered). IsWithin d.answer) (sym is) own)

  made : (x : Setting) (object : Object) (leaves : ℕ → List NamedObject → Answered)
      → ((a : ℕ) (heap : List NamedObject) → IsWithin (leaves a heap).answer) → MakesAnd x old object leaves done → Stays
  made x object leaves own (inl (a, heap, makes, is)) = inr (subst (λ (d : Answered). IsWithin d.answer) (sym is) (own a heap))
  made x object leaves own (inr (lacks, is)) = as_it_was _ is

  new_object : (x : Setting) (object : Object) → AnswersNew x old object done → Stays
  new_object x object h = made x object _ (λ a heap. tt) h

  -- ---- Texts and numbers.

  same : (given : List Value) → TellsSame given old done → Stays
  same (receiver ∷ v ∷ []) h = as_it_was _ h
  same given h = absurd h

  text_length : (given : List Value) → GivesTextLength given old done → Stays
  text_length (receiver ∷ []) h = as_it_was _ h.2
  text_length given h = absurd h

  unit_at : (given : List Value) → GivesUnit given old done → Stays
  unit_at (receiver ∷ Held.Int i ∷ []) h = as_it_was _ h.2
  unit_at given h = absurd h

  equal : (given : List Value) → TellsEqual given old done → Stays
  equal (receiver ∷ v ∷ []) h = as_it_was _ h.2
  equal given h = absurd h

  joined : (x : Setting) (given : List Value) → JoinsTexts x given old done → Stays
  joined x (receiver ∷ v ∷ []) (units, is, inl h) = as_it_was _ h.1
  joined x (receiver ∷ v ∷ []) (units, is, inr h) = new_object x _ h.2
  joined x given h = absurd h

  cut_by : (x : Setting) (o : Option (List ℕ)) (fails : Answer)
      → MatchOption o (Answers old fails done) (λ (part : List ℕ). AnswersNew x old (Text part) done) → Stays
  cut_by x None fails h = as_it_was fails h
  cut_by x (Some part) fails h = new_object x (Text part) h

  cut : (x : Setting) (given : List Value) → CutsText x given old done → Stays
  cut x (receiver ∷ Held.Int b ∷ Held.Int e ∷ []) h = cut_by x (substring h.0 b e) _ h.2
  cut x given h = absurd h

  written : (x : Setting) (shown : Shown) (given : List Value) → WritesText x shown given old done → Stays
  written x shown (v ∷ []) h = new_object x _ h.2
  written x shown given h = absurd h

  printed : (shown : Shown) (given : List Value) → PrintsText shown given old done → Stays
  printed shown (stream ∷ v ∷ []) h = as_it_was _ h.2
  printed shown given h = absurd h

  number : (given : List Value) → ReadsNumber given old done → Stays
  number (v ∷ []) (inl h) = as_it_was _ h.1
  number (v ∷ []) (inr h) = as_it_was _ h.2
  number given h = absurd h

  -- ---- Buffers and messages.

  begun : (x : Setting) (given : List Value) → BeginsBuffer x given old done → Stays
  begun x (receiver ∷ []) h = made x _ _ (λ a heap. tt) h.1
  begun x given h = absurd h

  begun_with : (given : List Value) → BeginsBufferWith given old done → Stays
  begun_with (receiver ∷ v ∷ []) (inl h) = as_it_was _ h.1
  begun_with (receiver ∷ v ∷ []) (inr h) = within _ gives_nothing tt h.1.1
  begun_with given h = absurd h

  buffer_length : (given : List Value) → GivesBufferLength given old done → Stays
  buffer_length (receiver ∷ []) h = as_it_was _ h.3
  buffer_length given h = absurd h

  text_by : (x : Setting) (b : Bool) (answer : Answer) → MatchBool b (AnswersNew x old (Text []) done) (Answers old answer done) → Stays
  text_by x true answer h = new_object x (Text []) h
  text_by x false answer h = as_it_was answer h

  buffer_text : (x : Setting) (given : List Value) → GivesBufferText x given old done → Stays
  buffer_text x (receiver ∷ []) h = text_by x (is_null h.0.text) _ h.1
  buffer_text x given h = absurd h

  appended : (x : Setting) (shown : Shown) (given : List Value) → AppendsTo x shown given old done → Stays
  appended x shown (receiver ∷ v ∷ []) h = made x _ _ (λ a heap. tt) h.5
  appended x shown given h = absurd h

  message_set : (given : List Value) → SetsMessage given old done → Stays
  message_set (receiver ∷ v ∷ []) h = within _ gives_nothing tt h.1
  message_set given h = absurd h

  message : (given : List Value) → GivesMessage given old done → Stays
  message (receiver ∷ []) h = as_it_was _ h.1
  message given h = absurd h

  -- ---- Copies of arrays.

  copy_by : (b : Bool) → IsWithin (cond b gives_nothing (Fails (Raised.Fresh ARRAY_STORE_EXCEPTION)))
  copy_by true = tt
  copy_by false = tt

  copied_items : (x : Setting) (c : ArrayCopy) → CopiesItems x c old done → Stays
  copied_items x c (at_null null is) = as_it_was _ is
  copied_items x c (of_other_kinds some kinds is) = as_it_was _ is
  copied_items x c (out_of_range p range is) = as_it_was _ is
  copied_items x c (copies p r front fits is) = within _ (copy_answer front r.count) (copy_by (front == r.count)) is

  -- ---- Package jk.

  created : (x : Setting) (given : List Value) → CreatesCapability x given old done → Stays
  created x (Held.Null ∷ []) h = as_it_was _ h
  created x (Held.Cap k ∷ []) h = as_it_was _ h
  created x (Held.Obj a ∷ []) (object, is, inl h) = as_it_was _ h.2
  created x (Held.Obj a ∷ []) (object, is, inr h) = as_it_was _ h.1
  created x given h = absurd h

  revoked : (given : List Value) → RevokesCapability given old done → Stays
  revoked (Held.Cap k ∷ []) h = as_it_was _ h
  revoked given h = absurd h

  bound : (given : List Value) → BindsName given old done → Stays
  bound (name ∷ v ∷ []) (inl h) = as_it_was _ h.1
  bound (name ∷ v ∷ []) (inr h) = as_it_was _ h.4
  bound given h = absurd h

  asked_by_name : (request : List ℕ → Request) (given : List Value) → AsksByName request given old done → Stays
  asked_by_name request (name ∷ []) (inl h) = as_it_was _ h.1
  asked_by_name request (name ∷ []) (inr h) = as_it_was _ h.2
  asked_by_name request given h = absurd h

  asked_of_task : (request : SegmentNo → Request) (given : List Value) → AsksOfTask request given old done → Stays
  asked_of_task request (Held.Obj a ∷ []) h = as_it_was _ h.2
  asked_of_task request given h = absurd h

  -- ---- All of them.

  row_stays : (x : Setting) (meaning : SystemMeaning) (given : List Value) → SystemRow x meaning given old done → Stays
  row_stays x Means.Initialises given h = as_it_was _ h
  row_stays x Means.IsSame given h = same given h
  row_stays x Means.TextLength given h = text_length given h
  row_stays x Means.CharAt given h = unit_at given h
  row_stays x Means.IsSameText given h = equal given h
  row_stays x Means.Concat given h = joined x given h
  row_stays x Means.Substring given h = cut x given h
  row_stays x (Means.TextOf shown) given h = written x shown given h
  row_stays x Means.BufferInitialises given h = begun x given h
  row_stays x Means.BufferInitialisesWith given h = begun_with given h
  row_stays x Means.BufferLength given h = buffer_length given h
  row_stays x Means.BufferText given h = buffer_text x given h
  row_stays x (Means.Appends shown) given h = appended x shown given h
  row_stays x Means.PrintsEmptyLine given h = as_it_was _ h
  row_stays x (Means.Prints shown) given h = printed shown given h
  row_stays x Means.CopiesArray given h = copied_items x h.0 h.2
  row_stays x Means.ParsesInt given h = number given h
  row_stays x Means.SetsMessage given h = message_set given h
  row_stays x Means.GetsMessage given h = message given h
  row_stays x Means.CreatesCapability given h = created x given h
  row_stays x Means.RevokesCapability given h = revoked given h
  row_stays x Means.BindsName given h = bound given h
  row_stays x Means.LooksUpName given h = asked_by_name LooksUp given h
  row_stays x Means.UnbindsName given h = asked_by_name Unbinds given h
  row_stays x Means.NamesDomain given h = new_object x _ h
  row_stays x Means.CountsFreeWords given h = as_it_was _ h
  row_stays x Means.TerminatesDomain given h = as_it_was Ends h
  row_stays x Means.GetsTask given h = new_object x _ h
  row_stays x Means.SuspendsTask given h = asked_of_task Suspends given h
  row_stays x Means.ResumesTask given h = asked_of_task Resumes given h
  row_stays x Means.StopsTask given h = asked_of_task Stops given h

-- ---- In the frame that calls.

-- the frame with another stack
abbrev pub HasOtherStack : FrameState → FrameState → Type 0
HasOtherStack f g = (stack : List Value) × (g ≡ record f { stack = stack })

module _ (x : Setting) (m : MemberId) (given : List Value) (w new : Working) where
  asks_by : (answer : Answer) (request : Request) → Answering w.frame given answer new.frame (Asks request)
      → (IsWithin answer → ⊥) × HasOtherStack w.frame new.frame
  asks_by (Gives v) request (replaced, is) = absurd cc
  asks_by (Tells text) request (replaced, is) = absurd cc
  asks_by (Fails r) request (same, is) = absurd cc
  asks_by (Wants other) request (replaced, is) = (λ own. own, (replaced.below ++ [], replaced.after))
  asks_by Ends request (same, is) = absurd cc

  pub asks_stay : (request : Request) → DoesSystem x m given w new (Asks request) → (new.inside ≡ w.inside) × HasOtherStack w.frame new.frame
  asks_stay request does =
      let by = asks_by does.done.answer request does.answering in
      let inside : does.done.inside ≡ w.inside = elim (row_stays w.inside does.done x does.meaning given does.row) [
        | inl same ↦ same
        | inr own ↦ absurd (by.0 own)
      ] in
      (does.inside ∙ inside, by.1)

  ends_by : (answer : Answer) → Answering w.frame given answer new.frame Terminates → (IsWithin answer → ⊥) × (new.frame ≡ w.frame)
  ends_by (Gives v) (replaced, is) = absurd cc
  ends_by (Tells text) (replaced, is) = absurd cc
  ends_by (Fails r) (same, is) = absurd cc
  ends_by (Wants other) (replaced, is) = absurd cc
  ends_by Ends (same, is) = (λ own. own, same)

  pub ends_stay : DoesSystem x m given w new Terminates → (new.inside ≡ w.inside) × (new.frame ≡ w.frame)
  ends_stay does =
      let by = ends_by does.done.answer does.answering in
      let inside : does.done.inside ≡ w.inside = elim (row_stays w.inside does.done x does.meaning given does.row) [
        | inl same ↦ same
        | inr own ↦ absurd (by.0 own)
      ] in
      (does.inside ∙ inside, by.1)
