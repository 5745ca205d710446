-- What each row of a method of the system keeps, and that its answer is of the method's result type.
use Rattle.std.proofs.Common.{inl, inr, ◌≡◌, ◌⊎◌, ℕ, ◌<◌, ℤ, pos, Bool, true, false, List, [], ◌∷◌, ◌++◌, length, Option, Some, None, MatchOption, refl, sym, ap, subst, ◌∙◌, arith}
use Rattle.std.specs.Prelude.{MatchBool}
use Rattle.std.specs.List.{AllByRecursion}
use Rattle.std.proofs.lemmas.Option.{same_Some}
use Rattle.jk_model.specs.Flags.{has, STATIC}
use Rattle.jk_model.specs.SystemTable.{system_classes}
use Rattle.jk_model.specs.declared.identifiers.ClassId.{ClassId}
use Rattle.jk_model.specs.declared.identifiers.MemberId.{MemberId}
use Rattle.jk_model.specs.declared.identifiers.SegmentNo.{SegmentNo}
use Rattle.jk_model.specs.declared.values.Value.{Value}
use Rattle.jk_model.specs.declared.values.Value.TheVariants as Held
use Rattle.jk_model_classes.specs.declared.records.BaseRef.TheVariants as Base
use Rattle.jk_model_classes.specs.declared.records.ClassRecord.{ClassRecord}
use Rattle.jk_model_classes.specs.declared.records.MethodRecord.{MethodRecord}
use Rattle.jk_model_classes.specs.declared.records.TypeRef.{TypeRef}
use Rattle.jk_model_classes.specs.Classes.{IsSubclass}
use Rattle.jk_model_classes.specs.Stubs.{ImplementsRemote}
use Rattle.jk_model_domains.specs.NumberRows.{is_null, is_same_reference}
use Rattle.jk_model_domains.specs.Objects.{NamedObject, Object, Array, Plain, Task, Text, class_type, object_named}
use Rattle.jk_model_heaps.specs.Heaps.{free_words}
use Rattle.jk_model_heaps.specs.Instances.{RunsAs, run_class}
use Rattle.jk_model_heaps.specs.SystemClasses.{STRING_INDEX_EXCEPTION}
use Rattle.jk_model_heaps.specs.Workings.{Binds, Creates, Inside, LooksUp, Request, Resumes, Revokes, Setting, Stops, Suspends, Unbinds}
use Rattle.jk_model_sealing.specs.SealedInsides.{IsKnownValue, IsSealedInside, Surroundings}
use Rattle.jk_model_system_rows.specs.declared.meanings.Shown.{Shown}
use Rattle.jk_model_system_rows.specs.declared.meanings.SystemMeaning.{SystemMeaning}
use Rattle.jk_model_system_rows.specs.declared.meanings.SystemMeaning.TheVariants as Means
use Rattle.jk_model_system_rows.specs.Answers.{Answer, Answered, Answers, AnswersNew, Ends, Tells, Wants, fails_by, gives_int, gives_nothing, gives_truth, gives_value}
use Rattle.jk_model_system_rows.specs.HiddenTexts.{AppendsTo, BeginsBuffer, BeginsBufferWith, GivesBufferLength, GivesBufferText, GivesMessage, SetsMessage}
use Rattle.jk_model_system_rows.specs.PackageJk.{AsksByName, AsksOfTask, BindsName, CreatesCapability, IsRemoteObject, RevokesCapability}
use Rattle.jk_model_system_rows.specs.ParsedNumbers.{parsed}
use Rattle.jk_model_system_rows.specs.SystemRows.{SystemRow}
use Rattle.jk_model_system_rows.specs.TextMethods.{CutsText, GivesTextLength, GivesUnit, JoinsTexts, PrintsText, ReadsNumber, TellsEqual, TellsSame, WritesText, number_answer, unit_answer}
use Rattle.jk_model_system_rows.specs.Texts.{is_equal_text, substring, unit_at}
use Rattle.heap_laws.proofs.StillFits.{declared_held, value_known}
use Rattle.heap_laws.specs.FittingOutcomes.{IsKnownRequest, IsOfType, answer_type}
use Rattle.heap_laws.specs.RunningFrames.{IsKnownSetting}
use Rattle.row_laws.proofs.InstancesFitTypes.{class_fits}
use Rattle.row_laws.proofs.SystemParents.{is_listed_below, numbered}
use Rattle.row_laws.specs.GivenByMeaning.{BeginsMethod}
use Rattle.row_laws.specs.GivenValues.{Anything, GivenFor, HasWording, IsInt, IsSomeCapability, IsSomeReference, IsSomeTask, IsSomeText, IsTextOrNull}
use Rattle.row_laws.proofs.SystemAnswersKept.{AnswerFits, KeepsAnswer, answered, fails_fit, new_task_kept, new_text_kept}
use Rattle.row_laws.proofs.CopiesKept.{array_copy_kept}
use Rattle.row_laws.proofs.GivenByNumber.{one, three, two}
use Rattle.row_laws.proofs.GivenFromTypes.{IsHolder, IsReceiver, buffer_received, given_for, one_received, received, throwable_received, two_received}
use Rattle.row_laws.proofs.HiddenTextsKept.{hidden_type, set_kept, set_new_kept}
use Rattle.row_laws.proofs.MeaningsOfTable.{is_buffer, is_class_for, is_static_for, number_type, object_type, params_for, result_for, shown_type}
use Rattle.row_laws.proofs.ValuesOfHeaps.{IsPlainValue}

module _ (around : Surroundings) (x : Setting) (known : IsKnownSetting around x) (old : Inside) (sealed : IsSealedInside around x.quota old)
    (done : Answered) where
  abbrev heap : List NamedObject
  heap = old.heap

  abbrev Keeps : Option TypeRef → Type 0
  Keeps result = KeepsAnswer around x old result done

  keeps_answer : (result : Option TypeRef) (answer : Answer) → AnswerFits around heap result answer → Answers old answer done → Keeps result
  keeps_answer result answer fits is = answered around x known old sealed result done answer fits is

  fails : (result : Option TypeRef) (n : ℕ) → n < length system_classes → is_listed_below 45 n 9 ≡ true → Answers old (fails_by (numbered n)) done
      → Keeps result
  fails result n low below is = keeps_answer result (fails_by (numbered n)) (fails_fit around known.codes heap n low below) is

  abbrev int : Option TypeRef
  int = Some (number_type Base.Int)

  abbrev truth : Option TypeRef
  truth = Some (number_type Base.Bool)

  abbrev text : Option TypeRef
  text = Some (object_type 3)

  -- ---- Texts.

  abbrev SomeText : Value → Type 0
  SomeText = IsSomeText heap

  abbrev TextOrNull : Value → Type 0
  TextOrNull = IsTextOrNull heap

  same_kept : (v w : Value) → Anything v → Anything w → TellsSame (v ∷ w ∷ []) old done → Keeps truth
  same_kept v w a b is = keeps_answer truth (gives_truth (is_same_reference v w)) (tt, tt) is

  length_kept : (v : Value) → SomeText v → GivesTextLength (v ∷ []) old done → Keeps int
  length_kept v a (units, is, e) = keeps_answer int (gives_int (pos (length units))) (tt, tt) e

  unit_by : (o : Option ℕ) → Answers old (unit_answer o) done → Keeps (Some (number_type Base.Char))
  unit_by None e = fails (Some (number_type Base.Char)) 31 (omega arith) refl e
  unit_by (Some u) e = keeps_answer (Some (number_type Base.Char)) (gives_int (pos u)) (tt, tt) e

  unit_at_place : (v : Value) (n : ℤ) → GivesUnit (v ∷ Held.Int n ∷ []) old done → Keeps (Some (number_type Base.Char))
  unit_at_place v n (units, is, e) = unit_by (unit_at units n) e

  unit_kept : (v w : Value) → SomeText v → IsInt w → GivesUnit (v ∷ w ∷ []) old done → Keeps (Some (number_type Base.Char))
  unit_kept v w a (n, is) row = unit_at_place v n (subst (λ (u : Value). GivesUnit (v ∷ u ∷ []) old done) is row)

  equal_kept : (v w : Value) → SomeText v → Anything w → TellsEqual (v ∷ w ∷ []) old done → Keeps truth
  equal_kept v w a b (units, is, e) = keeps_answer truth (gives_truth (is_equal_text heap units w)) (tt, tt) e

  new_text : (units : List ℕ) → AnswersNew x old (Text units) done → Keeps text
  new_text units row = new_text_kept around x known old sealed done units row

  joined_kept : (v w : Value) → SomeText v → TextOrNull w → JoinsTexts x (v ∷ w ∷ []) old done → Keeps text
  joined_kept v w a b (units, is, inl (null, e)) = fails text 26 (omega arith) refl e
  joined_kept v w a b (units, is, inr (more, too, new)) = new_text (units ++ more) new

  cut_by : (o : Option (List ℕ))
      → MatchOption o (Answers old (fails_by STRING_INDEX_EXCEPTION) done) (λ (part : List ℕ). AnswersNew x old (Text part) done) → Keeps text
  cut_by None e = fails text 31 (omega arith) refl e
  cut_by (Some part) new = new_text part new

  cut_at_places : (v : Value) (b e : ℤ) → CutsText x (v ∷ Held.Int b ∷ Held.Int e ∷ []) old done → Keeps text
  cut_at_places v b e (units, is, part) = cut_by (substring units b e) part

  cut_kept : (v w u : Value) → SomeText v → IsInt w → IsInt u → CutsText x (v ∷ w ∷ u ∷ []) old done → Keeps text
  cut_kept v w u a (b, is) (e, also) row =
      cut_at_places v b e
      (subst (λ (y : Value). CutsText x (v ∷ Held.Int b ∷ y ∷ []) old done) also
      (subst (λ (y : Value). CutsText x (v ∷ y ∷ u ∷ []) old done) is row))

  written_kept : (shown : Shown) (v : Value) → HasWording heap shown v → WritesText x shown (v ∷ []) old done → Keeps text
  written_kept shown v a (units, reads, new) = new_text units new

  printed_kept : (shown : Shown) (v w : Value) → Anything v → HasWording heap shown w → PrintsText shown (v ∷ w ∷ []) old done → Keeps None
  printed_kept shown v w a b (units, reads, e) = keeps_answer None (Tells units) refl e

  number_by : (o : Option ℤ) → Answers old (number_answer o) done → Keeps int
  number_by None e = fails int 29 (omega arith) refl e
  number_by (Some n) e = keeps_answer int (gives_int n) (tt, tt) e

  number_kept : (v : Value) → TextOrNull v → ReadsNumber (v ∷ []) old done → Keeps int
  number_kept v a (inl (null, e)) = number_by None e
  number_kept v a (inr (units, is, e)) = number_by (parsed units) e

  -- ---- Hidden texts.

  abbrev Holder : Value → Type 0
  Holder v = IsHolder around known.codes x.quota old sealed v

  abbrev OfText : Value → Type 0
  OfText v = IsOfType around heap (object_type 3) v

  begun_kept : (v : Value) → Holder v → BeginsBuffer x (v ∷ []) old done → Keeps None
  begun_kept v k (h, sets) = set_new_kept around x known old sealed v h k [] None gives_nothing (λ now grown. tt) done sets

  begun_with_kept : (v w : Value) → Holder v → OfText w → BeginsBufferWith (v ∷ w ∷ []) old done → Keeps None
  begun_with_kept v w k of (inl (null, e)) = fails None 26 (omega arith) refl e
  begun_with_kept v w k of (inr (some, (h, sets))) = set_kept around x known old sealed v h k w of done sets

  buffer_length_kept : (v : Value) → Holder v → GivesBufferLength (v ∷ []) old done → Keeps int
  buffer_length_kept v k (h, units, hides, e) = keeps_answer int (gives_int (pos (length units))) (tt, tt) e

  text_by : (t : Value) → OfText t → (b : Bool) → MatchBool b (AnswersNew x old (Text []) done) (Answers old (gives_value t) done) → Keeps text
  text_by t of true new = new_text [] new
  text_by t of false e = keeps_answer text (gives_value t) of e

  buffer_text_kept : (v : Value) → Holder v → GivesBufferText x (v ∷ []) old done → Keeps text
  buffer_text_kept v k (h, row) = text_by h.text (hidden_type around x known old sealed v h k) (is_null h.text) row

  message_set_kept : (v w : Value) → Holder v → OfText w → SetsMessage (v ∷ w ∷ []) old done → Keeps None
  message_set_kept v w k of (h, sets) = set_kept around x known old sealed v h k w of done sets

  message_kept : (v : Value) → Holder v → GivesMessage (v ∷ []) old done → Keeps text
  message_kept v k (h, e) = keeps_answer text (gives_value h.text) (hidden_type around x known old sealed v h k) e

  -- a receiver is of its method's class, in each heap to which this one grows
  receiver_plain : (m : MemberId) (v : Value) (class : ClassId) → IsPlainValue around known.codes x.quota old sealed v class
      → IsSubclass around.classes class m.class → IsOfType around heap (class_type m.class) v
  receiver_plain m v class p below =
      subst (λ (u : Value). IsOfType around heap (class_type m.class) u) (sym p.names)
      ((Plain class p.fields, p.object, class_fits around.classes known.codes class m.class below), (Plain class p.fields, p.object))

  abbrev OwnHolder : MemberId → Value → Type 0
  OwnHolder m v = Holder v × IsOfType around heap (class_type m.class) v

  appended_kept : (m : MemberId) (shown : Shown) (v w : Value) → OwnHolder m v → IsOfType around heap (shown_type shown) w
      → AppendsTo x shown (v ∷ w ∷ []) old done → Keeps (Some (object_type m.class.0))
  appended_kept m shown v w (k, of) a (h, units, added, hides, reads, sets) =
      set_new_kept around x known old sealed v h k (units ++ added) (Some (object_type m.class.0)) (gives_value v)
      (λ now grown. (
        declared_held heap now grown around.classes v (class_type m.class) of.0,
        value_known heap now grown around.caps v of.1,
      )) done sets

  -- ---- Package jk.

  abbrev AreKnown : List Value → Type 0
  AreKnown vs = AllByRecursion (IsKnownValue around.caps heap) vs

  abbrev cap : Option TypeRef
  cap = Some (object_type 11)

  remote_known : (a : ℕ) (object : Object) (class : ClassId) → object_named heap a ≡ Some object → IsRemoteObject x.classes object class
      → IsKnownRequest around heap (Creates class a)
  remote_known a (Plain c fields) class is (same, remote) = (
    (fields, is ∙ ap (λ (d : ClassId). Some (Plain d fields)) (sym same)),
    subst (λ (d : ClassId). ImplementsRemote around.classes d) (sym same)
        (subst (λ (classes : List ClassRecord). ImplementsRemote classes c) known.classes remote),
  )
  remote_known a (Array t items) class is remote = absurd remote
  remote_known a (Text units) class is remote = absurd remote
  remote_known a (Task n) class is remote = absurd remote

  created_kept : (v : Value) → IsSomeReference heap v → CreatesCapability x (v ∷ []) old done → Keeps cap
  created_kept Held.Null a e = fails cap 26 (omega arith) refl e
  created_kept (Held.Cap k) a e = fails cap 22 (omega arith) refl e
  created_kept (Held.Obj n) a (object, is, inl (class, remote, e)) =
      keeps_answer cap (Wants (Creates class n)) (refl, remote_known n object class is remote) e
  created_kept (Held.Obj n) a (object, is, inr (none, e)) = fails cap 22 (omega arith) refl e
  created_kept (Held.Int n) a row = absurd row
  created_kept (Held.Long n) a row = absurd row
  created_kept Held.Unset a row = absurd row

  revoked_kept : (v : Value) → IsSomeCapability v → AreKnown (v ∷ []) × RevokesCapability (v ∷ []) old done → Keeps None
  revoked_kept (Held.Cap k) a (are, e) = keeps_answer None (Wants (Revokes k)) (refl, are.0) e
  revoked_kept (Held.Obj n) a (are, row) = absurd row
  revoked_kept Held.Null a (are, row) = absurd row
  revoked_kept (Held.Int n) a (are, row) = absurd row
  revoked_kept (Held.Long n) a (are, row) = absurd row
  revoked_kept Held.Unset a (are, row) = absurd row

  bound_kept : (v w : Value) → TextOrNull v → (w ≡ Held.Null) ⊎ IsSomeCapability w → AreKnown (v ∷ w ∷ []) × BindsName (v ∷ w ∷ []) old done
      → Keeps None
  bound_kept v w a b (are, inl (null, e)) = fails None 26 (omega arith) refl e
  bound_kept v w a b (are, inr (units, k, is, same, e)) =
      keeps_answer None (Wants (Binds units k)) (refl, subst (IsKnownValue around.caps heap) same are.1.0) e

  asked_kept : (request : List ℕ → Request) (result : Option TypeRef)
      → ((units : List ℕ) → (answer_type (request units) ≡ result) × IsKnownRequest around heap (request units)) → (v : Value) → TextOrNull v
      → AsksByName request (v ∷ []) old done → Keeps result
  asked_kept request result fits v a (inl (null, e)) = fails result 26 (omega arith) refl e
  asked_kept request result fits v a (inr (units, is, e)) = keeps_answer result (Wants (request units)) (fits units) e

  task_kept : (request : SegmentNo → Request)
      → ((n : SegmentNo) (a : ℕ) → object_named heap a ≡ Some (Task n)
      → (answer_type (request n) ≡ None) × IsKnownRequest around heap (request n)) → (v : Value) → IsSomeTask heap v
      → AsksOfTask request (v ∷ []) old done → Keeps None
  task_kept request fits (Held.Obj a) is (n, there, e) = keeps_answer None (Wants (request n)) (fits n a there) e
  task_kept request fits (Held.Cap k) is row = absurd row
  task_kept request fits Held.Null is row = absurd row
  task_kept request fits (Held.Int n) is row = absurd row
  task_kept request fits (Held.Long n) is row = absurd row
  task_kept request fits Held.Unset is row = absurd row

  -- ---- By the meaning.

  module _ (m : MemberId) (method : MethodRecord) (given : List Value) (begins : BeginsMethod around heap m method given) (are : AreKnown given) where
    -- a receiver that holds a text alone, or with another text
    held_one : ((v : Value) → IsReceiver around known.codes x.quota old sealed m v → Holder v) → method.params ≡ [] → has method.flags STATIC ≡ false
        → (R : List Value → Type 0) → ((v : Value) → Holder v → R (v ∷ [])) → R given
    held_one of ps st R f =
        one Holder R f given
        (one_received around known.codes x.quota old sealed m Holder of given
        (received around known.codes x.quota old sealed m method [] ps st given begins))

    held_two : (P : Value → Type 0) (t : TypeRef) → ((v : Value) → IsReceiver around known.codes x.quota old sealed m v → P v)
        → method.params ≡ t ∷ [] → has method.flags STATIC ≡ false
        → (R : List Value → Type 0) → ((v w : Value) → P v → IsOfType around heap t w → R (v ∷ w ∷ [])) → R given
    held_two P t of ps st R f =
        two P (λ w. IsOfType around heap t w) R f given
        (two_received around known.codes x.quota old sealed m P (λ w. IsOfType around heap t w) t of (λ w h. h) given
        (received around known.codes x.quota old sealed m method (t ∷ []) ps st given begins))

    in_buffer : is_buffer m.class.0 ≡ true → (v : Value) → IsReceiver around known.codes x.quota old sealed m v → Holder v
    in_buffer of v r = buffer_received around known.codes x.quota old sealed m of v r

    -- the class at which the method was looked for is the receiver's own
    own_class : (v : Value) (class : ClassId) → RunsAs heap v class → (k : Holder v) → class ≡ k.class
    own_class v class runs k =
        let here = subst (λ (u : Value). RunsAs heap u class) k.plain.names runs in
        here.2 ∙ ap run_class (same_Some here.0 (Plain k.class k.plain.fields) (sym here.1 ∙ k.plain.object))

    in_own_buffer : is_buffer m.class.0 ≡ true → (v : Value) → IsReceiver around known.codes x.quota old sealed m v → OwnHolder m v
    in_own_buffer of v r =
        let k = in_buffer of v r in
        (k, receiver_plain m v k.class k.plain (subst (λ (d : ClassId). IsSubclass around.classes d m.class) (own_class v r.0 r.1 k) r.2))

    in_throwable : is_listed_below 45 m.class.0 9 ≡ true → (v : Value) → IsReceiver around known.codes x.quota old sealed m v → Holder v
    in_throwable of v r = throwable_received around known.codes x.quota old sealed m of v r

    abbrev Suits : SystemMeaning → Type 0
    Suits meaning =
        (method.params ≡ params_for meaning) × (has method.flags STATIC ≡ is_static_for meaning) × (is_class_for meaning m.class.0 ≡ true)

    given_here : (meaning : SystemMeaning) → Suits meaning → GivenFor heap meaning given
    given_here meaning s = given_for around known.codes x.quota old sealed m method meaning s.0 s.1 s.2 given begins

    abbrev Row : SystemMeaning → Type 0
    Row meaning = Suits meaning → SystemRow x meaning given old done → Keeps (result_for m.class.0 meaning)

    -- ---- Texts, and lines.

    shown_written : (shown : Shown) → Row (Means.TextOf shown)
    shown_written shown s row =
        one (HasWording heap shown) (λ vs. WritesText x shown vs old done → Keeps text) (written_kept shown) given (given_here (Means.TextOf shown) s) row

    shown_printed : (shown : Shown) → Row (Means.Prints shown)
    shown_printed shown s row =
        two Anything (HasWording heap shown) (λ vs. PrintsText shown vs old done → Keeps None) (printed_kept shown) given
        (given_here (Means.Prints shown) s) row

    shown_appended : (shown : Shown) → Row (Means.Appends shown)
    shown_appended shown s row =
        held_two (OwnHolder m) (shown_type shown) (in_own_buffer s.2) s.0 s.1 (λ vs. AppendsTo x shown vs old done → Keeps (Some (object_type m.class.0)))
        (appended_kept m shown) row

    -- ---- Requests.

    revoked : Row Means.RevokesCapability
    revoked s row =
        one IsSomeCapability (λ vs. AreKnown vs × RevokesCapability vs old done → Keeps None) revoked_kept given
        (given_here Means.RevokesCapability s) (are, row)

    bound : Row Means.BindsName
    bound s row =
        two TextOrNull (λ v. (v ≡ Held.Null) ⊎ IsSomeCapability v) (λ vs. AreKnown vs × BindsName vs old done → Keeps None) bound_kept given
        (given_here Means.BindsName s) (are, row)

    looked_up : Row Means.LooksUpName
    looked_up s row =
        one TextOrNull (λ vs. AsksByName LooksUp vs old done → Keeps cap) (asked_kept LooksUp cap (λ units. (refl, tt))) given
        (given_here Means.LooksUpName s) row

    unbound : Row Means.UnbindsName
    unbound s row =
        one TextOrNull (λ vs. AsksByName Unbinds vs old done → Keeps None) (asked_kept Unbinds None (λ units. (refl, tt))) given
        (given_here Means.UnbindsName s) row

    suspended : Row Means.SuspendsTask
    suspended s row =
        one (IsSomeTask heap) (λ vs. AsksOfTask Suspends vs old done → Keeps None) (task_kept Suspends (λ n a there. (refl, (a, there)))) given
        (given_here Means.SuspendsTask s) row

    resumed : Row Means.ResumesTask
    resumed s row =
        one (IsSomeTask heap) (λ vs. AsksOfTask Resumes vs old done → Keeps None) (task_kept Resumes (λ n a there. (refl, (a, there)))) given
        (given_here Means.ResumesTask s) row

    stopped : Row Means.StopsTask
    stopped s row =
        one (IsSomeTask heap) (λ vs. AsksOfTask Stops vs old done → Keeps None) (task_kept Stops (λ n a there. (refl, (a, there)))) given
        (given_here Means.StopsTask s) row

    -- ---- All of them.

    pub row_kept : (meaning : SystemMeaning) → Row meaning
    row_kept Means.Initialises s row = keeps_answer None gives_nothing tt row
    row_kept Means.IsSame s row =
        two Anything Anything (λ vs. TellsSame vs old done → Keeps truth) same_kept given (given_here Means.IsSame s) row
    row_kept Means.TextLength s row =
        one SomeText (λ vs. GivesTextLength vs old done → Keeps int) length_kept given (given_here Means.TextLength s) row
    row_kept Means.CharAt s row =
        two SomeText IsInt (λ vs. GivesUnit vs old done → Keeps (Some (number_type Base.Char))) unit_kept given (given_here Means.CharAt s) row
    row_kept Means.IsSameText s row =
        two SomeText Anything (λ vs. TellsEqual vs old done → Keeps truth) equal_kept given (given_here Means.IsSameText s) row
    row_kept Means.Concat s row =
        two SomeText TextOrNull (λ vs. JoinsTexts x vs old done → Keeps text) joined_kept given (given_here Means.Concat s) row
    row_kept Means.Substring s row =
        three SomeText IsInt IsInt (λ vs. CutsText x vs old done → Keeps text) cut_kept given (given_here Means.Substring s) row
    row_kept (Means.TextOf shown) s row = shown_written shown s row
    row_kept Means.BufferInitialises s row =
        held_one (in_buffer s.2) s.0 s.1 (λ vs. BeginsBuffer x vs old done → Keeps None) begun_kept row
    row_kept Means.BufferInitialisesWith s row =
        held_two Holder (object_type 3) (in_buffer s.2) s.0 s.1 (λ vs. BeginsBufferWith vs old done → Keeps None) begun_with_kept row
    row_kept Means.BufferLength s row =
        held_one (in_buffer s.2) s.0 s.1 (λ vs. GivesBufferLength vs old done → Keeps int) buffer_length_kept row
    row_kept Means.BufferText s row =
        held_one (in_buffer s.2) s.0 s.1 (λ vs. GivesBufferText x vs old done → Keeps text) buffer_text_kept row
    row_kept (Means.Appends shown) s row = shown_appended shown s row
    row_kept Means.PrintsEmptyLine s row = keeps_answer None (Tells []) refl row
    row_kept (Means.Prints shown) s row = shown_printed shown s row
    row_kept Means.CopiesArray s row = array_copy_kept around x known old sealed given done row
    row_kept Means.ParsesInt s row = one TextOrNull (λ vs. ReadsNumber vs old done → Keeps int) number_kept given (given_here Means.ParsesInt s) row
    row_kept Means.SetsMessage s row =
        held_two Holder (object_type 3) (in_throwable s.2) s.0 s.1 (λ vs. SetsMessage vs old done → Keeps None) message_set_kept row
    row_kept Means.GetsMessage s row =
        held_one (in_throwable s.2) s.0 s.1 (λ vs. GivesMessage vs old done → Keeps text) message_kept row
    row_kept Means.CreatesCapability s row =
        one (IsSomeReference heap) (λ vs. CreatesCapability x vs old done → Keeps cap) created_kept given (given_here Means.CreatesCapability s) row
    row_kept Means.RevokesCapability s row = revoked s row
    row_kept Means.BindsName s row = bound s row
    row_kept Means.LooksUpName s row = looked_up s row
    row_kept Means.UnbindsName s row = unbound s row
    row_kept Means.NamesDomain s row = new_text x.name row
    row_kept Means.CountsFreeWords s row = keeps_answer int (gives_int (pos (free_words x.classes x.quota heap))) (tt, tt) row
    row_kept Means.TerminatesDomain s row = keeps_answer None Ends tt row
    row_kept Means.GetsTask s row = new_task_kept around x known old sealed done row
    row_kept Means.SuspendsTask s row = suspended s row
    row_kept Means.ResumesTask s row = resumed s row
    row_kept Means.StopsTask s row = stopped s row
