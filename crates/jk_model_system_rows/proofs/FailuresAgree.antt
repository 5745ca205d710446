-- Whether a method fails, and by what, is told by its receiver, its arguments and the heap: of a row's cases one alone holds.
use Rattle.std.proofs.Common.{◌≡◌, ℕ, ◌+◌, ◌<◌, ◌≤◌, ◌||◌, Bool, true, false, IsTrue, inl, inr, List, [], ◌∷◌, ◌++◌, Option, Some, None, MatchBool, MatchOption, refl, sym, ap, subst, ◌∙◌, arith}
use Rattle.std.proofs.lemmas.Bool.{both_ways}
use Rattle.std.proofs.lemmas.List.Sums.{sum_by-cons}
use Rattle.std.proofs.lemmas.Option.{same_Some}
use Rattle.jk_model.specs.declared.identifiers.CapId.{CapId}
use Rattle.jk_model.specs.declared.identifiers.SegmentNo.{SegmentNo}
use Rattle.jk_model.specs.declared.steps.Raise.{Raise}
use Rattle.jk_model.specs.declared.steps.Raise.TheVariants as Raised
use Rattle.jk_model.specs.declared.values.Value.{Value}
use Rattle.jk_model.specs.declared.values.Value.TheVariants as Held
use Rattle.jk_model_domains.specs.NumberRows.{is_null}
use Rattle.jk_model_domains.specs.Objects.{NamedObject, Object, Task, Text, object_words}
use Rattle.jk_model_heaps.specs.Heaps.{Lacks, MakesOne, heap_words, named}
use Rattle.jk_model_heaps.specs.SystemClasses.{STRING_INDEX_EXCEPTION}
use Rattle.jk_model_heaps.specs.Workings.{Inside, LooksUp, Request, Resumes, Setting, Stops, Suspends, Unbinds, with_heap}
use Rattle.jk_model_system_rows.specs.declared.meanings.Shown.{Shown}
use Rattle.jk_model_system_rows.specs.declared.meanings.Shown.TheVariants as As
use Rattle.jk_model_system_rows.specs.declared.meanings.SystemMeaning.{SystemMeaning}
use Rattle.jk_model_system_rows.specs.declared.meanings.SystemMeaning.TheVariants as Means
use Rattle.jk_model_system_rows.specs.Answers.{Answer, Answered, Answers, AnswersNew, Ends, Fails, Gives, MakesAnd, Tells, Wants, gives_value, with_answer}
use Rattle.jk_model_system_rows.specs.HiddenTexts.{AppendsTo, BeginsBuffer, BeginsBufferWith, GivesBufferLength, GivesBufferText, GivesMessage, HidesUnits, SetsMessage, SetsNewText, TextHolder, with_text}
use Rattle.jk_model_system_rows.specs.PackageJk.{AsksByName, AsksOfTask, BindsName, CreatesCapability, IsRemoteObject, RevokesCapability}
use Rattle.jk_model_system_rows.specs.SystemRows.{SystemRow}
use Rattle.jk_model_system_rows.specs.TextMethods.{CutsText, GivesTextLength, GivesUnit, JoinsTexts, PrintsText, ReadsNumber, TellsEqual, TellsSame, WritesText, number_answer, unit_answer}
use Rattle.jk_model_system_rows.specs.Texts.{IsText, ReadsAs, substring, unit_at}
use Rattle.jk_model_system_rows.specs.ParsedNumbers.{parsed}
use Rattle.jk_model_system_rows.proofs.CopiesAgree.{one_copy}
use Rattle.jk_model_system_rows.proofs.OneHolder.{that_holder}

-- ---- Texts that values have.

same_units : (us vs : List ℕ) → Text us ≡ Text vs → us ≡ vs
same_units us vs e = cc

one_text : (heap : List NamedObject) (v : Value) (us vs : List ℕ) → IsText heap v us → IsText heap v vs → us ≡ vs
one_text heap (Held.Obj a) us vs is also = same_units us vs (same_Some (Text us) (Text vs) (sym is ∙ also))
one_text heap (Held.Int n) us vs is also = absurd is
one_text heap (Held.Long n) us vs is also = absurd is
one_text heap (Held.Cap k) us vs is also = absurd is
one_text heap Held.Null us vs is also = absurd is
one_text heap Held.Unset us vs is also = absurd is

null_or_text : (heap : List NamedObject) (v : Value) (us : List ℕ) → v ≡ Held.Null → IsText heap v us → ⊥
null_or_text heap v us null is = subst (λ (w : Value). IsText heap w us) null is

one_reading : (heap : List NamedObject) (shown : Shown) (v : Value) (us vs : List ℕ) → ReadsAs heap shown v us → ReadsAs heap shown v vs → us ≡ vs
one_reading heap As.Text Held.Null us vs is also = is ∙ sym also
one_reading heap As.Text (Held.Obj a) us vs is also = one_text heap (Held.Obj a) us vs is also
one_reading heap As.Int (Held.Int n) us vs is also = is ∙ sym also
one_reading heap As.Long (Held.Long n) us vs is also = is ∙ sym also
one_reading heap As.Char (Held.Int n) us vs is also = is ∙ sym also
one_reading heap As.Truth (Held.Int n) us vs is also = is ∙ sym also
one_reading heap shown v us vs is also = absurd is

one_hidden : (heap : List NamedObject) (v : Value) (us vs : List ℕ) → HidesUnits heap v us → HidesUnits heap v vs → us ≡ vs
one_hidden heap Held.Null us vs is also = is ∙ sym also
one_hidden heap (Held.Obj a) us vs is also = one_text heap (Held.Obj a) us vs is also
one_hidden heap (Held.Int n) us vs is also = absurd is
one_hidden heap (Held.Long n) us vs is also = absurd is
one_hidden heap (Held.Cap k) us vs is also = absurd is
one_hidden heap Held.Unset us vs is also = absurd is

-- the text with which a value begins
one_holder : (heap : List NamedObject) (v : Value) (h k : TextHolder heap v) → h.text ≡ k.text
one_holder heap v h k =
    let moved : TextHolder heap (Held.Obj k.name) =
    record { name = h.name; names = sym k.names ∙ h.names; class = h.class; text = h.text; others = h.others; object = h.object } in
    (that_holder heap k.name k.class k.text k.others k.object moved).text

-- ---- Failing.

-- whichever fails, the other does by the same
abbrev AgreeOnFailing : Answered → Answered → Type 0
AgreeOnFailing done other = (raise : Raise) → done.answer ≡ Fails raise → other.answer ≡ Fails raise

same : (done other : Answered) → done ≡ other → AgreeOnFailing done other
same done other e = λ raise fails. ap (λ (d : Answered). d.answer) (sym e) ∙ fails

answered : (old : Inside) (a b : Answer) (done other : Answered) → a ≡ b → Answers old a done → Answers old b other → AgreeOnFailing done other
answered old a b done other e is also = same done other (is ∙ ap (with_answer old) e ∙ sym also)

given_or_failed : (v : Option Value) (raise : Raise) → Gives v ≡ Fails raise → ⊥
given_or_failed v raise e = cc

told_or_failed : (text : List ℕ) (raise : Raise) → Tells text ≡ Fails raise → ⊥
told_or_failed text raise e = cc

wanted_or_failed : (request : Request) (raise : Raise) → Wants request ≡ Fails raise → ⊥
wanted_or_failed request raise e = cc

ended_or_failed : (raise : Raise) → Ends ≡ Fails raise → ⊥
ended_or_failed raise e = cc

-- this never fails, and so neither of two answers does
never : (inside : Inside) (a : Answer) (done other : Answered) → ((raise : Raise) → a ≡ Fails raise → ⊥) → done ≡ with_answer inside a
    → AgreeOnFailing done other
never inside a done other failing is = λ raise fails. absurd (failing raise (sym (ap (λ (d : Answered). d.answer) is) ∙ fails))

gives : (inside : Inside) (v : Option Value) (done other : Answered) → done ≡ with_answer inside (Gives v) → AgreeOnFailing done other
gives inside v done other is = never inside (Gives v) done other (given_or_failed v) is

wants : (inside : Inside) (request : Request) (done other : Answered) → done ≡ with_answer inside (Wants request) → AgreeOnFailing done other
wants inside request done other is = never inside (Wants request) done other (wanted_or_failed request) is

-- ---- Making.

abbrev NeverFails : (ℕ → List NamedObject → Answered) → Type 0
NeverFails leaves = (a : ℕ) (heap : List NamedObject) (raise : Raise) → (leaves a heap).answer ≡ Fails raise → ⊥

one_costs : (x : Setting) (a : ℕ) (object : Object) → heap_words x.classes (named a object ∷ []) ≡ object_words x.classes object
one_costs x a object = sum_by-cons (λ (e : NamedObject). object_words x.classes e.object) (named a object) [] ∙ omega arith

made_or_lacking : (x : Setting) (old : Inside) (object : Object) (a : ℕ) (new : List NamedObject)
    → MakesOne x.classes x.quota old.heap a object new → Lacks x.classes x.quota old.heap (object_words x.classes object) → ⊥
made_or_lacking x old object a new makes lacks =
    let fits : heap_words x.classes old.heap + heap_words x.classes (named a object ∷ []) ≤ x.quota = makes.fits in
    let short : x.quota < heap_words x.classes old.heap + object_words x.classes object = lacks in
    omega (arith, one_costs x a object)

makes_agree : (x : Setting) (old : Inside) (object also_object : Object) (leaves also : ℕ → List NamedObject → Answered) (done other : Answered)
    → object ≡ also_object → NeverFails leaves → MakesAnd x old object leaves done → MakesAnd x old also_object also other
    → AgreeOnFailing done other
makes_agree x old object also_object leaves also done other e failing (inl (a, heap, makes, is)) q =
    λ raise fails. absurd (failing a heap raise (sym (ap (λ (d : Answered). d.answer) is) ∙ fails))
makes_agree x old object also_object leaves also done other e failing (inr (lacks, is)) (inl (b, heap, makes, too)) =
    absurd (made_or_lacking x old object b heap
    (subst (λ (o : Object). MakesOne x.classes x.quota old.heap b o heap) (sym e) makes) lacks)
makes_agree x old object also_object leaves also done other e failing (inr (lacks, is)) (inr (short, too)) = same done other (is ∙ sym too)

new_agree : (x : Setting) (old : Inside) (object also_object : Object) (done other : Answered) → object ≡ also_object → AnswersNew x old object done
    → AnswersNew x old also_object other → AgreeOnFailing done other
new_agree x old object also_object done other e p q =
    makes_agree x old object also_object
    (λ a heap. with_answer (with_heap old heap) (gives_value (Held.Obj a))) (λ a heap. with_answer (with_heap old heap) (gives_value (Held.Obj a)))
    done other e (λ a heap raise fails. given_or_failed (Some (Held.Obj a)) raise fails) p q

sets_agree : (x : Setting) (old : Inside) (v : Value) (h k : TextHolder old.heap v) (us vs : List ℕ) (w : Option Value) (done other : Answered)
    → us ≡ vs → SetsNewText x old h us (Gives w) done → SetsNewText x old k vs (Gives w) other → AgreeOnFailing done other
sets_agree x old v h k us vs w done other e p q =
    makes_agree x old (Text us) (Text vs)
    (λ a heap. with_answer (with_heap old (with_text h (Held.Obj a) heap)) (Gives w))
    (λ a heap. with_answer (with_heap old (with_text k (Held.Obj a) heap)) (Gives w))
    done other (ap Text e) (λ a heap raise fails. given_or_failed w raise fails) p q

-- ---- Row by row.

module _ (x : Setting) (old : Inside) (done other : Answered) where
  abbrev Agree : Type 0
  Agree = AgreeOnFailing done other

  same_references : (given : List Value) → TellsSame given old done → Agree
  same_references (v ∷ w ∷ []) is = gives old _ done other is
  same_references [] is = absurd is
  same_references (v ∷ []) is = absurd is
  same_references (v ∷ w ∷ u ∷ more) is = absurd is

  lengths : (given : List Value) → GivesTextLength given old done → Agree
  lengths (v ∷ []) (units, has, is) = gives old _ done other is
  lengths [] is = absurd is
  lengths (v ∷ w ∷ more) is = absurd is

  units_read : (given : List Value) → GivesUnit given old done → GivesUnit given old other → Agree
  units_read (v ∷ Held.Int i ∷ []) (us, has, is) (vs, also, too) =
      answered old (unit_answer (unit_at us i)) (unit_answer (unit_at vs i)) done other
      (ap (λ (ws : List ℕ). unit_answer (unit_at ws i)) (one_text old.heap v us vs has also)) is too
  units_read given is too = absurd is

  equal_texts : (given : List Value) → TellsEqual given old done → Agree
  equal_texts (v ∷ w ∷ []) (units, has, is) = gives old _ done other is
  equal_texts [] is = absurd is
  equal_texts (v ∷ []) is = absurd is
  equal_texts (v ∷ w ∷ u ∷ more) is = absurd is

  joins : (given : List Value) → JoinsTexts x given old done → JoinsTexts x given old other → Agree
  joins (v ∷ w ∷ []) (us, has, inl (null, is)) (vs, also, inl (null_too, too)) = same done other (is ∙ sym too)
  joins (v ∷ w ∷ []) (us, has, inl (null, is)) (vs, also, inr (more, text, too)) = absurd (null_or_text old.heap w more null text)
  joins (v ∷ w ∷ []) (us, has, inr (more, text, is)) (vs, also, inl (null, too)) = absurd (null_or_text old.heap w more null text)
  joins (v ∷ w ∷ []) (us, has, inr (more, text, is)) (vs, also, inr (others, text_too, too)) =
      let first : us ≡ vs = one_text old.heap v us vs has also in
      let second : more ≡ others = one_text old.heap w more others text text_too in
      new_agree x old (Text (us ++ more)) (Text (vs ++ others)) done other (λ j. Text (first j ++ second j)) is too
  joins [] is too = absurd is
  joins (v ∷ []) is too = absurd is
  joins (v ∷ w ∷ u ∷ more) is too = absurd is

  abbrev PartIs : Option (List ℕ) → Answered → Type 0
  PartIs part left =
      MatchOption part (Answers old (Fails (Raised.Fresh STRING_INDEX_EXCEPTION)) left) (λ (units : List ℕ). AnswersNew x old (Text units) left)

  parts : (part : Option (List ℕ)) → PartIs part done → PartIs part other → Agree
  parts None is too = same done other (is ∙ sym too)
  parts (Some units) is too = new_agree x old (Text units) (Text units) done other refl is too

  cuts : (given : List Value) → CutsText x given old done → CutsText x given old other → Agree
  cuts (v ∷ Held.Int b ∷ Held.Int e ∷ []) (us, has, is) (vs, also, too) =
      parts (substring vs b e) (subst (λ (ws : List ℕ). PartIs (substring ws b e) done) (one_text old.heap v us vs has also) is) too
  cuts given is too = absurd is

  writes : (shown : Shown) (given : List Value) → WritesText x shown given old done → WritesText x shown given old other → Agree
  writes shown (v ∷ []) (us, reads, is) (vs, also, too) =
      new_agree x old (Text us) (Text vs) done other (ap Text (one_reading old.heap shown v us vs reads also)) is too
  writes shown [] is too = absurd is
  writes shown (v ∷ w ∷ more) is too = absurd is

  begins : (given : List Value) → BeginsBuffer x given old done → BeginsBuffer x given old other → Agree
  begins (v ∷ []) (h, is) (k, too) = sets_agree x old v h k [] [] None done other refl is too
  begins [] is too = absurd is
  begins (v ∷ w ∷ more) is too = absurd is

  begins_with : (given : List Value) → BeginsBufferWith given old done → BeginsBufferWith given old other → Agree
  begins_with (v ∷ w ∷ []) (inl (null, is)) (inl (null_too, too)) = same done other (is ∙ sym too)
  begins_with (v ∷ w ∷ []) (inl (null, is)) (inr (some, too)) = absurd (some null)
  begins_with (v ∷ w ∷ []) (inr (some, (h, is))) q = gives _ None done other is
  begins_with [] is too = absurd is
  begins_with (v ∷ []) is too = absurd is
  begins_with (v ∷ w ∷ u ∷ more) is too = absurd is

  buffer_lengths : (given : List Value) → GivesBufferLength given old done → Agree
  buffer_lengths (v ∷ []) (h, units, hides, is) = gives old _ done other is
  buffer_lengths [] is = absurd is
  buffer_lengths (v ∷ w ∷ more) is = absurd is

  abbrev TextIs : Value → Answered → Type 0
  TextIs text left = MatchBool (is_null text) (AnswersNew x old (Text []) left) (Answers old (gives_value text) left)

  hidden_by : (t : Bool) (text : Value) → MatchBool t (AnswersNew x old (Text []) done) (Answers old (gives_value text) done)
      → MatchBool t (AnswersNew x old (Text []) other) (Answers old (gives_value text) other) → Agree
  hidden_by true text is too = new_agree x old (Text []) (Text []) done other refl is too
  hidden_by false text is too = gives old (Some text) done other is

  buffer_texts : (given : List Value) → GivesBufferText x given old done → GivesBufferText x given old other → Agree
  buffer_texts (v ∷ []) (h, is) (k, too) =
      hidden_by (is_null k.text) k.text (subst (λ (t : Value). TextIs t done) (one_holder old.heap v h k) is) too
  buffer_texts [] is too = absurd is
  buffer_texts (v ∷ w ∷ more) is too = absurd is

  appends : (shown : Shown) (given : List Value) → AppendsTo x shown given old done → AppendsTo x shown given old other → Agree
  appends shown (v ∷ w ∷ []) (h, us, added, hides, reads, is) (k, vs, more, hides_too, reads_too, too) =
      let first : us ≡ vs =
      one_hidden old.heap k.text us vs (subst (λ (t : Value). HidesUnits old.heap t us) (one_holder old.heap v h k) hides) hides_too in
      let second : added ≡ more = one_reading old.heap shown w added more reads reads_too in
      sets_agree x old v h k (us ++ added) (vs ++ more) (Some v) done other (λ j. first j ++ second j) is too
  appends shown [] is too = absurd is
  appends shown (v ∷ []) is too = absurd is
  appends shown (v ∷ w ∷ u ∷ more) is too = absurd is

  prints : (shown : Shown) (given : List Value) → PrintsText shown given old done → Agree
  prints shown (v ∷ w ∷ []) (text, reads, is) = never old (Tells text) done other (told_or_failed text) is
  prints shown [] is = absurd is
  prints shown (v ∷ []) is = absurd is
  prints shown (v ∷ w ∷ u ∷ more) is = absurd is

  numbers : (given : List Value) → ReadsNumber given old done → ReadsNumber given old other → Agree
  numbers (v ∷ []) (inl (null, is)) (inl (null_too, too)) = same done other (is ∙ sym too)
  numbers (v ∷ []) (inl (null, is)) (inr (vs, text, too)) = absurd (null_or_text old.heap v vs null text)
  numbers (v ∷ []) (inr (us, text, is)) (inl (null, too)) = absurd (null_or_text old.heap v us null text)
  numbers (v ∷ []) (inr (us, text, is)) (inr (vs, also, too)) =
      answered old (number_answer (parsed us)) (number_answer (parsed vs)) done other
      (ap (λ (ws : List ℕ). number_answer (parsed ws)) (one_text old.heap v us vs text also)) is too
  numbers [] is too = absurd is
  numbers (v ∷ w ∷ more) is too = absurd is

  sets_message : (given : List Value) → SetsMessage given old done → Agree
  sets_message (v ∷ w ∷ []) (h, is) = gives _ None done other is
  sets_message [] is = absurd is
  sets_message (v ∷ []) is = absurd is
  sets_message (v ∷ w ∷ u ∷ more) is = absurd is

  messages : (given : List Value) → GivesMessage given old done → Agree
  messages (v ∷ []) (h, is) = gives old _ done other is
  messages [] is = absurd is
  messages (v ∷ w ∷ more) is = absurd is

  -- ---- Package jk.

  creates : (given : List Value) → CreatesCapability x given old done → CreatesCapability x given old other → Agree
  creates (Held.Null ∷ []) is too = same done other (is ∙ sym too)
  creates (Held.Cap k ∷ []) is too = same done other (is ∙ sym too)
  creates (Held.Obj a ∷ []) (o, at, inl (class, remote, is)) q = wants old _ done other is
  creates (Held.Obj a ∷ []) (o, at, inr (none, is)) (b, also, inl (class, remote, too)) =
      absurd (none class (subst (λ (z : Object). IsRemoteObject x.classes z class) (same_Some b o (sym also ∙ at)) remote))
  creates (Held.Obj a ∷ []) (o, at, inr (none, is)) (b, also, inr (none_too, too)) = same done other (is ∙ sym too)
  creates given is too = absurd is

  revokes : (given : List Value) → RevokesCapability given old done → Agree
  revokes (Held.Cap k ∷ []) is = wants old _ done other is
  revokes given is = absurd is

  null_or_cap : (name v : Value) (k : CapId) (text : List ℕ) → IsTrue (is_null name || is_null v) → IsText old.heap name text → v ≡ Held.Cap k → ⊥
  null_or_cap (Held.Obj a) v k text null is cap =
      both_ways (is_null v) (ap is_null cap) null
  null_or_cap (Held.Int n) v k text null is cap = absurd is
  null_or_cap (Held.Long n) v k text null is cap = absurd is
  null_or_cap (Held.Cap l) v k text null is cap = absurd is
  null_or_cap Held.Null v k text null is cap = absurd is
  null_or_cap Held.Unset v k text null is cap = absurd is

  binds : (given : List Value) → BindsName given old done → BindsName given old other → Agree
  binds (name ∷ v ∷ []) (inl (null, is)) (inl (null_too, too)) = same done other (is ∙ sym too)
  binds (name ∷ v ∷ []) (inl (null, is)) (inr (text, k, has, cap, too)) = absurd (null_or_cap name v k text null has cap)
  binds (name ∷ v ∷ []) (inr (text, k, has, cap, is)) q = wants old _ done other is
  binds [] is too = absurd is
  binds (v ∷ []) is too = absurd is
  binds (v ∷ w ∷ u ∷ more) is too = absurd is

  asks : (request : List ℕ → Request) (given : List Value) → AsksByName request given old done → AsksByName request given old other → Agree
  asks request (name ∷ []) (inl (null, is)) (inl (null_too, too)) = same done other (is ∙ sym too)
  asks request (name ∷ []) (inl (null, is)) (inr (text, has, too)) = absurd (null_or_text old.heap name text null has)
  asks request (name ∷ []) (inr (text, has, is)) q = wants old _ done other is
  asks request [] is too = absurd is
  asks request (v ∷ w ∷ more) is too = absurd is

  asks_of_task : (request : SegmentNo → Request) (given : List Value) → AsksOfTask request given old done → Agree
  asks_of_task request (Held.Obj a ∷ []) (s, at, is) = wants old _ done other is
  asks_of_task request given is = absurd is

  -- ---- All of them.

  pub failures_agree : (meaning : SystemMeaning) (given : List Value) → SystemRow x meaning given old done → SystemRow x meaning given old other
      → AgreeOnFailing done other
  failures_agree Means.Initialises given p q = gives old None done other p
  failures_agree Means.IsSame given p q = same_references given p
  failures_agree Means.TextLength given p q = lengths given p
  failures_agree Means.CharAt given p q = units_read given p q
  failures_agree Means.IsSameText given p q = equal_texts given p
  failures_agree Means.Concat given p q = joins given p q
  failures_agree Means.Substring given p q = cuts given p q
  failures_agree (Means.TextOf shown) given p q = writes shown given p q
  failures_agree Means.BufferInitialises given p q = begins given p q
  failures_agree Means.BufferInitialisesWith given p q = begins_with given p q
  failures_agree Means.BufferLength given p q = buffer_lengths given p
  failures_agree Means.BufferText given p q = buffer_texts given p q
  failures_agree (Means.Appends shown) given p q = appends shown given p q
  failures_agree Means.PrintsEmptyLine given p q = never old (Tells []) done other (told_or_failed []) p
  failures_agree (Means.Prints shown) given p q = prints shown given p
  failures_agree Means.CopiesArray given p q = same done other (one_copy x given old done other p q)
  failures_agree Means.ParsesInt given p q = numbers given p q
  failures_agree Means.SetsMessage given p q = sets_message given p
  failures_agree Means.GetsMessage given p q = messages given p
  failures_agree Means.CreatesCapability given p q = creates given p q
  failures_agree Means.RevokesCapability given p q = revokes given p
  failures_agree Means.BindsName given p q = binds given p q
  failures_agree Means.LooksUpName given p q = asks LooksUp given p q
  failures_agree Means.UnbindsName given p q = asks Unbinds given p q
  failures_agree Means.NamesDomain given p q = new_agree x old (Text x.name) (Text x.name) done other refl p q
  failures_agree Means.CountsFreeWords given p q = gives old _ done other p
  failures_agree Means.TerminatesDomain given p q = never old Ends done other ended_or_failed p
  failures_agree Means.GetsTask given p q = new_agree x old (Task x.segment) (Task x.segment) done other refl p q
  failures_agree Means.SuspendsTask given p q = asks_of_task Suspends given p
  failures_agree Means.ResumesTask given p q = asks_of_task Resumes given p
  failures_agree Means.StopsTask given p q = asks_of_task Stops given p
