-- What begins a method of the system is as the method's meaning asks: by the types of its parameters, and by its receiver's class.
use Rattle.std.proofs.Common.{inl, inr, ◌≡◌, ◌≢◌, ◌⊎◌, ℕ, ◌≤◌, ◌==◌, ◌||◌, Bool, true, false, List, [], ◌∷◌, refl, sym, ap, subst, ◌∙◌, arith}
use Rattle.std.proofs.lemmas.Bool.{eqb-true, false≢true}
use Rattle.model_lemmas.proofs.SameNumbers.{same_class}
use Rattle.jk_model.specs.Flags.{has, STATIC}
use Rattle.jk_model.specs.declared.identifiers.ClassId.{ClassId}
use Rattle.jk_model.specs.declared.identifiers.MemberId.{MemberId}
use Rattle.jk_model.specs.declared.values.Value.{Value}
use Rattle.jk_model.specs.declared.values.Value.TheVariants as Held
use Rattle.jk_model_classes.specs.declared.records.BaseRef.TheVariants as Base
use Rattle.jk_model_classes.specs.declared.records.MethodRecord.{MethodRecord}
use Rattle.jk_model_classes.specs.declared.records.TypeRef.{TypeRef}
use Rattle.jk_model_classes.specs.Classes.{IsSubclass, OBJECT}
use Rattle.jk_model_typing.specs.FrameTypes.{STRING, THROWABLE}
use Rattle.jk_model_domains.specs.Objects.{NamedObject, CAPABILITY, TASK}
use Rattle.jk_model_heaps.specs.Instances.{RunsAs}
use Rattle.jk_model_heaps.specs.SystemClasses.{STRING_BUFFER, STRING_BUILDER}
use Rattle.jk_model_heaps.specs.Workings.{Inside}
use Rattle.jk_model_sealing.specs.SealedInsides.{IsSealedInside, Surroundings}
use Rattle.jk_model_system_rows.specs.declared.meanings.Shown.{Shown}
use Rattle.jk_model_system_rows.specs.declared.meanings.SystemMeaning.{SystemMeaning}
use Rattle.jk_model_system_rows.specs.declared.meanings.SystemMeaning.TheVariants as Means
use Rattle.class_table.proofs.StandingAbove.{superclasses-lower, superclasses-trans}
use Rattle.heap_laws.specs.FittingOutcomes.{AreOfTypes, IsOfType}
use Rattle.heap_laws.specs.SoundCodes.{AreSoundCodes}
use Rattle.system_facts.proofs.ClosedAreLowest.{closed_is_lowest, closed_named}
use Rattle.row_laws.proofs.SystemParents.{below_listed, is_listed_below, no_capability, no_task, no_text}
use Rattle.row_laws.specs.GivenByMeaning.{BeginsMethod}
use Rattle.row_laws.specs.GivenValues.{Anything, ArraysAndPlaces, GivenFor, HasWording, HoldsText, IsInt, IsSomeCapability, IsSomeReference, IsSomeTask, IsSomeText, IsTextOrNull, Nothing, One, Three, Two}
use Rattle.row_laws.proofs.FirstFields.{BeginsWithText, buffer_begins, builder_begins, throwable_begins}
use Rattle.row_laws.proofs.MeaningsOfTable.{is_buffer, is_class_for, is_static_for, number_type, object_type, params_for, shown_type}
use Rattle.row_laws.proofs.ValuesOfHeaps.{IsPlainClass, IsPlainValue, capability_held, capability_receiver, holds_text, int_held, plain_receiver, reference_held, task_receiver, text_held, text_receiver, worded}

module _ (around : Surroundings) (sound : AreSoundCodes around.classes) (quota : ℕ) (inside : Inside) (sealed : IsSealedInside around quota inside) where
  abbrev heap : List NamedObject
  heap = inside.heap

  -- ---- So many arguments.

  abbrev pub OfTypes : List TypeRef → List Value → Type 0
  OfTypes types values = AreOfTypes around heap types values

  none_given : (given : List Value) → OfTypes [] given → Nothing given
  none_given [] h = tt
  none_given (v ∷ more) h = absurd h

  one_given : (P : Value → Type 0) (t : TypeRef) → ((v : Value) → IsOfType around heap t v → P v) → (given : List Value) → OfTypes (t ∷ []) given
      → One P given
  one_given P t f [] h = absurd h
  one_given P t f (v ∷ []) h = f v h.0
  one_given P t f (v ∷ w ∷ more) h = absurd h.1

  two_given : (P Q : Value → Type 0) (t u : TypeRef) → ((v : Value) → IsOfType around heap t v → P v) → ((v : Value) → IsOfType around heap u v → Q v)
      → (given : List Value) → OfTypes (t ∷ u ∷ []) given → Two P Q given
  two_given P Q t u f g [] h = absurd h
  two_given P Q t u f g (v ∷ []) h = absurd h.1
  two_given P Q t u f g (v ∷ w ∷ []) h = (f v h.0, g w h.1.0)
  two_given P Q t u f g (v ∷ w ∷ y ∷ more) h = absurd h.1.1

  -- ---- A receiver, and so many arguments.

  abbrev pub IsReceiver : MemberId → Value → Type 0
  IsReceiver m v = (class : ClassId) × RunsAs heap v class × IsSubclass around.classes class m.class

  abbrev pub Received : MemberId → List TypeRef → List Value → Type 0
  Received m types [] = ⊥
  Received m types (v ∷ given) = IsReceiver m v × OfTypes types given

  pub one_received : (m : MemberId) (P : Value → Type 0) → ((v : Value) → IsReceiver m v → P v) → (given : List Value) → Received m [] given → One P given
  one_received m P f [] h = absurd h
  one_received m P f (v ∷ []) h = f v h.0
  one_received m P f (v ∷ w ∷ more) h = absurd h.1

  pub two_received : (m : MemberId) (P Q : Value → Type 0) (t : TypeRef) → ((v : Value) → IsReceiver m v → P v)
      → ((v : Value) → IsOfType around heap t v → Q v) → (given : List Value) → Received m (t ∷ []) given → Two P Q given
  two_received m P Q t f g [] h = absurd h
  two_received m P Q t f g (v ∷ []) h = absurd h.1
  two_received m P Q t f g (v ∷ w ∷ []) h = (f v h.0, g w h.1.0)
  two_received m P Q t f g (v ∷ w ∷ y ∷ more) h = absurd h.1.1

  three_received : (m : MemberId) (P Q S : Value → Type 0) (t u : TypeRef) → ((v : Value) → IsReceiver m v → P v)
      → ((v : Value) → IsOfType around heap t v → Q v) → ((v : Value) → IsOfType around heap u v → S v) → (given : List Value)
      → Received m (t ∷ u ∷ []) given → Three P Q S given
  three_received m P Q S t u f g k [] h = absurd h
  three_received m P Q S t u f g k (v ∷ []) h = absurd h.1
  three_received m P Q S t u f g k (v ∷ w ∷ []) h = absurd h.1.1
  three_received m P Q S t u f g k (v ∷ w ∷ y ∷ []) h = (f v h.0, g w h.1.0, k y h.1.1.0)
  three_received m P Q S t u f g k (v ∷ w ∷ y ∷ z ∷ more) h = absurd h.1.1.1

  -- ---- Arguments by their types.

  any_given : (t : TypeRef) (v : Value) → IsOfType around heap t v → Anything v
  any_given t v h = tt

  int_given : (v : Value) → IsOfType around heap (number_type Base.Int) v → IsInt v
  int_given v h = int_held around sound quota inside sealed v h.0

  text_given : (v : Value) → IsOfType around heap (object_type 3) v → IsTextOrNull heap v
  text_given v h = text_held around sound quota inside sealed v h.0

  wording_given : (shown : Shown) (v : Value) → IsOfType around heap (shown_type shown) v → HasWording heap shown v
  wording_given shown v h = worded around sound quota inside sealed shown v h.0

  reference_given : (c : ClassId) (v : Value) → IsOfType around heap (object_type c.0) v → IsSomeReference heap v
  reference_given c v h = reference_held around sound quota inside sealed c v h.0

  capability_given : (v : Value) → IsOfType around heap (object_type 11) v → (v ≡ Held.Null) ⊎ IsSomeCapability v
  capability_given v h = capability_held around sound quota inside sealed v h.0

  places_given : (given : List Value) → OfTypes (params_for Means.CopiesArray) given → ArraysAndPlaces heap given
  places_given [] h = absurd h
  places_given (s ∷ []) h = absurd h.1
  places_given (s ∷ f ∷ []) h = absurd h.1.1
  places_given (s ∷ f ∷ t ∷ []) h = absurd h.1.1.1
  places_given (s ∷ f ∷ t ∷ p ∷ []) h = absurd h.1.1.1.1
  places_given (s ∷ f ∷ t ∷ p ∷ n ∷ []) h = (
    reference_given OBJECT s h.0,
    int_given f h.1.0,
    reference_given OBJECT t h.1.1.0,
    int_given p h.1.1.1.0,
    int_given n h.1.1.1.1.0,
  )
  places_given (s ∷ f ∷ t ∷ p ∷ n ∷ y ∷ more) h = absurd h.1.1.1.1.1

  -- ---- Receivers by the class of the method.

  class_is : (m : MemberId) (c : ClassId) → (m.class.0 == c.0) ≡ true → m.class ≡ c
  class_is m c same = same_class m.class c (eqb-true m.class.0 c.0 same)

  any_received : (m : MemberId) (v : Value) → IsReceiver m v → Anything v
  any_received m v r = tt

  text_received : (m : MemberId) → (m.class.0 == 3) ≡ true → (v : Value) → IsReceiver m v → IsSomeText heap v
  text_received m same v (class, runs, below) =
      text_receiver around sound quota inside sealed v class runs
      (subst (λ (d : ClassId). IsSubclass around.classes class d) (class_is m STRING same) below)

  task_received : (m : MemberId) → (m.class.0 == 14) ≡ true → (v : Value) → IsReceiver m v → IsSomeTask heap v
  task_received m same v (class, runs, below) =
      task_receiver around sound quota inside sealed v class runs
      (subst (λ (d : ClassId). IsSubclass around.classes class d) (class_is m TASK same) below)

  capability_received : (m : MemberId) → (m.class.0 == 11) ≡ true → (v : Value) → IsReceiver m v → IsSomeCapability v
  capability_received m same v (class, runs, below) =
      capability_receiver around sound quota inside sealed v class runs
      (subst (λ (d : ClassId). IsSubclass around.classes class d) (class_is m CAPABILITY same) below)

  -- what is known of a receiver that holds a text
  pub record IsHolder (v : Value) : Type 0 where
    pub class : ClassId
    pub plain : IsPlainValue around sound quota inside sealed v class
    pub begins : BeginsWithText around.classes class

  abbrev IsPlain : ClassId → Type 0
  IsPlain c = IsPlainClass around sound quota inside sealed c

  other_number : (c d : ClassId) (n : ℕ) → c.0 ≡ n → d.0 ≢ n → c ≢ d
  other_number c d n is other same = other (sym (ap (λ (e : ClassId). e.0) same) ∙ is)

  buffer_is_plain : (c : ClassId) (n : ℕ) → c.0 ≡ n → 4 ≤ n → n ≤ 5 → IsPlain c
  buffer_is_plain c n is low high = record {
    no_object = other_number c OBJECT n is (λ e. omega (arith, e, low));
    no_text = other_number c STRING n is (λ e. omega (arith, e, low));
    no_task = other_number c TASK n is (λ e. omega (arith, e, high));
    no_capability = other_number c CAPABILITY n is (λ e. omega (arith, e, high));
  }

  holder_by : (b : ClassId) (v : Value) (class : ClassId) → RunsAs heap v class → class ≡ b → IsPlain b → BeginsWithText around.classes b → IsHolder v
  holder_by b v class runs same plain begins = record {
    class = b;
    plain = plain_receiver around sound quota inside sealed v b (subst (λ (d : ClassId). RunsAs heap v d) same runs) plain;
    begins = begins;
  }

  buffer_by : (m : MemberId) (b : Bool) → (m.class.0 == 4) ≡ b → (b || (m.class.0 == 5)) ≡ true → (v : Value) → IsReceiver m v → IsHolder v
  buffer_by m true is either v (class, runs, below) =
      let here = subst (λ (d : ClassId). IsSubclass around.classes class d) (class_is m STRING_BUFFER is) below in
      let same = closed_is_lowest around.classes sound.ordered sound.system sound.open_parents class STRING_BUFFER
      (closed_named 4 refl STRING_BUFFER refl) here in
      holder_by STRING_BUFFER v class runs same (buffer_is_plain STRING_BUFFER 4 refl (omega arith) (omega arith)) (buffer_begins around.classes sound)
  buffer_by m false is either v (class, runs, below) =
      let here = subst (λ (d : ClassId). IsSubclass around.classes class d) (class_is m STRING_BUILDER either) below in
      let same = closed_is_lowest around.classes sound.ordered sound.system sound.open_parents class STRING_BUILDER
      (closed_named 5 refl STRING_BUILDER refl) here in
      holder_by STRING_BUILDER v class runs same (buffer_is_plain STRING_BUILDER 5 refl (omega arith) (omega arith)) (builder_begins around.classes sound)

  pub buffer_received : (m : MemberId) → is_buffer m.class.0 ≡ true → (v : Value) → IsReceiver m v → IsHolder v
  buffer_received m of v r = buffer_by m (m.class.0 == 4) refl of v r

  pub throwable_received : (m : MemberId) → is_listed_below 45 m.class.0 9 ≡ true → (v : Value) → IsReceiver m v → IsHolder v
  throwable_received m of v (class, runs, below) =
      let up = below_listed around.classes sound 45 m.class.0 9 of in
      let throws : IsSubclass around.classes class THROWABLE = superclasses-trans around.classes sound.ordered class m.class THROWABLE below up in
      let high : 9 ≤ class.0 = superclasses-lower around.classes sound.ordered class THROWABLE throws in
      holder_by class v class runs refl
      (record {
        no_object = λ e. (let zero : class.0 ≡ 0 = ap (λ (d : ClassId). d.0) e in omega (arith, zero, high));
        no_text = no_text around.classes sound class throws;
        no_task = no_task around.classes sound class throws;
        no_capability = no_capability around.classes sound class throws;
      })
      (throwable_begins around.classes sound class throws)

  holder_holds : (v : Value) → IsHolder v → HoldsText heap v
  holder_holds v h = holds_text around sound quota inside sealed v h.class h.plain h.begins

  buffer_holds : (m : MemberId) → is_buffer m.class.0 ≡ true → (v : Value) → IsReceiver m v → HoldsText heap v
  buffer_holds m of v r = holder_holds v (buffer_received m of v r)

  throwable_holds : (m : MemberId) → is_listed_below 45 m.class.0 9 ≡ true → (v : Value) → IsReceiver m v → HoldsText heap v
  throwable_holds m of v r = holder_holds v (throwable_received m of v r)

  -- ---- With a receiver, or without one.

  module _ (m : MemberId) (method : MethodRecord) where
    abbrev Begins : List Value → Type 0
    Begins given = BeginsMethod around heap m method given

    pub arguments : (types : List TypeRef) → method.params ≡ types → has method.flags STATIC ≡ true → (given : List Value) → Begins given → OfTypes types given
    arguments types params static given (inl h) = subst (λ (ts : List TypeRef). OfTypes ts given) params h.1
    arguments types params static [] (inr h) = absurd h
    arguments types params static (v ∷ given) (inr h) = absurd (false≢true (sym h.0 ∙ static))

    pub received : (types : List TypeRef) → method.params ≡ types → has method.flags STATIC ≡ false → (given : List Value) → Begins given
        → Received m types given
    received types params plain given (inl h) = absurd (false≢true (sym plain ∙ h.0))
    received types params plain [] (inr h) = absurd h
    received types params plain (v ∷ given) (inr h) = (h.1, subst (λ (ts : List TypeRef). OfTypes ts given) params h.2)

    -- ---- By the meaning.

    pub given_for : (meaning : SystemMeaning) → method.params ≡ params_for meaning → has method.flags STATIC ≡ is_static_for meaning
        → is_class_for meaning m.class.0 ≡ true → (given : List Value) → Begins given → GivenFor heap meaning given
    given_for Means.Initialises ps st of given b = one_received m Anything (any_received m) given (received [] ps st given b)
    given_for Means.IsSame ps st of given b =
        two_received m Anything Anything (object_type 0) (any_received m) (any_given (object_type 0)) given
        (received (object_type 0 ∷ []) ps st given b)
    given_for Means.TextLength ps st of given b = one_received m (IsSomeText heap) (text_received m of) given (received [] ps st given b)
    given_for Means.CharAt ps st of given b =
        two_received m (IsSomeText heap) IsInt (number_type Base.Int) (text_received m of) int_given given
        (received (number_type Base.Int ∷ []) ps st given b)
    given_for Means.IsSameText ps st of given b =
        two_received m (IsSomeText heap) Anything (object_type 0) (text_received m of) (any_given (object_type 0)) given
        (received (object_type 0 ∷ []) ps st given b)
    given_for Means.Concat ps st of given b =
        two_received m (IsSomeText heap) (IsTextOrNull heap) (object_type 3) (text_received m of) text_given given
        (received (object_type 3 ∷ []) ps st given b)
    given_for Means.Substring ps st of given b =
        three_received m (IsSomeText heap) IsInt IsInt (number_type Base.Int) (number_type Base.Int) (text_received m of) int_given int_given given
        (received (number_type Base.Int ∷ number_type Base.Int ∷ []) ps st given b)
    given_for (Means.TextOf shown) ps st of given b =
        one_given (HasWording heap shown) (shown_type shown) (wording_given shown) given (arguments (shown_type shown ∷ []) ps st given b)
    given_for Means.BufferInitialises ps st of given b = one_received m (HoldsText heap) (buffer_holds m of) given (received [] ps st given b)
    given_for Means.BufferInitialisesWith ps st of given b =
        two_received m (HoldsText heap) (IsTextOrNull heap) (object_type 3) (buffer_holds m of) text_given given
        (received (object_type 3 ∷ []) ps st given b)
    given_for Means.BufferLength ps st of given b = one_received m (HoldsText heap) (buffer_holds m of) given (received [] ps st given b)
    given_for Means.BufferText ps st of given b = one_received m (HoldsText heap) (buffer_holds m of) given (received [] ps st given b)
    given_for (Means.Appends shown) ps st of given b =
        two_received m (HoldsText heap) (HasWording heap shown) (shown_type shown) (buffer_holds m of) (wording_given shown) given
        (received (shown_type shown ∷ []) ps st given b)
    given_for Means.PrintsEmptyLine ps st of given b = one_received m Anything (any_received m) given (received [] ps st given b)
    given_for (Means.Prints shown) ps st of given b =
        two_received m Anything (HasWording heap shown) (shown_type shown) (any_received m) (wording_given shown) given
        (received (shown_type shown ∷ []) ps st given b)
    given_for Means.CopiesArray ps st of given b = places_given given (arguments (params_for Means.CopiesArray) ps st given b)
    given_for Means.ParsesInt ps st of given b =
        one_given (IsTextOrNull heap) (object_type 3) text_given given (arguments (object_type 3 ∷ []) ps st given b)
    given_for Means.SetsMessage ps st of given b =
        two_received m (HoldsText heap) (IsTextOrNull heap) (object_type 3) (throwable_holds m of) text_given given
        (received (object_type 3 ∷ []) ps st given b)
    given_for Means.GetsMessage ps st of given b = one_received m (HoldsText heap) (throwable_holds m of) given (received [] ps st given b)
    given_for Means.CreatesCapability ps st of given b =
        one_given (IsSomeReference heap) (object_type 10) (reference_given (record { 0 = 10 })) given (arguments (object_type 10 ∷ []) ps st given b)
    given_for Means.RevokesCapability ps st of given b = one_received m IsSomeCapability (capability_received m of) given (received [] ps st given b)
    given_for Means.BindsName ps st of given b =
        two_given (IsTextOrNull heap) (λ v. (v ≡ Held.Null) ⊎ IsSomeCapability v) (object_type 3) (object_type 11) text_given capability_given given
        (arguments (object_type 3 ∷ object_type 11 ∷ []) ps st given b)
    given_for Means.LooksUpName ps st of given b =
        one_given (IsTextOrNull heap) (object_type 3) text_given given (arguments (object_type 3 ∷ []) ps st given b)
    given_for Means.UnbindsName ps st of given b =
        one_given (IsTextOrNull heap) (object_type 3) text_given given (arguments (object_type 3 ∷ []) ps st given b)
    given_for Means.NamesDomain ps st of given b = none_given given (arguments [] ps st given b)
    given_for Means.CountsFreeWords ps st of given b = none_given given (arguments [] ps st given b)
    given_for Means.TerminatesDomain ps st of given b = none_given given (arguments [] ps st given b)
    given_for Means.GetsTask ps st of given b = none_given given (arguments [] ps st given b)
    given_for Means.SuspendsTask ps st of given b = one_received m (IsSomeTask heap) (task_received m of) given (received [] ps st given b)
    given_for Means.ResumesTask ps st of given b = one_received m (IsSomeTask heap) (task_received m of) given (received [] ps st given b)
    given_for Means.StopsTask ps st of given b = one_received m (IsSomeTask heap) (task_received m of) given (received [] ps st given b)
