-- A throwable has a way through the frames of a segment: from the top one downwards each catches it, or is left.
use Rattle.std.proofs.Common.{inl, inr, ◌≡◌, ◌⊎◌, ℕ, ◌==◌, ◌<◌, ◌≤◌, Bool, true, false, cond, List, [], ◌∷◌, ◌++◌, find, Option, Some, None, slice_get, refl, sym, ap, subst, ◌∙◌, arith}
use Rattle.std.specs.Prelude.{MatchOption, ⊤}
use Rattle.std.proofs.lemmas.Bool.{cases_lt}
use Rattle.std.proofs.lemmas.Option.{none-some}
use Rattle.list_lemmas.proofs.ItemsOfLists.{Contains-here, Contains-there}
use Rattle.jk_model.specs.declared.identifiers.ClassId.{ClassId}
use Rattle.jk_model.specs.declared.steps.Raise.TheVariants as Raised
use Rattle.jk_model.specs.declared.values.Value.TheVariants as Held
use Rattle.jk_model_classes.specs.declared.records.Caught.{Caught}
use Rattle.jk_model_classes.specs.declared.records.ClassRecord.{ClassRecord}
use Rattle.jk_model_typing.specs.Scopes.{CodeScope}
use Rattle.jk_model_typing.specs.Typing.{Covers}
use Rattle.jk_model_frames.specs.Frames.{FrameState}
use Rattle.jk_model_domains.specs.declared.states.ClassState.{ClassState}
use Rattle.jk_model_domains.specs.declared.states.ClassState.TheVariants as State
use Rattle.jk_model_domains.specs.Objects.{NamedObject, class_type}
use Rattle.jk_model_domains.specs.OwnStates.{ClassPart, HasState, OwnState, with_part, with_state}
use Rattle.jk_model_heaps.specs.declared.shapes.Unwound.{Unwound}
use Rattle.jk_model_heaps.specs.declared.shapes.Unwound.TheVariants as Ended
use Rattle.jk_model_heaps.specs.Instances.{IsInstance}
use Rattle.jk_model_heaps.specs.RunningCode.{RunsCode}
use Rattle.jk_model_heaps.specs.SystemClasses.{ERROR, EXCEPTION_IN_INITIALIZER_ERROR}
use Rattle.jk_model_heaps.specs.Workings.{Inside, Run, Setting, with_own}
use Rattle.jk_model_sealing.specs.FittingFrames.{FitsAsCaller, FitsAsTop, FramesFit, HasTyping}
use Rattle.jk_model_sealing.specs.SealedInsides.{IsSealedInside, Surroundings}
use Rattle.jk_model_unwinding.specs.Unwinding.{Catches, CatchesNot, HasCaughtClass, LeavesFrame, LeavesFrames, Unwinds, at_handler}
use Rattle.decided_lookups.specs.Decisions.{IsDecided}
use Rattle.decided_lookups.proofs.DecidedParts.{both_decided}
use Rattle.decided_lookups.proofs.ListsSearched.{first_or_none}
use Rattle.heap_laws.proofs.SealedStill.{state_sealed}
use Rattle.heap_laws.specs.RaisableObjects.{IsThrowable, KeepsStates, MayBeRaised, MayMeetRaise}
use Rattle.heap_laws.specs.RunningFrames.{IsKnownSetting}
use Rattle.row_laws.proofs.InstancesDecided.{instance_decided}
use Rattle.row_laws.proofs.StandsHere.{code_here, code_is_one}
use Rattle.row_laws.proofs.SystemParents.{below_listed}
use Rattle.row_laws.specs.UnwoundFrames.{MayUnwind}
use Rattle.row_laws.proofs.Raised.{raised_there, thrown}

-- ---- States of classes stay where one gets another state.

abbrev part_in : List ClassPart → ClassId → Option ClassPart
part_in ps d = find (λ (x : ClassPart). x.class.0 == d.0) ps

abbrev stated : ClassId → ClassState → List ClassPart → List ClassPart
stated c s ps = with_part c (λ x. record x { state = s }) ps

abbrev HasPartIn : List ClassPart → ClassId → Type 0
HasPartIn ps d = (e : ClassPart) × (part_in ps d ≡ Some e)

-- a part in front, which is the one or not, and gets the state or not
stated_by : (c d : ClassId) (s : ClassState) (p e : ClassPart) (ps : List ClassPart) (a b : Bool) → (p.class.0 == d.0) ≡ b
    → (part_in ps d ≡ Some e → HasPartIn (stated c s ps) d) → cond b (Some p) (part_in ps d) ≡ Some e
    → HasPartIn (cond a (record p { state = s }) p ∷ stated c s ps) d
stated_by c d s p e ps true true at rest found =
    (record p { state = s }, ap (λ (t : Bool). cond t (Some (record p { state = s })) (part_in (stated c s ps) d)) at)
stated_by c d s p e ps false true at rest found = (p, ap (λ (t : Bool). cond t (Some p) (part_in (stated c s ps) d)) at)
stated_by c d s p e ps true false at rest found =
    let more = rest found in
    (more.0, ap (λ (t : Bool). cond t (Some (record p { state = s })) (part_in (stated c s ps) d)) at ∙ more.1)
stated_by c d s p e ps false false at rest found =
    let more = rest found in
    (more.0, ap (λ (t : Bool). cond t (Some p) (part_in (stated c s ps) d)) at ∙ more.1)

stated_there : (c d : ClassId) (s : ClassState) (ps : List ClassPart) (e : ClassPart) → part_in ps d ≡ Some e → HasPartIn (stated c s ps) d
stated_there c d s [] e found = absurd cc
stated_there c d s (p ∷ ps) e found =
    stated_by c d s p e ps (p.class.0 == c.0) (p.class.0 == d.0) refl (stated_there c d s ps e) found

pub state_stays : (own : OwnState) (c d : ClassId) (s : ClassState) → HasState own d → HasState (with_state own c s) d
state_stays own c d s (e, is) = stated_there c d s own.classes e is

-- ---- Whether a frame catches.

less_decided : (m n : ℕ) → IsDecided (m < n)
less_decided m n = elim (cases_lt m n) [ inl low ↦ inl low | inr not ↦ inr (λ low. omega (arith, low, not)) ]

at_most_decided : (m n : ℕ) → IsDecided (m ≤ n)
at_most_decided m n = elim (cases_lt n m) [ inl low ↦ inr (λ most. omega (arith, low, most)) | inr most ↦ inl most ]

module _ (x : Setting) (heap : List NamedObject) (f : FrameState) (a : ℕ) where
  class_decided_by : (o : Option ClassId)
      → IsDecided (MatchOption o ⊤ (λ (c : ClassId). IsInstance x.classes x.caps heap (Held.Obj a) (class_type c)))
  class_decided_by None = inl tt
  class_decided_by (Some c) = instance_decided x.classes x.caps heap (Held.Obj a) (class_type c)

  abbrev Suits : Caught → Type 0
  Suits h = Covers h f.head.at × HasCaughtClass x heap a h

  suits_decided : (h : Caught) → IsDecided (Suits h)
  suits_decided h =
      both_decided (both_decided (at_most_decided h.start f.head.at) (less_decided f.head.at h.end)) (class_decided_by h.class)

  caught_by : (need : Option ClassId) → f.head.need ≡ need → (code : RunsCode x.classes f)
      → ((h : Caught) × Catches x heap f a h) ⊎ CatchesNot x heap f a
  caught_by (Some c) is code = inr (λ h caught. none-some c (sym caught.no_need ∙ is))
  caught_by None is code = elim (first_or_none Suits suits_decided code.scope.code.handlers) [
    | inl (place, h, first) ↦ inl (
      h,
      record {
        no_need = is;
        code = code;
        place = place;
        listed = first.at;
        covers = first.holds.0;
        of_class = first.holds.1;
        first = λ earlier g low at covers class. first.first (earlier, g, low, at, (covers, class));
      },
    )
    | inr none ↦ inr (λ h caught.
        let same = (code_is_one x.classes f caught.code code).0 in
        none (
          caught.place,
          h,
          subst (λ (s : CodeScope). slice_get s.code.handlers caught.place ≡ Some h) same caught.listed,
          (caught.covers, caught.of_class),
        ))
  ]

  -- a frame without a method catches nothing
  abbrev HasCode : Type 0
  HasCode = (f.head.method ≡ None) ⊎ HasTyping x.classes f

  caught_or_not : HasCode → ((h : Caught) × Catches x heap f a h) ⊎ CatchesNot x heap f a
  caught_or_not (inl none) = inr (λ h caught. none-some caught.code.method (sym none ∙ caught.code.is_method))
  caught_or_not (inr typing) = caught_by f.head.need refl (code_here x.classes f typing)

-- ---- All frames.

abbrev EachHasCode : List ClassRecord → List FrameState → Type 0
EachHasCode classes [] = Unit {0}
EachHasCode classes (f ∷ frames) = ((f.head.method ≡ None) ⊎ HasTyping classes f) × EachHasCode classes frames

top_code : (classes : List ClassRecord) (heap : List NamedObject) (f : FrameState) → FitsAsTop classes heap f
    → (f.head.method ≡ None) ⊎ HasTyping classes f
top_code classes heap f (inl empty) = inl empty.no_method
top_code classes heap f (inr (well, here)) = inr here.0

meets_code : (classes : List ClassRecord) (heap : List NamedObject) (f : FrameState) → MayMeetRaise classes heap f
    → (f.head.method ≡ None) ⊎ HasTyping classes f
meets_code classes heap f (inl top) = top_code classes heap f top
meets_code classes heap f (inr call) = inr call.typing

caller_code : (classes : List ClassRecord) (heap : List NamedObject) (f above : FrameState) → FitsAsCaller classes heap f above
    → (f.head.method ≡ None) ⊎ HasTyping classes f
caller_code classes heap f above (inl (begun, top)) = top_code classes heap f top
caller_code classes heap f above (inr (plain, call)) = inr call.typing

each_code : (classes : List ClassRecord) (heap : List NamedObject) (frames : List FrameState) → FramesFit (MayMeetRaise classes heap) classes heap frames
    → EachHasCode classes frames
each_code classes heap [] h = tt
each_code classes heap (f ∷ []) h = (meets_code classes heap f h, tt)
each_code classes heap (f ∷ above ∷ more) h = (caller_code classes heap f above h.0, each_code classes heap (above ∷ more) h.1)

module _ (around : Surroundings) (x : Setting) (known : IsKnownSetting around x) where
  -- what a throwable leaves
  pub record LeavesWell (old : Inside) (frames : List FrameState) (a : ℕ) : Type 0 where
    pub inside : Inside
    pub met : ℕ
    pub leaves : LeavesFrames x frames old a inside met
    pub sealed : IsSealedInside around x.quota inside
    pub thrown : IsThrowable around.classes inside.heap met
    pub states : (c : ClassId) → HasState old.own c → HasState inside.own c

  pub record IsCaught (old : Inside) (frames : List FrameState) (a : ℕ) : Type 0 where
    lower : List FrameState
    catcher : FrameState
    upper : List FrameState
    are_frames : frames ≡ lower ++ catcher ∷ upper
    inside : Inside
    met : ℕ
    leaves : LeavesFrames x upper old a inside met
    handler : Caught
    catches : Catches x inside.heap catcher met handler

  record LeftFrame (f : FrameState) (old : Inside) (a : ℕ) : Type 0 where
    inside : Inside
    met : ℕ
    leaves : LeavesFrame x f old a inside met
    sealed : IsSealedInside around x.quota inside
    thrown : IsThrowable around.classes inside.heap met
    states : (c : ClassId) → HasState old.own c → HasState inside.own c

  left_plain : (f : FrameState) (old : Inside) (a : ℕ) → IsSealedInside around x.quota old → IsThrowable around.classes old.heap a
      → f.head.initialises ≡ None → LeftFrame f old a
  left_plain f old a sealed throws plain =
      record { inside = old; met = a; leaves = inl (plain, refl, refl); sealed = sealed; thrown = throws; states = λ c has. has }

  left_initialiser : (f : FrameState) (old : Inside) (a : ℕ) (c : ClassId) → IsSealedInside around x.quota old → IsThrowable around.classes old.heap a
      → f.head.initialises ≡ Some c → HasState old.own c → LeftFrame f old a
  left_initialiser f old a c sealed throws initialises has =
      let broken : Inside = with_own old (with_state old.own c State.Broken) in
      let sealed_still : IsSealedInside around x.quota broken = state_sealed around x.quota old sealed c State.Broken in
      elim (instance_decided x.classes x.caps old.heap (Held.Obj a) (class_type ERROR)) [
        | inl error ↦ record {
          inside = broken;
          met = a;
          leaves = inr (c, initialises, has, inl (error, refl, refl));
          sealed = sealed_still;
          thrown = throws;
          states = λ d there. state_stays old.own c d State.Broken there;
        }
        | inr other ↦
            let raised = raised_there around x broken (Raised.Fresh EXCEPTION_IN_INITIALIZER_ERROR) sealed_still in
            let may : MayBeRaised around.classes broken.heap (Raised.Fresh EXCEPTION_IN_INITIALIZER_ERROR) =
            (omega arith, below_listed around.classes known.codes 9 EXCEPTION_IN_INITIALIZER_ERROR.0 9 refl) in
            let all = thrown around x known broken sealed_still raised.0 (Raised.Fresh EXCEPTION_IN_INITIALIZER_ERROR) raised.1 may raised.2 in
            record {
              inside = raised.0;
              met = raised.1;
              leaves = inr (c, initialises, has, inr (other, raised.2));
              sealed = all.0.sealed;
              thrown = all.1;
              states = λ d there. subst (λ (own : OwnState). HasState own d) (sym all.2) (state_stays old.own c d State.Broken there);
            }
      ]

  left_by : (f : FrameState) (old : Inside) (a : ℕ) (o : Option ClassId) → f.head.initialises ≡ o → IsSealedInside around x.quota old
      → IsThrowable around.classes old.heap a → ((c : ClassId) → f.head.initialises ≡ Some c → HasState old.own c) → LeftFrame f old a
  left_by f old a None is sealed throws states = left_plain f old a sealed throws is
  left_by f old a (Some c) is sealed throws states = left_initialiser f old a c sealed throws is (states c is)

  pub way : (old : Inside) (frames : List FrameState) (a : ℕ) → IsSealedInside around x.quota old → IsThrowable around.classes old.heap a
      → EachHasCode x.classes frames → KeepsStates old.own frames → IsCaught old frames a ⊎ LeavesWell old frames a
  way old [] a sealed throws code states =
      inr (record { inside = old; met = a; leaves = (refl, refl); sealed = sealed; thrown = throws; states = λ c has. has })
  way old (f ∷ upper) a sealed throws code states =
      elim (way old upper a sealed throws code.1 (λ g c has initialises. states g c (Contains-there g f upper has) initialises)) [
        | inl caught ↦ inl (record {
          lower = f ∷ caught.lower;
          catcher = caught.catcher;
          upper = caught.upper;
          are_frames = ap (λ (fs : List FrameState). f ∷ fs) caught.are_frames;
          inside = caught.inside;
          met = caught.met;
          leaves = caught.leaves;
          handler = caught.handler;
          catches = caught.catches;
        })
        | inr left ↦ elim (caught_or_not x left.inside.heap f left.met code.0) [
          | inl (h, catches) ↦ inl (record {
            lower = [];
            catcher = f;
            upper = upper;
            are_frames = refl;
            inside = left.inside;
            met = left.met;
            leaves = left.leaves;
            handler = h;
            catches = catches;
          })
          | inr not ↦
              let next = left_by f left.inside left.met f.head.initialises refl left.sealed left.thrown
              (λ c is. left.states c (states f c (Contains-here f upper) is)) in
              inr (record {
                inside = next.inside;
                met = next.met;
                leaves = (left.inside, left.met, left.leaves, not, next.leaves);
                sealed = next.sealed;
                thrown = next.thrown;
                states = λ c has. next.states c (left.states c has);
              })
        ]
      ]

  pub unwound : (run : Run) (a : ℕ) → MayUnwind around x run a → KeepsStates run.inside.own run.frames
      → (ended : Unwound) × (new : Run) × Unwinds x run a ended new
  unwound run a may states =
      let code : EachHasCode x.classes run.frames =
      subst (λ (classes : List ClassRecord). EachHasCode classes run.frames) (sym known.classes)
      (each_code around.classes run.inside.heap run.frames may.sealed.frames.fit) in
      elim (way run.inside run.frames a may.sealed.inside may.throwable code states) [
        | inl caught ↦ (
          Ended.Caught,
          record { inside = caught.inside; frames = caught.lower ++ at_handler caught.catcher caught.handler caught.met ∷ [] },
          record {
            lower = caught.lower;
            catcher = caught.catcher;
            upper = caught.upper;
            are_frames = caught.are_frames;
            met = caught.met;
            leaves = caught.leaves;
            handler = caught.handler;
            catches = caught.catches;
            left = refl;
          },
        )
        | inr left ↦ (Ended.Uncaught left.met, record { inside = left.inside; frames = [] }, (left.leaves, refl))
      ]
