-- Frames that are sealed stay so with more classes behind closed ones: the least typing of a method stays the least, so they stand in the
-- same typings.
use Rattle.std.proofs.Common.{◌≡◌, ◌≤◌, inl, inr, List, [], ◌∷◌, ◌++◌, length, Some, sym, ap, subst, ◌∙◌, arith}
use Rattle.std.specs.List.{AllByRecursion}
use Rattle.list_lemmas.proofs.ItemsByPlace.{length_take_whole}
use Rattle.list_lemmas.proofs.ItemsOfLists.{each-weaker}
use Rattle.jk_model.specs.SystemTable.{system_classes}
use Rattle.jk_model.specs.declared.identifiers.ClassId.{ClassId}
use Rattle.jk_model.specs.declared.identifiers.MemberId.{MemberId}
use Rattle.jk_model.specs.declared.instructions.Instr.{Instr}
use Rattle.jk_model.specs.declared.values.Value.{Value}
use Rattle.jk_model_classes.specs.declared.records.ClassRecord.{ClassRecord}
use Rattle.jk_model_classes.specs.declared.records.LinkedCode.{LinkedCode}
use Rattle.jk_model_classes.specs.declared.records.MethodRecord.{MethodRecord}
use Rattle.jk_model_classes.specs.Classes.{AreOrdered, HasClass}
use Rattle.jk_model_classes.specs.Lookups.{MethodIs}
use Rattle.jk_model_classes.specs.Worlds.{IsNamed}
use Rattle.jk_model_typing.specs.declared.frames.FrameType.{FrameType}
use Rattle.jk_model_typing.specs.declared.frames.VType.{VType}
use Rattle.jk_model_typing.specs.Scopes.{CodeScope, IsScopeOf, result_values}
use Rattle.jk_model_frames.specs.Frames.{FrameState}
use Rattle.jk_model_domains.specs.Objects.{NamedObject}
use Rattle.jk_model_domains.specs.ValueTypes.{EachValueFits, FrameHolds}
use Rattle.jk_model_heaps.specs.Capabilities.{CapRange}
use Rattle.jk_model_heaps.specs.RunningCode.{IsClinit, IsClinitOf, NamesMethod}
use Rattle.jk_model_sealing.specs.FittingFrames.{FitsAsCaller, FitsAsTop, FitsAtCall, FitsHere, FramesFit, HasTyping, InitialisesWell}
use Rattle.jk_model_sealing.specs.SealedInsides.{IsKnownValue, Surroundings}
use Rattle.jk_model_sealing.specs.SealedRuns.{AreSealedFrames, IsAtHome, IsKnownClass, NamesKnown}
use Rattle.class_growth.specs.ClosedClasses.{IsClosed}
use Rattle.class_growth.specs.ScopesOver.{among}
use Rattle.class_growth.proofs.MoreClasses.{method-before, method-still, ordered-before}
use Rattle.class_growth.proofs.ScopesKept.{closed-scope, scope-still}
use Rattle.class_growth.proofs.ShapesKept.{method_results-kept}
use Rattle.class_growth.proofs.TypingsKept.{row-in_scope}
use Rattle.class_growth.proofs.ValuesKept.{each_value_fits-still, frame_holds-still}
use Rattle.erased_typings.proofs.LeastKept.{least-stays}
use Rattle.system_facts.specs.SystemTypes.{HaveSystemClasses}
use Rattle.machine_laws.proofs.InsidesStaySealed.{value_known_still, with_more}

-- the system classes stand in front, so there are as many at least
pub many_classes : (classes : List ClassRecord) → HaveSystemClasses classes → length system_classes ≤ length classes
many_classes classes system = omega (arith, system.as_many, length_take_whole classes (length system_classes))

module _ (classes more : List ClassRecord) (ordered : AreOrdered (classes ++ more)) (closed : IsClosed classes)
    (many : length system_classes ≤ length classes) where
  abbrev all : List ClassRecord
  all = classes ++ more

  abbrev in_order : AreOrdered classes
  in_order = ordered-before classes more ordered

  -- ---- In the scope of a method.

  module _ (m : MemberId) (s : CodeScope) (scope : IsScopeOf classes m s) where
    abbrev wider : CodeScope
    wider = among s all

    values_still : (heap : List NamedObject) (vs : List Value) (ts : List VType) → EachValueFits s heap vs ts → EachValueFits wider heap vs ts
    values_still heap vs ts h =
        subst (λ (cs : List ClassRecord). EachValueFits (among s (cs ++ more)) heap vs ts) scope.all (each_value_fits-still s more heap vs ts h)

    frame_still : (heap : List NamedObject) (f : FrameState) (t : FrameType) → FrameHolds s heap f t → FrameHolds wider heap f t
    frame_still heap f t h =
        subst (λ (cs : List ClassRecord). FrameHolds (among s (cs ++ more)) heap f t) scope.all (frame_holds-still s more heap f t h)

    -- what a call names
    pub names_still : (i : Instr) (member : MemberId) (called : MethodRecord) → NamesMethod s i member called → NamesMethod wider i member called
    names_still i member called (c, leads, is) =
        (c, leads, method-still classes more member called (subst (λ (cs : List ClassRecord). MethodIs cs member called) scope.all is))

    results_same : (i : Instr) (member : MemberId) (called : MethodRecord) → NamesMethod s i member called
        → result_values s called ≡ result_values wider called
    results_same i member called (c, leads, is) =
        sym (subst (λ (cs : List ClassRecord). result_values (among s (cs ++ more)) called ≡ result_values s called) scope.all
        (method_results-kept s more (closed-scope classes closed m s scope) i c member called (leads, is)))

  -- ---- Frames.

  abbrev typing_still : (f : FrameState) → HasTyping classes f → HasTyping all f
  typing_still f t = record {
    method = t.method;
    is_method = t.is_method;
    scope = among t.scope all;
    is_scope = scope-still classes more t.method t.scope t.is_scope;
    room = t.room;
    frames = t.frames;
    is_least = least-stays classes more t.method t.frames ordered closed many t.is_least;
    type = t.type;
    stands = t.stands;
  }

  module _ (heap : List NamedObject) where
    pub here_still : (f : FrameState) → FitsHere classes heap f → FitsHere all heap f
    here_still f (t, holds) = (typing_still f t, frame_still t.method t.scope t.is_scope heap f t.type holds)

    pub at_call_still : (f : FrameState) → FitsAtCall classes heap f → FitsAtCall all heap f
    at_call_still f h =
        let t : HasTyping classes f = h.typing in
        record {
          no_need = h.no_need;
          typing = typing_still f t;
          instr = h.instr;
          is_instr = h.is_instr;
          is_call = h.is_call;
          member = h.member;
          called = h.called;
          names = names_still t.method t.scope t.is_scope h.instr h.member h.called h.names;
          after = h.after;
          row = row-in_scope classes more t.method t.scope t.is_scope closed in_order f.head.at h.instr t.type h.after h.row;
          below = h.below;
          left =
              h.left
              ∙ ap (λ (vs : List VType). h.below ++ vs) (results_same t.method t.scope t.is_scope h.instr h.member h.called h.names);
          stack = values_still t.method t.scope t.is_scope heap f.stack h.below h.stack;
          locals = values_still t.method t.scope t.is_scope heap f.locals h.after.locals h.locals;
          locals_before = values_still t.method t.scope t.is_scope heap f.locals t.type.locals h.locals_before;
        }

    pub top_still : (f : FrameState) → FitsAsTop classes heap f → FitsAsTop all heap f
    top_still f (inl empty) = inl empty
    top_still f (inr (stands, here)) = inr (stands, here_still f here)

    caller_still : (f above : FrameState) → FitsAsCaller classes heap f above → FitsAsCaller all heap f above
    caller_still f above (inl (initialises, top)) = inl (initialises, top_still f top)
    caller_still f above (inr (none, call)) = inr (none, at_call_still f call)

    -- whatever is asked of the last frame
    frames_still : (Top Then : FrameState → Type 0) → ((f : FrameState) → Top f → Then f) → (frames : List FrameState)
        → FramesFit Top classes heap frames → FramesFit Then all heap frames
    frames_still Top Then last [] h = tt
    frames_still Top Then last (f ∷ []) h = last f h
    frames_still Top Then last (f ∷ above ∷ rest) h = (caller_still f above h.0, frames_still Top Then last (above ∷ rest) h.1)

  -- ---- Initialisers.

  clinit_still : (m : MemberId) → IsClinit classes m → IsClinit all m
  clinit_still m (method, is, name) = (method, method-still classes more m method is, name)

  clinit_before : (m : MemberId) → HasClass classes m.class → IsClinit all m → IsClinit classes m
  clinit_before m there (method, is, name) = (method, method-before classes more m method there is, name)

  clinit_of_still : (c : ClassId) (m : MemberId) (code : LinkedCode) → HasClass classes c → IsClinitOf classes c m code → IsClinitOf all c m code
  clinit_of_still c m code there (class, first, (method, is, body)) =
      let here : HasClass classes m.class = subst (HasClass classes) (sym class) there in (
        class,
        record {
          suits = clinit_still m first.suits;
          first = λ i low suits. first.first i low (clinit_before (record { class = m.class; index = i }) here suits);
        },
        (method, method-still classes more m method is, body),
      )

  clinit_of_before : (c : ClassId) (m : MemberId) (code : LinkedCode) → HasClass classes c → IsClinitOf all c m code → IsClinitOf classes c m code
  clinit_of_before c m code there (class, first, (method, is, body)) =
      let here : HasClass classes m.class = subst (HasClass classes) (sym class) there in (
        class,
        record {
          suits = clinit_before m here first.suits;
          first = λ i low suits. first.first i low (clinit_still (record { class = m.class; index = i }) suits);
        },
        (method, method-before classes more m method here is, body),
      )

  -- the class that the frame initialises is there
  abbrev HasInitialised : FrameState → Type 0
  HasInitialised f = (c : ClassId) → f.head.initialises ≡ Some c → HasClass classes c

  pub initialises_still : (f : FrameState) → HasInitialised f → InitialisesWell classes f → InitialisesWell all f
  initialises_still f there (inl plain) = inl plain
  initialises_still f there (inr (inl (c, m, code, is, method, clinit))) =
      inr (inl (c, m, code, is, method, clinit_of_still c m code (there c is) clinit))
  initialises_still f there (inr (inr (c, is, method, none))) =
      inr (inr (c, is, method, λ m code clinit. none m code (clinit_of_before c m code (there c is) clinit)))

-- ---- All frames of a segment.

module _ (old : Surroundings) (more : List ClassRecord) (ranges : List CapRange) (ordered : AreOrdered (old.classes ++ more))
    (closed : IsClosed old.classes) (many : length system_classes ≤ length old.classes)
    (there : (c : ClassId) → IsNamed old.table c → HasClass old.classes c) where
  abbrev new : Surroundings
  new = with_more old more ranges

  home_there : (f : FrameState) → IsAtHome old.table f → (c : ClassId) → f.head.initialises ≡ Some c → HasClass old.classes c
  home_there f home c is = there c (subst (IsKnownClass old.table) is home.2)

  initialise_still : (frames : List FrameState) → AllByRecursion (IsAtHome old.table) frames → AllByRecursion (InitialisesWell old.classes) frames
      → AllByRecursion (InitialisesWell new.classes) frames
  initialise_still [] home h = tt
  initialise_still (f ∷ frames) home h =
      (initialises_still old.classes more ordered closed many f (home_there f home.0) h.0, initialise_still frames home.1 h.1)

  known_still : (heap : List NamedObject) (f : FrameState) → NamesKnown old.caps heap f → NamesKnown new.caps heap f
  known_still heap f h = (
    each-weaker (IsKnownValue old.caps heap) (IsKnownValue new.caps heap) (value_known_still old.caps ranges heap) f.locals h.0,
    each-weaker (IsKnownValue old.caps heap) (IsKnownValue new.caps heap) (value_known_still old.caps ranges heap) f.stack h.1,
  )

  -- whatever is asked of the top frame
  pub frames_stay : (Top Then : FrameState → Type 0) → ((f : FrameState) → Top f → Then f) → (heap : List NamedObject) (frames : List FrameState)
      → AreSealedFrames old Top heap frames → AreSealedFrames new Then heap frames
  frames_stay Top Then last heap frames h = record {
    fit = frames_still old.classes more ordered closed many heap Top Then last frames h.fit;
    initialise = initialise_still frames h.at_home h.initialise;
    at_home = h.at_home;
    known = each-weaker (NamesKnown old.caps heap) (NamesKnown new.caps heap) (known_still heap) frames h.known;
  }
