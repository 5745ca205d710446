-- The frame that initialises a class fits on top as it is begun, and the domain knows what it speaks of.
use Rattle.std.proofs.Common.{inl, inr, ◌≡◌, ◌≢◌, ◌⊎◌, ℕ, zero, suc, ◌-◌, IsTrue, List, [], length, replicate, Some, None, refl, sym, ap, subst, ◌∙◌, arith}
use Rattle.std.specs.List.{AllByRecursion}
use Rattle.std.proofs.lemmas.Option.{none-some}
use Rattle.class_lemmas.proofs.OneRecord.{one_method}
use Rattle.jk_model.specs.declared.frames.FrameHead.{FrameHead}
use Rattle.jk_model.specs.declared.identifiers.ClassId.{ClassId}
use Rattle.jk_model.specs.declared.identifiers.MemberId.{MemberId}
use Rattle.jk_model.specs.declared.values.Value.{Value}
use Rattle.jk_model.specs.declared.values.Value.TheVariants as Held
use Rattle.jk_model_classes.specs.declared.records.Body.TheVariants as Does
use Rattle.jk_model_classes.specs.declared.records.LinkedCode.{LinkedCode}
use Rattle.jk_model_classes.specs.declared.records.MethodRecord.{MethodRecord}
use Rattle.jk_model_classes.specs.declared.records.TypeRef.{TypeRef}
use Rattle.jk_model_classes.specs.Lookups.{MethodIs}
use Rattle.jk_model_classes.specs.Members.{CLINIT}
use Rattle.jk_model_classes.specs.Worlds.{IsNamed}
use Rattle.jk_model_typing.specs.Scopes.{is_static}
use Rattle.jk_model_typing.specs.Typing.{FrameAt}
use Rattle.jk_model_frames.specs.Frames.{FrameState, called_frame, locals_of, new_frame}
use Rattle.jk_model_domains.specs.Objects.{NamedObject}
use Rattle.jk_model_domains.specs.ValueTypes.{EachValueFits}
use Rattle.jk_model_heaps.specs.CalledFrames.{call_head}
use Rattle.jk_model_heaps.specs.Capabilities.{CapRange}
use Rattle.jk_model_heaps.specs.RunningCode.{HasNoClinit, IsClinitOf}
use Rattle.jk_model_running.specs.Initialising.{IsInitialiserHead}
use Rattle.jk_model_sealing.specs.FittingFrames.{FitsAsTop, FitsHere, InitialisesWell}
use Rattle.jk_model_sealing.specs.SealedInsides.{IsKnownValue, Surroundings}
use Rattle.jk_model_sealing.specs.SealedRuns.{IsKnownClass, KnowsClassOf}
use Rattle.heap_laws.specs.FittingOutcomes.{AreOfTypes}
use Rattle.heap_laws.specs.SoundCodes.{AreSoundCodes}
use Rattle.heap_laws.specs.SoundTables.{IsSoundTable}
use Rattle.row_laws.proofs.BegunMethods.{called_fits, given_fits, has_room}
use Rattle.row_laws.proofs.FramesInARow.{KnownFrame}
use Rattle.row_laws.proofs.NeededClassesKnown.{parent_known}

unset_known : (caps : List CapRange) (heap : List NamedObject) (n : ℕ) → AllByRecursion (IsKnownValue caps heap) (replicate n Held.Unset)
unset_known caps heap zero = tt
unset_known caps heap (suc n) = (tt, unset_known caps heap n)

-- a frame which its need and the class that it initialises alone tell apart from one that fits fits too
fits_with : (around : Surroundings) (heap : List NamedObject) (m : MemberId) (code : LinkedCode) (head : FrameHead) → head.method ≡ Some m
    → head.at ≡ 0 → head.max_locals ≡ code.max_locals → head.max_stack ≡ code.max_stack
    → FitsHere around.classes heap (called_frame (call_head m code) []) → FitsHere around.classes heap (new_frame head)
fits_with around heap m code head method at locals stack (typing, holds) =
    let none : List Value = [] in
    let many : code.max_locals - length (locals_of none) ≡ head.max_locals = omega (arith, locals) in (
      record {
        method = typing.method;
        is_method = method ∙ typing.is_method;
        scope = typing.scope;
        is_scope = typing.is_scope;
        room = (locals ∙ typing.room.0, stack ∙ typing.room.1);
        frames = typing.frames;
        is_least = typing.is_least;
        type = typing.type;
        stands = subst (λ (n : ℕ). FrameAt typing.frames n typing.type) (sym at) typing.stands;
      },
      record {
        locals =
            subst (λ (vs : List Value). EachValueFits typing.scope heap vs typing.type.locals) (ap (λ (n : ℕ). replicate n Held.Unset) many)
            holds.locals;
        stack = holds.stack;
      },
    )

module _ (around : Surroundings) (sound : AreSoundCodes around.classes) (heap : List NamedObject) (c : ClassId) (head : FrameHead)
    (is : IsInitialiserHead around.classes c head) where
  -- a method that takes nothing
  begun : (m : MemberId) (method : MethodRecord) (code : LinkedCode) → MethodIs around.classes m method → method.body ≡ Does.Linked code
      → IsTrue (is_static method) → method.params ≡ [] → FitsAsTop around.classes heap (called_frame (call_head m code) [])
  begun m method code there body static params =
      let given : List Value = [] in
      let typed : AreOfTypes around heap method.params given =
      subst (λ (ts : List TypeRef). AreOfTypes around heap ts given) (sym params) tt in
      let fits = given_fits around sound heap m method code there body given (inl (static, typed)) in
      called_fits around sound heap m method code there body given fits (called_frame (call_head m code) given)
      (has_room around sound heap m method code there body given fits, refl)

  here_of : (f : FrameState) → f.head.need ≡ None → FitsAsTop around.classes heap f → FitsHere around.classes heap f
  here_of f none (inl empty) = absurd (empty.need none)
  here_of f none (inr (well, here)) = here

  runs_clinit : (m : MemberId) (code : LinkedCode) → IsClinitOf around.classes c m code → head.method ≡ Some m
      → head.max_locals ≡ code.max_locals → head.max_stack ≡ code.max_stack → FitsHere around.classes heap (new_frame head)
  runs_clinit m code (of, first, (method, there, body)) runs locals stack =
      let other = first.suits in
      let named : method.name ≡ CLINIT =
      ap (λ (r : MethodRecord). r.name) (one_method around.classes m method other.0 there other.1) ∙ other.2 in
      let plain = sound.initialisers m method there named in
      let called : FrameState = called_frame (call_head m code) [] in
      fits_with around heap m code head runs is.at locals stack (here_of called refl (begun m method code there body plain.1 plain.2))

  abbrev HasCode : Type 0
  HasCode =
      ((m : MemberId) × (code : LinkedCode) × IsClinitOf around.classes c m code × (head.method ≡ Some m) × (head.max_locals ≡ code.max_locals)
      × (head.max_stack ≡ code.max_stack))
      ⊎ (HasNoClinit around.classes c × (head.method ≡ None) × (head.max_locals ≡ 0) × (head.max_stack ≡ 0))

  needs_some : head.need ≢ None
  needs_some none = none-some is.parent (sym none ∙ is.need)

  pub initialiser_fits : FitsAsTop around.classes heap (new_frame head)
  initialiser_fits = by_code is.code
    where
      by_code : HasCode → FitsAsTop around.classes heap (new_frame head)
      by_code (inl (m, code, clinit, runs, locals, stack)) = inr (inr (needs_some, is.at), runs_clinit m code clinit runs locals stack)
      by_code (inr (without, none, locals, stack)) = inl (record {
        no_method = none;
        need = needs_some;
        at = is.at;
        no_locals = (locals, ap (λ (n : ℕ). replicate n Held.Unset) locals);
        no_stack = (stack, refl);
      })

  initialises_well : InitialisesWell around.classes (new_frame head)
  initialises_well = by_code is.code
    where
      by_code : HasCode → InitialisesWell around.classes (new_frame head)
      by_code (inl (m, code, clinit, runs, locals, stack)) = inr (inl (c, m, code, is.initialises, runs, clinit))
      by_code (inr (without, none, locals, stack)) = inr (inr (c, is.initialises, none, without))

  pub initialiser_known : IsSoundTable around.classes around.table → IsNamed around.table c → KnownFrame around heap (new_frame head)
  initialiser_known table named = record {
    initialises = initialises_well;
    at_home = (
      by_code is.code,
      subst (IsKnownClass around.table) (sym is.need)
          (parent_known around.classes around.table table.closed c is.parent is.class named is.is_class is.is_parent),
      subst (IsKnownClass around.table) (sym is.initialises) named,
    );
    known = (unset_known around.caps heap head.max_locals, tt);
  }
    where
      by_code : HasCode → KnowsClassOf around.table head.method
      by_code (inl (m, code, clinit, runs, locals, stack)) =
          subst (KnowsClassOf around.table) (sym runs) (subst (IsNamed around.table) (sym clinit.0) named)
      by_code (inr (without, none, locals, stack)) = subst (KnowsClassOf around.table) (sym none) tt
