-- An object that leaves the initialiser of a class: the class is broken, what is no Error is replaced, and the domain stays known.
use Rattle.std.proofs.Common.{inl, inr, ◌≡◌, ℕ, Bool, true, false, IsTrue, ◌↔◌, List, Some, refl, sym, ap, subst, ◌∙◌}
use Rattle.std.proofs.lemmas.Bool.{both_ways}
use Rattle.std.proofs.lemmas.Option.{same_Some}
use Rattle.jk_model.specs.declared.frames.FrameHead.{FrameHead}
use Rattle.jk_model.specs.declared.identifiers.ClassId.{ClassId}
use Rattle.jk_model_classes.specs.declared.records.ClassRecord.{ClassRecord}
use Rattle.jk_model_domains.specs.declared.states.ClassState.{ClassState}
use Rattle.jk_model_domains.specs.declared.states.ClassState.TheVariants as State
use Rattle.jk_model_domains.specs.Objects.{NamedObject, Object, class_type, object_named, type_of}
use Rattle.jk_model_domains.specs.OwnStates.{HasState, with_state}
use Rattle.jk_model_heaps.specs.Instances.{IsA}
use Rattle.jk_model_heaps.specs.SystemClasses.{ERROR}
use Rattle.jk_model_heaps.specs.Workings.{Inside, Setting}
use Rattle.jk_model_unwinding.specs.Unwinding.{IsError}
use Rattle.class_init.specs.KeptStates.{KeptState}
use Rattle.frame_store.specs.FrameContents.{FrameContent}
use Rattle.object_store.specs.HeapContents.{HeapContent}
use Rattle.heap_laws.proofs.SealedStill.{state_sealed}
use Rattle.step_contents.specs.Conditions.{MayChange, around}
use Rattle.step_contents.specs.Contents.{Contents, Here, InsideBecomes, contents_of, inside_in}
use Rattle.step_contents.specs.Settings.{IsSetting}
use Rattle.exception_unwind.specs.LeftFrames.{FrameIsLeft, InitialiserIsLeft}
use Rattle.exception_unwind.proofs.InsidesChanged.{inside_then, nothing_changed, own_changed}
use Rattle.exception_unwind.proofs.KnownDomains.{may_still_change, setting_stays}

-- ---- Errors.

module _ (x : Setting) (classes : List ClassRecord) (same : x.classes ≡ classes) (heap : List NamedObject) (a : ℕ) (object : Object)
    (there : object_named heap a ≡ Some object) (b : Bool) (told : IsTrue b ↔ IsA classes (type_of object) (class_type ERROR)) where
  pub is_error : b ≡ true → IsError x heap a
  is_error holds =
      (object, there, subst (λ (cs : List ClassRecord). IsA cs (type_of object) (class_type ERROR)) (sym same) (told.0 holds))

  pub no_error : b ≡ false → IsError x heap a → ⊥
  no_error fails (other, is, isa) =
      let one : other ≡ object = same_Some other object (sym is ∙ there) in
      both_ways b fails
      (told.1 (subst (λ (cs : List ClassRecord). IsA cs (type_of object) (class_type ERROR)) same
      (subst (λ (o : Object). IsA x.classes (type_of o) (class_type ERROR)) one isa)))

pub error_left : (c : Contents) (here : Here) (a : ℕ)
    → ((x : Setting) → x.classes ≡ here.world.classes → IsError x (c.heaps.heap here.domain) a) → InitialiserIsLeft c c here a a
error_left c here a error = λ x may set.
    (inside_in c here, inl (error x set.classes, refl, refl), nothing_changed c here may.domain)

-- ---- The class gets another state.

abbrev pub stated_own : KeptState → ClassId → ClassState → KeptState
stated_own own k state = record own { state = with_state own.state k state }

module _ (heaps : HeapContent) (frames : FrameContent) (own : KeptState) (here : Here) (k : ClassId) (state : ClassState) where
  abbrev old : Contents
  old = contents_of heaps frames own

  abbrev mid : Contents
  mid = contents_of heaps frames (stated_own own k state)

  abbrev stated : Inside
  stated = record (inside_in old here) { own = with_state own.state k state }

  changed : (may : MayChange old here) → InsideBecomes old mid here stated
  changed may = own_changed old here may.domain (with_state own.state k state)

  may_stated : MayChange old here → MayChange mid here
  may_stated may =
      may_still_change old here heaps (stated_own own k state) stated (changed may) may.domain refl
      (state_sealed (around may.domain) may.domain.quota (inside_in old here) may.sealed k state)

  set_stated : MayChange old here → (x : Setting) → IsSetting old here x → IsSetting mid here x
  set_stated may x set = setting_stays old here heaps (stated_own own k state) stated (changed may) x set

  pub may_change_still : (now : KeptState) → now ≡ stated_own own k state → MayChange old here → MayChange (contents_of heaps frames now) here
  may_change_still now is may = subst (λ (o : KeptState). MayChange (contents_of heaps frames o) here) (sym is) (may_stated may)

-- ---- It is broken.

module _ (heaps new : HeapContent) (frames : FrameContent) (own : KeptState) (here : Here) (k : ClassId) where
  abbrev broken : KeptState
  broken = stated_own own k State.Broken

  left_by : (head : FrameHead) (a b : ℕ) → head.initialises ≡ Some k → HasState own.state k
      → InitialiserIsLeft (contents_of heaps frames broken) (contents_of new frames broken) here a b
      → FrameIsLeft (contents_of heaps frames own) (contents_of new frames broken) here head a b
  left_by head a b init has left = λ x f may set is.
      let done = left x (may_stated heaps frames own here k State.Broken may) (set_stated heaps frames own here k State.Broken may x set) in (
        done.0,
        inr (k, ap (λ (h : FrameHead). h.initialises) is ∙ init, has, done.1),
        inside_then (contents_of heaps frames own) (contents_of heaps frames broken) (contents_of new frames broken) here
            (stated heaps frames own here k State.Broken) done.0 (changed heaps frames own here k State.Broken may) done.2,
      )

  pub initialiser_left : (now : KeptState) (head : FrameHead) (a b : ℕ) → now ≡ broken → head.initialises ≡ Some k → HasState own.state k
      → InitialiserIsLeft (contents_of heaps frames now) (contents_of new frames now) here a b
      → FrameIsLeft (contents_of heaps frames own) (contents_of new frames now) here head a b
  initialiser_left now head a b is init has =
      subst (λ (o : KeptState). InitialiserIsLeft (contents_of heaps frames o) (contents_of new frames o) here a b
      → FrameIsLeft (contents_of heaps frames own) (contents_of new frames o) here head a b) (sym is) (left_by head a b init has)
