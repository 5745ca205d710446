-- A capability is created or revoked as what domains share grants or denies it.
use Rattle.std.proofs.Common.{◌≡◌, ◌≢◌, inl, inr, ℕ, ◌==◌, List, [], ◌∷◌, Contains, Option, Some, None, Result, Err, refl, sym, ap, subst, ◌∙◌}
use Rattle.std.proofs.lemmas.Bool.{eqb-true}
use Rattle.std.proofs.lemmas.Option.{none-some}
use Rattle.list_lemmas.proofs.FoundItems.{Finds, finds}
use Rattle.list_lemmas.proofs.ItemsOfLists.{Contains-at}
use Rattle.model_lemmas.proofs.SameNumbers.{same_class}
use Rattle.jk_model.specs.declared.identifiers.CapId.{CapId}
use Rattle.jk_model.specs.declared.identifiers.ClassId.{ClassId}
use Rattle.jk_model.specs.declared.identifiers.DomainId.{DomainId}
use Rattle.jk_model.specs.declared.steps.Raise.{Raise}
use Rattle.jk_model.specs.declared.steps.Raise.TheVariants as Raised
use Rattle.jk_model.specs.declared.values.Value.{Value}
use Rattle.jk_model.specs.declared.values.Value.TheVariants as Held
use Rattle.jk_model_classes.specs.declared.records.ClassRecord.{ClassRecord}
use Rattle.jk_model_classes.specs.declared.sharing.Stub.{Stub}
use Rattle.jk_model_classes.specs.Classes.{record_of}
use Rattle.jk_model_classes.specs.Stubs.{ImplementsRemote}
use Rattle.jk_model_domains.specs.Objects.{NamedObject, Object, Array, Plain, Task, Text, object_named}
use Rattle.jk_model_heaps.specs.declared.shapes.Shape.TheVariants as Of
use Rattle.jk_model_heaps.specs.Heaps.{shape_of}
use Rattle.jk_model_heaps.specs.SystemClasses.{ILLEGAL_ARGUMENT_EXCEPTION}
use Rattle.jk_model_heaps.specs.Workings.{Creates, Inside, Revokes, Setting}
use Rattle.jk_model_sharing.specs.Answers.{Answers, as_capability, as_nothing, creates, revokes}
use Rattle.jk_model_sharing.specs.SharedStates.{SharedState, stub_for}
use Rattle.jk_model_system_rows.specs.declared.meanings.SystemMeaning.TheVariants as Means
use Rattle.jk_model_system_rows.specs.Answers.{Answer, Wants, fails_by, with_answer}
use Rattle.jk_model_system_rows.specs.PackageJk.{IsRemoteObject}
use Rattle.jk_model_system_rows.specs.SystemRows.{SystemRow}
use Rattle.jk_model_sealing.specs.SealedInsides.{IsSealedObject}
use Rattle.object_store.specs.HeapContents.{HeapContent, IsLive}
use Rattle.step_contents.specs.Conditions.{around}
use Rattle.thread_segments.specs.Answers.{CreatesFor, RevokesFor, has_stub, no_stub}
use Rattle.system_calls.specs.declared.here.Here.{Here}
use Rattle.system_calls.specs.MethodsDone.{IsAround, MayAnswer, MethodDone, asks}
use Rattle.system_calls.proofs.MethodsAreDone.{asked, failed}
use Rattle.system_calls.proofs.MethodsMayBeDone.{object_sealed, ready}
use Rattle.system_calls.proofs.RemoteClasses.{remote_alone}

-- ---- Stubs.

-- a stub that is found is one of these, of this class
stub_found : (shared : SharedState) (c : ClassId) (stub : Stub) → stub_for shared c ≡ Some stub → Contains shared.stubs stub × (stub.class ≡ c)
stub_found shared c stub is =
    let found = subst (Finds (λ (e : Stub). e.class.0 == c.0) shared.stubs) is (finds (λ (e : Stub). e.class.0 == c.0) shared.stubs) in
    (Contains-at shared.stubs found.0 stub found.1, same_class stub.class c (eqb-true stub.class.0 c.0 found.2))

module _ (heaps : HeapContent) (shared : SharedState) (h : Here) (target : ℕ)
    (may : MayAnswer heaps shared h Means.CreatesCapability (Held.Obj target ∷ [])) where
  abbrev classes : List ClassRecord
  classes = h.world.now.classes

  pub named_object : (o : Object) × IsLive heaps h.domain target o
  named_object = may.known.0

  module _ (c : ClassId) (fields : List Value) (live : IsLive heaps h.domain target (Plain c fields)) where
    abbrev sealed : IsSealedObject (around may.may.domain) (heaps.heap h.domain) (Plain c fields)
    sealed = object_sealed heaps shared h may.own may.frames may.may target (Plain c fields) live

    class_there : (r : ClassRecord) × (record_of classes c ≡ Some r)
    class_there = let found = may.may.domain.table.closed c sealed.0 in (found.0, found.1)

    -- a class with a stub implements jk/Remote
    implements : (stub : Stub) → stub_for shared c ≡ Some stub → ImplementsRemote classes c
    implements stub is =
        let found = stub_found shared c stub is in
        elim (may.may.domain.shares.stubs.each stub found.0) [
          | inl of_class ↦ subst (ImplementsRemote classes) found.1 of_class.remote
          | inr foreign ↦
              let none : record_of classes c ≡ None = subst (λ (d : ClassId). record_of classes d ≡ None) found.1 foreign.not_there in
              absurd (none-some class_there.0 (sym none ∙ class_there.1))
        ]

    -- and one without a stub doesn't, since no object is of jk/Remote itself
    no_other : stub_for shared c ≡ None → ImplementsRemote classes c → ⊥
    no_other none remote = by_home class_there.0.home refl
      where
        by_home : (home : Option DomainId) → class_there.0.home ≡ home → ⊥
        by_home None is =
            let low = may.may.domain.codes.of_system c class_there.0 class_there.1 is in
            sealed.4 (remote_alone classes may.may.domain.codes c low remote)
        by_home (Some d) is =
            let homed : class_there.0.home ≢ None = λ none_home. none-some d (sym none_home ∙ is) in
            let found = may.may.domain.shares.remote c class_there.0 class_there.1 homed remote in
            none-some found.0 (sym none ∙ found.1)

    module _ (x : Setting) (inside : Inside) (is : IsAround heaps shared h x inside) where
      live_inside : object_named inside.heap target ≡ Some (Plain c fields)
      live_inside = ap (λ (heap : List NamedObject). object_named heap target) is.own.heap ∙ live

      abbrev Row : Answer → Type 0
      Row answer = SystemRow x Means.CreatesCapability (Held.Obj target ∷ []) inside (with_answer inside answer)

      wanted : (stub : Stub) → stub_for shared c ≡ Some stub → Row (Wants (Creates c target))
      wanted stub found = (
        Plain c fields,
        live_inside,
        inl (c, (refl, subst (λ (cs : List ClassRecord). ImplementsRemote cs c) (sym is.own.classes) (implements stub found)), refl),
      )

      refused : stub_for shared c ≡ None → Row (fails_by ILLEGAL_ARGUMENT_EXCEPTION)
      refused none = (
        Plain c fields,
        live_inside,
        inr (
          (λ class (same, remote).
              no_other none (subst (λ (cs : List ClassRecord). ImplementsRemote cs c) is.own.classes remote)),
          refl,
        ),
      )

    by_stub : (answer : Result CapId Raise) (new : SharedState) → CreatesFor shared h.domain c target answer new
        → MethodDone heaps heaps shared new h Means.CreatesCapability (Held.Obj target ∷ []) (as_capability answer)
    by_stub answer new (no_stub none) =
        failed heaps shared h (ready heaps shared h may.own may.frames may.may) Means.CreatesCapability (Held.Obj target ∷ [])
        (Raised.Fresh ILLEGAL_ARGUMENT_EXCEPTION) (λ x inside is. refused x inside is none)
    by_stub answer new (has_stub stub e made range found is_domain makes) =
        asked heaps shared new h (ready heaps shared h may.own may.frames may.may) Means.CreatesCapability (Held.Obj target ∷ []) (as_capability made)
        (λ x inside is. asks (Creates c target) (wanted x inside is stub found) (creates e c target made range is_domain makes) (sym is.own.heap))

  -- ---- By the object's shape.

  -- an object of another kind isn't remote
  module _ (o : Object) (live : IsLive heaps h.domain target o) (other : (class : ClassId) → Of.Plain class ≡ shape_of o → ⊥) where
    not_remote : (cs : List ClassRecord) (p : Object) → p ≡ o → (class : ClassId) → IsRemoteObject cs p class → ⊥
    not_remote cs (Plain c fields) same class is = other c (ap shape_of same)
    not_remote cs (Array t items) same class is = is
    not_remote cs (Text units) same class is = is
    not_remote cs (Task n) same class is = is

    pub other_refused : MethodDone heaps heaps shared shared h Means.CreatesCapability (Held.Obj target ∷ []) (Err (Raised.Fresh ILLEGAL_ARGUMENT_EXCEPTION))
    other_refused =
        failed heaps shared h (ready heaps shared h may.own may.frames may.may) Means.CreatesCapability (Held.Obj target ∷ [])
        (Raised.Fresh ILLEGAL_ARGUMENT_EXCEPTION)
        (λ x inside is. (
          o,
          ap (λ (heap : List NamedObject). object_named heap target) is.own.heap ∙ live,
          inr (not_remote x.classes o refl, refl),
        ))

  module _ (c : ClassId) (answer : Result CapId Raise) (new : SharedState)
      (made : CreatesFor shared h.domain c target answer new) where
    created_of : (o : Object) → IsLive heaps h.domain target o → Of.Plain c ≡ shape_of o
        → MethodDone heaps heaps shared new h Means.CreatesCapability (Held.Obj target ∷ []) (as_capability answer)
    created_of (Plain d fields) live shape =
        let same : c ≡ d = cc in
        by_stub c fields (subst (λ (e : ClassId). IsLive heaps h.domain target (Plain e fields)) (sym same) live) answer new made
    created_of (Array t items) live shape = absurd cc
    created_of (Text units) live shape = absurd cc
    created_of (Task n) live shape = absurd cc

    created : ((o : Object) → IsLive heaps h.domain target o → Of.Plain c ≡ shape_of o)
        → MethodDone heaps heaps shared new h Means.CreatesCapability (Held.Obj target ∷ []) (as_capability answer)
    created shape = created_of named_object.0 named_object.1 (shape named_object.0 named_object.1)

    pub created_as : (shown : Result CapId Raise) → answer ≡ shown → ((o : Object) → IsLive heaps h.domain target o → Of.Plain c ≡ shape_of o)
        → MethodDone heaps heaps shared new h Means.CreatesCapability (Held.Obj target ∷ []) (as_capability shown)
    created_as shown is shape =
        subst (λ (r : Result CapId Raise). MethodDone heaps heaps shared new h Means.CreatesCapability (Held.Obj target ∷ []) (as_capability r)) is
        (created shape)

-- ---- Revocations.

module _ (heaps : HeapContent) (shared new : SharedState) (h : Here) (k : CapId)
    (may : MayAnswer heaps shared h Means.RevokesCapability (Held.Cap k ∷ [])) where
  revoked : (answer : Result (Unit {0}) Raise) → RevokesFor shared h.domain k answer new
      → MethodDone heaps heaps shared new h Means.RevokesCapability (Held.Cap k ∷ []) (as_nothing answer)
  revoked answer r =
      asked heaps shared new h (ready heaps shared h may.own may.frames may.may) Means.RevokesCapability (Held.Cap k ∷ []) (as_nothing answer)
      (λ x inside is. asks (Revokes k) refl
      (subst (Answers shared h.domain (Revokes k) (as_nothing answer)) (sym r.becomes) (revokes r.domain k answer r.range r.is_domain r.revokes))
      (sym is.own.heap))

  pub revoked_as : (answer shown : Result (Unit {0}) Raise) → answer ≡ shown → RevokesFor shared h.domain k answer new
      → MethodDone heaps heaps shared new h Means.RevokesCapability (Held.Cap k ∷ []) (as_nothing shown)
  revoked_as answer shown is r =
      subst (λ (a : Result (Unit {0}) Raise). MethodDone heaps heaps shared new h Means.RevokesCapability (Held.Cap k ∷ []) (as_nothing a)) is
      (revoked answer r)
