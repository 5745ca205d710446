-- A call through a capability enters or is refused: each thing that it needs is so or not, and at most one method is the target.
use Rattle.std.proofs.Common.{◌≡◌, ◌≤◌, ◌⊎◌, Bool, true, false, List, ◌∷◌, Option, Some, None, refl, sym, ap, subst, ◌∙◌, inl, inr, IsTrue}
use Rattle.std.proofs.lemmas.Bool.{cases_lt}
use Rattle.std.proofs.lemmas.Option.{same_Some}
use Rattle.jk_model.specs.Flags.{has, PUBLIC}
use Rattle.jk_model.specs.declared.identifiers.ClassId.{ClassId}
use Rattle.jk_model.specs.declared.identifiers.DomainId.{DomainId}
use Rattle.jk_model.specs.declared.identifiers.MemberId.{MemberId}
use Rattle.jk_model.specs.declared.identifiers.ThreadNo.{ThreadNo}
use Rattle.jk_model.specs.declared.steps.Raise.{Raise}
use Rattle.jk_model.specs.declared.steps.Raise.TheVariants as Raised
use Rattle.jk_model.specs.declared.steps.Standing.TheVariants as Stands
use Rattle.jk_model.specs.declared.values.Value.{Value}
use Rattle.jk_model.specs.declared.values.Value.TheVariants as Held
use Rattle.jk_model_classes.specs.declared.records.Body.{Body}
use Rattle.jk_model_classes.specs.declared.records.Body.TheVariants as Does
use Rattle.jk_model_classes.specs.declared.records.ClassRecord.{ClassRecord}
use Rattle.jk_model_classes.specs.declared.records.MethodRecord.{MethodRecord}
use Rattle.jk_model_classes.specs.Classes.{superclasses}
use Rattle.jk_model_classes.specs.Lookups.{FindsOn, IsUnlessAbstract, MethodIs, RunsFor, Selects}
use Rattle.jk_model_domains.specs.Objects.{NamedObject}
use Rattle.jk_model_frames.specs.Frames.{FrameState, called_frame}
use Rattle.jk_model_heaps.specs.CalledFrames.{call_head}
use Rattle.jk_model_heaps.specs.SystemClasses.{ABSTRACT_METHOD_ERROR, ILLEGAL_ACCESS_ERROR, INCOMPATIBLE_CLASS_CHANGE_ERROR}
use Rattle.jk_model_heaps.specs.Workings.{Inside}
use Rattle.jk_model_call_rows.proofs.OneSelected.{one_selected}
use Rattle.jk_model_machine_state.specs.Machines.{DomainState, Machine, domain_at, free_chunks}
use Rattle.jk_model_machine_state.specs.Places.{LiveDomain}
use Rattle.jk_model_crossings.specs.Passages.{Passes}
use Rattle.jk_model_crossings.specs.RemoteCalls.{Enters, HasTarget, IsLive, IsOpen, IsShown, Refuses, RemoteCall, arguments, arrived, chunks_needed, departed}
use Rattle.decided_lookups.specs.Decisions.{IsDecided}
use Rattle.decided_lookups.proofs.DecidedParts.{both_decided, domain_decided, same_decided, true_decided}
use Rattle.decided_lookups.proofs.DecidedRecords.{implements_decided}
use Rattle.decided_lookups.proofs.MembersFound.{call_selects}
use Rattle.class_lemmas.proofs.CodeOfMethods.{absent_has_none, system_has_none}
use Rattle.class_lemmas.proofs.OneRecord.{one_method}
use Rattle.row_laws.proofs.InstancesDecided.{remote_decided}
use Rattle.machine_laws.specs.GoingOn.{MayArrive}
use Rattle.machine_laws.proofs.PassagesDecided.{passages_are_decided}

-- ---- What is selected is there.

module _ (classes : List ClassRecord) where
  abbrev IsThere : MemberId → Type 0
  IsThere target = (method : MethodRecord) × MethodIs classes target method

  found_is : (m : MemberId) (walk : List ClassId) (target : MemberId) (found : Option MemberId) → FindsOn (RunsFor classes m) walk found
      → IsUnlessAbstract classes found (Some target) → IsThere target
  found_is m walk target None h e = absurd cc
  found_is m walk target (Some f) h (inl e) = let never : Some target ≡ None = e.1 in absurd cc
  found_is m walk target (Some f) h (inr e) =
      subst IsThere (sym (same_Some target f e.1)) (h.member.suits.other_method, h.member.suits.other_is)

  selected_is : (receiver : ClassId) (m target : MemberId) → Selects classes receiver m (Some target) → IsThere target
  selected_is receiver m target h = found_is m (superclasses classes receiver) target h.0 h.1 h.2

-- ---- A live owner.

false_decided : (b : Bool) → IsDecided (b ≡ false)
false_decided true = inr (λ e. absurd cc)
false_decided false = inl refl

owner_decided : (m : Machine) (d : DomainId) → IsDecided (LiveDomain m d)
owner_decided m d = by (domain_at m d) refl
  where
    by_inside : (e : DomainState) → domain_at m d ≡ Some e → e.number ≡ d → (o : Option Inside) → e.inside ≡ o → IsDecided (LiveDomain m d)
    by_inside e is number None without =
        inr (λ l.
        let same : e ≡ l.domain = same_Some e l.domain (sym is ∙ l.is_domain) in
        let never : None ≡ Some l.inside = sym without ∙ ap (λ (x : DomainState). x.inside) same ∙ l.is_inside in
        absurd cc)
    by_inside e is number (Some x) there = inl (record { domain = e; is_domain = is; numbered = number; inside = x; is_inside = there })

    by : (o : Option DomainState) → domain_at m d ≡ o → IsDecided (LiveDomain m d)
    by None is = inr (λ l. let never : None ≡ Some l.domain = sym is ∙ l.is_domain in absurd cc)
    by (Some e) is = elim (domain_decided e.number d) [
      | inl number ↦ by_inside e is number e.inside refl
      | inr other ↦ inr (λ l. other (ap (λ (x : DomainState). x.number) (same_Some e l.domain (sym is ∙ l.is_domain)) ∙ l.numbered))
    ]

-- ---- What the call needs.

module _ {m : Machine} {t : ThreadNo} (c : RemoteCall m t) where
  live_decided : IsDecided (IsLive c)
  live_decided =
      same_decided (λ h. record { unrevoked = h.0; owner = h.1 }) (λ h. (h.unrevoked, h.owner))
      (both_decided (false_decided c.known.capability.revoked) (owner_decided m c.known.owner))

  shown_decided : IsLive c → IsDecided (IsShown c)
  shown_decided live =
      same_decided (λ h. record { live = live; shown = h }) (λ h. h.shown)
      (both_decided (implements_decided m.classes c.known.capability.class c.method.class) (remote_decided m.classes c.method.class))

  -- all targets are one
  same_target : (target : MemberId) → Selects m.classes c.known.capability.class c.method (Some target) → (method : MethodRecord)
      → MethodIs m.classes target method → (h : HasTarget c) → method ≡ h.target_method
  same_target target selected method is h =
      let one : target ≡ h.target =
      same_Some target h.target (one_selected m.classes c.known.capability.class c.method (Some target) (Some h.target) selected h.selected) in
      one_method m.classes h.target method h.target_method (subst (λ (x : MemberId). MethodIs m.classes x method) one is) h.is_target

  target_decided : IsShown c → IsDecided (HasTarget c)
  target_decided s =
      let selects = call_selects m.classes c.known.capability.class c.method in
      by selects.0 selects.1
    where
      by_body : (target : MemberId) → Selects m.classes c.known.capability.class c.method (Some target) → (method : MethodRecord)
          → MethodIs m.classes target method → (b : Body) → method.body ≡ b → IsDecided (HasTarget c)
      by_body target selected method is (Does.Linked code) body = inl (record {
        is_shown = s;
        target = target;
        selected = selected;
        target_method = method;
        is_target = is;
        code = code;
        body = body;
      })
      by_body target selected method is Does.Absent body =
          inr (λ h. absent_has_none h.code
          (sym body ∙ ap (λ (x : MethodRecord). x.body) (same_target target selected method is h) ∙ h.body))
      by_body target selected method is (Does.System n) body =
          inr (λ h. system_has_none n h.code
          (sym body ∙ ap (λ (x : MethodRecord). x.body) (same_target target selected method is h) ∙ h.body))

      by : (o : Option MemberId) → Selects m.classes c.known.capability.class c.method o → IsDecided (HasTarget c)
      by None selected =
          inr (λ h.
          let never : None ≡ Some h.target =
          one_selected m.classes c.known.capability.class c.method None (Some h.target) selected h.selected in
          absurd cc)
      by (Some target) selected =
          let is = selected_is m.classes c.known.capability.class c.method target selected in
          by_body target selected is.0 is.1 is.0.body refl

  open_decided : HasTarget c → IsDecided (IsOpen c)
  open_decided h = elim (true_decided (has h.target_method.flags PUBLIC)) [
    | inl public ↦ inl (record { has_target = h; public = public })
    | inr not ↦ inr (λ o.
        let same : h.target_method ≡ o.has_target.target_method = same_target h.target h.selected h.target_method h.is_target o.has_target in
        not (subst (λ (x : MethodRecord). IsTrue (has x.flags PUBLIC)) (sym same) o.public))
  ]

  -- ---- The call.

  abbrev IsDone : Type 0
  IsDone = ((new : Machine) × Enters c new) ⊎ ((r : Raise) × Refuses c r)

  module _ (may : MayArrive c) where
    entered : (o : IsOpen c) → (heap : List NamedObject) (values : List Value) → Passes (arguments o.has_target.is_shown.live) heap values
        → chunks_needed o.has_target ≤ free_chunks m o.has_target.is_shown.live.owner.domain → (new : Machine) × Enters c new
    entered o heap values passes enough = (
      arrived o.has_target.is_shown.live.owner t heap frame (departed c),
      record {
        is_open = o;
        chunks = enough;
        heap = heap;
        values = values;
        passes = passes;
        frame = frame;
        begins = (may.fits o.has_target heap values passes, refl);
        leads = refl;
      },
    )
      where
        frame : FrameState
        frame = called_frame (call_head o.has_target.target o.has_target.code) (Held.Obj c.known.capability.target ∷ values)

    passed : (o : IsOpen c) → IsDone
    passed o = elim (passages_are_decided (arguments o.has_target.is_shown.live) (may.whole o.has_target.is_shown.live)) [
      | inl uncopiable ↦ inr (Raised.Standing Stands.NotCopiable, Refuses.not_copiable o uncopiable)
      | inr (inl large) ↦ inr (Raised.Standing Stands.Quota, Refuses.few_words o large)
      | inr (inr all) ↦ elim (cases_lt (free_chunks m o.has_target.is_shown.live.owner.domain) (chunks_needed o.has_target)) [
        | inl few ↦ inr (Raised.Standing Stands.Quota, Refuses.few_chunks o all.2.may few)
        | inr enough ↦ inl (entered o all.0 all.1 all.2 enough)
      ]
    ]

    with_target : HasTarget c → IsDone
    with_target h = elim (open_decided h) [
      | inl o ↦ passed o
      | inr not ↦ inr (Raised.Fresh ILLEGAL_ACCESS_ERROR, Refuses.not_public h not)
    ]

    shown : IsShown c → IsDone
    shown s = elim (target_decided s) [
      | inl h ↦ with_target h
      | inr not ↦ inr (Raised.Fresh ABSTRACT_METHOD_ERROR, Refuses.no_target s not)
    ]

    living : IsLive c → IsDone
    living live = elim (shown_decided live) [
      | inl s ↦ shown s
      | inr not ↦ inr (Raised.Fresh INCOMPATIBLE_CLASS_CHANGE_ERROR, Refuses.not_shown live not)
    ]

    decided : IsDone
    decided = elim live_decided [
      | inl live ↦ living live
      | inr dead ↦ inr (Raised.Standing Stands.Revoked, Refuses.is_dead dead)
    ]

pub calls_that_fit_are_decided : (m : Machine) (t : ThreadNo) (c : RemoteCall m t) → MayArrive c
    → ((new : Machine) × Enters c new) ⊎ ((r : Raise) × Refuses c r)
calls_that_fit_are_decided m t c may = decided c may
