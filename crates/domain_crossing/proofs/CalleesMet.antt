-- What code finds that a call through a capability runs is the target of the call, and what it finds in its place refuses the call.
use Rattle.std.proofs.Common.{◌≡◌, ℕ, ◌-◌, inl, inr, false, true, IsTrue, List, Contains, find, slice_get, Option, Some, None, Ok, Err, refl, sym, ap, subst, ◌∙◌}
use Rattle.std.specs.Prelude.{option_and_then}
use Rattle.std.proofs.lemmas.Option.{same_Some}
use Rattle.jk_model.specs.Flags.{has, PUBLIC}
use Rattle.jk_model.specs.declared.frames.FrameHead.{FrameHead}
use Rattle.jk_model.specs.declared.identifiers.CapId.{CapId}
use Rattle.jk_model.specs.declared.identifiers.ClassId.{ClassId}
use Rattle.jk_model.specs.declared.identifiers.DomainId.{DomainId}
use Rattle.jk_model.specs.declared.identifiers.MemberId.{MemberId}
use Rattle.jk_model.specs.declared.identifiers.ThreadNo.{ThreadNo}
use Rattle.jk_model.specs.declared.steps.Raise.{Raise}
use Rattle.jk_model.specs.declared.steps.Raise.TheVariants as Raised
use Rattle.jk_model_classes.specs.declared.records.ClassRecord.{ClassRecord}
use Rattle.jk_model_classes.specs.declared.records.MethodRecord.{MethodRecord}
use Rattle.jk_model_classes.specs.Classes.{superclasses}
use Rattle.jk_model_classes.specs.Lookups.{FindsOn, IsUnlessAbstract, MethodIs, RunsFor, Selects}
use Rattle.class_lemmas.proofs.OneRecord.{one_method}
use Rattle.jk_model_heaps.specs.CalledFrames.{call_head}
use Rattle.jk_model_heaps.specs.Capabilities.{CapRange, Capability, OwnedCapability, capability_in, capability_numbered, has_number}
use Rattle.jk_model_call_rows.proofs.OneSelected.{one_selected}
use Rattle.jk_model_machine_state.specs.Machines.{DomainState, Machine, caps_of}
use Rattle.jk_model_machine_state.specs.Places.{LiveDomain}
use Rattle.jk_model_crossings.specs.RemoteCalls.{HasTarget, IsLive, IsOpen, Refuses, RemoteCall}
use Rattle.jk_model_runs.specs.Sealed.{IsSealed}
use Rattle.list_lemmas.proofs.FoundItems.{Finds, finds}
use Rattle.list_lemmas.proofs.ItemsByPlace.{comes_from}
use Rattle.list_lemmas.proofs.ItemsOfLists.{Contains-at}
use Rattle.list_lemmas.proofs.TestsAndOrders.{mapped_option}
use Rattle.domain_crossing.specs.declared.callees.Callee.{Callee}
use Rattle.domain_crossing.specs.CalleesFound.{FindsCallee, FindsHead}

-- ---- A capability by its number.

-- the place where it was created
pub record IsCreated (caps : List CapRange) (k : CapId) (known : OwnedCapability) : Type 0 where
  pub place : ℕ
  pub range : CapRange
  pub is_range : slice_get caps place ≡ Some range
  pub made : Contains range.made known.capability
  pub owner : range.owner ≡ known.owner

pub created : (caps : List CapRange) (k : CapId) (known : OwnedCapability) → capability_numbered caps k ≡ Some known → IsCreated caps k known
created caps k known is = by (find (has_number k) caps) (finds (has_number k) caps) is
  where
    by : (o : Option CapRange) → Finds (has_number k) caps o → option_and_then (capability_in k) o ≡ Some known → IsCreated caps k known
    by None h e = absurd cc
    by (Some r) h e =
        let c = mapped_option (λ (a : Capability). record { owner = r.owner; capability = a }) (slice_get r.made (k.0 - r.first)) known e in
        record {
          place = h.0;
          range = r;
          is_range = h.1;
          made = subst (Contains r.made) (ap (λ (x : OwnedCapability). x.capability) c.2) (Contains-at r.made (k.0 - r.first) c.0 c.1);
          owner = ap (λ (x : OwnedCapability). x.owner) c.2;
        }

-- where it isn't revoked, its owner lives
pub owner_lives : (m : Machine) → IsSealed m → (k : CapId) (known : OwnedCapability) → capability_numbered (caps_of m) k ≡ Some known
    → known.capability.revoked ≡ false → LiveDomain m known.owner
owner_lives m sealed k known is unrevoked =
    let at = created (caps_of m) k known is in
    let from = comes_from (λ (d : DomainState). d.caps) m.domains at.place at.range at.is_range in
    let on : Contains m.domains from.from = Contains-at m.domains at.place from.from from.there in
    let target = sealed.capabilities.targets from.from known.capability on
    (subst (λ (r : CapRange). Contains r.made known.capability) (sym from.gives) at.made) unrevoked in
    let owned : from.from.number ≡ known.owner =
    sym (sealed.capabilities.owner from.from on) ∙ ap (λ (r : CapRange). r.owner) from.gives ∙ at.owner in
    record {
      domain = from.from;
      is_domain = ap (slice_get m.domains) (ap (λ (d : DomainId). d.0) (sym owned) ∙ sealed.domains.numbered at.place from.from from.there) ∙ from.there;
      numbered = owned;
      inside = target.0;
      is_inside = target.1;
    }

-- ---- The call.

module _ (m : Machine) (sealed : IsSealed m) (t : ThreadNo) (c : RemoteCall m t) where
  abbrev pub live_by : c.known.capability.revoked ≡ false → IsLive c
  live_by unrevoked = record { unrevoked = unrevoked; owner = owner_lives m sealed c.capability c.known c.is_known unrevoked }

  -- all targets are one
  same_target : (target : MemberId) → Selects m.classes c.known.capability.class c.method (Some target) → (method : MethodRecord)
      → MethodIs m.classes target method → (h : HasTarget c) → method ≡ h.target_method
  same_target target selected method is h =
      let one : target ≡ h.target =
      same_Some target h.target (one_selected m.classes c.known.capability.class c.method (Some target) (Some h.target) selected h.selected) in
      one_method m.classes h.target method h.target_method (subst (λ (x : MemberId). MethodIs m.classes x method) one is) h.is_target

  no_head : (e : ClassId) → c.known.capability.revoked ≡ false → FindsHead m.classes c.known.capability.class c.method (Err e)
      → Refuses c (Raised.Fresh e)
  no_head e unrevoked (FindsHead.not_shown hidden) = Refuses.not_shown (live_by unrevoked) (λ s. hidden s.shown)
  no_head e unrevoked (FindsHead.no_method shown none) =
      Refuses.no_target (record { live = live_by unrevoked; shown = shown })
      (λ h.
      let never : None ≡ Some h.target =
      one_selected m.classes c.known.capability.class c.method None (Some h.target) none h.selected in
      cc)
  no_head e unrevoked (FindsHead.no_code target r shown selected is none) =
      Refuses.no_target (record { live = live_by unrevoked; shown = shown })
      (λ h. none h.code (ap (λ (x : MethodRecord). x.body) (same_target target selected r is h) ∙ h.body))
  no_head e unrevoked (FindsHead.not_public target r code shown selected is body hidden) =
      Refuses.not_public
      (record {
        is_shown = record { live = live_by unrevoked; shown = shown };
        target = target;
        selected = selected;
        target_method = r;
        is_target = is;
        code = code;
        body = body;
      })
      (λ o. hidden (subst (λ (x : MethodRecord). IsTrue (has x.flags PUBLIC)) (sym (same_target target selected r is o.has_target)) o.public))

  pub refused : (r : Raise) → FindsCallee m.classes c.known c.method (Err r) → Refuses c r
  refused r (FindsCallee.is_revoked gone) = Refuses.is_dead (λ l. let both : true ≡ false = sym gone ∙ l.unrevoked in cc)
  refused r (FindsCallee.fails e unrevoked none) = no_head e unrevoked none

  -- ---- It may enter.

  pub record MayRun (callee : Callee) : Type 0 where
    pub is_open : IsOpen c
    pub owner : callee.owner ≡ c.known.owner
    pub target : callee.target ≡ c.known.capability.target
    pub head : callee.head ≡ call_head is_open.has_target.target is_open.has_target.code

  opens : (head : FrameHead) → c.known.capability.revoked ≡ false → FindsHead m.classes c.known.capability.class c.method (Ok head)
      → (o : IsOpen c) × (head ≡ call_head o.has_target.target o.has_target.code)
  opens head unrevoked (FindsHead.found target r code shown selected is body public) = (
    record {
      has_target = record {
        is_shown = record { live = live_by unrevoked; shown = shown };
        target = target;
        selected = selected;
        target_method = r;
        is_target = is;
        code = code;
        body = body;
      };
      public = public;
    },
    refl,
  )

  pub runs_so : (callee : Callee) → FindsCallee m.classes c.known c.method (Ok callee) → MayRun callee
  runs_so callee (FindsCallee.runs head unrevoked begins) =
      let o = opens head unrevoked begins in
      record { is_open = o.0; owner = refl; target = refl; head = o.1 }

-- ---- What code reads.

-- a method that is selected is there
pub selected_is : (classes : List ClassRecord) (receiver : ClassId) (m target : MemberId) → Selects classes receiver m (Some target)
    → (method : MethodRecord) × MethodIs classes target method
selected_is classes receiver m target h = by h.0 h.1 h.2
  where
    by : (found : Option MemberId) → FindsOn (RunsFor classes m) (superclasses classes receiver) found
        → IsUnlessAbstract classes found (Some target) → (method : MethodRecord) × MethodIs classes target method
    by None f e = absurd cc
    by (Some n) f (inl e) = (let never : Some target ≡ None = e.1 in absurd cc)
    by (Some n) f (inr e) =
        subst (λ (x : MemberId). (method : MethodRecord) × MethodIs classes x method) (sym (same_Some target n e.1))
        (f.member.suits.other_method, f.member.suits.other_is)
