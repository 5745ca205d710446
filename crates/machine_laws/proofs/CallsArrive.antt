-- A call through a capability enters the domain of its owner: the target is there, and a frame of its method begins well with what it is given.
use Rattle.std.proofs.Common.{◌≡◌, ℕ, ◌-◌, ◌≤◌, inl, inr, false, List, [], ◌∷◌, length, map, find, Contains, Option, Some, None, slice_get, refl, sym, ap, subst, ◌∙◌}
use Rattle.std.specs.List.{AllByRecursion}
use Rattle.std.specs.Option.{option_and_then}
use Rattle.std.specs.Prelude.{IsFalse}
use Rattle.std.proofs.lemmas.Option.{same_Some}
use Rattle.jk_model.specs.Flags.{has, STATIC}
use Rattle.jk_model.specs.declared.identifiers.CapId.{CapId}
use Rattle.jk_model.specs.declared.identifiers.ClassId.{ClassId}
use Rattle.jk_model.specs.declared.identifiers.DomainId.{DomainId}
use Rattle.jk_model.specs.declared.identifiers.ThreadNo.{ThreadNo}
use Rattle.jk_model.specs.declared.values.Value.{Value}
use Rattle.jk_model.specs.declared.values.Value.TheVariants as Held
use Rattle.jk_model_classes.specs.declared.records.ClassRecord.{ClassRecord}
use Rattle.jk_model_classes.specs.declared.records.MethodRecord.{MethodRecord}
use Rattle.jk_model_classes.specs.declared.records.TypeRef.{TypeRef}
use Rattle.jk_model_classes.specs.Classes.{IsSubclass, record_of}
use Rattle.jk_model_classes.specs.Worlds.{IsNamed, NamedClass}
use Rattle.jk_model_domains.specs.Objects.{NamedObject, Plain}
use Rattle.jk_model_domains.specs.OwnStates.{zero_of}
use Rattle.jk_model_frames.specs.Frames.{FrameState, called_frame, locals_of}
use Rattle.jk_model_graphs.specs.Copies.{EachCorresponds, IsCopy}
use Rattle.jk_model_graphs.specs.Reach.{Graph}
use Rattle.jk_model_heaps.specs.CalledFrames.{call_head}
use Rattle.jk_model_heaps.specs.Capabilities.{CapRange, Capability, OwnedCapability, capability_in, capability_numbered, has_number}
use Rattle.jk_model_heaps.specs.Instances.{RunsAs}
use Rattle.jk_model_heaps.specs.Workings.{Inside, Setting}
use Rattle.jk_model_sealing.specs.FittingFrames.{FitsAsTop}
use Rattle.jk_model_sealing.specs.SealedInsides.{IsKnownValue, IsOfClass, IsSealedInside, Surroundings}
use Rattle.jk_model_sealing.specs.SealedRuns.{AreSealedFrames}
use Rattle.jk_model_machine_state.specs.Machines.{DomainState, Machine, caps_of}
use Rattle.jk_model_machine_state.specs.Places.{LiveDomain}
use Rattle.jk_model_crossings.specs.RemoteCalls.{HasTarget, IsLive, RemoteCall}
use Rattle.jk_model_machine_state.specs.Places.{setting_of}
use Rattle.jk_model_runs.specs.Sealed.{IsSealed, surroundings}
use Rattle.list_lemmas.proofs.FoundItems.{Finds, finds}
use Rattle.list_lemmas.proofs.ItemsByPlace.{comes_from}
use Rattle.list_lemmas.proofs.ItemsOfLists.{Contains-at, Contains-none}
use Rattle.list_lemmas.proofs.LastItems.{each-append}
use Rattle.list_lemmas.proofs.TestsAndOrders.{mapped_option}
use Rattle.sound_folders.proofs.WalksWithin.{StandsWithin, field_walk-within}
use Rattle.class_lemmas.proofs.OneRecord.{one_method}
use Rattle.heap_laws.proofs.CopiesFit.{copied_values_fit}
use Rattle.heap_laws.proofs.NewObjects.{zero_fits}
use Rattle.heap_laws.specs.FittingOutcomes.{AreOfTypes}
use Rattle.heap_laws.specs.RunningFrames.{IsKnownSetting}
use Rattle.row_laws.specs.CallOperands.{BeginMethod}
use Rattle.row_laws.proofs.BegunMethods.{called_fits, given_fits, has_room}
use Rattle.row_laws.proofs.ClassesOfReceivers.{receiver_known}
use Rattle.row_laws.proofs.NamesStayKnown.{unset-known}
use Rattle.row_laws.proofs.SelectedMethods.{RunsAlike, runs_alike}
use Rattle.row_laws.proofs.RowsKeep.{locals_known}
use Rattle.machine_laws.specs.SoundMachines.{HasSoundClasses}

-- ---- The target.

-- of a capability that isn't revoked, whose owner lives, the target is in the owner's heap, of the class that the capability says
pub target_there : (m : Machine) → IsSealed m → (k : CapId) (known : OwnedCapability) → capability_numbered (caps_of m) k ≡ Some known
    → known.capability.revoked ≡ false → (owner : LiveDomain m known.owner)
    → IsOfClass owner.inside.heap known.capability.target known.capability.class
target_there m sealed k known is live owner = by (find (has_number k) (caps_of m)) (finds (has_number k) (caps_of m)) is
  where
    at_range : (i : ℕ) (r : CapRange) → slice_get (caps_of m) i ≡ Some r → capability_in k r ≡ Some known
        → IsOfClass owner.inside.heap known.capability.target known.capability.class
    at_range i r at e =
        let from = comes_from (λ (d : DomainState). d.caps) m.domains i r at in
        let c = mapped_option (λ (a : Capability). record { owner = r.owner; capability = a }) (slice_get r.made (k.0 - r.first)) known e in
        let on = Contains-at m.domains i from.from from.there in
        let made : Contains from.from.caps.made c.0 =
        subst (λ (x : CapRange). Contains x.made c.0) (sym from.gives) (Contains-at r.made (k.0 - r.first) c.0 c.1) in
        let capability : c.0 ≡ known.capability = ap (λ (x : OwnedCapability). x.capability) c.2 in
        let target = sealed.capabilities.targets from.from c.0 on made (ap (λ (x : Capability). x.revoked) capability ∙ live) in
        let owned : from.from.number ≡ known.owner =
        sym (sealed.capabilities.owner from.from on) ∙ ap (λ (x : CapRange). x.owner) from.gives
        ∙ ap (λ (x : OwnedCapability). x.owner) c.2 in
        let place : i ≡ known.owner.0 = sym (sealed.domains.numbered i from.from from.there) ∙ ap (λ (n : DomainId). n.0) owned in
        let one : from.from ≡ owner.domain =
        same_Some from.from owner.domain (sym from.there ∙ ap (slice_get m.domains) place ∙ owner.is_domain) in
        let inside : target.0 ≡ owner.inside =
        same_Some target.0 owner.inside (sym target.1 ∙ ap (λ (x : DomainState). x.inside) one ∙ owner.is_inside) in
        subst (λ (a : Capability). IsOfClass owner.inside.heap a.target a.class) capability
        (subst (λ (x : Inside). IsOfClass x.heap c.0.target c.0.class) inside target.2)

    by : (o : Option CapRange) → Finds (has_number k) (caps_of m) o → option_and_then (capability_in k) o ≡ Some known
        → IsOfClass owner.inside.heap known.capability.target known.capability.class
    by None h e = absurd cc
    by (Some r) h e = at_range h.0 r h.1 e

-- ---- Values.

-- copies are of the types that their sources are of
pub copies_of_types : (classes : List ClassRecord) (giver taker : List NamedClass) (caps : List CapRange) (source : Graph) (before : List NamedObject)
    (copy : Graph) (pairs : List (ℕ × ℕ)) → IsCopy classes source before copy pairs → (ts : List TypeRef) (vs ws : List Value)
    → EachCorresponds pairs vs ws → AllByRecursion (IsKnownValue caps copy.heap) ws
    → AreOfTypes (record { classes = classes; table = giver; caps = caps }) source.heap ts vs
    → AreOfTypes (record { classes = classes; table = taker; caps = caps }) copy.heap ts ws
copies_of_types classes giver taker caps source before copy pairs is [] [] [] e k h = tt
copies_of_types classes giver taker caps source before copy pairs is [] [] (w ∷ ws) e k h = absurd e
copies_of_types classes giver taker caps source before copy pairs is [] (v ∷ vs) ws e k h = absurd h
copies_of_types classes giver taker caps source before copy pairs is (t ∷ ts) [] ws e k h = absurd h
copies_of_types classes giver taker caps source before copy pairs is (t ∷ ts) (v ∷ vs) [] e k h = absurd e
copies_of_types classes giver taker caps source before copy pairs is (t ∷ ts) (v ∷ vs) (w ∷ ws) e k h = (
  (copied_values_fit classes source before copy pairs v w t is e.0 h.0.0, k.0),
  copies_of_types classes giver taker caps source before copy pairs is ts vs ws e.1 k.1 h.1,
)

pub zeros_of_types : (around : Surroundings) (heap : List NamedObject) (ts : List TypeRef) → AreOfTypes around heap ts (map zero_of ts)
zeros_of_types around heap [] = tt
zeros_of_types around heap (t ∷ ts) = (zero_fits around heap t, zeros_of_types around heap ts)

types_known : (around : Surroundings) (heap : List NamedObject) (ts : List TypeRef) (vs : List Value) → AreOfTypes around heap ts vs
    → AllByRecursion (IsKnownValue around.caps heap) vs
types_known around heap [] [] h = tt
types_known around heap [] (v ∷ vs) h = absurd h
types_known around heap (t ∷ ts) [] h = absurd h
types_known around heap (t ∷ ts) (v ∷ vs) h = (h.0.1, types_known around heap ts vs h.1)

-- ---- The frame that begins.

module _ (m : Machine) (sealed : IsSealed m) (sound : HasSoundClasses m) {t : ThreadNo} (c : RemoteCall m t) (h : HasTarget c) where
  abbrev live : IsLive c
  live = h.is_shown.live

  abbrev owner : LiveDomain m c.known.owner
  owner = live.owner

  abbrev around : Surroundings
  around = surroundings m owner.domain

  owner_on : Contains m.domains owner.domain
  owner_on = Contains-at m.domains c.known.owner.0 owner.domain owner.is_domain

  setting : Setting
  setting = record (setting_of c.place) { quota = owner.domain.quotas.heap }

  knows : IsKnownSetting around setting
  unfolding setting
  knows = record {
    classes = refl;
    ranges = refl;
    stand_ins = λ s i there none lists. absurd (Contains-none s there);
    codes = sound.codes;
    table = sound.tables owner.domain owner_on;
  }

  inside_sealed : IsSealedInside around owner.domain.quotas.heap owner.inside
  inside_sealed = sealed.domains.insides owner.domain owner.inside owner_on owner.is_inside

  there : IsOfClass owner.inside.heap c.known.capability.target c.known.capability.class
  there = target_there m sealed c.capability c.known c.is_known live.unrevoked owner

  runs : (heap : List NamedObject) → IsOfClass heap c.known.capability.target c.known.capability.class
      → RunsAs heap (Held.Obj c.known.capability.target) c.known.capability.class
  runs heap is = (Plain c.known.capability.class is.0, is.1, refl)

  class_named : IsNamed owner.domain.table c.known.capability.class
  class_named =
      receiver_known around (sound.tables owner.domain owner_on) owner.domain.quotas.heap owner.inside inside_sealed
      (Held.Obj c.known.capability.target) c.known.capability.class (runs owner.inside.heap there)

  stands_around : (k : ClassId) → IsNamed owner.domain.table k → (r : ClassRecord) → record_of m.classes k ≡ Some r
      → StandsWithin (IsNamed owner.domain.table) r
  stands_around k knows_k r at =
      let closed = (sound.tables owner.domain owner_on).closed k knows_k in
      subst (StandsWithin (IsNamed owner.domain.table)) (same_Some closed.0 r (sym closed.1 ∙ at))
      (record { parent = closed.2.parent; interfaces = closed.2.interfaces })

  method_named : IsNamed owner.domain.table c.method.class
  method_named =
      field_walk-within (IsNamed owner.domain.table) m.classes stands_around c.known.capability.class c.method.class class_named
      h.is_shown.shown.0.1

  alike : RunsAlike around setting knows c.method c.named c.is_named method_named h.target
      × IsSubclass m.classes c.known.capability.class h.target.class
  alike = runs_alike around setting knows c.method c.named c.is_named method_named c.known.capability.class h.target class_named h.selected

  method_is : alike.0.other ≡ h.target_method
  method_is = one_method m.classes h.target alike.0.other h.target_method alike.0.is_other h.is_target

  dynamic : IsFalse (has h.target_method.flags STATIC)
  dynamic = subst (λ (x : MethodRecord). IsFalse (has x.flags STATIC)) method_is alike.0.dynamic

  params_same : h.target_method.params ≡ c.named.params
  params_same = ap (λ (x : MethodRecord). x.params) (sym method_is) ∙ alike.0.params

  pub result_same : h.target_method.result ≡ c.named.result
  result_same = ap (λ (x : MethodRecord). x.result) (sym method_is) ∙ alike.0.result

  module _ (heap : List NamedObject) (is : IsOfClass heap c.known.capability.target c.known.capability.class) (values : List Value)
      (typed : AreOfTypes around heap c.named.params values) where
    begins : BeginMethod around heap h.target h.target_method (Held.Obj c.known.capability.target ∷ values)
    begins = (
      dynamic,
      (c.known.capability.class, runs heap is, alike.1),
      subst (λ (ts : List TypeRef). AreOfTypes around heap ts values) (sym params_same) typed,
    )

    pub arguments_fit : length (locals_of (Held.Obj c.known.capability.target ∷ values)) ≤ h.code.max_locals
    arguments_fit =
        let given = Held.Obj c.known.capability.target ∷ values in
        let fits = given_fits around sound.codes heap h.target h.target_method h.code h.is_target h.body given (inr begins) in
        has_room around sound.codes heap h.target h.target_method h.code h.is_target h.body given fits

    abbrev pub begun : FrameState
    begun = called_frame (call_head h.target h.code) (Held.Obj c.known.capability.target ∷ values)

    pub frames_begin : AreSealedFrames around (FitsAsTop m.classes heap) heap (begun ∷ [])
    frames_begin =
        let given = Held.Obj c.known.capability.target ∷ values in
        let fits = given_fits around sound.codes heap h.target h.target_method h.code h.is_target h.body given (inr begins) in
        let room = has_room around sound.codes heap h.target h.target_method h.code h.is_target h.body given fits in
        record {
          fit = called_fits around sound.codes heap h.target h.target_method h.code h.is_target h.body given fits begun (room, refl);
          initialise = (inl (refl, λ none. cc), tt);
          at_home = ((alike.0.class_named, tt, tt), tt);
          known = (
            (
              each-append (IsKnownValue (caps_of m) heap) (locals_of given) _
                  (locals_known (caps_of m) heap given
                  ((Plain c.known.capability.class is.0, is.1), types_known around heap c.named.params values typed))
                  (unset-known (caps_of m) heap _),
              tt,
            ),
            tt,
          );
        }

  pub target_is : IsOfClass owner.inside.heap c.known.capability.target c.known.capability.class
  target_is = there
