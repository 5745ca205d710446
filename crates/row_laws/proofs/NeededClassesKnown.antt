-- The class that a frame needs is among the names of its domain, and so is the parent of a class that is.
use Rattle.std.proofs.Common.{◌≡◌, inl, inr, List, Contains, Some, sym, ap, subst, ◌∙◌}
use Rattle.std.proofs.lemmas.Option.{same_Some}
use Rattle.list_lemmas.proofs.ItemsOfLists.{Contains-at}
use Rattle.jk_model.specs.declared.identifiers.ClassId.{ClassId}
use Rattle.jk_model_classes.specs.declared.records.BaseRef.TheVariants as Base
use Rattle.jk_model_classes.specs.declared.records.ClassRecord.{ClassRecord}
use Rattle.jk_model_classes.specs.declared.records.Link.{Link}
use Rattle.jk_model_classes.specs.declared.records.Link.TheVariants as To
use Rattle.jk_model_classes.specs.Classes.{record_of}
use Rattle.jk_model_classes.specs.Worlds.{IsNamed, NamedClass}
use Rattle.jk_model_typing.specs.FrameTypes.{array_type}
use Rattle.jk_model_typing.specs.Scopes.{LeadsToLink}
use Rattle.jk_model_frames.specs.Frames.{FrameState}
use Rattle.jk_model_heaps.specs.RunningCode.{InstrNeeds, RunsCode}
use Rattle.jk_model_running.specs.Initialising.{FrameNeeds}
use Rattle.jk_model_sealing.specs.SealedRuns.{IsAtHome, IsKnownClass, KnowsClassOf}
use Rattle.jk_model_sound_classes.specs.SoundClasses.{IsClosedTable, KnowsAround}

module _ (classes : List ClassRecord) (table : List NamedClass) (closed : IsClosedTable classes table) where
  pub parent_known : (c p : ClassId) (r : ClassRecord) → IsNamed table c → record_of classes c ≡ Some r → r.parent ≡ Some p → IsNamed table p
  parent_known c p r named is parent =
      let at = closed c named in
      let same : at.0 ≡ r = same_Some at.0 r (sym at.1 ∙ is) in
      at.2.parent p (ap (λ (x : ClassRecord). x.parent) same ∙ parent)

  module _ (f : FrameState) (home : IsAtHome table f) (code : RunsCode classes f) where
    -- the class whose code it is
    own_class : (r : ClassRecord) × (code.scope.links ≡ r.links) × KnowsAround table r
    own_class =
        let named : KnowsClassOf table (Some code.method) = subst (KnowsClassOf table) code.is_method home.0 in
        let at = closed code.method.class named in
        let same : code.is_scope.class ≡ at.0 = same_Some code.is_scope.class at.0 (sym code.is_scope.class_is ∙ at.1) in
        (at.0, code.is_scope.links ∙ ap (λ (r : ClassRecord). r.links) same, at.2)

    has_link : (link : Link) → LeadsToLink code.scope code.instr link → Contains own_class.0.links link
    has_link link leads =
        subst (λ (links : List Link). Contains links link) own_class.1 (Contains-at code.scope.links leads.0 link leads.2)

    instr_known : (class : ClassId) → InstrNeeds code.scope code.instr class → IsNamed table class
    instr_known class (inl h) =
        subst (IsNamed table) (sym h.1.3) (own_class.2.fields h.1.0 h.1.1 (has_link (To.Field h.1.0 h.1.1) h.1.2))
    instr_known class (inr (inl h)) =
        subst (IsNamed table) (sym h.1.3) (own_class.2.methods h.1.0 h.1.1 (has_link (To.Method h.1.0 h.1.1) h.1.2))
    instr_known class (inr (inr h)) =
        own_class.2.classes (array_type 0 (Base.Class class)) (has_link (To.Class (array_type 0 (Base.Class class))) h.1)

  pub needs_known : (f : FrameState) (class : ClassId) → IsAtHome table f → FrameNeeds classes f class → IsNamed table class
  needs_known f class home (inl e) = subst (IsKnownClass table) e home.1
  needs_known f class home (inr h) = instr_known f home h.1.0 class h.1.1
