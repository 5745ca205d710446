-- The method that a call names: the domain knows its class, and what the rules of loading say of it.
use Rattle.std.proofs.Common.{inl, inr, ◌≡◌, ◌≢◌, IsTrue, List, Contains, Some, sym, ap, subst, ◌∙◌, arith}
use Rattle.std.specs.Prelude.{IsFalse}
use Rattle.std.proofs.lemmas.Option.{same_Some}
use Rattle.list_lemmas.proofs.ItemsOfLists.{Contains-at}
use Rattle.jk_model.specs.Flags.{has, ABSTRACT, STATIC}
use Rattle.jk_model.specs.declared.identifiers.ClassId.{ClassId}
use Rattle.jk_model.specs.declared.identifiers.MemberId.{MemberId}
use Rattle.jk_model.specs.declared.instructions.Instr.{Instr}
use Rattle.jk_model.specs.declared.opcodes.TheConstants.{INVOKEINTERFACE, INVOKESPECIAL}
use Rattle.jk_model_classes.specs.declared.records.ClassRecord.{ClassRecord}
use Rattle.jk_model_classes.specs.declared.records.Link.{Link}
use Rattle.jk_model_classes.specs.declared.records.Link.TheVariants as To
use Rattle.jk_model_classes.specs.declared.records.MethodRecord.{MethodRecord}
use Rattle.jk_model_classes.specs.Classes.{IsInterface, IsSubclass, OBJECT, method_walk, record_of}
use Rattle.jk_model_classes.specs.Lookups.{MethodIs}
use Rattle.jk_model_classes.specs.Members.{CLINIT}
use Rattle.jk_model_classes.specs.Worlds.{IsNamed}
use Rattle.jk_model_sound_classes.specs.SoundClasses.{KnowsAround}
use Rattle.jk_model_typing.specs.Scopes.{CodeScope, LeadsToLink}
use Rattle.jk_model_heaps.specs.RunningCode.{NamesMethod, RunsCode}
use Rattle.jk_model_heaps.specs.Workings.{Setting, Working}
use Rattle.jk_model_sealing.specs.SealedInsides.{Surroundings}
use Rattle.jk_model_sealing.specs.SealedRuns.{KnowsClassOf}
use Rattle.heap_laws.specs.RunningFrames.{RunsWell}
use Rattle.heap_laws.specs.NamedWell.{NamesWell, calls_method, calls_object}
use Rattle.heap_laws.specs.SoundCodes.{AreSoundCodes}
use Rattle.row_laws.proofs.WaysUp.{concrete_in_class, found_from_class, found_from_interface}

module _ (around : Surroundings) (x : Setting) (w : Working) (runs : RunsWell around x w) (code : RunsCode around.classes w.frame) where
  abbrev s : CodeScope
  s = code.scope

  abbrev i : Instr
  i = code.instr

  sound : AreSoundCodes around.classes
  sound = runs.setting.codes

  abbrev all : s.classes ≡ around.classes
  all = code.is_scope.all

  pub well : NamesWell s i
  well = sound.names code.method s i code.is_scope (Contains-at s.code.instrs w.frame.head.at i code.stands)

  pub self_named : IsNamed around.table s.self
  self_named =
      subst (IsNamed around.table) (sym code.is_scope.self) (subst (KnowsClassOf around.table) code.is_method runs.at_home.0)

  abbrev own : (r : ClassRecord) × (record_of around.classes code.method.class ≡ Some r) × KnowsAround around.table r
  own = runs.setting.table.closed code.method.class (subst (KnowsClassOf around.table) code.is_method runs.at_home.0)

  module _ (class : ClassId) (found : MemberId) (leads : LeadsToLink s i (To.Method class found)) where
    in_links : Contains own.0.links (To.Method class found)
    in_links =
        let one : code.is_scope.class ≡ own.0 = same_Some code.is_scope.class own.0 (sym code.is_scope.class_is ∙ own.1) in
        let links : s.links ≡ own.0.links = code.is_scope.links ∙ ap (λ (r : ClassRecord). r.links) one in
        subst (λ (ls : List Link). Contains ls (To.Method class found)) links (Contains-at s.links leads.0 (To.Method class found) leads.2)

    pub found_named : IsNamed around.table found.class
    found_named = own.2.methods class found in_links

    walk : Contains (method_walk around.classes class) found.class
    walk = sound.found_methods code.method.class class own.0 found own.1 in_links

    module _ (method : MethodRecord) (is : MethodIs s.classes found method) where
      abbrev names : NamesMethod s i found method
      names = (class, leads, is)

      pub is_here : MethodIs around.classes found method
      is_here = subst (λ (classes : List ClassRecord). MethodIs classes found method) all is

      pub no_initialiser : IsTrue (calls_method i.op) → method.name ≢ CLINIT
      no_initialiser calls = well.no_initialiser_call found method calls names

      -- ---- invokespecial.

      pub special_concrete : i.op ≡ INVOKESPECIAL → IsFalse (has method.flags ABSTRACT)
      special_concrete op = well.concrete_method found method op names

      pub special_dynamic : i.op ≡ INVOKESPECIAL → IsFalse (has method.flags STATIC)
      special_dynamic op = well.object_method found method (ap calls_object op) names

      pub special_in_class : i.op ≡ INVOKESPECIAL → IsInterface around.classes found.class → ⊥
      special_in_class op =
          concrete_in_class around.classes sound found method is_here (no_initialiser (ap calls_method op)) (special_concrete op)

      -- the class that is named stands below the method's
      pub special_found : i.op ≡ INVOKESPECIAL → IsSubclass around.classes class found.class
      special_found op =
          let class_named : IsInterface around.classes class → ⊥ =
          subst (λ (classes : List ClassRecord). IsInterface classes class → ⊥) all
          (well.class_call class found (ap calls_method op) (λ e. let both : 0xb7 ≡ 0xb9 = sym op ∙ e in omega (arith, both)) leads) in
          elim (found_from_class around.classes sound class found.class class_named walk) [
            | inl above ↦ above
            | inr interface ↦ absurd (special_in_class op interface)
          ]

    -- ---- invokeinterface.

    pub interface_found : i.op ≡ INVOKEINTERFACE → found.class ≢ OBJECT → IsInterface around.classes found.class
    interface_found op other =
        let named : IsInterface around.classes class =
        subst (λ (classes : List ClassRecord). IsInterface classes class) all (well.interface_call class found op leads) in
        elim (found_from_interface around.classes sound class found.class named walk) [
          | inl interface ↦ interface
          | inr object ↦ absurd (other object)
        ]
