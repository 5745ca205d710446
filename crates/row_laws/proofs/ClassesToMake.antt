-- The classes that instructions name are known to the domain, and those of which new makes objects are no texts, tasks or capabilities, and
-- no interfaces of the system.
use Rattle.std.proofs.Common.{◌≡◌, ◌≢◌, ◌≤◌, ℕ, Bool, true, not, List, Contains, Some, slice_get, refl, sym, subst, ◌∙◌, arith}
use Rattle.std.specs.Prelude.{IsFalse, bytes_eq}
use Rattle.std.specs.List.{list_all}
use Rattle.std.proofs.lemmas.Bool.{both_ways}
use Rattle.std.proofs.lemmas.Option.{same_Some, slice_get_within}
use Rattle.std.proofs.lemmas.Slice.Eq.{bytes_eq-Decides}
use Rattle.list_lemmas.proofs.ItemsByPlace.{item_there}
use Rattle.list_lemmas.proofs.ItemsOfLists.{Contains-at, passed_at, place_of}
use Rattle.list_lemmas.proofs.TestsAndOrders.{so_not}
use Rattle.jk_model.specs.Flags.{has, INTERFACE}
use Rattle.jk_model.specs.SystemTable.{SystemClass, SystemMethod, system_classes}
use Rattle.jk_model.specs.declared.identifiers.ClassId.{ClassId}
use Rattle.jk_model.specs.declared.opcodes.TheConstants.{NEW}
use Rattle.jk_model_classes.specs.declared.records.BaseRef.{BaseRef}
use Rattle.jk_model_classes.specs.declared.records.BaseRef.TheVariants as Base
use Rattle.jk_model_classes.specs.declared.records.ClassRecord.{ClassRecord}
use Rattle.jk_model_classes.specs.declared.records.Link.{Link}
use Rattle.jk_model_classes.specs.declared.records.Link.TheVariants as To
use Rattle.jk_model_classes.specs.declared.records.TypeRef.{TypeRef}
use Rattle.jk_model_classes.specs.Members.{INIT}
use Rattle.jk_model_classes.specs.Worlds.{IsNamed, NamedClass}
use Rattle.jk_model_typing.specs.FrameTypes.{STRING}
use Rattle.jk_model_typing.specs.Scopes.{LeadsToLink, NamesClass}
use Rattle.jk_model_domains.specs.Objects.{CAPABILITY, TASK}
use Rattle.jk_model_heaps.specs.RunningCode.{RunsCode}
use Rattle.jk_model_heaps.specs.SystemClasses.{REMOTE}
use Rattle.jk_model_heaps.specs.Workings.{Setting, Working}
use Rattle.jk_model_sealing.specs.SealedInsides.{IsNamedBase, Surroundings}
use Rattle.jk_model_sealing.specs.SealedRuns.{KnowsClassOf}
use Rattle.jk_model_sound_classes.specs.SoundClasses as Closed
use Rattle.heap_laws.specs.RunningFrames.{RunsWell}
use Rattle.heap_laws.specs.NamedWell.{MayBeMade}
use Rattle.heap_laws.specs.SoundCodes.{AreSoundCodes}
use Rattle.system_facts.proofs.SystemEntries.{entry_of}
use Rattle.row_laws.proofs.SystemParents.{numbered}

-- ---- Closed system classes without a constructor aren't made.

abbrev is_no_constructor : SystemMethod → Bool
is_no_constructor m = not (bytes_eq m.name INIT)

module _ (classes : List ClassRecord) (sound : AreSoundCodes classes) where
  not_made : (n : ℕ) (entry : SystemClass) → slice_get system_classes n ≡ Some entry → entry.closed ≡ true
      → list_all is_no_constructor entry.methods ≡ true → MayBeMade classes (numbered n) → ⊥
  not_made n entry listed closed none made =
      let constructor = made.constructed (entry, listed, closed) in
      let said = entry_of classes sound.system (numbered n) entry made.class listed made.is_class in
      let place = place_of made.class.methods constructor.0 constructor.1 in
      let item = item_there entry.methods place.0
      (let low = slice_get_within made.class.methods place.0 constructor.0 place.1 in omega (arith, low, said.method_count)) in
      let name : item.0.name ≡ INIT = sym (said.methods place.0 item.0 constructor.0 item.1 place.1).name ∙ constructor.2 in
      so_not (bytes_eq item.0.name INIT) (passed_at is_no_constructor entry.methods place.0 item.0 none item.1)
      ((bytes_eq-Decides item.0.name INIT).1 name)

  pub made_no_text : (c : ClassId) → MayBeMade classes c → c ≢ STRING
  made_no_text c made is = not_made 3 _ refl refl refl (subst (MayBeMade classes) is made)

  pub made_no_task : (c : ClassId) → MayBeMade classes c → c ≢ TASK
  made_no_task c made is = not_made 14 _ refl refl refl (subst (MayBeMade classes) is made)

  pub made_no_capability : (c : ClassId) → MayBeMade classes c → c ≢ CAPABILITY
  made_no_capability c made is = not_made 11 _ refl refl refl (subst (MayBeMade classes) is made)

  -- nor are interfaces

  interface_not_made : (n : ℕ) (entry : SystemClass) → slice_get system_classes n ≡ Some entry → has entry.flags INTERFACE ≡ true
      → MayBeMade classes (numbered n) → ⊥
  interface_not_made n entry listed interface made =
      let said = entry_of classes sound.system (numbered n) entry made.class listed made.is_class in
      both_ways (has entry.flags INTERFACE) (subst (λ (flags : ℕ). IsFalse (has flags INTERFACE)) said.flags made.no_interface) interface

  pub made_no_remote : (c : ClassId) → MayBeMade classes c → c ≢ REMOTE
  made_no_remote c made is = interface_not_made 10 _ refl refl (subst (MayBeMade classes) is made)

-- ---- What the pool names.

same_base : (table : List NamedClass) (base : BaseRef) → Closed.IsNamedBase table base → IsNamedBase table base
same_base table (Base.Class c) h = h
same_base table base h = tt

module _ (around : Surroundings) (x : Setting) (w : Working) (runs : RunsWell around x w) (code : RunsCode around.classes w.frame) where
  pool_has : (link : Link) → LeadsToLink code.scope code.instr link → Contains code.is_scope.class.links link
  pool_has link leads =
      subst (λ (links : List Link). Contains links link) code.is_scope.links (Contains-at code.scope.links leads.0 link leads.2)

  pub type_known : (t : TypeRef) → LeadsToLink code.scope code.instr (To.Class t) → IsNamedBase around.table t.base
  type_known t leads =
      let named : KnowsClassOf around.table (Some code.method) = subst (KnowsClassOf around.table) code.is_method runs.at_home.0 in
      let at = runs.setting.table.closed code.method.class named in
      let same : code.is_scope.class ≡ at.0 = same_Some code.is_scope.class at.0 (sym code.is_scope.class_is ∙ at.1) in
      same_base around.table t.base
      (at.2.classes t (subst (λ (r : ClassRecord). Contains r.links (To.Class t)) same (pool_has (To.Class t) leads)))

  pub class_known : (c : ClassId) → NamesClass code.scope code.instr c → IsNamed around.table c
  class_known c leads = type_known _ leads

  pub type_short : (t : TypeRef) → LeadsToLink code.scope code.instr (To.Class t) → t.dims ≤ 255
  type_short t leads =
      runs.setting.codes.few_dimensions code.method.class code.is_scope.class t code.is_scope.class_is (pool_has (To.Class t) leads)

  pub new_made : (c : ClassId) → code.instr.op ≡ NEW → NamesClass code.scope code.instr c → MayBeMade around.classes c
  new_made c op names =
      subst (λ (classes : List ClassRecord). MayBeMade classes c) code.is_scope.all
      ((runs.setting.codes.names code.method code.scope code.instr code.is_scope
      (Contains-at code.scope.code.instrs w.frame.head.at code.instr code.stands)).new_object c op names)
