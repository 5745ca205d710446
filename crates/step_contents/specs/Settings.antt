-- The setting in which an instruction runs, from the contents of the stores and what domains share.
use Rattle.std.specs.Prelude.{◌≡◌, ◌↔◌, List, Contains, Some, None}
use Rattle.jk_model_classes.specs.declared.records.ClassRecord.{ClassRecord}
use Rattle.jk_model_classes.specs.declared.sharing.Stub.{Stub}
use Rattle.jk_model_classes.specs.Classes.{record_of}
use Rattle.jk_model_classes.specs.Worlds.{DomainRecord, domain_of}
use Rattle.jk_model_heaps.specs.Capabilities.{KnownCapabilities}
use Rattle.jk_model_heaps.specs.Workings.{Setting}
use Rattle.jk_model_sharing.specs.SharedStates.{SharedState, caps_of}
use Rattle.frame_store.specs.FrameContents.{free_chunks}
use Rattle.step_contents.specs.Contents.{Contents, Here}

-- These are the stubs of classes that aren't there. In a machine there are none.
abbrev pub AreStandIns : List ClassRecord → List Stub → List Stub → Type 0
AreStandIns classes stubs stand_ins = (s : Stub) → record_of classes s.class ≡ None → Contains stubs s ↔ Contains stand_ins s

-- what is known of capabilities where domains share this
pub record AreKnown (classes : List ClassRecord) (shared : SharedState) (caps : KnownCapabilities) : Type 0 where
  pub ranges : caps.ranges ≡ caps_of shared
  pub stand_ins : AreStandIns classes shared.stubs caps.stand_ins

-- Of a setting all is determined but how stand-ins are listed.
pub record IsSetting (c : Contents) (here : Here) (x : Setting) : Type 0 where
  pub classes : x.classes ≡ here.world.classes
  pub caps : AreKnown here.world.classes here.shared x.caps
  pub names : DomainRecord
  pub is_domain : domain_of here.world here.domain ≡ Some names
  pub name : x.name ≡ names.name
  pub segment : x.segment ≡ here.segment
  -- how many words the heap may have, and how many chunks are free as the step begins
  pub quota : c.heaps.quota here.domain ≡ Some x.quota
  pub chunks : x.chunks ≡ free_chunks c.frames here.domain
