-- Leaders: the places whose frames are kept. At any other place control comes from the line before alone, nothing is done to
-- the locals there but by stores, and the same catch entries cover both. So its frame is what the line before leaves.
use Rattle.std.specs.Prelude.{◌≡◌, ℕ, suc, ◌<◌, ◌⊎◌, ◌↔◌, Bool, true, pos, List, length, Contains, Some, slice_get}
use Rattle.jk_model.specs.declared.instructions.Instr.{Instr}
use Rattle.jk_model.specs.declared.opcodes.TheConstants.{NEW, INVOKESPECIAL}
use Rattle.jk_model_classes.specs.declared.records.Caught.{Caught}
use Rattle.jk_model_classes.specs.declared.records.LinkedCode.{LinkedCode}
use Rattle.jk_model_classes.specs.MemberCode.{LeadsTo}
use Rattle.jk_model_typing.specs.Typing.{Covers}

abbrev pub Leads : List Bool → ℕ → Type 0
Leads leads place = slice_get leads place ≡ Some true

pub record AreLeaders (code : LinkedCode) (leads : List Bool) : Type 0 where
  pub as_many : length leads ≡ length code.instrs
  pub first : 0 < length leads → Leads leads 0
  -- control comes there from a jump or a switch, or to a handler
  pub targets : (place next : ℕ) (i : Instr) → slice_get code.instrs place ≡ Some i → LeadsTo i (pos next) → next < length leads
      → Leads leads next
  pub handlers : (h : Caught) → Contains code.handlers h → h.handler < length leads → Leads leads h.handler
  -- `new` and a constructor's call change locals beside those that they name
  pub calls : (place : ℕ) (i : Instr) → slice_get code.instrs place ≡ Some i → (i.op ≡ NEW) ⊎ (i.op ≡ INVOKESPECIAL)
      → suc place < length leads → Leads leads (suc place)
  -- at any other place the same entries cover as before it
  pub covered : (place : ℕ) (h : Caught) → suc place < length leads → (Leads leads (suc place) → ⊥) → Contains code.handlers h
      → Covers h place ↔ Covers h (suc place)
