-- Marks of leaders while they are made: they only grow, and say which instructions and catch entries were looked at.
use Rattle.std.specs.Prelude.{◌≡◌, ℕ, suc, ◌<◌, ◌⊎◌, Bool, pos, List, length}
use Rattle.jk_model.specs.declared.instructions.Instr.{Instr}
use Rattle.jk_model.specs.declared.opcodes.TheConstants.{NEW, INVOKESPECIAL}
use Rattle.jk_model_classes.specs.declared.records.Caught.{Caught}
use Rattle.jk_model_classes.specs.MemberCode.{LeadsTo}
use Rattle.type_verifier.specs.Leaders.{Leads}

-- as many places, and what was marked still is
pub record KeepsMarks (old new : List Bool) : Type 0 where
  pub as_many : length new ≡ length old
  pub kept : (place : ℕ) → Leads old place → Leads new place

-- a place is marked, where it is one
abbrev pub IsMarked : List Bool → ℕ → Type 0
IsMarked leads place = place < length leads → Leads leads place

-- all places are marked to which this instruction leads, and the next one where that is to be
pub record IsInstrMarked (leads : List Bool) (place : ℕ) (i : Instr) : Type 0 where
  pub targets : (next : ℕ) → LeadsTo i (pos next) → IsMarked leads next
  pub calls : (i.op ≡ NEW) ⊎ (i.op ≡ INVOKESPECIAL) → IsMarked leads (suc place)

-- the handler of a catch entry is marked, and where the entry begins to cover and ends to
pub record IsEntryMarked (leads : List Bool) (h : Caught) : Type 0 where
  pub handler : IsMarked leads h.handler
  pub start : IsMarked leads h.start
  pub end : IsMarked leads h.end
