-- Codes that break no rule, and the places of their instructions.
use Rattle.std.specs.Prelude.{◌≡◌, ◌≢◌, ℕ, ◌<◌, ◌^◌, ℤ, pos, List, length, Some, slice_get}
use Rattle.jk_model.specs.declared.class_file.PoolEntry.{PoolEntry}
use Rattle.jk_model.specs.declared.class_file.Code.{Code}
use Rattle.jk_model.specs.declared.class_file.Handler.{Handler}
use Rattle.jk_model.specs.declared.instructions.Instr.{Instr}
use Rattle.jk_model.specs.Instructions.{Decodes, FloatOpcode, Subroutine, Monitor}
use Rattle.jk_model_classes.specs.ClassNames.{NamesClass}
use Rattle.jk_model_classes.specs.Items.{HasItem}
use Rattle.jk_model_classes.specs.MemberCode.{HasInstr, IsGoodHandler, IsUndecodable, LeadsNowhere, LeadsTo, Shows}
use Rattle.jk_model_folders.specs.LinkedClasses.{IsPlaceOf}

-- no fault shows in it
pub record IsDecodable (code : Code) : Type 0 where
  pub short : length code.code < 2 ^ 16
  pub decodes : IsUndecodable code → ⊥
  pub float : Shows FloatOpcode code → ⊥
  pub subroutine : Shows Subroutine code → ⊥
  pub monitor : Shows Monitor code → ⊥

-- nor does it lead to where no instruction begins
pub record IsGoodCode (pool : List PoolEntry) (code : Code) : Type 0 where
  pub decodable : IsDecodable code
  pub targets : HasInstr (LeadsNowhere code) code → ⊥
  pub handlers : (instrs : List Instr) → Decodes code.code instrs → HasItem (λ (h : Handler). IsGoodHandler pool code h → ⊥) code.handlers → ⊥

-- the code is these instructions, and no others
pub record IsReading (code : Code) (instrs : List Instr) : Type 0 where
  pub decodes : Decodes code.code instrs
  pub only : (others : List Instr) → Decodes code.code others → instrs ≡ others

-- ---- Places.

-- each instruction begins after those before it
pub record AreInOrder (instrs : List Instr) : Type 0 where
  pub few : length instrs < 2 ^ 31
  pub rising : (j k : ℕ) (a b : Instr) → j < k → slice_get instrs j ≡ Some a → slice_get instrs k ≡ Some b → a.at < b.at

-- an instruction can't but begin at this byte
abbrev pub HasPlace : List Instr → ℤ → Type 0
HasPlace instrs at = ((n : ℕ) → IsPlaceOf instrs at n → ⊥) → ⊥

-- where it may go on, instructions begin
abbrev pub LeadsWithin : List Instr → Instr → Type 0
LeadsWithin instrs instr = (place : ℤ) → LeadsTo instr place → HasPlace instrs place

abbrev pub LeadWithin : List Instr → Type 0
LeadWithin instrs = (k : ℕ) (instr : Instr) → slice_get instrs k ≡ Some instr → LeadsWithin instrs instr

-- ---- Catch entries.

-- an instruction can't but begin there, unless it is the code's end
abbrev pub HasEnd : Code → List Instr → ℕ → Type 0
HasEnd code instrs end = (end ≢ length code.code) → HasPlace instrs (pos end)

pub record HasPlaces (pool : List PoolEntry) (code : Code) (instrs : List Instr) (h : Handler) : Type 0 where
  pub start : HasPlace instrs (pos h.start)
  pub end : HasEnd code instrs h.end
  pub handler : HasPlace instrs (pos h.handler)
  pub catch : h.catch ≢ 0 → (NamesClass pool h.catch → ⊥) → ⊥
