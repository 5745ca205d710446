-- What `add_domain` is to open, what a `domain` event does, why a folder isn't opened, and the line of each answer. The written rules on folders come
-- first. Of a folder that breaks none it is asked whether there is room (L3), whether numbers are left for its capabilities (L4), and whether there are
-- too many domains (L8), in this order.
use Rattle.std.specs.Prelude.{⊤, ℕ, List, [], ◌∷◌, Option, Some, None}
use Rattle.jk_model.specs.declared.output.Line.{Line}
use Rattle.jk_model.specs.declared.output.Line.TheVariants as Says
use Rattle.jk_model.specs.declared.output.Place.{Place}
use Rattle.jk_model.specs.declared.output.Place.TheVariants.{Whole}
use Rattle.jk_model.specs.declared.output.Rule.{Rule}
use Rattle.jk_model.specs.declared.output.Rule.TheVariants.{L3, L4, L8}
use Rattle.jk_model.specs.declared.script.Quotas.{Quotas}
use Rattle.jk_model.specs.Outside.{Tree, ◌/-◌}
use Rattle.jk_model_folders.specs.declared.files.FolderFiles.{FolderFiles}
use Rattle.jk_model_folders.specs.FolderTrees.{AreFiles, AreToldFiles}
use Rattle.jk_model_machine_state.specs.Machines.{Machine, caps_of, world_of}
use Rattle.jk_model_openings.specs.Openings.{HasManyDomains, IsAccepted, LacksPages, OpensWith}
use Rattle.jk_model_sharing.specs.CapabilityCalls.{LacksNumbers}
use Rattle.machine_laws.specs.MachinesOfRuns.{OpensFrom}
use Rattle.kernel_openings.specs.declared.answers.AddAnswer.{AddAnswer}
use Rattle.kernel_openings.specs.declared.answers.AddAnswer.TheVariants as Adding
use Rattle.kernel_openings.specs.FolderEvents.{IsRefusedFolder}

-- what is to be opened: the folder of a name below a root, with quotas
pub record Opening : Type 0 where
  pub tree : Option Tree
  pub root : List ℕ
  pub name : List ℕ
  pub quotas : Quotas

-- files that break no rule, in a told tree those of the folder that stands there
pub record HasAccepted (o : Opening) (m : Machine) : Type 0 where
  pub files : FolderFiles
  pub are_files : AreFiles files
  pub are_told : AreToldFiles o.tree (o.root /- o.name) files
  pub accepted : IsAccepted files m o.name

-- why the folder isn't opened; what the last two answers have for their causes isn't a matter of the machine
abbrev pub IsCauseOf : Opening → Machine → AddAnswer → Type 0
IsCauseOf o m (Adding.Refused rule place) = IsRefusedFolder o.tree o.root (world_of m) o.name rule place
IsCauseOf o m Adding.NoRoom = HasAccepted o m × LacksPages m o.quotas
IsCauseOf o m Adding.CapNumbers = HasAccepted o m × (LacksPages m o.quotas → ⊥) × LacksNumbers (caps_of m) o.quotas.caps
IsCauseOf o m Adding.TooManyDomains =
    HasAccepted o m × (LacksPages m o.quotas → ⊥) × (LacksNumbers (caps_of m) o.quotas.caps → ⊥) × HasManyDomains m
IsCauseOf o m Adding.ReadFault = ⊤
IsCauseOf o m Adding.OutOfMemory = ⊤

-- an answer that says what is lacking
abbrev pub IsLacking : AddAnswer → Type 0
IsLacking Adding.NoRoom = ⊤
IsLacking Adding.CapNumbers = ⊤
IsLacking Adding.TooManyDomains = ⊤
IsLacking e = ⊥

-- The event: a rule is broken, or none is.
pub data AddsDomain (o : Opening) (m : Machine) : List Line → Machine → Type 0 where
  breaks : (rule : Rule) (place : Place) → IsRefusedFolder o.tree o.root (world_of m) o.name rule place
      → AddsDomain o m (Says.Refused o.name rule place ∷ []) m
  opens : (a : HasAccepted o m) (lines : List Line) (new : Machine) → OpensWith a.files m o.name o.quotas lines new → AddsDomain o m lines new

-- a domain is opened from accepted files
abbrev pub OpensAccepted : Machine → List ℕ → Quotas → Machine → Type 0
OpensAccepted m name quotas new = (f : FolderFiles) × AreFiles f × OpensFrom f m name quotas new

-- the line of an answer; none where the run stops
abbrev pub line_of : List ℕ → AddAnswer → Option Line
line_of name (Adding.Refused rule place) = Some (Says.Refused name rule place)
line_of name Adding.NoRoom = Some (Says.Refused name L3 Whole)
line_of name Adding.CapNumbers = Some (Says.Refused name L4 Whole)
line_of name Adding.TooManyDomains = Some (Says.Refused name L8 Whole)
line_of name Adding.ReadFault = None
line_of name Adding.OutOfMemory = None
