-- What the program asks of the files: the script, and for the `domain` events in order the folder of the domain
-- and what stands below it.
use Rattle.std.specs.Prelude.{◌≡◌, ℕ, List, [], ◌∷◌, ◌++◌, Contains, Option}
use Rattle.std.specs.List.{AllByRecursion}
use Rattle.jk_model.specs.declared.output.Line.{Line}
use Rattle.jk_model.specs.declared.output.Line.TheVariants.{Refused}
use Rattle.jk_model.specs.declared.output.Place.TheVariants.{Whole}
use Rattle.jk_model.specs.declared.output.Rule.TheVariants.{L2}
use Rattle.jk_model.specs.declared.script.Event.{Event}
use Rattle.jk_model.specs.declared.script.Event.TheVariants.{Domain, Start, Turn, Round, Kill}
use Rattle.jk_model.specs.Outside.{Ask, BytesOf, ListOf, Tree, ◌/-◌}
use Rattle.jk_model.specs.Script.{MAX_BYTES}
use Rattle.jk_model_folders.specs.FolderRules.{IsLive}
use Rattle.jk_model_folders.specs.FolderTrees.{MOST_ENTRIES}
use Rattle.jk_model_machine_state.specs.Machines.{Machine, world_of}
use Rattle.jk_model_runs.specs.Events.{DomainEvent, IsRun}
use Rattle.folder_reader.specs.AskedOnce.{AsksOnce}
use Rattle.folder_reader.specs.FolderAnswers.{AsksWithin}

-- The script's bytes, at most so many.
abbrev pub ask_for_script : List ℕ → Ask
ask_for_script script = BytesOf script MAX_BYTES

-- ---- What an event may ask for, whatever the machine is.

-- Nothing but the entries of a folder, and of those below it, and the bytes of files in them; each file at most once, and each folder of a told
-- tree.
pub record AsksForFolder (tree : Option Tree) (folder : List ℕ) (asks : List Ask) : Type 0 where
  pub within : AllByRecursion (AsksWithin folder) asks
  pub once : AsksOnce tree [] asks

-- A `domain` event asks for its folder, and no other event asks for anything.
abbrev pub AsksForEvent : Option Tree → List ℕ → Event → List Ask → Type 0
AsksForEvent tree root (Domain name quotas) asks = AsksForFolder tree (root /- name) asks
AsksForEvent tree root (Start name class words) asks = asks ≡ []
AsksForEvent tree root (Turn thread steps) asks = asks ≡ []
AsksForEvent tree root (Round rounds steps) asks = asks ≡ []
AsksForEvent tree root (Kill name) asks = asks ≡ []

-- what the events ask for, in their order
abbrev pub AsksForEvents : Option Tree → List ℕ → List Event → List Ask → Type 0
AsksForEvents tree root [] asks = asks ≡ []
AsksForEvents tree root (event ∷ events) asks =
    (first : List Ask) × (rest : List Ask) × AsksForEvent tree root event first × AsksForEvents tree root events rest × (asks ≡ first ++ rest)

-- ---- What the events of a run asked for.

-- A `domain` event of a machine, which printed these lines, asked for its folder: where the name is that of a live domain, for nothing; and where
-- it says that there is no folder, it asked for that.
pub record AskedToOpen (tree : Option Tree) (root : List ℕ) (m : Machine) (name : List ℕ) (lines : List Line) (asks : List Ask) : Type 0 where
  pub of_folder : AsksForFolder tree (root /- name) asks
  pub live : IsLive (world_of m) name → asks ≡ []
  pub missed : lines ≡ Refused name L2 Whole ∷ [] → Contains asks (ListOf (root /- name) MOST_ENTRIES)

-- and no other event asked for anything
abbrev pub AskedInEvent : Option Tree → List ℕ → Event → Machine → List Line → List Ask → Type 0
AskedInEvent tree root (Domain name quotas) m lines asks = AskedToOpen tree root m name lines asks
AskedInEvent tree root (Start name class words) m lines asks = asks ≡ []
AskedInEvent tree root (Turn thread steps) m lines asks = asks ≡ []
AskedInEvent tree root (Round rounds steps) m lines asks = asks ≡ []
AskedInEvent tree root (Kill name) m lines asks = asks ≡ []

-- What the events of a run asked for, in their order. A run of an event and more events has the machine between them (0), the event's lines (1), the
-- lines of the others (2), and their run (5).
abbrev pub AskedInRun : (opens : DomainEvent) (tree : Option Tree) (root : List ℕ) (events : List Event) (m : Machine) (lines : List Line) (last : Machine)
    → IsRun opens events m lines last → List Ask → Type 0
AskedInRun opens tree root [] m lines last run asks = asks ≡ []
AskedInRun opens tree root (event ∷ events) m lines last run asks =
    (first : List Ask) × (rest : List Ask) × AskedInEvent tree root event m run.1 first
    × AskedInRun opens tree root events run.0 run.2 last run.5 rest × (asks ≡ first ++ rest)
