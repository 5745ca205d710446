-- What a `domain` event does, by the files of its folder: which line it prints, and to which machine it leads. The written rules on
-- folders come first; of a folder that breaks none, it is asked whether there is room for its heap and its stacks (L3), whether numbers
-- are left for its capabilities (L4), and whether there are too many domains (L8), in this order.
use Rattle.std.specs.Prelude.{ℕ, ◌≤◌, ◌⊎◌, List, [], ◌∷◌, length}
use Rattle.jk_model.specs.declared.identifiers.ClassId.{ClassId}
use Rattle.jk_model.specs.declared.output.Line.{Line}
use Rattle.jk_model.specs.declared.output.Line.TheVariants.{Loaded, Refused}
use Rattle.jk_model.specs.declared.output.Place.{Place}
use Rattle.jk_model.specs.declared.output.Place.TheVariants.{Whole}
use Rattle.jk_model.specs.declared.output.Rule.{Rule}
use Rattle.jk_model.specs.declared.output.Rule.TheVariants.{L3, L4, L8}
use Rattle.jk_model.specs.declared.script.Quotas.{Quotas}
use Rattle.jk_model.specs.Outside.{Tree, ◌/-◌}
use Rattle.jk_model_classes.specs.declared.sharing.Offer.{Offer}
use Rattle.jk_model_classes.specs.declared.sharing.Stub.{Stub}
use Rattle.jk_model_classes.specs.Worlds.{NamedClass, WorldRecord}
use Rattle.jk_model_folders.specs.declared.files.FolderFiles.{FolderFiles}
use Rattle.jk_model_folders.specs.FolderRules.{IsFolderFault}
use Rattle.jk_model_folders.specs.FolderTrees.{AreFiles, AreFilesOf}
use Rattle.jk_model_folders.specs.Loads.{Loads}
use Rattle.jk_model_frames.specs.Pools.{HasNoPlace}
use Rattle.jk_model_heaps.specs.Workings.{Inside}
use Rattle.jk_model_sharing.specs.CapabilityCalls.{LacksNumbers}
use Rattle.jk_model_machine_state.specs.Machines.{Machine, caps_of, world_of}
use Rattle.jk_model_openings.specs.OpenedDomains.{Admission, IsOpening, IsPlacedIn, with_new_domain}
use Rattle.jk_model_openings.specs.PoolsOfMachines.{heap_pages_of, heap_pool, stack_pages_of, stack_pool}

-- the most domains
abbrev pub MOST_DOMAINS : ℕ
MOST_DOMAINS = 65535

-- ---- What there must be room for.

abbrev pub LacksPages : Machine → Quotas → Type 0
LacksPages m q = HasNoPlace (heap_pool m) (heap_pages_of q) ⊎ HasNoPlace (stack_pool m) (stack_pages_of q)

abbrev pub HasManyDomains : Machine → Type 0
HasManyDomains m = MOST_DOMAINS ≤ length m.domains

-- ---- By the files.

-- these files break no rule, and give these names, offers, stubs and classes
pub record IsAccepted (f : FolderFiles) (m : Machine) (name : List ℕ) : Type 0 where
  pub first : ClassId
  pub table : List NamedClass
  pub offers : List Offer
  pub stubs : List Stub
  pub world : WorldRecord
  pub loads : Loads f (world_of m) name first table offers stubs world

abbrev pub admission : {f : FolderFiles} {m : Machine} {name : List ℕ} → IsAccepted f m name → Quotas → Admission
admission {name = name} a quotas = record { name = name; quotas = quotas; table = a.table; offers = a.offers }

pub data OpensWith (f : FolderFiles) (m : Machine) (name : List ℕ) (quotas : Quotas) : List Line → Machine → Type 0 where
  no_room : IsAccepted f m name → LacksPages m quotas → OpensWith f m name quotas (Refused name L3 Whole ∷ []) m
  no_numbers : IsAccepted f m name → (LacksPages m quotas → ⊥) → LacksNumbers (caps_of m) quotas.caps
      → OpensWith f m name quotas (Refused name L4 Whole ∷ []) m
  too_many : IsAccepted f m name → (LacksPages m quotas → ⊥) → (LacksNumbers (caps_of m) quotas.caps → ⊥) → HasManyDomains m
      → OpensWith f m name quotas (Refused name L8 Whole ∷ []) m
  opens : (a : IsAccepted f m name) (inside : Inside) → (LacksPages m quotas → ⊥) → (LacksNumbers (caps_of m) quotas.caps → ⊥)
      → (HasManyDomains m → ⊥)
      → IsOpening a.world.classes a.table quotas.heap inside → IsPlacedIn m quotas inside
      → OpensWith f m name quotas (Loaded name ∷ []) (with_new_domain m a.world (admission a quotas) inside)

-- ---- In a told tree of files.

-- the tree, and the root of the folders in it
pub record Folders : Type 0 where
  pub tree : Tree
  pub root : List ℕ

pub data OpensIn (from : Folders) (m : Machine) (name : List ℕ) (quotas : Quotas) : List Line → Machine → Type 0 where
  refused : (rule : Rule) (place : Place) → IsFolderFault from.tree from.root (world_of m) name rule place
      → OpensIn from m name quotas (Refused name rule place ∷ []) m
  accepted : (f : FolderFiles) (lines : List Line) (new : Machine) → AreFiles f → AreFilesOf from.tree (from.root /- name) f
      → OpensWith f m name quotas lines new → OpensIn from m name quotas lines new
