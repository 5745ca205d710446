-- A folder that a kernel has loaded: its classes and names are sound beside the others, and its domain may be opened.
use Rattle.std.proofs.Common.{◌≡◌, ℕ, List, [], ◌∷◌, ◌++◌, length, take, Contains, slice_get, sym, ap, subst, ◌∙◌, arith}
use Rattle.list_lemmas.proofs.ItemsByPlace.{comes_from, mapped_at, take_front}
use Rattle.list_lemmas.proofs.ItemsOfLists.{Contains-at, place_of}
use Rattle.jk_model.specs.declared.identifiers.ClassId.{ClassId}
use Rattle.jk_model_classes.specs.declared.records.ClassRecord.{ClassRecord}
use Rattle.jk_model_classes.specs.Classes.{AreOrdered, HasClass}
use Rattle.jk_model_classes.specs.Worlds.{IsNamed, NamedClass, WorldRecord}
use Rattle.jk_model_folders.specs.declared.files.FolderFiles.{FolderFiles}
use Rattle.jk_model_folders.specs.Loads.{Loads}
use Rattle.jk_model_machine_state.specs.Machines.{DomainState, IsLiveDomain, is_live_domain}
use Rattle.folder_loader.specs.declared.answers.Loaded.{Loaded}
use Rattle.folder_loader.specs.LinkedFolders.{AreTypedFrom}
use Rattle.heap_laws.specs.SoundTables.{IsSoundTable}
use Rattle.sound_folders.specs.LinkedWorlds.{AreLinked}
use Rattle.machine_laws.specs.SoundFolders.{AcceptedFoldersStaySound, AcceptsFiles, AreSound}
use Rattle.machine_laws.specs.SoundMachines.{tables_of}
use Rattle.kernel_parts.specs.SoundKernels.{AreKernelParts, KernelContent, kernel_machine}
use Rattle.kernel_openings.specs.OpenedParts.{MayOpen, OpenParts, next_number}
use Rattle.kernel_openings.proofs.LoadingKernels.{few_heaps, few_stacks, may_load, no_others, world_is}
use Rattle.kernel_openings.proofs.OpenedWorlds.{named_there}

module _ (k : KernelContent) (h : AreKernelParts k) (law : AcceptedFoldersStaySound) (f : FolderFiles) (name : List ℕ) (l : Loaded)
    (classes : List ClassRecord) (loads : Loads f k.world name l.first l.table l.offers l.stubs (record k.world { classes = classes }))
    (typed : AreTypedFrom classes l.first) (ordered : AreOrdered classes) where
  -- the parts with the folder's classes
  abbrev pub loaded_parts : OpenParts
  loaded_parts = record {
    world = record k.world { classes = classes };
    owns = k.owns;
    shared = k.shared;
    heap = k.heap;
    frames = k.frames;
  }

  abbrev pub added : List ClassRecord
  added = loads.is_placed.added

  pub placed_classes : classes ≡ loads.placed.classes
  placed_classes = ap (λ (w : WorldRecord). w.classes) loads.world

  pub grown : classes ≡ k.world.classes ++ added
  grown = placed_classes ∙ loads.is_placed.classes

  -- ---- Its classes and names.

  abbrev pub tables : List (List NamedClass)
  tables = tables_of (kernel_machine k)

  sound_before : AreSound k.world.classes tables
  sound_before = record {
    codes = h.sound.sound.codes;
    each = λ table on.
        let place = place_of tables table on in
        let from = comes_from (λ (d : DomainState). d.table) (kernel_machine k).domains place.0 table place.1 in
        subst (IsSoundTable k.world.classes) from.gives
        (h.sound.sound.tables from.from (Contains-at (kernel_machine k).domains place.0 from.from from.there));
  }

  accepts : AcceptsFiles f k.world name l.first l.table l.offers l.stubs (record k.world { classes = classes })
  accepts = record { may = may_load k h; loads = loads; typed = typed; ordered = ordered }

  pub sound_now : AreSound classes (tables ++ l.table ∷ []) × AreLinked classes (tables ++ l.table ∷ [])
  sound_now =
      law k.world (record k.world { classes = classes }) tables f name l.first l.table l.offers l.stubs sound_before h.sound.sound.linked accepts

  pub there : (c : ClassId) → IsNamed l.table c → HasClass classes c
  there c named =
      subst (λ (xs : List ClassRecord). HasClass xs c) (sym grown)
      (named_there loads (may_load k h) c (subst (λ (xs : List NamedClass). IsNamed xs c) loads.table_is named))

  -- ---- Its domain.

  pub may_open : MayOpen loaded_parts l name
  may_open =
      let none = no_others k h (next_number loaded_parts) (omega arith) in
      record {
        there = there;
        codes = sound_now.0.codes;
        not_live = λ d live. loads.not_live (d, live);
        as_many = h.sound.fitting.domains.shared;
        new_heap = none.0;
        new_stack = none.1;
        few_heaps = few_heaps k h;
        few_stacks = few_stacks k h;
      }

  -- no live domain of the machine has its name
  pub not_live : (e : DomainState) → Contains (kernel_machine k).domains e → IsLiveDomain e → e.name ≡ name → ⊥
  not_live e on live same =
      let place = place_of (kernel_machine k).domains e on in
      let at = mapped_at (λ (x : DomainState). record { id = x.number; name = x.name; live = is_live_domain x; table = x.table; offers = x.offers })
      (kernel_machine k).domains place.0 e place.1 in
      loads.not_live (
        record { 0 = place.0 },
        (
          record { id = e.number; name = e.name; live = is_live_domain e; table = e.table; offers = e.offers },
          sym (ap (λ (w : WorldRecord). slice_get w.domains place.0) (world_is k h)) ∙ at,
          live,
          same,
        ),
      )

  -- the classes are cut off again
  pub cut : (n : ℕ) → n ≡ length k.world.classes → take n classes ≡ k.world.classes
  cut n is = ap (λ (i : ℕ). take i classes) is ∙ ap (take (length k.world.classes)) grown ∙ take_front k.world.classes added
