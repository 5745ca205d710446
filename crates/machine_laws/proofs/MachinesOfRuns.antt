-- What is kept of each machine of a run: of the first one, with each start, and with each domain that is opened from accepted files.
use Rattle.std.proofs.Common.{◌≡◌, ℕ, List, [], ◌∷◌, ◌++◌, Contains, sym, subst}
use Rattle.std.proofs.lemmas.List.{map-append}
use Rattle.jk_model.specs.declared.output.Line.TheVariants.{Loaded}
use Rattle.jk_model.specs.declared.script.Quotas.{Quotas}
use Rattle.jk_model_classes.specs.Worlds.{NamedClass}
use Rattle.jk_model_folders.specs.declared.files.FolderFiles.{FolderFiles}
use Rattle.jk_model_machine_state.specs.Machines.{DomainState, Machine, world_of}
use Rattle.jk_model_openings.specs.OpenedDomains.{new_domain, with_new_domain}
use Rattle.jk_model_openings.specs.Openings.{OpensWith, admission, opens}
use Rattle.list_lemmas.proofs.ItemsByPlace.{comes_from, mapped_at}
use Rattle.list_lemmas.proofs.ItemsOfLists.{Contains-at, place_of}
use Rattle.heap_laws.specs.SoundTables.{IsSoundTable}
use Rattle.sound_folders.specs.LinkedWorlds.{AreLinked}
use Rattle.machine_laws.specs.KnownMachines.{IsKnownMachine}
use Rattle.machine_laws.specs.MachinesOfRuns.{OpensFrom}
use Rattle.machine_laws.specs.OpenedMachines.{MayGrow}
use Rattle.machine_laws.specs.SoundFolders.{AcceptedFoldersStaySound, AreSound}
use Rattle.machine_laws.specs.SoundMachines.{HasSoundClasses, tables_of}
use Rattle.machine_laws.proofs.OpeningsStayWhole.{whole_then}

-- ---- Names of domains.

table_of : (m : Machine) (e : DomainState) → Contains m.domains e → Contains (tables_of m) e.table
table_of m e on =
    let at = place_of m.domains e on in
    Contains-at (tables_of m) at.0 e.table (mapped_at (λ (x : DomainState). x.table) m.domains at.0 e at.1)

pub each_table : (m : Machine) → HasSoundClasses m → (table : List NamedClass) → Contains (tables_of m) table → IsSoundTable m.classes table
each_table m sound table on =
    let at = place_of (tables_of m) table on in
    let from = comes_from (λ (x : DomainState). x.table) m.domains at.0 table at.1 in
    subst (IsSoundTable m.classes) from.gives (sound.tables from.from (Contains-at m.domains at.0 from.from from.there))

-- ---- Openings.

module _ (folders : AcceptedFoldersStaySound) (f : FolderFiles) (m new : Machine) (name : List ℕ) (quotas : Quotas) (known : IsKnownMachine m)
    (may : MayGrow m) (o : OpensFrom f m name quotas new) where
  abbrev opened : Machine
  opened = with_new_domain m o.accepted.world (admission o.accepted quotas) o.inside

  abbrev d : DomainState
  d = new_domain m (admission o.accepted quotas) o.inside

  abbrev tables : List (List NamedClass)
  tables = tables_of m ++ o.accepted.table ∷ []

  sound_then : AreSound o.accepted.world.classes tables × AreLinked o.accepted.world.classes tables
  sound_then =
      folders (world_of m) o.accepted.world (tables_of m) f name o.accepted.first o.accepted.table o.accepted.offers o.accepted.stubs
      (record { codes = known.1.codes; each = each_table m known.1 }) known.1.linked o.accepts

  tables_are : tables_of opened ≡ tables
  tables_are = map-append (λ (e : DomainState). e.table) m.domains (d ∷ [])

  pub opened_sound : HasSoundClasses opened
  opened_sound = record {
    linked = subst (λ (ts : List (List NamedClass)). AreLinked o.accepted.world.classes ts) (sym tables_are) sound_then.1;
    codes = sound_then.0.codes;
    tables = λ e on.
        sound_then.0.each e.table (subst (λ (ts : List (List NamedClass)). Contains ts e.table) tables_are (table_of opened e on));
  }

  opened_known : IsKnownMachine opened × MayGrow opened
  opened_known =
      let leads : OpensWith f m name quotas (Loaded name ∷ []) opened =
      opens o.accepted o.inside o.room o.numbers o.few o.opening o.placed in
      let whole = whole_then f m name quotas known.0 known.1 may (Loaded name ∷ []) opened leads opened_sound in
      ((whole.0, opened_sound), whole.1)

  pub opening_stays_known : IsKnownMachine new × MayGrow new
  opening_stays_known = subst (λ (x : Machine). IsKnownMachine x × MayGrow x) (sym o.leads) opened_known
