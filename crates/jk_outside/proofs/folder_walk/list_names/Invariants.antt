-- The entries are those of the names so far, and the log grew by what a listing asks.
use Rattle.std.proofs.Common.{◌≡◌, ◌≤◌, length}
use Rattle.std.specs.List.{AllByRecursion}
use Rattle.std.specs.Str.{IsUtf8}
use Rattle.jk_model.specs.declared.entries.Entry.{Entry}
use Rattle.jk_outside.specs.DiskStates.{count_after}
use Rattle.jk_outside.specs.FolderWalks.{ListsOn}
use Rattle.jk_outside.specs.Systems.{AsksBelow, GoesOn, LogsOnly, Step}
use Rattle.jk_outside.proofs.folder_walk.list_names.Given as goal

abbrev pub invariant-loop-turn : goal.invariant-loop-turn
invariant-loop-turn g l = record {
  within : length l.entries ≤ l.limit;
  counted : l.taken ≡ count_after l.initial.taken l._turn;
  fewer : length l.entries ≤ l._turn;
  names : AllByRecursion (λ (e : Entry). IsUtf8 e.name) l.entries;
  on : ListsOn (g.S.System.places l.initial.system) l.folder (g.S.System.names_left l.initial.names) (g.S.System.names_left l.names) l.entries;
  log : LogsOnly (λ (step : Step). AsksBelow l.folder step.asks) (g.S.System.log l.initial.system) (g.S.System.log l.system);
  well : LogsOnly GoesOn (g.S.System.log l.initial.system) (g.S.System.log l.system);
  stays : g.S.System.places l.system ≡ g.S.System.places l.initial.system;
}
