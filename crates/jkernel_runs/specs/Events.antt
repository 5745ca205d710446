-- What an event of a script, and all of them, leave behind, by how they ended.
use Rattle.std.specs.Prelude.{◌≡◌, ◌≢◌, ℕ, ◌*◌, ◌≤◌, ◌⊎◌, true, List, [], ◌++◌, length, take, slice_get, Option, Some, None, Result, Ok, Err}
use Rattle.jk_model.specs.declared.output.Line.{Line}
use Rattle.jk_model.specs.declared.script.Event.{Event}
use Rattle.jk_model.specs.declared.script.Event.TheVariants.{Domain, Start, Turn, Round, Kill}
use Rattle.jk_model.specs.declared.script.Quotas.{Quotas}
use Rattle.jk_model.specs.Outside.{Ask, HasRisen, Tree, ◌/-◌}
use Rattle.jk_model.specs.ScriptGrammar.{is_name, MAX_STEPS}
use Rattle.jk_model_folders.specs.FolderRules.{IsLive}
use Rattle.jk_model_machine_state.specs.Machines.{Machine, IsFirstMachine, world_of}
use Rattle.jk_model_runs.specs.Events.{DomainEvent, Happens, IsRun, IsWhole}
use Rattle.kernel_events.specs.PrintedLines.{Prints, SinkState}
use Rattle.kernel_openings.specs.StartedThreads.{AreStartWords}
use Rattle.jkernel_runs.specs.Asked.{AskedInEvent, AskedInRun, AsksForEvent, AsksForEvents, AsksForFolder}
use Rattle.jkernel_runs.specs.declared.stop.Stop.{Stop}
use Rattle.jkernel_runs.specs.declared.stop.Stop.TheVariants.{ReadFault, WriteFault, OutOfMemory}

-- What is known of the world outside at a moment of the run.
pub record Moment : Type 0 where
  -- what the output tells
  pub out : SinkState
  -- what was asked of the files, and their count of faults
  pub asked : List Ask
  pub files_faults : ℕ

abbrev pub moment : SinkState → List Ask → ℕ → Moment
moment out asked files_faults = record { out = out; asked = asked; files_faults = files_faults }

-- ---- What a script's events are like.

-- what a kernel's domain may have
pub record AreForKernel (q : Quotas) : Type 0 where
  pub words : (44 ≤ q.heap) × (q.heap ≤ 16777216)
  pub chunks : (1 ≤ q.chunks) × (q.chunks ≤ 262144)
  pub counts : (q.threads ≤ 4096) × (q.names ≤ 4096)

-- What holds of each event of a script: the form of a domain's name, and the ranges of what the machine is given.
abbrev pub IsOfScript : Event → Type 0
IsOfScript (Domain name quotas) = (is_name name ≡ true) × AreForKernel quotas
IsOfScript (Start name class words) = (is_name name ≡ true) × (length class ≤ 255) × AreStartWords words
IsOfScript (Turn thread steps) = steps ≤ MAX_STEPS
IsOfScript (Round rounds steps) = rounds * steps ≤ MAX_STEPS
IsOfScript (Kill name) = is_name name ≡ true

-- Memory may want and files may fail at this event of a machine: it is a `domain` event, of a name that no live domain has.
abbrev pub MayStop : Machine → Event → Type 0
MayStop m (Domain name quotas) = IsLive (world_of m) name → ⊥
MayStop m (Start name class words) = ⊥
MayStop m (Turn thread steps) = ⊥
MayStop m (Round rounds steps) = ⊥
MayStop m (Kill name) = ⊥

-- ---- What becomes of lines.

-- The lines went out, or the output failed among them, and nothing was printed after that.
abbrev pub GoesOut : List Line → SinkState → SinkState → Result (Unit {0}) Stop → Type 0
GoesOut lines old new (Ok x) = Prints {E = Stop} old new (Ok x) lines
GoesOut lines old new (Err WriteFault) = Prints old new (Err WriteFault) lines
GoesOut lines old new (Err _) = ⊥

-- Something happened and led to a machine, which is whole, and its lines went out.
pub record IsTold (Happened : List Line → Machine → Type 0) (last : Machine) (old new : SinkState) : Type 0 where
  pub lines : List Line
  pub happened : Happened lines last
  pub is_whole : IsWhole last
  pub printed : Prints {E = Stop} old new (Ok tt) lines

-- Something happened, and its lines went out up to one that failed. Those after it are there too, though nothing more was printed.
pub record BreaksOffIn (Happened : List Line → Machine → Type 0) (old new : SinkState) : Type 0 where
  pub said : List Line
  pub more : List Line
  pub last : Machine
  pub happened : Happened (said ++ more) last
  pub is_whole : IsWhole last
  pub printed : Prints old new (Err WriteFault) said

-- Something happened whose lines were printed. Neither memory nor files have a part in it.
abbrev pub IsPrinted : (List Line → Machine → Type 0) → Machine → SinkState → SinkState → Result (Unit {0}) Stop → Type 0
IsPrinted Happened last old new (Ok x) = IsTold Happened last old new
IsPrinted Happened last old new (Err WriteFault) = BreaksOffIn Happened old new
IsPrinted Happened last old new (Err OutOfMemory) = ⊥
IsPrinted Happened last old new (Err ReadFault) = ⊥

-- ---- One event, from one machine and moment to another. Where the files failed, nothing happened but that they were asked for
-- something, and where memory ran out, nothing but that they may have been.

-- what an event may have asked of the files, after some asks
abbrev pub EventAsks : Option Tree → List ℕ → Event → List Ask → List Ask → Type 0
EventAsks tree root event old new = (asks : List Ask) × AsksForEvent tree root event asks × (new ≡ old ++ asks)

-- and what it asked of them that printed these lines
abbrev pub EventAsked : Option Tree → List ℕ → Event → Machine → List Line → List Ask → List Ask → Type 0
EventAsked tree root event m lines old new = (asks : List Ask) × AskedInEvent tree root event m lines asks × (new ≡ old ++ asks)

abbrev pub EventEnds : Option Tree → List ℕ → DomainEvent → Event → Machine → Machine → Moment → Moment → Result (Unit {0}) Stop → Type 0
EventEnds tree root opens event m new a b (Ok x) =
    (told : IsTold (Happens opens event m) new a.out b.out) × EventAsked tree root event m told.lines a.asked b.asked
EventEnds tree root opens event m new a b (Err WriteFault) =
    (broke : BreaksOffIn (Happens opens event m) a.out b.out) × EventAsked tree root event m (broke.said ++ broke.more) a.asked b.asked
EventEnds tree root opens event m new a b (Err OutOfMemory) = MayStop m event × (b.out ≡ a.out)
EventEnds tree root opens event m new a b (Err ReadFault) =
    MayStop m event × (b.out ≡ a.out) × HasRisen a.files_faults b.files_faults × (b.asked ≢ a.asked)

-- ---- The first of some events.

-- The first k events lead from a machine without domains to this one, and print these lines.
pub record FirstEvents (opens : DomainEvent) (events : List Event) (k : ℕ) (lines : List Line) (last : Machine) : Type 0 where
  pub within : k ≤ length events
  pub first : Machine
  pub is_first : IsFirstMachine None None first
  pub run : IsRun opens (take k events) first lines last

-- The first k events were run, and their whole text went out.
pub record RunsWhole (opens : DomainEvent) (events : List Event) (k : ℕ) (old new : SinkState) : Type 0 where
  pub lines : List Line
  pub last : Machine
  pub run : FirstEvents opens events k lines last
  pub printed : Prints {E = Stop} old new (Ok tt) lines

-- The first k events were run, and their whole text went out. The event after them is a `domain` event, of a name that no live domain has, and
-- nothing went out of it.
pub record StopsAtDomain (opens : DomainEvent) (events : List Event) (old new : SinkState) : Type 0 where
  pub k : ℕ
  pub whole : RunsWhole opens events k old new
  pub name : List ℕ
  pub quotas : Quotas
  pub next : slice_get events k ≡ Some (Domain name quotas)
  pub free : IsLive (world_of whole.last) name → ⊥

-- The first k events were run, and their whole text went out. The event after them happened too, and its lines went out up to one that
-- failed.
pub record StopsInLines (opens : DomainEvent) (events : List Event) (old new : SinkState) : Type 0 where
  pub k : ℕ
  pub between : SinkState
  pub whole : RunsWhole opens events k old between
  pub event : Event
  pub next : slice_get events k ≡ Some event
  pub breaks_off : BreaksOffIn (Happens opens event whole.last) between new

-- ---- What was asked of the files after some asks.

-- What the first events asked for, as they were run.
abbrev pub AskedByFirst : {opens : DomainEvent} {events : List Event} {k : ℕ} {out out' : SinkState} → Option Tree → List ℕ
    → RunsWhole opens events k out out' → List Ask → Type 0
AskedByFirst {opens = opens} {events = events} {k = k} tree root r asks =
    AskedInRun opens tree root (take k events) r.run.first r.lines r.last r.run.run asks

-- That, and nothing else.
abbrev pub AskedForWhole : {opens : DomainEvent} {events : List Event} {k : ℕ} {out out' : SinkState} → Option Tree → List ℕ
    → RunsWhole opens events k out out' → List Ask → List Ask → Type 0
AskedForWhole tree root r old new = (asks : List Ask) × AskedByFirst tree root r asks × (new ≡ old ++ asks)

-- That, and what the event asked for in whose lines the output failed; nothing after it.
pub record AskedUpToLines {opens : DomainEvent} {events : List Event} {out out' : SinkState} (tree : Option Tree) (root : List ℕ)
    (p : StopsInLines opens events out out') (old new : List Ask) : Type 0 where
  pub before : List Ask
  pub asked_before : AskedByFirst tree root p.whole before
  pub at_last : List Ask
  pub asked_at_last : AskedInEvent tree root p.event p.whole.last (p.breaks_off.said ++ p.breaks_off.more) at_last
  pub asked : new ≡ old ++ (before ++ at_last)

-- That, and last what is asked for the folder of the event after them.
pub record AskedUpToFolder {opens : DomainEvent} {events : List Event} {out out' : SinkState} (tree : Option Tree) (root : List ℕ)
    (p : StopsAtDomain opens events out out') (old new : List Ask) : Type 0 where
  pub before : List Ask
  pub asked_before : AskedByFirst tree root p.whole before
  pub at_last : List Ask
  pub asked_at_last : AsksForFolder tree (root /- p.name) at_last
  pub asked : new ≡ old ++ (before ++ at_last)

-- ---- All events, from a machine without domains. There may be no memory even for that one.

abbrev pub RunEnds : Option Tree → List ℕ → DomainEvent → List Event → Moment → Moment → Result (Unit {0}) Stop → Type 0
RunEnds tree root opens events a b (Ok x) =
    (r : RunsWhole opens events (length events) a.out b.out) × AskedForWhole tree root r a.asked b.asked
RunEnds tree root opens events a b (Err ReadFault) =
    HasRisen a.files_faults b.files_faults
    × ((p : StopsAtDomain opens events a.out b.out) × (q : AskedUpToFolder tree root p a.asked b.asked) × (q.at_last ≢ []))
RunEnds tree root opens events a b (Err WriteFault) =
    HasRisen a.out.faults b.out.faults × ((p : StopsInLines opens events a.out b.out) × AskedUpToLines tree root p a.asked b.asked)
RunEnds tree root opens events a b (Err OutOfMemory) =
    ((b.out ≡ a.out) × (b.asked ≡ a.asked))
    ⊎ ((p : StopsAtDomain opens events a.out b.out) × AskedUpToFolder tree root p a.asked b.asked)

-- what all of them may have asked of the files
abbrev pub RunAsks : Option Tree → List ℕ → List Event → List Ask → List Ask → Type 0
RunAsks tree root events old new = (asks : List Ask) × AsksForEvents tree root events asks × (new ≡ old ++ asks)
