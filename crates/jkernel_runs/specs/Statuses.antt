-- What each status of the program says of its run: of a script's, or of the demo's. A tree is told or not, and so are the bytes of a sink.
use Rattle.std.specs.Prelude.{◌≡◌, ◌≢◌, ℕ, ◌⊎◌, List, [], ◌∷◌, ◌++◌, Option, Some, None, length}
use Rattle.std.proofs.Common.{inl, inr}
use Rattle.jk_model.specs.declared.script.Event.{Event}
use Rattle.jk_model.specs.declared.script.ScriptFault.{ScriptFault}
use Rattle.jk_model.specs.Outside.{Tree, Ask, FileIs, Appends, AppendsPart}
use Rattle.kernel_events.specs.PrintedLines.{SinkState}
use Rattle.command_words.specs.CommandLine.{CallsDemo, CallsScript}
use Rattle.ring_demo.specs.DemoEvents.{demo_events}
use Rattle.jkernel_runs.specs.DomainEvents.{OpensDemo, OpensFolder}
use Rattle.jkernel_runs.specs.Asked.{ask_for_script, AsksForEvents}
use Rattle.jkernel_runs.specs.Events.{Moment, AskedForWhole, AskedUpToFolder, AskedUpToLines, RunsWhole, StopsAtDomain, StopsInLines}
use Rattle.jkernel_runs.specs.Messages.{usage_text, fault_text, read_text, write_text, memory_text}
use Rattle.jkernel_runs.specs.Scripts.{IsScript, IsAtFault}
use Rattle.jkernel_runs.specs.declared.status.Status.{Status}
use Rattle.jkernel_runs.specs.declared.status.Status.TheVariants.{Done, Usage, ScriptRefused, ReadFault, WriteFault, OutOfMemory}

-- ---- The script.

-- The words name a root and a script, and these are the script's events. (A tree that isn't told
-- doesn't say which script it was.)
pub record HasEvents (tree : Option Tree) (words : List (List ℕ)) (root : List ℕ) (events : List Event) : Type 0 where
  pub script : List ℕ
  pub call : CallsScript words root script
  pub text : List ℕ
  pub file : FileIs tree script text
  pub is_script : IsScript text events

-- The words name a script that is at fault.
pub record HasFault (tree : Option Tree) (words : List (List ℕ)) (fault : ScriptFault) : Type 0 where
  pub root : List ℕ
  pub script : List ℕ
  pub call : CallsScript words root script
  pub text : List ℕ
  pub file : FileIs tree script text
  pub at_fault : IsAtFault text fault

-- The told tree has no file where the words name the script.
abbrev pub LacksScript : Option Tree → List (List ℕ) → Type 0
LacksScript None words = ⊥
LacksScript (Some tree) words =
    (root : List ℕ) × (script : List ℕ) × CallsScript words root script × (tree.file script ≡ None)

-- ---- What went out, by how far the events were run. First of a script.

-- All events were run, and the text of their lines went out.
pub record ScriptDone (tree : Option Tree) (words : List (List ℕ)) (old new : SinkState) : Type 0 where
  pub root : List ℕ
  pub events : List Event
  pub has : HasEvents tree words root events
  pub runs : RunsWhole (OpensFolder tree root) events (length events) old new

-- The text of the events before some event went out whole. That event happened too, and its lines went out up to one that failed, after
-- which nothing was printed.
pub record ScriptStopsInLines (tree : Option Tree) (words : List (List ℕ)) (old new : SinkState) : Type 0 where
  pub root : List ℕ
  pub events : List Event
  pub has : HasEvents tree words root events
  pub stops : StopsInLines (OpensFolder tree root) events old new

-- The text of the events before some `domain` event, of a name that no live domain has, went out whole, and nothing else.
pub record ScriptStopsAtDomain (tree : Option Tree) (words : List (List ℕ)) (old new : SinkState) : Type 0 where
  pub root : List ℕ
  pub events : List Event
  pub has : HasEvents tree words root events
  pub stops : StopsAtDomain (OpensFolder tree root) events old new

-- The same of the demo of a seed. Its tree is its own, and its events are no script's.
pub record DemoDone (words : List (List ℕ)) (old new : SinkState) : Type 0 where
  pub seed : ℕ
  pub call : CallsDemo words seed
  pub runs : RunsWhole (OpensDemo seed) (demo_events seed) (length (demo_events seed)) old new

pub record DemoStopsInLines (words : List (List ℕ)) (old new : SinkState) : Type 0 where
  pub seed : ℕ
  pub call : CallsDemo words seed
  pub stops : StopsInLines (OpensDemo seed) (demo_events seed) old new

pub record DemoStopsAtDomain (words : List (List ℕ)) (old new : SinkState) : Type 0 where
  pub seed : ℕ
  pub call : CallsDemo words seed
  pub stops : StopsAtDomain (OpensDemo seed) (demo_events seed) old new

-- One of the two, as the words say.
abbrev pub IsDone : Option Tree → List (List ℕ) → SinkState → SinkState → Type 0
IsDone tree words old new = ScriptDone tree words old new ⊎ DemoDone words old new

abbrev pub IsStoppedInLines : Option Tree → List (List ℕ) → SinkState → SinkState → Type 0
IsStoppedInLines tree words old new = ScriptStopsInLines tree words old new ⊎ DemoStopsInLines words old new

abbrev pub IsStoppedAtDomain : Option Tree → List (List ℕ) → SinkState → SinkState → Type 0
IsStoppedAtDomain tree words old new = ScriptStopsAtDomain tree words old new ⊎ DemoStopsAtDomain words old new

-- ---- And what was asked of the files. The demo asks nothing of them.

-- The script was asked for after some asks.
abbrev pub asked_script : List Ask → List ℕ → List Ask
asked_script asked script = asked ++ ask_for_script script ∷ []

-- Nothing went out, and nothing was asked for.
pub record IsUntouched (a b : Moment) : Type 0 where
  pub quiet : b.out ≡ a.out
  pub asks : b.asked ≡ a.asked

-- Nothing but the script was asked for, and nothing went out.
pub record IsUnread (words : List (List ℕ)) (a b : Moment) : Type 0 where
  pub root : List ℕ
  pub script : List ℕ
  pub call : CallsScript words root script
  pub quiet : b.out ≡ a.out
  pub asks : b.asked ≡ asked_script a.asked script

-- Done: the script was asked for, and what its events ask for.
abbrev pub AskedAll : {tree : Option Tree} {words : List (List ℕ)} {old new : SinkState} → IsDone tree words old new → List Ask → List Ask → Type 0
AskedAll {tree = tree} (inl p) asked asked' = AskedForWhole tree p.root p.runs (asked_script asked p.has.script) asked'
AskedAll (inr demo) asked asked' = asked' ≡ asked

abbrev pub EndsDone : Option Tree → List (List ℕ) → Moment → Moment → Type 0
EndsDone tree words a b = (p : IsDone tree words a.out b.out) × AskedAll p a.asked b.asked

-- The output failed: the script was asked for, and what its events ask for up to the one in whose lines it failed, and nothing after that.
abbrev pub AskedToLines : {tree : Option Tree} {words : List (List ℕ)} {old new : SinkState} → IsStoppedInLines tree words old new → List Ask
    → List Ask → Type 0
AskedToLines {tree = tree} (inl p) asked asked' = AskedUpToLines tree p.root p.stops (asked_script asked p.has.script) asked'
AskedToLines (inr demo) asked asked' = asked' ≡ asked

abbrev pub EndsInLines : Option Tree → List (List ℕ) → Moment → Moment → Type 0
EndsInLines tree words a b = (p : IsStoppedInLines tree words a.out b.out) × AskedToLines p a.asked b.asked

-- Memory ran out: before any event was run, or at a `domain` event, and what was asked last is what that event asked for.
abbrev pub AskedToDomain : {tree : Option Tree} {words : List (List ℕ)} {old new : SinkState} → IsStoppedAtDomain tree words old new → List Ask
    → List Ask → Type 0
AskedToDomain {tree = tree} (inl p) asked asked' = AskedUpToFolder tree p.root p.stops (asked_script asked p.has.script) asked'
AskedToDomain (inr demo) asked asked' = asked' ≡ asked

abbrev pub EndsForMemory : Option Tree → List (List ℕ) → Moment → Moment → Type 0
EndsForMemory tree words a b =
    IsUntouched a b
    ⊎ IsUnread words a b
    ⊎ ((p : IsStoppedAtDomain tree words a.out b.out) × AskedToDomain p a.asked b.asked)

-- The files failed: at the script, or at a `domain` event of it, and what was asked last is what that event asked for, which is something.
abbrev pub EndsForFiles : Option Tree → List (List ℕ) → Moment → Moment → Type 0
EndsForFiles tree words a b =
    IsUnread words a b
    ⊎ ((p : ScriptStopsAtDomain tree words a.out b.out)
    × (q : AskedUpToFolder tree p.root p.stops (asked_script a.asked p.has.script) b.asked) × (q.at_last ≢ []))

-- What was asked for: with words that call for a script that one, and for its events, where it has any, what they ask for. Nothing was asked for
-- with other words, or before memory ran out.
pub record AsksForRun (tree : Option Tree) (words : List (List ℕ)) (asked asked' : List Ask) : Type 0 where
  pub root : List ℕ
  pub script : List ℕ
  pub call : CallsScript words root script
  pub events : List Event
  pub of_script : (events ≡ []) ⊎ HasEvents tree words root events
  pub more : List Ask
  pub for_events : AsksForEvents tree root events more
  pub asks : asked' ≡ asked ++ ask_for_script script ∷ more

abbrev pub Asks : Option Tree → List (List ℕ) → List Ask → List Ask → Type 0
Asks tree words asked asked' = (asked' ≡ asked) ⊎ AsksForRun tree words asked asked'

-- ---- Messages.

-- What was said on the error sink, by the status. At a script that is refused it is that script's fault.
abbrev pub Says : Option Tree → List (List ℕ) → Option (List ℕ) → Option (List ℕ) → Status → Type 0
Says tree words old new Done = Appends old new []
Says tree words old new Usage = Appends old new usage_text
Says tree words old new ScriptRefused = (fault : ScriptFault) × HasFault tree words fault × Appends old new (fault_text fault)
Says tree words old new ReadFault = Appends old new read_text
Says tree words old new WriteFault = Appends old new write_text
Says tree words old new OutOfMemory = Appends old new memory_text

-- Of that a part went out, from the front on.
abbrev pub BeginsToSay : Option Tree → List (List ℕ) → Option (List ℕ) → Option (List ℕ) → Status → Type 0
BeginsToSay tree words old new Done = AppendsPart old new []
BeginsToSay tree words old new Usage = AppendsPart old new usage_text
BeginsToSay tree words old new ScriptRefused = (fault : ScriptFault) × HasFault tree words fault × AppendsPart old new (fault_text fault)
BeginsToSay tree words old new ReadFault = AppendsPart old new read_text
BeginsToSay tree words old new WriteFault = AppendsPart old new write_text
BeginsToSay tree words old new OutOfMemory = AppendsPart old new memory_text
