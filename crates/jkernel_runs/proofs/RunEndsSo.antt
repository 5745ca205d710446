-- How a run ends, from what was found of its script and what became of its events.
use Rattle.std.proofs.Common.{◌≡◌, ℕ, zero, suc, false, nat_le, ◌<◌, List, [], ◌∷◌, ◌++◌, length, Option, Some, None, Result, Ok, Err, ◌⊎◌, inl, inr, refl, ap, subst, ◌∙◌, append_assoc, arith}
use Rattle.std.proofs.lemmas.Bool.Decides.{nat_tests}
use Rattle.jk_model.specs.declared.script.Event.{Event}
use Rattle.jk_model.specs.declared.script.FaultKind.TheVariants as kinds
use Rattle.jk_model.specs.declared.script.ScriptFault.{ScriptFault}
use Rattle.jk_model.specs.Outside.{Tree, Ask, FileIs, FileIsLong, HasRisen, NeverFalls}
use Rattle.jk_model.proofs.CountsNeverFall.{HasRisen-after}
use Rattle.jk_model.specs.Script.{MAX_BYTES}
use Rattle.jkernel_runs.specs.DomainEvents.{OpensFolder}
use Rattle.script_reader.specs.declared.error.ScriptError.{ScriptError}
use Rattle.script_reader.specs.declared.error.ScriptError.TheVariants as errors
use Rattle.jkernel_runs.specs.declared.ends.End.{End}
use Rattle.jkernel_runs.specs.declared.ends.End.TheVariants.{Done, Usage, Refused, Stopped}
use Rattle.jkernel_runs.specs.declared.status.Status.TheVariants as statuses
use Rattle.jkernel_runs.specs.declared.stop.Stop.{Stop}
use Rattle.jkernel_runs.specs.declared.stop.Stop.TheVariants.{ReadFault, WriteFault, OutOfMemory}
use Rattle.command_words.specs.CommandLine.{CallsScript, IsNoCall}
use Rattle.jkernel_runs.specs.Ends.{end_of, EndsDemo, EndsSo, EndsRefused, EndsWell, HasText, IsMissing, ScriptEnds, AnswersFault, status_of}
use Rattle.jkernel_runs.specs.Asked.{ask_for_script}
use Rattle.jkernel_runs.specs.Events.{AskedUpToFolder, Moment, RunEnds, RunAsks, RunsWhole, StopsAtDomain, StopsInLines}
use Rattle.jkernel_runs.specs.Scripts.{IsScript, IsAtFault}
use Rattle.jkernel_runs.specs.Statuses.{EndsDone, EndsInLines, HasEvents, LacksScript, ScriptDone, ScriptStopsAtDomain, ScriptStopsInLines, Asks, asked_script}
use Rattle.kernel_events.specs.PrintedLines.{Prints, SinkState}

-- ---- the script

-- a text longer than a number
long_text : (n : ℕ) → (text : List ℕ) × (n < length text)
long_text zero = (0 ∷ [], omega arith)
long_text (suc n) = let t = long_text n in (0 ∷ t.0, let h = t.1 in omega arith)

-- a script with too many bytes is at fault as a whole
long_fault : (text : List ℕ) → MAX_BYTES < length text → IsAtFault text (record { line = 0; kind = kinds.TooLong })
long_fault text long =
    let over : nat_le (length text) MAX_BYTES ≡ false = grind (arith, nat_tests) in
    rw over

pub too_long : (t : Option Tree) (path : List ℕ) (old new files files' : ℕ) → FileIsLong t path MAX_BYTES old new
    → ScriptEnds t path files files' (Err (Refused (record { line = 0; kind = kinds.TooLong })))
too_long None path old new files files' long =
    let text = long_text MAX_BYTES in (text.0, tt, long_fault text.0 text.1)
too_long (Some tree) path old new files files' long = (long.0, long.1, long_fault long.0 long.2)

-- a told tree has one text at a path
pub same_text : (t : Option Tree) (path a b : List ℕ) → FileIs t path a → HasText t path b → b ≡ a
same_text None path a b is has = absurd has
same_text (Some tree) path a b is has = cc

-- the fault that was told is the one there is
pub fault_is : (e : ScriptError) (a b : ScriptFault) → e ≡ errors.Fault a → (e ≡ errors.Fault b) ⊎ (e ≡ errors.OutOfMemory) → a ≡ b
fault_is e a b is (inl f) = cc
fault_is e a b is (inr m) = absurd cc

-- ---- ends

pub refused_so : (f : ScriptFault) (files files' : ℕ) (end : End) → AnswersFault f files files' (Err end) → EndsRefused f files files' end
refused_so f files files' Done h = h
refused_so f files files' Usage h = h
refused_so f files files' (Refused found) h = h
refused_so f files files' (Stopped ReadFault) h = h
refused_so f files files' (Stopped WriteFault) h = h
refused_so f files files' (Stopped OutOfMemory) h = h

pub refused_status : (f : ScriptFault) (files files' : ℕ) (end : End) → EndsRefused f files files' end → (HasRisen files files' → ⊥)
    → (status_of end ≡ statuses.ScriptRefused) ⊎ (status_of end ≡ statuses.OutOfMemory)
refused_status f files files' Done h calm = absurd h
refused_status f files files' Usage h calm = absurd h
refused_status f files files' (Refused found) h calm = inl refl
refused_status f files files' (Stopped ReadFault) h calm = absurd (calm h)
refused_status f files files' (Stopped WriteFault) h calm = absurd h
refused_status f files files' (Stopped OutOfMemory) h calm = inr refl

-- a run whose status is that of a failed write stopped in the lines of an event
pub ends_in_lines : (t : Option Tree) (words : List (List ℕ)) (a b : Moment) (end : End) → EndsSo t words a b end → status_of end ≡ statuses.WriteFault
    → EndsInLines t words a b
ends_in_lines t words a b Done h is = absurd cc
ends_in_lines t words a b Usage h is = absurd cc
ends_in_lines t words a b (Refused found) h is = absurd cc
ends_in_lines t words a b (Stopped ReadFault) h is = absurd cc
ends_in_lines t words a b (Stopped WriteFault) h is = h.1
ends_in_lines t words a b (Stopped OutOfMemory) h is = absurd cc

-- a run whose status is that of a whole run was one
pub ends_done : (t : Option Tree) (words : List (List ℕ)) (a b : Moment) (end : End) → EndsSo t words a b end → status_of end ≡ statuses.Done
    → EndsDone t words a b
ends_done t words a b Done h is = h
ends_done t words a b Usage h is = absurd cc
ends_done t words a b (Refused found) h is = absurd cc
ends_done t words a b (Stopped ReadFault) h is = absurd cc
ends_done t words a b (Stopped WriteFault) h is = absurd cc
ends_done t words a b (Stopped OutOfMemory) h is = absurd cc

-- and one whose status is that of words that are no call had such words
pub ends_no_call : (t : Option Tree) (words : List (List ℕ)) (a b : Moment) (end : End) → EndsSo t words a b end → status_of end ≡ statuses.Usage
    → IsNoCall words
ends_no_call t words a b Done h is = absurd cc
ends_no_call t words a b Usage h is = h.0
ends_no_call t words a b (Refused found) h is = absurd cc
ends_no_call t words a b (Stopped ReadFault) h is = absurd cc
ends_no_call t words a b (Stopped WriteFault) h is = absurd cc
ends_no_call t words a b (Stopped OutOfMemory) h is = absurd cc

-- where the output doesn't fail, the demo is run to its end, unless memory runs out
pub demo_status : (faults faults' : ℕ) (end : End) → EndsDemo faults faults' end → (HasRisen faults faults' → ⊥)
    → (status_of end ≡ statuses.Done) ⊎ (status_of end ≡ statuses.OutOfMemory)
demo_status faults faults' Done h calm = inl refl
demo_status faults faults' Usage h calm = absurd h
demo_status faults faults' (Refused found) h calm = absurd h
demo_status faults faults' (Stopped ReadFault) h calm = absurd h
demo_status faults faults' (Stopped WriteFault) h calm = absurd (calm h)
demo_status faults faults' (Stopped OutOfMemory) h calm = inr refl

abbrev has_events : (t : Option Tree) (words : List (List ℕ)) (root script : List ℕ) (events : List Event) → CallsScript words root script
    → (text : List ℕ) × FileIs t script text × IsScript text events → HasEvents t words root events
has_events t words root script events call found =
    record { script = script; call = call; text = found.0; file = found.1; is_script = found.2 }

-- The run of a script's events: what was known before the script was read, after that, and at the end.
module _ (t : Option Tree) (words : List (List ℕ)) (root script : List ℕ) (events : List Event) (a b c : Moment) (call : CallsScript words root script)
    (found : (text : List ℕ) × FileIs t script text × IsScript text events) (read : b.asked ≡ asked_script a.asked script)
    (files : NeverFalls a.files_faults b.files_faults) (out : b.out ≡ a.out) where
  abbrev has : HasEvents t words root events
  has = has_events t words root script events call found

  all_asked : (more : List Ask) → c.asked ≡ b.asked ++ more → c.asked ≡ a.asked ++ ask_for_script script ∷ more
  all_asked more e = e ∙ ap (λ (x : List Ask). x ++ more) read ∙ append_assoc a.asked (ask_for_script script ∷ []) more

  -- the same asks, after those for the script
  script_first : (asks : List Ask) → c.asked ≡ b.asked ++ asks → c.asked ≡ asked_script a.asked script ++ asks
  script_first asks is = is ∙ ap (λ (x : List Ask). x ++ asks) read

  -- what went out before the script was read is what went out at first
  abbrev from_first : (k : ℕ) (out' : SinkState) → RunsWhole (OpensFolder t root) events k b.out out' → RunsWhole (OpensFolder t root) events k a.out out'
  from_first k out' h = record {
    lines = h.lines;
    last = h.last;
    run = h.run;
    printed = subst (λ (o : SinkState). Prints {E = Stop} o out' (Ok tt) h.lines) out h.printed;
  }

  abbrev done : RunsWhole (OpensFolder t root) events (length events) b.out c.out → ScriptDone t words a.out c.out
  done h = record { root = root; events = events; has = has; runs = from_first (length events) c.out h }

  abbrev in_lines : StopsInLines (OpensFolder t root) events b.out c.out → ScriptStopsInLines t words a.out c.out
  in_lines h = record {
    root = root;
    events = events;
    has = has;
    stops = record {
      k = h.k;
      between = h.between;
      whole = from_first h.k h.between h.whole;
      event = h.event;
      next = h.next;
      breaks_off = h.breaks_off;
    };
  }

  abbrev at_domain : StopsAtDomain (OpensFolder t root) events b.out c.out → ScriptStopsAtDomain t words a.out c.out
  at_domain h = record {
    root = root;
    events = events;
    has = has;
    stops = record {
      k = h.k;
      whole = from_first h.k c.out h.whole;
      name = h.name;
      quotas = h.quotas;
      next = h.next;
      free = h.free;
    };
  }

  abbrev folder_asked : (p : StopsAtDomain (OpensFolder t root) events b.out c.out) → AskedUpToFolder t root p b.asked c.asked
      → AskedUpToFolder t root (at_domain p).stops (asked_script a.asked script) c.asked
  folder_asked p h = record {
    before = h.before;
    asked_before = h.asked_before;
    at_last = h.at_last;
    asked_at_last = h.asked_at_last;
    asked = script_first (h.before ++ h.at_last) h.asked;
  }

  pub run_ends : (r : Result (Unit {0}) Stop) → RunEnds t root (OpensFolder t root) events b c r → EndsSo t words a c (end_of r)
  run_ends (Ok x) (r, (asks, asked, is)) = (inl (done r), (asks, asked, script_first asks is))
  run_ends (Err ReadFault) (risen, (p, q, something)) = (
    inl (HasRisen-after a.files_faults b.files_faults c.files_faults files risen),
    inr (at_domain p, folder_asked p q, something),
  )
  run_ends (Err WriteFault) (risen, (p, q)) = (
    subst (λ (o : SinkState). HasRisen o.faults c.out.faults) out risen,
    (
      inl (in_lines p),
      record {
        before = q.before;
        asked_before = q.asked_before;
        at_last = q.at_last;
        asked_at_last = q.asked_at_last;
        asked = script_first (q.before ++ q.at_last) q.asked;
      },
    ),
  )
  run_ends (Err OutOfMemory) (inl (quiet, none)) =
      inr (inl (record { root = root; script = script; call = call; quiet = quiet ∙ out; asks = none ∙ read }))
  run_ends (Err OutOfMemory) (inr (p, q)) = inr (inr (inl (at_domain p), folder_asked p q))

  pub run_asks : RunAsks t root events b.asked c.asked → Asks t words a.asked c.asked
  run_asks h = inr (record {
    root = root;
    script = script;
    call = call;
    events = events;
    of_script = inr has;
    more = h.0;
    for_events = h.1;
    asks = all_asked h.0 h.2;
  })

-- How the run of events ends that a script without fault has.
pub well_of : (t : Option Tree) (root : List ℕ) (events : List Event) (before : ℕ) (b c : Moment) → NeverFalls before b.files_faults
    → (r : Result (Unit {0}) Stop) → RunEnds t root (OpensFolder t root) events b c r
    → EndsWell before c.files_faults b.out.faults c.out.faults (end_of r)
well_of t root events before b c falls (Ok x) h = tt
well_of t root events before b c falls (Err ReadFault) h = HasRisen-after before b.files_faults c.files_faults falls h.0
well_of t root events before b c falls (Err WriteFault) h = h.0
well_of t root events before b c falls (Err OutOfMemory) h = tt

-- A script that gave no events was asked for, and nothing else.
pub script_asks : (t : Option Tree) (words : List (List ℕ)) (root script : List ℕ) (old new : List Ask) → CallsScript words root script
    → new ≡ asked_script old script → Asks t words old new
script_asks t words root script old new call asked = inr (record {
  root = root;
  script = script;
  call = call;
  events = [];
  of_script = inl refl;
  more = [];
  for_events = refl;
  asks = asked;
})

-- How a run ends whose script gave no events.
pub script_ends : (t : Option Tree) (words : List (List ℕ)) (root script : List ℕ) (a b : Moment) (end : End) → CallsScript words root script → b.out ≡ a.out
    → b.asked ≡ asked_script a.asked script → ScriptEnds t script a.files_faults b.files_faults (Err end) → EndsSo t words a b end
script_ends t words root script a b Done call quiet asked h = absurd h
script_ends t words root script a b Usage call quiet asked h = absurd h
script_ends t words root script a b (Refused fault) call quiet asked h = (
  record { root = root; script = script; call = call; text = h.0; file = h.1; at_fault = h.2 },
  record { root = root; script = script; call = call; quiet = quiet; asks = asked },
)
script_ends t words root script a b (Stopped ReadFault) call quiet asked h =
    (lacks t h, inl (record { root = root; script = script; call = call; quiet = quiet; asks = asked }))
  where
    lacks : (o : Option Tree) → HasRisen a.files_faults b.files_faults ⊎ IsMissing o script → HasRisen a.files_faults b.files_faults ⊎ LacksScript o words
    lacks o (inl risen) = inl risen
    lacks None (inr missing) = absurd missing
    lacks (Some tree) (inr missing) = inr (root, script, call, missing)
script_ends t words root script a b (Stopped WriteFault) call quiet asked h = absurd h
script_ends t words root script a b (Stopped OutOfMemory) call quiet asked h =
    inr (inl (record { root = root; script = script; call = call; quiet = quiet; asks = asked }))
