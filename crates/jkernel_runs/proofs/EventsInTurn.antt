-- What all events leave and ask, from what each of them does.
use Rattle.std.proofs.Common.{◌≡◌, ◌≢◌, ℕ, zero, suc, ◌+◌, ◌<◌, ◌≤◌, ◌^◌, List, [], ◌∷◌, ◌++◌, length, take, get_or, Option, Some, None, Ok, Err, inr, refl, sym, ap, subst, ◌∙◌, append_assoc, append-nil, arith}
use Rattle.std.specs.Prelude.{slice_get}
use Rattle.std.proofs.lemmas.List.{take_more}
use Rattle.jk_model.specs.declared.output.Line.{Line}
use Rattle.jk_model.specs.declared.script.Event.{Event}
use Rattle.jk_model.specs.declared.script.Event.TheVariants.{Domain, Start, Turn, Round, Kill}
use Rattle.jk_model.specs.Outside.{Ask, NeverFalls, Tree, ◌/-◌}
use Rattle.jk_model.proofs.CountsNeverFall.{HasRisen-after}
use Rattle.jk_model_machine_state.specs.Machines.{Machine, IsFirstMachine}
use Rattle.jk_model_runs.specs.Events.{DomainEvent, IsRun}
use Rattle.folder_reader.proofs.AsksApart.{asks_nothing as asks_none}
use Rattle.kernel_events.specs.PrintedLines.{Prints, SinkState}
use Rattle.jk_kernel.proofs.LinesJoined.{printed_both, printed_none}
use Rattle.jkernel_runs.specs.declared.stop.Stop.{Stop}
use Rattle.jkernel_runs.specs.declared.stop.Stop.TheVariants.{ReadFault, WriteFault, OutOfMemory}
use Rattle.jkernel_runs.specs.Asked.{AskedInRun, AsksForEvent, AsksForEvents, AsksForFolder}
use Rattle.jkernel_runs.specs.Events.{AskedForWhole, AskedUpToFolder, EventAsks, EventEnds, MayStop, Moment, RunAsks, RunEnds, RunsWhole, StopsAtDomain}
use Rattle.jkernel_runs.proofs.RunsGoOn.{may_ask_all, run_more}

-- ---- The events so far.

-- The first i events were run and led to this machine; their text went out, and this is what they asked for.
pub record RunsSoFar (tree : Option Tree) (root : List ℕ) (opens : DomainEvent) (events : List Event) (i : ℕ) (m : Machine) (a b : Moment) : Type 0 where
  pub first : Machine
  pub is_first : IsFirstMachine None None first
  pub lines : List Line
  pub run : IsRun opens (take i events) first lines m
  pub printed : Prints {E = Stop} a.out b.out (Ok tt) lines
  pub asks : List Ask
  pub asked_in_run : AskedInRun opens tree root (take i events) first lines m run asks
  pub asked : b.asked ≡ a.asked ++ asks

-- before the first of them
pub runs_nothing : (tree : Option Tree) (root : List ℕ) (opens : DomainEvent) (events : List Event) (m : Machine) (a : Moment)
    → IsFirstMachine None None m → a.out.faults < 2 ^ 64 → RunsSoFar tree root opens events 0 m a a
runs_nothing tree root opens events m a is fits = record {
  first = m;
  is_first = is;
  lines = [];
  run = (refl, refl);
  printed = printed_none a.out fits;
  asks = [];
  asked_in_run = refl;
  asked = sym (append-nil a.asked);
}

asks_more : (tree : Option Tree) (root : List ℕ) (events : List Event) (event : Event) (first more : List Ask) → AsksForEvents tree root events first
    → AsksForEvent tree root event more → AsksForEvents tree root (events ++ event ∷ []) (first ++ more)
asks_more tree root [] event first more h k = (more, [], k, refl, ap (λ (x : List Ask). x ++ more) h ∙ sym (append-nil more))
asks_more tree root (e ∷ events) event first more h k = (
  h.0,
  h.1 ++ more,
  h.2,
  asks_more tree root events event h.1 more h.3 k,
  ap (λ (x : List Ask). x ++ more) h.4 ∙ append_assoc h.0 h.1 more,
)

next_is : (events : List Event) (i : ℕ) (event : Event) → i < length events → event ≡ get_or events i event → take (i + 1) events ≡ take i events ++ event ∷ []
next_is events i event lt is = take_more events i event lt ∙ ap (λ (e : Event). take i events ++ e ∷ []) (sym is)

-- one more event that went well
pub goes_on : (tree : Option Tree) (root : List ℕ) (opens : DomainEvent) (events : List Event) (i : ℕ) (event : Event) (m new : Machine) (a b c : Moment)
    (x : Unit {0}) → i < length events → event ≡ get_or events i event → RunsSoFar tree root opens events i m a b
    → EventEnds tree root opens event m new b c (Ok x) → RunsSoFar tree root opens events (i + 1) new a c
goes_on tree root opens events i event m new a b c x lt is so_far (told, more) =
    let longer = next_is events i event lt is in
    let lines : List Line = so_far.lines ++ told.lines in
    let asks : List Ask = so_far.asks ++ more.0 in
    let both = subst (λ (es : List Event). (q : IsRun opens es so_far.first lines new) × AskedInRun opens tree root es so_far.first lines new q asks)
    (sym longer)
    (run_more opens tree root (take i events) event so_far.first m new so_far.lines told.lines so_far.asks more.0 so_far.run so_far.asked_in_run
    told.happened told.is_whole more.1) in
    record {
      first = so_far.first;
      is_first = so_far.is_first;
      lines = lines;
      run = both.0;
      printed = printed_both a.out b.out c.out so_far.lines told.lines (Ok tt) so_far.printed told.printed;
      asks = asks;
      asked_in_run = both.1;
      asked = more.2 ∙ ap (λ (x : List Ask). x ++ more.0) so_far.asked ∙ append_assoc a.asked so_far.asks more.0;
    }

-- the event at a place
at_place : {X : Type 0} (xs : List X) (i : ℕ) (x : X) → i < length xs → x ≡ get_or xs i x → slice_get xs i ≡ Some x
at_place [] i x lt e = absurd (omega arith)
at_place (y ∷ ys) zero x lt e = ap (λ (z : _). Some z) (sym e)
at_place (y ∷ ys) (suc i) x lt e = at_place ys i x (omega arith) e

-- the rest of a run, whose asks are those of its front
asks_no_folder : (tree : Option Tree) (folder : List ℕ) → AsksForFolder tree folder []
asks_no_folder tree folder = record { within = tt; once = asks_none tree [] [] refl }

fills_up : (tree : Option Tree) (root : List ℕ) (events : List Event) → AsksForEvents tree root events []
fills_up tree root [] = refl
fills_up tree root (Domain name quotas ∷ events) = ([], [], asks_no_folder tree (root /- name), fills_up tree root events, refl)
fills_up tree root (Start name class words ∷ events) = ([], [], refl, fills_up tree root events, refl)
fills_up tree root (Turn thread steps ∷ events) = ([], [], refl, fills_up tree root events, refl)
fills_up tree root (Round rounds steps ∷ events) = ([], [], refl, fills_up tree root events, refl)
fills_up tree root (Kill name ∷ events) = ([], [], refl, fills_up tree root events, refl)

filled : (tree : Option Tree) (root : List ℕ) (i : ℕ) (events : List Event) (asks : List Ask) → AsksForEvents tree root (take i events) asks
    → AsksForEvents tree root events asks
filled tree root zero events asks h = subst (λ (x : List Ask). AsksForEvents tree root events x) (sym h) (fills_up tree root events)
filled tree root (suc i) [] asks h = h
filled tree root (suc i) (event ∷ events) asks h = (h.0, h.1, h.2, filled tree root i events h.1 h.3, h.4)

-- ---- What was asked in the end.

-- the events so far may ask for that
asks_of_first : (tree : Option Tree) (root : List ℕ) (opens : DomainEvent) (events : List Event) (i : ℕ) (m : Machine) (a b : Moment)
    → (so_far : RunsSoFar tree root opens events i m a b) → AsksForEvents tree root (take i events) so_far.asks
asks_of_first tree root opens events i m a b so_far =
    may_ask_all opens tree root (take i events) so_far.first so_far.lines m so_far.run so_far.asks so_far.asked_in_run

pub asks_so_far : (tree : Option Tree) (root : List ℕ) (opens : DomainEvent) (events : List Event) (i : ℕ) (m : Machine) (a b : Moment)
    → RunsSoFar tree root opens events i m a b → RunAsks tree root events a.asked b.asked
asks_so_far tree root opens events i m a b so_far =
    (so_far.asks, filled tree root i events so_far.asks (asks_of_first tree root opens events i m a b so_far), so_far.asked)

-- nothing was
pub asks_nothing : (tree : Option Tree) (root : List ℕ) (events : List Event) (asked : List Ask) → RunAsks tree root events asked asked
asks_nothing tree root events asked = ([], fills_up tree root events, sym (append-nil asked))

-- an event that stops the run asked for its part
pub asks_to_stop : (tree : Option Tree) (root : List ℕ) (opens : DomainEvent) (events : List Event) (i : ℕ) (event : Event) (m : Machine) (a b c : Moment)
    → i < length events → event ≡ get_or events i event → RunsSoFar tree root opens events i m a b → EventAsks tree root event b.asked c.asked
    → RunAsks tree root events a.asked c.asked
asks_to_stop tree root opens events i event m a b c lt is so_far more =
    let longer = next_is events i event lt is in (
      so_far.asks ++ more.0,
      filled tree root (i + 1) events (so_far.asks ++ more.0)
          (subst (λ (es : List Event). AsksForEvents tree root es (so_far.asks ++ more.0)) (sym longer)
          (asks_more tree root (take i events) event so_far.asks more.0 (asks_of_first tree root opens events i m a b so_far) more.1)),
      more.2 ∙ ap (λ (x : List Ask). x ++ more.0) so_far.asked ∙ append_assoc a.asked so_far.asks more.0,
    )

-- ---- The end of a run.

-- the events so far are the first ones, and nothing went out after them
abbrev whole_so_far : (tree : Option Tree) (root : List ℕ) (opens : DomainEvent) (events : List Event) (i : ℕ) (m : Machine) (a b : Moment) (out : SinkState)
    → i ≤ length events → RunsSoFar tree root opens events i m a b → out ≡ b.out → RunsWhole opens events i a.out out
whole_so_far tree root opens events i m a b out within so_far quiet = record {
  lines = so_far.lines;
  last = m;
  run = record { within = within; first = so_far.first; is_first = so_far.is_first; run = so_far.run };
  printed = subst (λ (o : SinkState). Prints {E = Stop} a.out o (Ok tt) so_far.lines) (sym quiet) so_far.printed;
}

-- the run stops before a `domain` event
abbrev IsAtDomain : Option Tree → List ℕ → DomainEvent → List Event → Moment → Moment → Type 0
IsAtDomain tree root opens events a c =
    (p : StopsAtDomain opens events a.out c.out) × AskedUpToFolder tree root p a.asked c.asked

stops_at_domain : (tree : Option Tree) (root : List ℕ) (opens : DomainEvent) (events : List Event) (i : ℕ) (event : Event) (m : Machine) (a b c : Moment)
    → i < length events → event ≡ get_or events i event → RunsSoFar tree root opens events i m a b → c.out ≡ b.out → MayStop m event
    → EventAsks tree root event b.asked c.asked
    → (h : IsAtDomain tree root opens events a c) × (c.asked ≢ b.asked → h.1.at_last ≢ [])
stops_at_domain tree root opens events i (Domain name quotas) m a b c lt is so_far quiet free asks = (
  (
    record {
      k = i;
      whole = whole_so_far tree root opens events i m a b c.out (omega arith) so_far quiet;
      name = name;
      quotas = quotas;
      next = at_place events i (Domain name quotas) lt is;
      free = free;
    },
    record {
      before = so_far.asks;
      asked_before = so_far.asked_in_run;
      at_last = asks.0;
      asked_at_last = asks.1;
      asked = asks.2 ∙ ap (λ (x : List Ask). x ++ asks.0) so_far.asked ∙ append_assoc a.asked so_far.asks asks.0;
    },
  ),
  λ more none. more (asks.2 ∙ ap (λ (x : List Ask). b.asked ++ x) none ∙ append-nil b.asked),
)
stops_at_domain tree root opens events i (Start name class words) m a b c lt is so_far quiet free asks = absurd free
stops_at_domain tree root opens events i (Turn thread steps) m a b c lt is so_far quiet free asks = absurd free
stops_at_domain tree root opens events i (Round rounds steps) m a b c lt is so_far quiet free asks = absurd free
stops_at_domain tree root opens events i (Kill name) m a b c lt is so_far quiet free asks = absurd free

-- an event that stops the run
pub run_stops : (tree : Option Tree) (root : List ℕ) (opens : DomainEvent) (events : List Event) (i : ℕ) (event : Event) (m new : Machine) (a b c : Moment)
    (stop : Stop) → i < length events → event ≡ get_or events i event → RunsSoFar tree root opens events i m a b
    → NeverFalls a.files_faults b.files_faults → NeverFalls a.out.faults b.out.faults → EventEnds tree root opens event m new b c (Err stop)
    → EventAsks tree root event b.asked c.asked → RunEnds tree root opens events a c (Err stop)
run_stops tree root opens events i event m new a b c ReadFault lt is so_far files faults ends asks =
    let h = stops_at_domain tree root opens events i event m a b c lt is so_far ends.1 ends.0 asks in
    (HasRisen-after a.files_faults b.files_faults c.files_faults files ends.2, (h.0.0, h.0.1, h.1 ends.3))
run_stops tree root opens events i event m new a b c WriteFault lt is so_far files faults (broke, more) asks = (
  HasRisen-after a.out.faults b.out.faults c.out.faults faults broke.printed.cause,
  (
    record {
      k = i;
      between = b.out;
      whole = whole_so_far tree root opens events i m a b b.out (omega arith) so_far refl;
      event = event;
      next = at_place events i event lt is;
      breaks_off = broke;
    },
    record {
      before = so_far.asks;
      asked_before = so_far.asked_in_run;
      at_last = more.0;
      asked_at_last = more.1;
      asked = more.2 ∙ ap (λ (x : List Ask). x ++ more.0) so_far.asked ∙ append_assoc a.asked so_far.asks more.0;
    },
  ),
)
run_stops tree root opens events i event m new a b c OutOfMemory lt is so_far files faults ends asks =
    inr (stops_at_domain tree root opens events i event m a b c lt is so_far ends.1 ends.0 asks).0

-- all events were run
pub runs_whole : (tree : Option Tree) (root : List ℕ) (opens : DomainEvent) (events : List Event) (i : ℕ) (m : Machine) (a b : Moment)
    → length events ≤ i → i ≤ length events → RunsSoFar tree root opens events i m a b
    → (r : RunsWhole opens events (length events) a.out b.out) × AskedForWhole tree root r a.asked b.asked
runs_whole tree root opens events i m a b past within so_far =
    let all : i ≡ length events = omega arith in
    subst (λ (k : ℕ). (r : RunsWhole opens events k a.out b.out) × AskedForWhole tree root r a.asked b.asked) all (
      whole_so_far tree root opens events i m a b b.out within so_far refl,
      (so_far.asks, so_far.asked_in_run, so_far.asked),
    )
