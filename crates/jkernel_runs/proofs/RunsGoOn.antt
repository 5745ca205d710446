-- A run that goes on by an event, with what it asked for.
use Rattle.std.proofs.Common.{ℕ, List, [], ◌∷◌, ◌++◌, Option, Ok, Err, refl, sym, ap, subst, ◌∙◌, append_assoc, append-nil}
use Rattle.jk_model.specs.declared.output.Line.{Line}
use Rattle.jk_model.specs.declared.script.Event.{Event}
use Rattle.jk_model.specs.declared.script.Event.TheVariants.{Domain, Start, Turn, Round, Kill}
use Rattle.jk_model.specs.Outside.{Ask, Tree}
use Rattle.jk_model_machine_state.specs.Machines.{Machine}
use Rattle.jk_model_runs.specs.Events.{DomainEvent, Happens, IsRun, IsWhole}
use Rattle.kernel_events.specs.PrintedLines.{Prints, SinkState}
use Rattle.jkernel_runs.specs.Asked.{AskedInEvent, AskedInRun, AsksForEvent, AsksForEvents}

-- A run, and an event after it, with what both asked for.
pub run_more : (opens : DomainEvent) (tree : Option Tree) (root : List ℕ) (events : List Event) (event : Event) (m mid last : Machine)
    (first rest : List Line) (asks more : List Ask) → (p : IsRun opens events m first mid) → AskedInRun opens tree root events m first mid p asks
    → Happens opens event mid rest last → IsWhole last → AskedInEvent tree root event mid rest more
    → (q : IsRun opens (events ++ event ∷ []) m (first ++ rest) last)
    × AskedInRun opens tree root (events ++ event ∷ []) m (first ++ rest) last q (asks ++ more)
run_more opens tree root [] event m mid last first rest asks more p asked h whole asked_more = (
  (
    last,
    rest,
    [],
    subst (λ (x : Machine). Happens opens event x rest last) p.1 h,
    whole,
    (refl, refl),
    ap (λ (ls : List Line). ls ++ rest) p.0 ∙ sym (append-nil rest),
  ),
  (
    more,
    [],
    subst (λ (x : Machine). AskedInEvent tree root event x rest more) p.1 asked_more,
    refl,
    ap (λ (x : List Ask). x ++ more) asked ∙ sym (append-nil more),
  ),
)
run_more opens tree root (e ∷ events) event m mid last first rest asks more p asked h whole asked_more =
    let longer = run_more opens tree root events event p.0 mid last p.2 rest asked.1 more p.5 asked.3 h whole asked_more in (
      (p.0, p.1, p.2 ++ rest, p.3, p.4, longer.0, ap (λ (ls : List Line). ls ++ rest) p.6 ∙ append_assoc p.1 p.2 rest),
      (
        asked.0,
        asked.1 ++ more,
        asked.2,
        longer.1,
        ap (λ (x : List Ask). x ++ more) asked.4 ∙ append_assoc asked.0 asked.1 more,
      ),
    )

-- what a run's events asked for is what events may ask for
pub may_ask : (tree : Option Tree) (root : List ℕ) (event : Event) (m : Machine) (lines : List Line) (asks : List Ask)
    → AskedInEvent tree root event m lines asks → AsksForEvent tree root event asks
may_ask tree root (Domain name quotas) m lines asks h = h.of_folder
may_ask tree root (Start name class words) m lines asks h = h
may_ask tree root (Turn thread steps) m lines asks h = h
may_ask tree root (Round rounds steps) m lines asks h = h
may_ask tree root (Kill name) m lines asks h = h

pub may_ask_all : (opens : DomainEvent) (tree : Option Tree) (root : List ℕ) (events : List Event) (m : Machine) (lines : List Line) (last : Machine)
    (run : IsRun opens events m lines last) (asks : List Ask) → AskedInRun opens tree root events m lines last run asks
    → AsksForEvents tree root events asks
may_ask_all opens tree root [] m lines last run asks h = h
may_ask_all opens tree root (event ∷ events) m lines last run asks h = (
  h.0,
  h.1,
  may_ask tree root event m run.1 h.0 h.2,
  may_ask_all opens tree root events run.0 run.2 last run.5 h.1 h.3,
  h.4,
)

-- ---- What failed has another name where the run stops.

pub printed_so : {D E : Type 0} (a b : SinkState) (lines : List Line) → Prints {E = D} a b (Ok tt) lines → Prints {E = E} a b (Ok tt) lines
printed_so a b lines p = record {
  ok = p.ok;
  pieces = p.pieces;
  part = tt;
  pieces_part = tt;
  cause = tt;
  calm = p.calm;
  faults = p.faults;
}

pub broken_so : {D E : Type 0} (d : D) (e : E) (a b : SinkState) (lines : List Line) → Prints a b (Err d) lines → Prints a b (Err e) lines
broken_so d e a b lines p = record {
  ok = tt;
  pieces = tt;
  part = p.part;
  pieces_part = p.pieces_part;
  cause = p.cause;
  calm = tt;
  faults = p.faults;
}
