-- Lines that are read from the first on, each by what it stands for, have the events or the fault of all.
use Rattle.std.proofs.Common.{◌≡◌, ℕ, suc, ◌+◌, ◌<◌, ◌≤◌, Bool, true, false, List, [], ◌∷◌, ◌++◌, length, refl, sym, ◌∙◌, ap, arith, add-one, append-nil, append_assoc, Option, Some, None, Result, Ok, Err, IfOk, nat_le}
use Rattle.std.specs.Str.Lines.{lines}
use Rattle.std.proofs.lemmas.Bool.{leb-true}
use Rattle.jk_model.specs.declared.script.Event.{Event}
use Rattle.jk_model.specs.declared.script.FaultKind.{FaultKind}
use Rattle.jk_model.specs.declared.script.FaultKind.TheVariants.{TooLong}
use Rattle.jk_model.specs.declared.script.ScriptFault.{ScriptFault}
use Rattle.jk_model.specs.ScriptGrammar.{lines_events, events_by, then_rest, before, fault_at}
use Rattle.script_reader.specs.declared.error.ScriptError.{ScriptError}
use Rattle.script_reader.specs.declared.error.ScriptError.TheVariants.{Fault, OutOfMemory}
use Rattle.script_reader.specs.Answers.{GivesAll, at_line}

abbrev Meaning : Type 0
Meaning = List ℕ → Result (Option Event) FaultKind

-- these events, and then those that follow
abbrev pub after_events : List Event → Result (List Event) ScriptFault → Result (List Event) ScriptFault
after_events done (Ok more) = Ok (done ++ more)
after_events done (Err fault) = Err fault

-- what is known once some lines are read
pub record AreRead (meaning : List ℕ → Result (Option Event) FaultKind) (bytes rest : List ℕ) (number : ℕ) (events : List Event) : Type 0 where
  pub low : number ≤ 65537
  pub same : lines_events meaning 1 (lines bytes) ≡ after_events events (lines_events meaning number (lines rest))

after_none : (r : Result (List Event) ScriptFault) → r ≡ after_events [] r
after_none (Ok more) = refl
after_none (Err fault) = refl

pub before_all : (meaning : Meaning) (bytes : List ℕ) (events : List Event) → events ≡ [] → AreRead meaning bytes bytes 1 events
before_all meaning bytes events e = record { low = omega arith; same = rw e (after_none _) }

-- the next line, where it isn't one too many
next_line : (meaning : Meaning) (n : ℕ) (line : List ℕ) (more : List (List ℕ)) → n ≤ 65536
    → lines_events meaning n (line ∷ more) ≡ then_rest n (meaning line) (lines_events meaning (n + 1) more)
next_line meaning n line more h = rw add-one (grind arith)

after_one : (done : List Event) (event : Event) (r : Result (List Event) ScriptFault)
    → after_events done (before event r) ≡ after_events (done ++ event ∷ []) r
after_one done event (Ok more) = ap Ok (sym (append_assoc done (event ∷ []) more))
after_one done event (Err fault) = refl

line_read : (n : ℕ) (r : Result (Option Event) FaultKind) (o : Option Event) → at_line n r ≡ Ok o → r ≡ Ok o
line_read n (Ok p) o e = cc
line_read n (Err kind) o e = cc

line_refused : (n : ℕ) (r : Result (Option Event) FaultKind) (f : ScriptFault) (rest : Result (List Event) ScriptFault)
    → at_line n r ≡ Err f → then_rest n r rest ≡ Err f
line_refused n (Ok o) f rest e = cc
line_refused n (Err kind) f rest e = cc

pub after_event : (meaning : Meaning) (bytes rest line after : List ℕ) (n : ℕ) (events : List Event) (event : Event)
    → AreRead meaning bytes rest n events → lines rest ≡ line ∷ lines after → n ≤ 65536 → at_line n (meaning line) ≡ Ok (Some event)
    → AreRead meaning bytes after (n + 1) (events ++ event ∷ [])
after_event meaning bytes rest line after n events event h e low is =
    let means : meaning line ≡ Ok (Some event) = line_read n (meaning line) (Some event) is in
    record {
      low = omega arith;
      same = h.same ∙ rw (e, next_line meaning n line (lines after) low, means) (after_one events event _);
    }

pub after_no_event : (meaning : Meaning) (bytes rest line after : List ℕ) (n : ℕ) (events : List Event)
    → AreRead meaning bytes rest n events → lines rest ≡ line ∷ lines after → n ≤ 65536 → at_line n (meaning line) ≡ Ok None
    → AreRead meaning bytes after (n + 1) events
after_no_event meaning bytes rest line after n events h e low is =
    let means : meaning line ≡ Ok None = line_read n (meaning line) None is in
    record { low = omega arith; same = h.same ∙ rw (e, next_line meaning n line (lines after) low, means) }

pub refused_line : (meaning : Meaning) (bytes rest line after : List ℕ) (n : ℕ) (events : List Event) (error : ScriptError)
    → AreRead meaning bytes rest n events → lines rest ≡ line ∷ lines after → n ≤ 65536 → GivesAll (at_line n (meaning line)) (Err error)
    → GivesAll (lines_events meaning 1 (lines bytes)) (Err error)
refused_line meaning bytes rest line after n events (Fault fault) h e low is =
    let refused = line_refused n (meaning line) fault (lines_events meaning (n + 1) (lines after)) is in
    h.same ∙ rw (e, next_line meaning n line (lines after) low, refused)
refused_line meaning bytes rest line after n events OutOfMemory h e low is = tt

pub one_too_many : (meaning : Meaning) (bytes rest line after : List ℕ) (n : ℕ) (events : List Event)
    → AreRead meaning bytes rest n events → lines rest ≡ line ∷ lines after → 65536 < n
    → lines_events meaning 1 (lines bytes) ≡ Err (fault_at n TooLong)
one_too_many meaning bytes rest line after n events h e high =
    let refused : lines_events meaning n (line ∷ lines after) ≡ Err (fault_at n TooLong) = grind arith in
    h.same ∙ rw (e, refused)

pub all_lines : (meaning : Meaning) (bytes rest : List ℕ) (n : ℕ) (events : List Event) → AreRead meaning bytes rest n events → lines rest ≡ []
    → lines_events meaning 1 (lines bytes) ≡ Ok events
all_lines meaning bytes rest n events h e = h.same ∙ rw e (ap Ok (append-nil events))

-- at most one event a line
few_then : (n : ℕ) (r : Result (Option Event) FaultKind) (rest : Result (List Event) ScriptFault) (events : List Event)
    → ((more : List Event) → rest ≡ Ok more → length more + suc n ≤ 65537) → then_rest n r rest ≡ Ok events → length events + n ≤ 65537
few_then n (Ok None) rest events h e = omega (arith, h events e)
few_then n (Ok (Some event)) (Ok more) events h e =
    let is : event ∷ more ≡ events = cc in
    rw (← is) (omega (arith, h more refl))
few_then n (Ok (Some event)) (Err fault) events h e = cc
few_then n (Err kind) rest events h e = cc

few_lines : (meaning : Meaning) (ls : List (List ℕ)) (n : ℕ) (events : List Event) → n ≤ 65537 → lines_events meaning n ls ≡ Ok events
    → length events + n ≤ 65537
few_lines meaning [] n events h e = let is : [] ≡ events = cc in rw (← is) (omega arith)
few_lines meaning (line ∷ more) n events h e =
    by_test (λ es low is. few_lines meaning more (suc n) es low is) (nat_le n 65536) refl
  where
    by_test : ((es : List Event) → suc n ≤ 65537 → lines_events meaning (suc n) more ≡ Ok es → length es + suc n ≤ 65537)
        → (b : Bool) → nat_le n 65536 ≡ b → length events + n ≤ 65537
    by_test few true t =
        let low : suc n ≤ 65537 = omega (arith, leb-true n 65536 t) in
        few_then n (meaning line) (lines_events meaning (suc n) more) events (λ es is. few es low is) (rw t at e)
    by_test few false t = let wrong : Err (fault_at n TooLong) ≡ Ok events = rw t at e in cc

few_of : (meaning : Meaning) (bytes : List ℕ) (events : List Event) → events_by meaning bytes ≡ Ok events → length events ≤ 65536
few_of meaning bytes events e = by_test (nat_le (length bytes) 1048576) refl
  where
    by_test : (b : Bool) → nat_le (length bytes) 1048576 ≡ b → length events ≤ 65536
    by_test true t =
        let is : lines_events meaning 1 (lines bytes) ≡ Ok events = rw t at e in
        omega (arith, few_lines meaning (lines bytes) 1 events (omega arith) is)
    by_test false t = let wrong : Err (fault_at 0 TooLong) ≡ Ok events = rw t at e in cc

pub few_events : (meaning : List ℕ → Result (Option Event) FaultKind) (bytes : List ℕ) (r : Result (List Event) ScriptError)
    → GivesAll (events_by meaning bytes) r → IfOk r (λ events. length events ≤ 65536)
few_events meaning bytes (Ok events) e = few_of meaning bytes events e
few_events meaning bytes (Err error) e = tt
