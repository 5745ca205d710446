-- Of each event of a script the name has a name's form, and the numbers are within their ranges.
use Rattle.std.proofs.Common.{◌≡◌, ℕ, zero, suc, ◌*◌, ◌≤◌, Bool, true, false, List, [], ◌∷◌, length, Option, Some, None, Result, Ok, Err, refl, sym, subst, bytes_eq, nat_le, ◌&&◌, find, codes, arith, if◌then◌else◌}
use Rattle.std.specs.List.{AllByRecursion, list_all, list_any}
use Rattle.std.proofs.lemmas.Bool.{and_parts}
use Rattle.std.proofs.lemmas.Bool.Decides.{nat_tests}
use Rattle.jk_model.specs.declared.script.Event.{Event}
use Rattle.jk_model.specs.declared.script.Event.TheVariants.{Domain, Start, Turn, Round, Kill}
use Rattle.jk_model.specs.declared.script.FaultKind.{FaultKind}
use Rattle.jk_model.specs.declared.script.FaultKind.TheVariants.{BadByte, BadName, BadNumber, Extra, Missing, TooLong, UnknownWord}
use Rattle.jk_model.specs.declared.script.Quotas.{Quotas}
use Rattle.jk_model.specs.declared.script.ScriptFault.{ScriptFault}
use Rattle.jk_model.specs.Script.{MAX_BYTES, MAX_LINES, script_lines, words, is_line_byte, is_empty_line, default_quotas}
use Rattle.jk_model.specs.ScriptGrammar.{QuotaOption, quota_options, is_name, is_numeral, numeral_value, number_within, with_number, with_option, with_options, nothing_more, domain_line, start_class, start_line, turn_line, round_line, kill_line, command_line, line_event, then_rest, lines_events, MAX_STEPS, MAX_ROUNDS, MAX_WORD, start_words_fault}
use Rattle.jkernel_runs.specs.Events.{AreForKernel, IsOfScript}
use Rattle.jkernel_runs.specs.Scripts.{IsScript}

-- ---- Answers that are good.

no_fault : {X F P : Type 0} (fault : F) (x : X) → Err fault ≡ Ok x → P
no_fault fault x e = absurd cc

ok_if : {X F : Type 0} (b : Bool) (r : Result X F) (fault : F) (x : X) → (if b then r else Err fault) ≡ Ok x → (b ≡ true) × (r ≡ Ok x)
ok_if true r fault x e = (refl, e)
ok_if false r fault x e = absurd cc

some_if : {X : Type 0} (b : Bool) (v x : X) → (if b then Some v else None) ≡ Some x → (b ≡ true) × (v ≡ x)
some_if true v x e = (refl, cc)
some_if false v x e = absurd cc

found_in : {X : Type 0} (P : X → Type 0) (y : X) (b : Bool) (rest : Option X) (x : X) → P y → (rest ≡ Some x → P x)
    → (if b then Some y else rest) ≡ Some x → P x
found_in P y true rest x here later e = let is : y ≡ x = cc in subst P is here
found_in P y false rest x here later e = later e

-- what is found among some has what they all have
found_has : {X : Type 0} (P : X → Type 0) (p : X → Bool) (xs : List X) (x : X) → AllByRecursion P xs → find p xs ≡ Some x → P x
found_has P p [] x all e = absurd cc
found_has P p (y ∷ ys) x all e = found_in P y (p y) (find p ys) x all.0 (found_has P p ys x all.1) e

at_most : (n most : ℕ) → nat_le n most ≡ true → n ≤ most
at_most n most e = grind (arith, nat_tests)

in_range : (low high : ℕ) (word : List ℕ) (n : ℕ) → number_within low high word ≡ Some n → (low ≤ n) × (n ≤ high)
in_range low high word n e =
    let h = some_if (is_numeral word && nat_le low (numeral_value word) && nat_le (numeral_value word) high) (numeral_value word) n e in
    let p = and_parts (is_numeral word && nat_le low (numeral_value word)) (nat_le (numeral_value word) high) h.0 in
    let q = and_parts (is_numeral word) (nat_le low (numeral_value word)) p.0 in
    let least : low ≤ numeral_value word = grind (arith, nat_tests) in
    let most : numeral_value word ≤ high = grind (arith, nat_tests) in
    (subst (λ (k : ℕ). low ≤ k) h.1 least, subst (λ (k : ℕ). k ≤ high) h.1 most)

numbered : (low high : ℕ) (word : List ℕ) (next : ℕ → Result Event FaultKind) (event : Event) → with_number low high word next ≡ Ok event
    → (n : ℕ) × (low ≤ n) × (n ≤ high) × (next n ≡ Ok event)
numbered low high word next event e = by_number (number_within low high word) refl
  where
    by_number : (o : Option ℕ) → number_within low high word ≡ o → (n : ℕ) × (low ≤ n) × (n ≤ high) × (next n ≡ Ok event)
    by_number None is = no_fault BadNumber event (rw is at e)
    by_number (Some n) is = let r = in_range low high word n is in (n, r.0, r.1, rw is at e)

-- ---- `domain`.

abbrev Keeps : QuotaOption → Type 0
Keeps o = (q : Quotas) (n : ℕ) → o.low ≤ n → n ≤ o.high → AreForKernel q → AreForKernel (o.set n q)

all_keep : AllByRecursion Keeps quota_options
all_keep = (
  λ q n low high r. record { words = (omega (arith, low), high); chunks = r.chunks; counts = r.counts },
  (
    λ q n low high r. record { words = r.words; chunks = (omega (arith, low), high); counts = r.counts },
    (
      λ q n low high r. record { words = r.words; chunks = r.chunks; counts = r.counts },
      (
        λ q n low high r. record { words = r.words; chunks = r.chunks; counts = (high, r.counts.1) },
        (
          λ q n low high r. record { words = r.words; chunks = r.chunks; counts = (r.counts.0, high) },
          (λ q n low high r. record { words = r.words; chunks = r.chunks; counts = r.counts }, tt),
        ),
      ),
    ),
  ),
)

default_in_range : AreForKernel default_quotas
default_in_range =
    record { words = (omega arith, omega arith); chunks = (omega arith, omega arith); counts = (omega arith, omega arith) }

new_option : (seen : List (List ℕ)) (word : List ℕ) (next : QuotaOption → Result Event FaultKind) (event : Event)
    → with_option seen word next ≡ Ok event → (o : QuotaOption) × Keeps o × (next o ≡ Ok event)
new_option seen word next event e = by_option (find (λ (o : QuotaOption). bytes_eq o.name word) quota_options) refl
  where
    by_seen : (o : QuotaOption) → find (λ (o : QuotaOption). bytes_eq o.name word) quota_options ≡ Some o → (b : Bool)
        → list_any (bytes_eq word) seen ≡ b → (o : QuotaOption) × Keeps o × (next o ≡ Ok event)
    by_seen o is true seen_is = no_fault Extra event (rw (is, seen_is) at e)
    by_seen o is false seen_is =
        (o, found_has Keeps (λ (o : QuotaOption). bytes_eq o.name word) quota_options o all_keep is, rw (is, seen_is) at e)

    by_option : (o : Option QuotaOption) → find (λ (o : QuotaOption). bytes_eq o.name word) quota_options ≡ o
        → (o : QuotaOption) × Keeps o × (next o ≡ Ok event)
    by_option None is = no_fault UnknownWord event (rw is at e)
    by_option (Some o) is = by_seen o is (list_any (bytes_eq word) seen) refl

options_fits : (name : List ℕ) (seen : List (List ℕ)) (quotas : Quotas) (more : List (List ℕ)) (event : Event) → AreForKernel quotas
    → with_options name seen quotas more ≡ Ok event → (q : Quotas) × (event ≡ Domain name q) × AreForKernel q
options_fits name seen quotas [] event r e = (quotas, cc, r)
options_fits name seen quotas (word ∷ []) event r e =
    let o = new_option seen word (λ option. Err Missing) event e in
    no_fault Missing event o.2
options_fits name seen quotas (word ∷ number ∷ more) event r e =
    let o = new_option seen word _ event e in
    let n = numbered o.0.low o.0.high number _ event o.2 in
    options_fits name (word ∷ seen) (o.0.set n.0 quotas) more event (o.1 quotas n.0 n.1 n.2 r) n.3

domain_fits : (more : List (List ℕ)) (event : Event) → domain_line more ≡ Ok event → IsOfScript event
domain_fits [] event e = absurd cc
domain_fits (name ∷ options) event e =
    let h = ok_if (is_name name) (with_options name [] default_quotas options) BadName event e in
    let o = options_fits name [] default_quotas options event default_in_range h.1 in
    subst IsOfScript (sym o.1) (h.0, o.2)

-- ---- `start`.

-- words without fault
words_fit : (room : ℕ) (words : List (List ℕ)) → start_words_fault room words ≡ None
    → (length words ≤ room) × AllByRecursion (λ (w : List ℕ). length w ≤ 255) words
words_fit room [] e = (omega arith, tt)
words_fit zero (word ∷ more) e = by_length (nat_le (length word) MAX_WORD) e
  where
    by_length : {P : Type 0} (b : Bool) → (if b then Some Extra else Some TooLong) ≡ None → P
    by_length true e = absurd cc
    by_length false e = absurd cc
words_fit (suc room) (word ∷ more) e = by_length (words_fit room more) (nat_le (length word) MAX_WORD) refl
  where
    by_length : (start_words_fault room more ≡ None → (length more ≤ room) × AllByRecursion (λ (w : List ℕ). length w ≤ 255) more) → (b : Bool)
        → nat_le (length word) MAX_WORD ≡ b
        → (suc (length more) ≤ suc room) × ((length word ≤ 255) × AllByRecursion (λ (w : List ℕ). length w ≤ 255) more)
    by_length rest false long = let bad : Some TooLong ≡ None = rw long at e in absurd cc
    by_length rest true fits =
        let h = rest (rw fits at e) in
        (omega (arith, h.0), (at_most (length word) 255 fits, h.1))

start_fits : (name : List ℕ) (more : List (List ℕ)) (event : Event) → start_line (name ∷ more) ≡ Ok event → IsOfScript event
start_fits name [] event e = let h = ok_if (is_name name) (start_class name []) BadName event e in no_fault Missing event h.1
start_fits name (class ∷ words) event e = by_fault (start_words_fault 255 words) refl
  where
    by_fault : (o : Option FaultKind) → start_words_fault 255 words ≡ o → IsOfScript event
    by_fault (Some kind) fault =
        let h = ok_if (is_name name) (start_class name (class ∷ words)) BadName event e in
        let k = ok_if (nat_le (length class) MAX_WORD) _ BadName event h.1 in
        no_fault kind event (rw fault at k.1)
    by_fault None fault =
        let h = ok_if (is_name name) (start_class name (class ∷ words)) BadName event e in
        let k = ok_if (nat_le (length class) MAX_WORD) _ BadName event h.1 in
        let good = rw fault at k.1 in
        let same : event ≡ Start name class words = cc in
        let all = words_fit 255 words fault in
        subst IsOfScript (sym same) (h.0, at_most (length class) 255 k.0, record { few = all.0; short = all.1 })

-- ---- `turn` and `round`.

nothing : (more : List (List ℕ)) (event found : Event) → nothing_more more event ≡ Ok found → found ≡ event
nothing [] event found e = cc
nothing (word ∷ more) event found e = absurd cc

turn_fits : (more : List (List ℕ)) (event : Event) → turn_line more ≡ Ok event → IsOfScript event
turn_fits [] event e = absurd cc
turn_fits (word ∷ []) event e =
    let t = numbered 0 4294967295 word _ event e in
    let is : event ≡ Turn t.0 1 = cc in
    subst IsOfScript (sym is) (omega arith)
turn_fits (word ∷ steps ∷ more) event e =
    let t = numbered 0 4294967295 word _ event e in
    let n = numbered 1 MAX_STEPS steps _ event t.3 in
    subst IsOfScript (sym (nothing more (Turn t.0 n.0) event n.3)) n.2

round_fits : (more : List (List ℕ)) (event : Event) → round_line more ≡ Ok event → IsOfScript event
round_fits [] event e = absurd cc
round_fits (word ∷ []) event e =
    let r = numbered 1 MAX_ROUNDS word _ event e in
    no_fault Missing event r.3
round_fits (word ∷ steps ∷ more) event e =
    let r = numbered 1 MAX_ROUNDS word _ event e in
    let n = numbered 1 MAX_ROUNDS steps _ event r.3 in
    let h = ok_if (nat_le (r.0 * n.0) MAX_STEPS) (nothing_more more (Round r.0 n.0)) BadNumber event n.3 in
    let few : r.0 * n.0 ≤ MAX_STEPS = at_most (r.0 * n.0) MAX_STEPS h.0 in
    subst IsOfScript (sym (nothing more (Round r.0 n.0) event h.1)) few

-- ---- `kill`.

kill_fits : (more : List (List ℕ)) (event : Event) → kill_line more ≡ Ok event → IsOfScript event
kill_fits [] event e = absurd cc
kill_fits (name ∷ more) event e =
    let h = ok_if (is_name name) (nothing_more more (Kill name)) BadName event e in
    subst IsOfScript (sym (nothing more (Kill name) event h.1)) h.0

-- ---- Lines.

-- the line of a command
command_fits : (word : List ℕ) (more : List (List ℕ)) (event : Event) → command_line word more ≡ Ok event → IsOfScript event
command_fits word more event e = by_domain (bytes_eq word (codes "domain")) refl
  where
    by_kill : bytes_eq word (codes "domain") ≡ false → bytes_eq word (codes "start") ≡ false → bytes_eq word (codes "turn") ≡ false
        → bytes_eq word (codes "round") ≡ false → (b : Bool) → bytes_eq word (codes "kill") ≡ b → IsOfScript event
    by_kill d s t r true k = kill_fits more event (rw (d, s, t, r, k) at e)
    by_kill d s t r false k = no_fault UnknownWord event (rw (d, s, t, r, k) at e)

    by_round : bytes_eq word (codes "domain") ≡ false → bytes_eq word (codes "start") ≡ false → bytes_eq word (codes "turn") ≡ false
        → (b : Bool) → bytes_eq word (codes "round") ≡ b → IsOfScript event
    by_round d s t true r = round_fits more event (rw (d, s, t, r) at e)
    by_round d s t false r = by_kill d s t r (bytes_eq word (codes "kill")) refl

    by_turn : bytes_eq word (codes "domain") ≡ false → bytes_eq word (codes "start") ≡ false → (b : Bool) → bytes_eq word (codes "turn") ≡ b
        → IsOfScript event
    by_turn d s true t = turn_fits more event (rw (d, s, t) at e)
    by_turn d s false t = by_round d s t (bytes_eq word (codes "round")) refl

    by_start : bytes_eq word (codes "domain") ≡ false → (b : Bool) → bytes_eq word (codes "start") ≡ b → IsOfScript event
    by_start d true s = starts more (rw (d, s) at e)
      where
        starts : (ws : List (List ℕ)) → start_line ws ≡ Ok event → IsOfScript event
        starts [] e = absurd cc
        starts (name ∷ ws) e = start_fits name ws event e
    by_start d false s = by_turn d s (bytes_eq word (codes "turn")) refl

    by_domain : (b : Bool) → bytes_eq word (codes "domain") ≡ b → IsOfScript event
    by_domain true d = domain_fits more event (rw d at e)
    by_domain false d = by_start d (bytes_eq word (codes "start")) refl

abbrev no_event : Result (Option Event) FaultKind
no_event = Ok None

none_is_some : {P : Type 0} (event : Event) → no_event ≡ Ok (Some event) → P
none_is_some event e = absurd cc

-- a line that stands for an event
line_fits : (line : List ℕ) (event : Event) → line_event line ≡ Ok (Some event) → IsOfScript event
line_fits line event e = by_empty (is_empty_line line) refl
  where
    bytes : list_all is_line_byte line ≡ true
    bytes = (ok_if (list_all is_line_byte line) _ BadByte (Some event) e).0

    by_command : (word : List ℕ) (more : List (List ℕ)) → words line ≡ word ∷ more → is_empty_line line ≡ false → (r : Result Event FaultKind)
        → command_line word more ≡ r → IsOfScript event
    by_command word more ws full (Ok found) c =
        let same : Ok (Some found) ≡ Ok (Some event) = rw (bytes, full, ws, c) at e in
        let one : found ≡ event = cc in
        subst IsOfScript one (command_fits word more found c)
    by_command word more ws full (Err kind) c = no_fault kind (Some event) (rw (bytes, full, ws, c) at e)

    by_words : is_empty_line line ≡ false → (ws : List (List ℕ)) → words line ≡ ws → IsOfScript event
    by_words full [] ws = none_is_some event (rw (bytes, full, ws) at e)
    by_words full (word ∷ more) ws = by_command word more ws full (command_line word more) refl

    by_empty : (b : Bool) → is_empty_line line ≡ b → IsOfScript event
    by_empty true empty = none_is_some event (rw (bytes, empty) at e)
    by_empty false full = by_words full (words line) refl

-- ---- Scripts.

then_fits : (n : ℕ) (r : Result (Option Event) FaultKind) (rest : Result (List Event) ScriptFault) (events : List Event)
    → ((event : Event) → r ≡ Ok (Some event) → IsOfScript event) → ((more : List Event) → rest ≡ Ok more → AllByRecursion IsOfScript more)
    → then_rest n r rest ≡ Ok events → AllByRecursion IsOfScript events
then_fits n (Err kind) rest events one all e = absurd cc
then_fits n (Ok None) rest events one all e = all events e
then_fits n (Ok (Some event)) (Err fault) events one all e = absurd cc
then_fits n (Ok (Some event)) (Ok more) events one all e =
    let is : event ∷ more ≡ events = cc in
    subst (AllByRecursion IsOfScript) is (one event refl, all more refl)

lines_fits : (n : ℕ) (ls : List (List ℕ)) (events : List Event) → lines_events line_event n ls ≡ Ok events → AllByRecursion IsOfScript events
lines_fits n [] events e = let is : [] ≡ events = cc in subst (AllByRecursion IsOfScript) is tt
lines_fits n (line ∷ more) events e =
    let h = ok_if (nat_le n MAX_LINES) (then_rest n (line_event line) (lines_events line_event (suc n) more)) _ events e in
    then_fits n (line_event line) (lines_events line_event (suc n) more) events (line_fits line) (lines_fits (suc n) more) h.1

pub script_fits : (bytes : List ℕ) (events : List Event) → IsScript bytes events → AllByRecursion IsOfScript events
script_fits bytes events is =
    lines_fits 1 (script_lines bytes) events
    (ok_if (nat_le (length bytes) MAX_BYTES) (lines_events line_event 1 (script_lines bytes)) _ events is).1
