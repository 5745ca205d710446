-- The whole grammar of scripts: which events a script's bytes stand for, or the first line at fault and what
-- is wrong with it. In a line the words are judged from left to right, and the first that is wrong decides.
-- The program reads a part of it: `docs/FORMATS.md`.
use Rattle.std.specs.Prelude.{⊤, ℕ, zero, suc, ◌+◌, ◌-◌, ◌*◌, ◌≤◌, Bool, true, false, not, ◌==◌, ◌&&◌, List, [], ◌∷◌, length, fold, find, bytes_eq, nat_le, if◌then◌else◌, Option, Some, None, Result, Ok, Err, codes}
use Rattle.std.specs.List.{AllByRecursion, list_all, list_any}
use Rattle.jk_model.specs.declared.script.Event.{Event}
use Rattle.jk_model.specs.declared.script.Event.TheVariants.{Domain, Start, Turn, Round, Kill}
use Rattle.jk_model.specs.declared.script.FaultKind.{FaultKind}
use Rattle.jk_model.specs.declared.script.FaultKind.TheVariants.{BadByte, UnknownWord, BadName, BadNumber, TooLong, Extra, Missing}
use Rattle.jk_model.specs.declared.script.Quotas.{Quotas}
use Rattle.jk_model.specs.declared.script.ScriptFault.{ScriptFault}
use Rattle.jk_model.specs.Script.{MAX_BYTES, MAX_LINES, script_lines, words, is_line_byte, is_empty_line, is_name_byte, default_quotas}

-- ---- Words.

-- an event, or the kind of the fault that decides
abbrev Reading : Type 0
Reading = Result Event FaultKind

-- a domain's name: 1 to 32 letters, digits, `_` or `-`
abbrev pub is_name : List ℕ → Bool
is_name word = nat_le 1 (length word) && nat_le (length word) 32 && list_all is_name_byte word

abbrev pub is_digit : ℕ → Bool
is_digit b = nat_le 48 b && nat_le b 57

-- decimal digits, without a needless zero in front
abbrev pub is_numeral : List ℕ → Bool
is_numeral [] = false
is_numeral (b ∷ []) = is_digit b
is_numeral (b ∷ more) = not (b == 48) && list_all is_digit (b ∷ more)

abbrev pub numeral_value : List ℕ → ℕ
numeral_value word = fold (λ n b. n * 10 + (b - 48)) 0 word

-- the number that a word writes, if it is within these bounds
abbrev pub number_within : ℕ → ℕ → List ℕ → Option ℕ
number_within low high word =
    if is_numeral word && nat_le low (numeral_value word) && nat_le (numeral_value word) high
    then Some (numeral_value word)
    else None

abbrev on_number : Option ℕ → (ℕ → Reading) → Reading
on_number None next = Err BadNumber
on_number (Some n) next = next n

-- a number within these bounds, and then what follows it
abbrev pub with_number : ℕ → ℕ → List ℕ → (ℕ → Reading) → Reading
with_number low high word next = on_number (number_within low high word) next

-- a name, and then what follows it
abbrev pub with_name : List ℕ → Reading → Reading
with_name word next = if is_name word then next else Err BadName

-- the line ends here
abbrev pub nothing_more : List (List ℕ) → Event → Reading
nothing_more [] event = Ok event
nothing_more (word ∷ more) event = Err Extra

-- ---- `domain NAME`, and any of the options, each once.

-- an option's name, its least and its greatest number, the number that quotas have for it, and the quotas with
-- another number for it
pub record QuotaOption : Type 0 where
  pub name : List ℕ
  pub low : ℕ
  pub high : ℕ
  pub get : Quotas → Option ℕ
  pub set : ℕ → Quotas → Quotas

abbrev pub quota_options : List QuotaOption
quota_options =
    record { name = codes "heap"; low = 64; high = 16777216; get = λ (q : Quotas). Some q.heap; set = λ n (q : Quotas). record q { heap = n } }
    ∷ record { name = codes "stack"; low = 2; high = 262144; get = λ (q : Quotas). Some q.chunks; set = λ n (q : Quotas). record q { chunks = n } }
    ∷ record { name = codes "caps"; low = 0; high = 1000000; get = λ (q : Quotas). Some q.caps; set = λ n (q : Quotas). record q { caps = n } }
    ∷ record { name = codes "threads"; low = 1; high = 4096; get = λ (q : Quotas). Some q.threads; set = λ n (q : Quotas). record q { threads = n } }
    ∷ record { name = codes "names"; low = 0; high = 4096; get = λ (q : Quotas). Some q.names; set = λ n (q : Quotas). record q { names = n } }
    ∷ record { name = codes "steps"; low = 0; high = 1000000000; get = λ (q : Quotas). q.steps; set = λ n (q : Quotas). record q { steps = Some n } }
    ∷ []

-- each number of the quotas is within its option's bounds
abbrev IsWithin : ℕ → ℕ → Option ℕ → Type 0
IsWithin low high None = ⊤
IsWithin low high (Some n) = (low ≤ n) × (n ≤ high)

abbrev pub KeepsRanges : Quotas → Type 0
KeepsRanges q = AllByRecursion (λ (o : QuotaOption). IsWithin o.low o.high (o.get q)) quota_options

abbrev on_option : Option QuotaOption → Bool → (QuotaOption → Reading) → Reading
on_option None is_seen next = Err UnknownWord
on_option (Some option) true next = Err Extra
on_option (Some option) false next = next option

-- an option that isn't among those seen, and then what follows it
abbrev pub with_option : List (List ℕ) → List ℕ → (QuotaOption → Reading) → Reading
with_option seen word next =
    on_option (find (λ (o : QuotaOption). bytes_eq o.name word) quota_options) (list_any (bytes_eq word) seen) next

abbrev pub with_options : List ℕ → List (List ℕ) → Quotas → List (List ℕ) → Reading
with_options name seen quotas [] = Ok (Domain name quotas)
with_options name seen quotas (word ∷ []) = with_option seen word (λ option. Err Missing)
with_options name seen quotas (word ∷ number ∷ more) =
    with_option seen word (λ option.
    with_number option.low option.high number (λ n.
    with_options name (word ∷ seen) (option.set n quotas) more))

abbrev pub domain_line : List (List ℕ) → Reading
domain_line [] = Err Missing
domain_line (name ∷ options) = with_name name (with_options name [] default_quotas options)

-- ---- `start NAME CLASS WORD...`: a class of at most 255 bytes, and at most 255 words of at most 255 bytes.

abbrev pub MAX_WORD : ℕ
MAX_WORD = 255

-- what is wrong with these words, of which so many may stand
abbrev pub start_words_fault : ℕ → List (List ℕ) → Option FaultKind
start_words_fault room [] = None
start_words_fault zero (word ∷ more) = if nat_le (length word) MAX_WORD then Some Extra else Some TooLong
start_words_fault (suc room) (word ∷ more) =
    if nat_le (length word) MAX_WORD then start_words_fault room more else Some TooLong

abbrev without_fault : Option FaultKind → Event → Reading
without_fault None event = Ok event
without_fault (Some kind) event = Err kind

abbrev pub start_class : List ℕ → List (List ℕ) → Reading
start_class name [] = Err Missing
start_class name (class ∷ arguments) =
    if nat_le (length class) MAX_WORD
    then without_fault (start_words_fault 255 arguments) (Start name class arguments)
    else Err BadName

abbrev pub start_line : List (List ℕ) → Reading
start_line [] = Err Missing
start_line (name ∷ more) = with_name name (start_class name more)

-- ---- `turn T` and `turn T N`.

abbrev pub MAX_STEPS : ℕ
MAX_STEPS = 1000000000

abbrev pub turn_steps : ℕ → List (List ℕ) → Reading
turn_steps thread [] = Ok (Turn thread 1)
turn_steps thread (word ∷ more) = with_number 1 MAX_STEPS word (λ steps. nothing_more more (Turn thread steps))

abbrev pub turn_line : List (List ℕ) → Reading
turn_line [] = Err Missing
turn_line (word ∷ more) = with_number 0 4294967295 word (λ thread. turn_steps thread more)

-- ---- `round R Q`. Where the product is too large, the second number is at fault.

abbrev pub MAX_ROUNDS : ℕ
MAX_ROUNDS = 1000000

abbrev pub round_steps : ℕ → List (List ℕ) → Reading
round_steps rounds [] = Err Missing
round_steps rounds (word ∷ more) =
    with_number 1 MAX_ROUNDS word (λ steps.
    if nat_le (rounds * steps) MAX_STEPS then nothing_more more (Round rounds steps) else Err BadNumber)

abbrev pub round_line : List (List ℕ) → Reading
round_line [] = Err Missing
round_line (word ∷ more) = with_number 1 MAX_ROUNDS word (λ rounds. round_steps rounds more)

-- ---- `kill NAME`.

abbrev pub kill_line : List (List ℕ) → Reading
kill_line [] = Err Missing
kill_line (name ∷ more) = with_name name (nothing_more more (Kill name))

-- ---- Lines.

-- a line of these words, the first of which is the command
abbrev pub command_line : List ℕ → List (List ℕ) → Reading
command_line word more =
    if bytes_eq word (codes "domain") then domain_line more
    else (if bytes_eq word (codes "start") then start_line more
    else (if bytes_eq word (codes "turn") then turn_line more
    else (if bytes_eq word (codes "round") then round_line more
    else (if bytes_eq word (codes "kill") then kill_line more
    else Err UnknownWord))))

abbrev one_event : Reading → Result (Option Event) FaultKind
one_event (Ok event) = Ok (Some event)
one_event (Err kind) = Err kind

abbrev words_event : List (List ℕ) → Result (Option Event) FaultKind
words_event [] = Ok None
words_event (word ∷ more) = one_event (command_line word more)

-- what a line stands for: an event or none. Its bytes are judged before its words.
abbrev pub line_event : List ℕ → Result (Option Event) FaultKind
line_event line =
    if list_all is_line_byte line then (if is_empty_line line then Ok None else words_event (words line)) else Err BadByte

-- ---- The whole script.

abbrev pub fault_at : ℕ → FaultKind → ScriptFault
fault_at line kind = record { line = line; kind = kind }

abbrev pub before : Event → Result (List Event) ScriptFault → Result (List Event) ScriptFault
before event (Ok events) = Ok (event ∷ events)
before event (Err fault) = Err fault

abbrev pub then_rest : ℕ → Result (Option Event) FaultKind → Result (List Event) ScriptFault → Result (List Event) ScriptFault
then_rest n (Ok None) rest = rest
then_rest n (Ok (Some event)) rest = before event rest
then_rest n (Err kind) rest = Err (fault_at n kind)

-- the events of these lines, by what each line stands for; the first of them has the number n
abbrev pub lines_events : (List ℕ → Result (Option Event) FaultKind) → ℕ → List (List ℕ) → Result (List Event) ScriptFault
lines_events meaning n [] = Ok []
lines_events meaning n (line ∷ more) =
    if nat_le n MAX_LINES then then_rest n (meaning line) (lines_events meaning (suc n) more) else Err (fault_at n TooLong)

-- the events of a script's bytes, by what each line stands for
abbrev pub events_by : (List ℕ → Result (Option Event) FaultKind) → List ℕ → Result (List Event) ScriptFault
events_by meaning bytes =
    if nat_le (length bytes) MAX_BYTES then lines_events meaning 1 (script_lines bytes) else Err (fault_at 0 TooLong)

-- The events that a script's bytes stand for, in order, or its first fault. Line 0 stands for the script as
-- a whole, where it has too many bytes.
abbrev pub events_of : List ℕ → Result (List Event) ScriptFault
events_of bytes = events_by line_event bytes
