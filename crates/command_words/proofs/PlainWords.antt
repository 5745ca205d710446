-- Two words that don't begin with `-` are the call of a script, by `clap`'s own definition of what words a command takes.
use Rattle.std.proofs.Common.{◌≡◌, ℕ, ◌&&◌, Bool, false, List, [], ◌∷◌, Option, Some, None, is_some, if◌then◌else◌, refl, sym, ap, ◌∙◌, codes}
use Rattle.std.specs.Option.{option_and_then, option_map_or}
use Rattle.std.specs.Str.{bytes_eq}
use Rattle.clap.specs.Faults.{bundle_fault, check_fault, defaults_fault, entered_fault, fault_of, flag_word_fault, settle_fault, step_fault, turn_fault, word_fault}
use Rattle.clap.specs.Kinds.{Kinds, or_else}
use Rattle.clap.specs.Lexer.{long_of, long_of_rest, short_of, short_of_rest, strip_byte}
use Rattle.clap.specs.Simple.{Shape, built, entered}
use Rattle.clap.specs.Walk.{Held, Rule, Step, Text, Walk, arg_by_index, finished, first_of, idle, long_or_other, nothing_held, settled, short_or_plain}
use Rattle.clap.specs.Walk.{to_positional, trailing, value, walk, walked, word_met, after_step}
use Rattle.clap.proofs.OnLiterals.{clap_on_literals}
use Rattle.command_words.proofs.CalledFor.{same_some}
use Rattle.command_words.specs.CommandLine.{ArePlainWords, CallsDemo, CallsScript, command_app, is_option, value_of}

-- ---- A word that doesn't begin with `-` is no option.

unhyphened : (word : Text) → is_option word ≡ false → strip_byte 45 word ≡ None
unhyphened [] e = refl
unhyphened (b ∷ bs) e = ap (λ (t : Bool). if t then Some bs else None) e

not_dashes : (word : Text) → is_option word ≡ false → bytes_eq word (45 ∷ 45 ∷ []) ≡ false
not_dashes [] e = refl
not_dashes (b ∷ bs) e = ap (λ (t : Bool). t && bytes_eq bs (45 ∷ [])) e

not_long : (word : Text) → is_option word ≡ false → long_of word ≡ None
not_long word e = ap (λ (rest : Option Text). option_and_then long_of_rest (option_and_then (strip_byte 45) rest)) (unhyphened word e)

not_short : (word : Text) → is_option word ≡ false → short_of word ≡ None
not_short word e = ap (λ (rest : Option Text). option_and_then short_of_rest rest) (unhyphened word e)

-- ---- It goes to the positional whose turn it is.

-- between two words, where nothing waits and no option is at an end
abbrev between : Held → ℕ → Walk
between h position = record { held = h; waiting = idle; position = position; is_trailing = false; stopped = None }

is_value : (rules : List Rule) (position : ℕ) (word : Text) (h : Held) → is_option word ≡ false
    → word_met rules [] false idle position word h ≡ (h, value)
is_value rules position word h e =
    ap (λ (t : Bool). if t then (h, trailing position) else long_or_other rules idle word (long_of word) h) (not_dashes word e)
    ∙ ap (λ (l : Option (Text × Option Text)). long_or_other rules idle word l h) (not_long word e)
    ∙ ap (λ (flags : Option Text). short_or_plain rules idle word flags h) (not_short word e)

is_walked : (rules : List Rule) (position : ℕ) (word : Text) (h : Held) → is_option word ≡ false
    → walked rules [] (between h position) word ≡ to_positional rules (arg_by_index rules position) word (between h position) h
unfolding walked
is_walked rules position word h e =
    ap (λ (met : Held × Step). after_step rules word (between h position) met.0 met.1) (is_value rules position word h e)

no_word_fault : (s : Shape) (word : Text) (h : Held) → is_option word ≡ false → word_fault s [] false idle word h ≡ []
no_word_fault s word h e =
    ap (λ (t : Bool). if t then [] else flag_word_fault s.rules s.args_override_self (long_of word) word h) (not_dashes word e)
    ∙ ap (λ (l : Option (Text × Option Text)). flag_word_fault s.rules s.args_override_self l word h) (not_long word e)
    ∙ ap (λ (f : Option Text). option_map_or (λ flags. bundle_fault s.rules s.args_override_self flags h) f []) (not_short word e)

turn : (s : Shape) (position : ℕ) (word : Text) (h : Held) → is_option word ≡ false
    → turn_fault s [] (between h position) word ≡ step_fault s position h value
turn s position word h e =
    ap (λ (f : Kinds). or_else f (step_fault s position (word_met s.rules [] false idle position word h).0
    (word_met s.rules [] false idle position word h).1)) (no_word_fault s word h e)
    ∙ ap (λ (met : Held × Step). step_fault s position met.0 met.1) (is_value s.rules position word h e)

-- ---- The walk over the two words.

abbrev shape : Shape
shape = (built command_app).top

-- after this word, which is the positional of this place
abbrev after : ℕ → Text → Held → Walk
after position word h = to_positional shape.rules (arg_by_index shape.rules position) word (between h position) h

abbrev at_end : Text → Text → Walk
at_end root script = after 2 script (after 1 root nothing_held).held

ends_there : (root script : Text) → is_option root ≡ false → is_option script ≡ false
    → walk shape.rules [] nothing_held (root ∷ script ∷ []) ≡ at_end root script
ends_there root script r s =
    ap (λ (w : Walk). walked shape.rules [] w script) (is_walked shape.rules 1 root nothing_held r)
    ∙ is_walked shape.rules 2 script (after 1 root nothing_held).held s

-- the command has no fault at them
no_fault : (root script : Text) → is_option root ≡ false → is_option script ≡ false → fault_of command_app (root ∷ script ∷ []) ≡ []
unfolding clap_on_literals
no_fault root script r s =
    ap (λ (w : Walk). faults (or_else (turn_fault shape [] (between nothing_held 1) root)
    (or_else (turn_fault shape [] (walked shape.rules [] (between nothing_held 1) root) script) [])) w) (ends_there root script r s)
    ∙ ap (λ (f : Kinds). faults (or_else f (or_else (turn_fault shape [] (walked shape.rules [] (between nothing_held 1) root) script) []))
    (at_end root script)) (turn shape 1 root nothing_held r)
    ∙ ap (λ (w : Walk). faults (or_else (turn_fault shape [] w script) []) (at_end root script)) (is_walked shape.rules 1 root nothing_held r)
    ∙ ap (λ (f : Kinds). faults (or_else f []) (at_end root script)) (turn shape 2 script (after 1 root nothing_held).held s)
  where
    -- the faults of the walk, and those at its end
    faults : Kinds → Walk → Kinds
    faults of_walk w = or_else of_walk (or_else (entered_fault (built command_app) w.stopped)
        (or_else (settle_fault shape.rules shape.args_override_self w.held) (or_else (defaults_fault (settled shape.rules w.held).rows shape.rules)
        (check_fault shape (finished shape.rules w.held) (is_some (entered (built command_app) w.stopped))))))

-- no seed is given
no_seed : (root script : Text) → is_option root ≡ false → is_option script ≡ false → value_of (codes "demo") (root ∷ script ∷ []) ≡ None
no_seed root script r s = ap (λ (w : Walk). first_of (codes "demo") (finished shape.rules w.held)) (ends_there root script r s)

-- the first is ROOT
first_root : (root script : Text) → is_option root ≡ false → is_option script ≡ false → value_of (codes "ROOT") (root ∷ script ∷ []) ≡ Some root
first_root root script r s = ap (λ (w : Walk). first_of (codes "ROOT") (finished shape.rules w.held)) (ends_there root script r s)

-- and the second SCRIPT
then_script : (root script : Text) → is_option root ≡ false → is_option script ≡ false → value_of (codes "SCRIPT") (root ∷ script ∷ []) ≡ Some script
then_script root script r s = ap (λ (w : Walk). first_of (codes "SCRIPT") (finished shape.rules w.held)) (ends_there root script r s)

pub plain_call : (words : List Text) (root script : Text) → ArePlainWords words root script → CallsScript words root script
plain_call words root script plain =
    rw plain.0 (record {
      taken = no_fault root script plain.1 plain.2;
      no_demo = no_seed root script plain.1 plain.2;
      root_is = first_root root script plain.1 plain.2;
      script_is = then_script root script plain.1 plain.2;
    })

-- ---- Words call for one thing at most.

pub one_script : (words : List Text) (root script root' script' : Text) → CallsScript words root script → CallsScript words root' script'
    → (root ≡ root') × (script ≡ script')
one_script words root script root' script' a b =
    (same_some root root' (sym a.root_is ∙ b.root_is), same_some script script' (sym a.script_is ∙ b.script_is))

pub no_demo : (words : List Text) (root script : Text) (seed : ℕ) → CallsScript words root script → CallsDemo words seed → ⊥
no_demo words root script seed a b =
    let none = sym a.no_demo ∙ b.demo_is in
    absurd cc
