-- What the words after the program's name call for. They are words of a simple command of `clap`, whose own definition says which those are and
-- what value each gives: an option `demo` with a value, and two words ROOT and SCRIPT, each of which may be left out. There is no help and no
-- version. Then a script of a folder of folders is called for by ROOT and SCRIPT without a seed, and the demo by a seed alone.
use Rattle.std.specs.Prelude.{◌≡◌, ⊤, ℕ, ◌==◌, Bool, true, false, List, [], ◌∷◌, Option, Some, None, codes}
use Rattle.clap.specs.Walk.{Rule, Text, first_of}
use Rattle.clap.specs.Simple.{App, Shape, matches_of, new_app, new_rule, on_top, with_rule}
use Rattle.clap.specs.Faults.{fault_of}
use Rattle.jk_model.specs.ScriptGrammar.{number_within}
use Rattle.command_words.specs.declared.calls.Call.{Call}
use Rattle.command_words.specs.declared.calls.Call.TheVariants.{Script, Demo}

-- ---- The command.

abbrev pub demo_option : Rule
demo_option = record (new_rule (codes "demo")) { long = Some (codes "demo") }

abbrev pub plain_command : App
plain_command = on_top (λ (s : Shape). record s { no_binary_name = true; disable_help_flag = true }) (new_app (codes "jkernel"))

abbrev pub command_app : App
command_app = with_rule (with_rule (with_rule plain_command demo_option) (new_rule (codes "ROOT"))) (new_rule (codes "SCRIPT"))

-- the words are those of the command
abbrev pub IsCommandLine : List Text → Type 0
IsCommandLine words = fault_of command_app words ≡ []

-- the value that they give, if they give one
abbrev pub value_of : Text → List Text → Option Text
value_of id words = first_of id (matches_of command_app words)

-- ---- What is called for.

-- a seed: a number from 0 to 999,999,999, without a needless zero in front
abbrev pub IsSeed : Text → ℕ → Type 0
IsSeed text seed = number_within 0 999999999 text ≡ Some seed

-- these values are those of some call
abbrev pub HasCall : Option Text → Option Text → Option Text → Type 0
HasCall None (Some root) (Some script) = ⊤
HasCall (Some text) None None = (seed : ℕ) × IsSeed text seed
HasCall demo root script = ⊥

-- and of this one
abbrev pub AreValuesOf : Option Text → Option Text → Option Text → Call → Type 0
AreValuesOf None (Some root) (Some script) (Script r s) = (r.now ≡ root) × (s.now ≡ script)
AreValuesOf (Some text) None None (Demo seed) = IsSeed text seed
AreValuesOf demo root script call = ⊥

pub record CallsScript (words : List Text) (root script : Text) : Type 0 where
  pub taken : IsCommandLine words
  pub no_demo : value_of (codes "demo") words ≡ None
  pub root_is : value_of (codes "ROOT") words ≡ Some root
  pub script_is : value_of (codes "SCRIPT") words ≡ Some script

pub record CallsDemo (words : List Text) (seed : ℕ) : Type 0 where
  pub taken : IsCommandLine words
  pub text : Text
  pub demo_is : value_of (codes "demo") words ≡ Some text
  pub is_seed : IsSeed text seed
  pub no_root : value_of (codes "ROOT") words ≡ None
  pub no_script : value_of (codes "SCRIPT") words ≡ None

abbrev pub CallsFor : List Text → Call → Type 0
CallsFor words (Script root script) = CallsScript words root.now script.now
CallsFor words (Demo seed) = CallsDemo words seed

-- the words call for nothing
pub record IsNoCall (words : List Text) : Type 0 where
  pub no_script : (root script : Text) → CallsScript words root script → ⊥
  pub no_demo : (seed : ℕ) → CallsDemo words seed → ⊥

-- a call is for this script
abbrev pub IsForScript : Call → Text → Text → Type 0
IsForScript (Script r s) root script = (r.now ≡ root) × (s.now ≡ script)
IsForScript (Demo seed) root script = ⊥

-- ---- Two words that say a script without more ado.

-- a word that begins with `-`
abbrev pub is_option : Text → Bool
is_option [] = false
is_option (b ∷ bs) = b == 45

-- The words are ROOT and SCRIPT, and neither begins with `-`.
abbrev pub ArePlainWords : List Text → Text → Text → Type 0
ArePlainWords words root script = (words ≡ root ∷ script ∷ []) × (is_option root ≡ false) × (is_option script ≡ false)
