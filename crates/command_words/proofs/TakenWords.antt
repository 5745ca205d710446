-- The command is a simple one, so that `clap` says exactly which words it takes, and what values they give.
use Rattle.std.proofs.Common.{◌≡◌, ◌≢◌, List, [], Ok, inl, inr, true, refl, ap, subst, ◌∙◌}
use Rattle.clap.specs.Faults.{fault_of, is_simple_and_free}
use Rattle.clap.specs.Kinds.{FailsBy, HasKind, IsAmong}
use Rattle.clap.specs.Matches.{first_value, found_of}
use Rattle.clap.specs.Simple.{App, HasMatchesOf, is_simple}
use Rattle.clap.specs.Values.{kind_of}
use Rattle.clap.specs.Walk.{Text, first_of}
use Rattle.clap.specs.declared.error.Error.{Error}
use Rattle.clap.specs.declared.error.kind.ErrorKind.TheVariants as kind
use Rattle.clap.specs.declared.parser.matches.ArgMatches.{ArgMatches}
use Rattle.clap.proofs.OnLiterals.{clap_on_literals}
use Rattle.clap.proofs.WalkLemmas.{first_value-rows}
use Rattle.command_words.specs.CommandLine.{command_app, value_of}

simple : is_simple command_app ≡ true
unfolding clap_on_literals
simple = refl

free : is_simple_and_free command_app ≡ true
unfolding clap_on_literals
free = refl

-- words that were taken have no fault
pub no_fault : (app : App) (words : List Text) (m : ArgMatches) → app ≡ command_app
    → (is_simple_and_free app ≡ true → FailsBy (fault_of app words) (Ok m)) → fault_of command_app words ≡ []
no_fault app words m is h = subst (λ (a : App). is_simple_and_free a ≡ true → FailsBy (fault_of a words) (Ok m)) is h free

-- and give these values
pub value_is : (app : App) (words : List Text) (m : ArgMatches) (id : Text) → app ≡ command_app → HasMatchesOf app words m
    → first_value (found_of m) id ≡ value_of id words
value_is app words m id is h =
    first_value-rows (found_of m) id ∙ ap (first_of id) (subst (λ (a : App). HasMatchesOf a words m) is h simple).0

among_none : (e : Error) (words : List Text) → HasKind (fault_of command_app words) e → (kind_of e ≡ kind.OutOfMemory → ⊥)
    → fault_of command_app words ≢ []
among_none e words (inl out) not none = not out
among_none e words (inr among) not none = subst (IsAmong (kind_of e)) none among

-- words that were not, other than for want of memory, have one
pub has_fault : (app : App) (words : List Text) (e : Error) → app ≡ command_app
    → (is_simple_and_free app ≡ true → HasKind (fault_of app words) e) → (kind_of e ≡ kind.OutOfMemory → ⊥) → fault_of command_app words ≢ []
has_fault app words e is h =
    among_none e words (subst (λ (a : App). is_simple_and_free a ≡ true → HasKind (fault_of a words) e) is h free)
