-- What words call for, from the values that they give.
use Rattle.std.proofs.Common.{◌≡◌, ℕ, List, [], Option, Some, None, Err, sym, ap, ◌∙◌, IfOk, MatchOption, MatchResult, codes}
use Rattle.std.specs.Option.{ok_or}
use Rattle.clap.specs.Faults.{fault_of}
use Rattle.clap.specs.Walk.{Text}
use Rattle.command_words.specs.declared.calls.Call.{Call}
use Rattle.command_words.specs.declared.calls.Call.TheVariants.{Script, Demo}
use Rattle.command_words.specs.declared.error.CallError.{CallError}
use Rattle.command_words.specs.declared.error.CallError.TheVariants.{Usage, OutOfMemory}
use Rattle.command_words.specs.CommandLine.{AreValuesOf, CallsDemo, CallsFor, CallsScript, HasCall, IsForScript, IsNoCall, IsSeed, command_app, value_of}

abbrev Called : Option Text → Option Text → Option Text → Option Call → Type 0
Called demo root script call = MatchOption call (HasCall demo root script → ⊥) (AreValuesOf demo root script)

-- the values are those of the words
pub record AreGiven (words : List Text) (demo root script : Option Text) : Type 0 where
  pub taken : fault_of command_app words ≡ []
  pub demo_is : demo ≡ value_of (codes "demo") words
  pub root_is : root ≡ value_of (codes "ROOT") words
  pub script_is : script ≡ value_of (codes "SCRIPT") words

pub same_some : {X : Type 0} (a b : X) → Some a ≡ Some b → a ≡ b
same_some a b e = cc

-- ---- A call is one for which the words call.

call_fits : (words : List Text) (demo root script : Option Text) (call : Call) → AreGiven words demo root script → AreValuesOf demo root script call
    → CallsFor words call
call_fits words None (Some root) (Some script) (Script r s) given (r_is, s_is) = record {
  taken = given.taken;
  no_demo = sym given.demo_is;
  root_is = sym given.root_is ∙ ap (λ (t : Text). Some t) (sym r_is);
  script_is = sym given.script_is ∙ ap (λ (t : Text). Some t) (sym s_is);
}
call_fits words (Some text) None None (Demo seed) given is = record {
  taken = given.taken;
  text = text;
  demo_is = sym given.demo_is;
  is_seed = is;
  no_root = sym given.root_is;
  no_script = sym given.script_is;
}
call_fits words None (Some root) (Some script) (Demo seed) given h = absurd h
call_fits words (Some text) None None (Script r s) given h = absurd h
call_fits words None None script call given h = absurd h
call_fits words None (Some root) None call given h = absurd h
call_fits words (Some text) (Some root) script call given h = absurd h
call_fits words (Some text) None (Some script) call given h = absurd h

-- ---- And the other way round.

script_fits : (root script : Text) (call : Call) → AreValuesOf None (Some root) (Some script) call → IsForScript call root script
script_fits root script (Script r s) h = h
script_fits root script (Demo seed) h = absurd h

script_answered : (root script : Text) (o : Option Call) → Called None (Some root) (Some script) o
    → MatchResult (ok_or o Usage) (λ (call : Call). IsForScript call root script) (λ (e : CallError). e ≡ OutOfMemory)
script_answered root script None h = absurd (h tt)
script_answered root script (Some call) h = script_fits root script call h

pub for_script : (words : List Text) (demo root script : Option Text) (o : Option Call) → AreGiven words demo root script → Called demo root script o
    → (r s : Text) → CallsScript words r s → MatchResult (ok_or o Usage) (λ (call : Call). IsForScript call r s) (λ (e : CallError). e ≡ OutOfMemory)
for_script words demo root script o given called r s h =
    script_answered r s o
    (rw (given.demo_is ∙ h.no_demo, given.root_is ∙ h.root_is, given.script_is ∙ h.script_is) at called)

demo_fits : (text : Text) (seed : ℕ) (call : Call) → IsSeed text seed → AreValuesOf (Some text) None None call → call ≡ Demo seed
demo_fits text seed (Demo n) is h = ap Demo (same_some n seed (sym h ∙ is))
demo_fits text seed (Script r s) is h = absurd h

demo_answered : (text : Text) (seed : ℕ) (o : Option Call) → IsSeed text seed → Called (Some text) None None o
    → MatchResult (ok_or o Usage) (λ (call : Call). call ≡ Demo seed) (λ (e : CallError). e ≡ OutOfMemory)
demo_answered text seed None is h = absurd (h (seed, is))
demo_answered text seed (Some call) is h = demo_fits text seed call is h

pub for_demo : (words : List Text) (demo root script : Option Text) (o : Option Call) → AreGiven words demo root script → Called demo root script o
    → (seed : ℕ) → CallsDemo words seed → MatchResult (ok_or o Usage) (λ (call : Call). call ≡ Demo seed) (λ (e : CallError). e ≡ OutOfMemory)
for_demo words demo root script o given called seed h =
    demo_answered h.text seed o h.is_seed
    (rw (given.demo_is ∙ h.demo_is, given.root_is ∙ h.no_root, given.script_is ∙ h.no_script) at called)

-- ---- Words that are refused call for nothing.

pub for_call : (words : List Text) (demo root script : Option Text) (o : Option Call) → AreGiven words demo root script → Called demo root script o
    → IfOk (ok_or o Usage) (CallsFor words)
for_call words demo root script None given called = tt
for_call words demo root script (Some call) given called = call_fits words demo root script call given called

refused : (words : List Text) (demo root script : Option Text) → AreGiven words demo root script → (HasCall demo root script → ⊥) → IsNoCall words
refused words demo root script given none = record {
  no_script = λ r s h. none (rw (given.demo_is ∙ h.no_demo, given.root_is ∙ h.root_is, given.script_is ∙ h.script_is) tt);
  no_demo = λ seed h. none (rw (given.demo_is ∙ h.demo_is, given.root_is ∙ h.no_root, given.script_is ∙ h.no_script) (seed, h.is_seed));
}

pub for_nothing : (words : List Text) (demo root script : Option Text) (o : Option Call) → AreGiven words demo root script → Called demo root script o
    → ok_or o Usage ≡ Err Usage → IsNoCall words
for_nothing words demo root script None given called e = refused words demo root script given called
for_nothing words demo root script (Some call) given called e = absurd cc
