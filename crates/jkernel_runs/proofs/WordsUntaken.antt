-- How a run ends whose words were not taken: they are no call, or memory ran out.
use Rattle.std.proofs.Common.{◌≡◌, ℕ, List, Option, ◌⊎◌, inl, inr, refl}
use Rattle.jk_model.specs.Outside.{Tree}
use Rattle.command_words.specs.CommandLine.{CallsFor, IsNoCall}
use Rattle.command_words.specs.declared.calls.Call.{Call}
use Rattle.command_words.specs.declared.calls.Call.TheVariants.{Script, Demo}
use Rattle.command_words.specs.declared.error.CallError.{CallError}
use Rattle.command_words.specs.declared.error.CallError.TheVariants as errors
use Rattle.jkernel_runs.specs.Ends.{EndsSo, end_untaken}
use Rattle.jkernel_runs.specs.Events.{Moment}
use Rattle.jkernel_runs.specs.declared.ends.End.TheVariants.{Usage, Stopped}
use Rattle.jkernel_runs.specs.declared.stop.Stop.TheVariants.{OutOfMemory}

pub untaken_ends : (tree : Option Tree) (words : List (List ℕ)) (a : Moment) (error : CallError) → (error ≡ errors.Usage → IsNoCall words)
    → EndsSo tree words a a (end_untaken error)
untaken_ends tree words a errors.Usage none = (none refl, refl, refl)
untaken_ends tree words a errors.OutOfMemory none = inl (record { quiet = refl; asks = refl })

pub untaken_so : (error : CallError) → (end_untaken error ≡ Usage) ⊎ (end_untaken error ≡ Stopped OutOfMemory)
untaken_so errors.Usage = inl refl
untaken_so errors.OutOfMemory = inr refl

-- words that call for nothing call for no script and no demo
pub no_call_ends : (words : List (List ℕ)) (call : Call) → IsNoCall words → CallsFor words call → ⊥
no_call_ends words (Script root script) none called = none.no_script root.now script.now called
no_call_ends words (Demo seed) none called = none.no_demo seed called
