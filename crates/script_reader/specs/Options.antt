-- The options of a `domain` line that were given, and the quotas that they make.
use Rattle.std.specs.Prelude.{◌≡◌, ◌⊎◌, ℕ, Bool, true, List, codes, find, bytes_eq, Option, Some, None, is_some, unwrap_or, Result, Ok, Err}
use Rattle.std.specs.List.{list_any}
use Rattle.jk_model.specs.declared.script.Event.{Event}
use Rattle.jk_model.specs.declared.script.Event.TheVariants.{Domain}
use Rattle.jk_model.specs.declared.script.FaultKind.{FaultKind}
use Rattle.jk_model.specs.declared.script.FaultKind.TheVariants.{UnknownWord, Extra}
use Rattle.jk_model.specs.declared.script.Quotas.{Quotas}
use Rattle.jk_model.specs.ScriptGrammar.{QuotaOption, quota_options}
use Rattle.script_reader.specs.declared.options.OptionName.{OptionName}
use Rattle.script_reader.specs.declared.options.OptionName.TheVariants.{Heap, Stack, Caps, Threads, Names, Steps}
use Rattle.script_reader.specs.declared.options.Given.{Given}

-- an option's name in a script
abbrev pub name_of : OptionName → List ℕ
name_of Heap = codes "heap"
name_of Stack = codes "stack"
name_of Caps = codes "caps"
name_of Threads = codes "threads"
name_of Names = codes "names"
name_of Steps = codes "steps"

-- the option of a name
abbrev pub option_named : List ℕ → Option QuotaOption
option_named word = find (λ (o : QuotaOption). bytes_eq o.name word) quota_options

-- whether an option was given
abbrev pub has : Given → OptionName → Bool
has given Heap = is_some given.heap
has given Stack = is_some given.stack
has given Caps = is_some given.caps
has given Threads = is_some given.threads
has given Names = is_some given.names
has given Steps = is_some given.steps

-- the options with one more
abbrev pub put : Given → OptionName → ℕ → Given
put given Heap n = record given { heap = Some n }
put given Stack n = record given { stack = Some n }
put given Caps n = record given { caps = Some n }
put given Threads n = record given { threads = Some n }
put given Names n = record given { names = Some n }
put given Steps n = record given { steps = Some n }

-- the quotas that they make
abbrev pub quotas_of : Given → Quotas
quotas_of given = record {
  heap = unwrap_or given.heap 65536;
  chunks = unwrap_or given.stack 256;
  caps = unwrap_or given.caps 64;
  threads = unwrap_or given.threads 16;
  names = unwrap_or given.names 16;
  steps = given.steps;
}

-- a domain of this name with these quotas, or the fault in them
abbrev pub domain_with : List ℕ → Result Quotas FaultKind → Result Event FaultKind
domain_with name (Ok quotas) = Ok (Domain name quotas)
domain_with name (Err kind) = Err kind

-- these words name just the options that were given
abbrev pub AreSeen : List (List ℕ) → Given → Type 0
AreSeen seen given = (option : OptionName) → list_any (bytes_eq (name_of option)) seen ≡ has given option

-- what is wrong with a word that names no new option
abbrev pub NamesNone : Given → List ℕ → FaultKind → Type 0
NamesNone given word kind =
    ((option_named word ≡ None) × (kind ≡ UnknownWord))
    ⊎ ((option : OptionName) × (word ≡ name_of option) × (has given option ≡ true) × (kind ≡ Extra))
