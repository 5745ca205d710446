-- Options that are read from left to right, each once, make the quotas of the line.
use Rattle.std.proofs.Common.{◌≡◌, inl, inr, ℕ, true, false, List, [], ◌∷◌, refl, ◌∙◌, Option, Some, None, Result, Ok, Err, IfSome, bytes_eq}
use Rattle.std.specs.List.{list_any}
use Rattle.std.specs.Option.{ok_or}
use Rattle.jk_model.specs.declared.script.Event.{Event}
use Rattle.jk_model.specs.declared.script.FaultKind.{FaultKind}
use Rattle.jk_model.specs.declared.script.FaultKind.TheVariants.{BadNumber, Missing}
use Rattle.jk_model.specs.declared.script.Quotas.{Quotas}
use Rattle.jk_model.specs.Script.{words, default_quotas}
use Rattle.jk_model.specs.ScriptGrammar.{QuotaOption, number_within, with_option, with_options}
use Rattle.script_reader.specs.declared.options.OptionName.{OptionName}
use Rattle.script_reader.specs.declared.options.OptionName.TheVariants.{Heap, Stack, Caps, Threads, Names, Steps}
use Rattle.script_reader.specs.declared.options.Given.{Given}
use Rattle.script_reader.specs.Options.{name_of, option_named, has, put, quotas_of, AreSeen, NamesNone}

-- what is known once some options are read
pub record AreRead (options rest : List ℕ) (given : Given) : Type 0 where
  pub seen : List (List ℕ)
  pub are : AreSeen seen given
  pub same : (name : List ℕ) → with_options name [] default_quotas (words options) ≡ with_options name seen (quotas_of given) (words rest)

none_seen : (given : Given) → given ≡ record { heap = None; stack = None; caps = None; threads = None; names = None; steps = None } → AreSeen [] given
none_seen given e Heap = rw e
none_seen given e Stack = rw e
none_seen given e Caps = rw e
none_seen given e Threads = rw e
none_seen given e Names = rw e
none_seen given e Steps = rw e

pub before_all : (options : List ℕ) (given : Given)
    → given ≡ record { heap = None; stack = None; caps = None; threads = None; names = None; steps = None } → AreRead options options given
before_all options given e = record { seen = []; are = none_seen given e; same = λ name. rw e }

-- each name is that of an option
row : (option : OptionName) → (o : QuotaOption) × (option_named (name_of option) ≡ Some o)
row Heap = (_, refl)
row Stack = (_, refl)
row Caps = (_, refl)
row Threads = (_, refl)
row Names = (_, refl)
row Steps = (_, refl)

seen_with : (option : OptionName) (n : ℕ) (seen : List (List ℕ)) (given : Given) → AreSeen seen given
    → AreSeen (name_of option ∷ seen) (put given option n)
seen_with Heap n seen given are Heap = refl
seen_with Stack n seen given are Stack = refl
seen_with Caps n seen given are Caps = refl
seen_with Threads n seen given are Threads = refl
seen_with Names n seen given are Names = refl
seen_with Steps n seen given are Steps = refl
seen_with option n seen given are other = are other

quotas_set : (option : OptionName) (n : ℕ) (given : Given)
    → IfSome (option_named (name_of option)) (λ (o : QuotaOption). o.set n (quotas_of given) ≡ quotas_of (put given option n))
quotas_set Heap n given = refl
quotas_set Stack n given = refl
quotas_set Caps n given = refl
quotas_set Threads n given = refl
quotas_set Names n given = refl
quotas_set Steps n given = refl

quotas_with : (option : OptionName) (o : QuotaOption) (n : ℕ) (given : Given) → option_named (name_of option) ≡ Some o
    → o.set n (quotas_of given) ≡ quotas_of (put given option n)
quotas_with option o n given e = rw e at (quotas_set option n given)

-- an option that wasn't given yet
new_one : (option : OptionName) (o : QuotaOption) (seen : List (List ℕ)) (given : Given) (next : QuotaOption → Result Event FaultKind)
    → AreSeen seen given → has given option ≡ false → option_named (name_of option) ≡ Some o → with_option seen (name_of option) next ≡ next o
new_one option o seen given next are new e =
    let unseen : list_any (bytes_eq (name_of option)) seen ≡ false = are option ∙ new in
    rw (e, unseen)

-- another word
no_new_one : (word : List ℕ) (kind : FaultKind) (seen : List (List ℕ)) (given : Given) (next : QuotaOption → Result Event FaultKind)
    → AreSeen seen given → NamesNone given word kind → with_option seen word next ≡ Err kind
no_new_one word kind seen given next are (inl (none, is)) = rw (none, is)
no_new_one word kind seen given next are (inr (option, named, old, is)) =
    let (o, e) = row option in
    let known : list_any (bytes_eq (name_of option)) seen ≡ true = are option ∙ old in
    rw (named, e, known, is)

first_fault : (name word : List ℕ) (kind : FaultKind) (seen more : List (List ℕ)) (quotas : Quotas)
    → ((next : QuotaOption → Result Event FaultKind) → with_option seen word next ≡ Err kind) → with_options name seen quotas (word ∷ more) ≡ Err kind
first_fault name word kind seen [] quotas h = h _
first_fault name word kind seen (number ∷ more) quotas h = h _

-- where a word names no new option
pub refused_option : (options rest word after : List ℕ) (kind : FaultKind) (given : Given) → AreRead options rest given
    → words rest ≡ word ∷ words after → NamesNone given word kind → (name : List ℕ) → with_options name [] default_quotas (words options) ≡ Err kind
refused_option options rest word after kind given h e fault name =
    h.same name ∙ rw e (first_fault name word kind h.seen (words after) (quotas_of given) (λ next. no_new_one word kind h.seen given next h.are fault))

-- where no number follows
pub refused_end : (options rest word after : List ℕ) (option : OptionName) (given : Given) → AreRead options rest given
    → words rest ≡ word ∷ words after → word ≡ name_of option → has given option ≡ false → words after ≡ []
    → (name : List ℕ) → with_options name [] default_quotas (words options) ≡ Err Missing
refused_end options rest word after option given h e named new none name =
    let (o, is) = row option in
    h.same name ∙ rw (e, none, named) (new_one option o h.seen given (λ (o : QuotaOption). Err Missing) h.are new is)

number_at : (option : OptionName) (o : QuotaOption) (word : List ℕ) (n : Result ℕ FaultKind)
    → IfSome (option_named (name_of option)) (λ (o : QuotaOption). ok_or (number_within o.low o.high word) BadNumber ≡ n)
    → option_named (name_of option) ≡ Some o → ok_or (number_within o.low o.high word) BadNumber ≡ n
number_at option o word n h e = rw e at h

is_none : (x : Option ℕ) (kind : FaultKind) → ok_or x BadNumber ≡ Err kind → (x ≡ None) × (kind ≡ BadNumber)
is_none None kind e = (refl, cc)
is_none (Some n) kind e = cc

is_number : (x : Option ℕ) (n : ℕ) → ok_or x BadNumber ≡ Ok n → x ≡ Some n
is_number None n e = cc
is_number (Some m) n e = cc

-- where the number is at fault
pub refused_number : (options rest word after number more : List ℕ) (kind : FaultKind) (option : OptionName) (given : Given) → AreRead options rest given
    → words rest ≡ word ∷ words after → word ≡ name_of option → has given option ≡ false → words after ≡ number ∷ words more
    → IfSome (option_named (name_of option)) (λ (o : QuotaOption). ok_or (number_within o.low o.high number) BadNumber ≡ Err kind)
    → (name : List ℕ) → with_options name [] default_quotas (words options) ≡ Err kind
refused_number options rest word after number more kind option given h e named new next bad name =
    let (o, is) = row option in
    let (none, kind_is) = is_none (number_within o.low o.high number) kind (number_at option o number (Err kind) bad is) in
    h.same name ∙ rw (e, next, named) (new_one option o h.seen given _ h.are new is ∙ rw (none, kind_is))

-- with one more option
pub after_option : (options rest word after number more : List ℕ) (n : ℕ) (option : OptionName) (given : Given) → AreRead options rest given
    → words rest ≡ word ∷ words after → word ≡ name_of option → has given option ≡ false → words after ≡ number ∷ words more
    → IfSome (option_named (name_of option)) (λ (o : QuotaOption). ok_or (number_within o.low o.high number) BadNumber ≡ Ok n)
    → AreRead options more (put given option n)
after_option options rest word after number more n option given h e named new next good =
    let (o, is) = row option in
    let some : number_within o.low o.high number ≡ Some n = is_number (number_within o.low o.high number) n (number_at option o number (Ok n) good is) in
    record {
      seen = name_of option ∷ h.seen;
      are = seen_with option n h.seen given h.are;
      same = λ name. h.same name ∙ rw (e, next, named) (new_one option o h.seen given _ h.are new is ∙ rw (some, ← quotas_with option o n given is));
    }
