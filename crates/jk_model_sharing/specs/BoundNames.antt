-- The repository: names that domains bind to capabilities, in the order of binding. Each domain finds every name; a name is bound anew and
-- removed by the domain that bound it alone. Whose the capability is, and whether it is revoked, is nothing to these words.
use Rattle.std.specs.Prelude.{◌≡◌, ◌≢◌, ℕ, ◌<◌, ◌≤◌, ◌==◌, not, List, [], ◌∷◌, ◌++◌, length, filter, find, map, bytes_eq, Option, Some, None, option_map, Result, Ok, Err, if◌then◌else◌}
use Rattle.jk_model.specs.declared.identifiers.CapId.{CapId}
use Rattle.jk_model.specs.declared.identifiers.DomainId.{DomainId}
use Rattle.jk_model.specs.declared.steps.Raise.{Raise}
use Rattle.jk_model.specs.declared.steps.Raise.TheVariants.{Fresh, Standing}
use Rattle.jk_model.specs.declared.steps.Standing.TheVariants as Stands
use Rattle.jk_model_heaps.specs.SystemClasses.{ILLEGAL_ARGUMENT_EXCEPTION}

-- a name, the capability to which it leads, and the domain that bound it
pub record BoundName : Type 0 where
  -- in UTF-16
  pub text : List ℕ
  pub cap : CapId
  pub binder : DomainId

-- how many units a name may have
abbrev pub longest_name : ℕ
longest_name = 64

-- what a text is bound as
abbrev pub bound_as : List BoundName → List ℕ → Option BoundName
bound_as names text = find (λ (n : BoundName). bytes_eq n.text text) names

-- how many names a domain has bound
abbrev pub count_bound_by : List BoundName → DomainId → ℕ
count_bound_by names d = length (filter (λ (n : BoundName). n.binder.0 == d.0) names)

-- with this in the place of what has its text
abbrev pub with_name : BoundName → List BoundName → List BoundName
with_name bound names = map (λ (n : BoundName). if bytes_eq n.text bound.text then bound else n) names

abbrev pub without_name : List ℕ → List BoundName → List BoundName
without_name text names = filter (λ (n : BoundName). not (bytes_eq n.text text)) names

-- without those that a domain bound
abbrev pub without_names_of : DomainId → List BoundName → List BoundName
without_names_of d names = filter (λ (n : BoundName). not (n.binder.0 == d.0)) names

-- ---- What a domain asks: the answer, and the names after it.

-- A name is bound as asked, by a domain that may have so many names.
pub data Binds (names : List BoundName) (quota : ℕ) (asked : BoundName) : Result (Unit {0}) Raise → List BoundName → Type 0 where
  too_long : longest_name < length asked.text → Binds names quota asked (Err (Fresh ILLEGAL_ARGUMENT_EXCEPTION)) names
  of_another : (bound : BoundName) → length asked.text ≤ longest_name → bound_as names asked.text ≡ Some bound → bound.binder ≢ asked.binder
      → Binds names quota asked (Err (Fresh ILLEGAL_ARGUMENT_EXCEPTION)) names
  -- its own name is bound anew, and keeps its place
  own_name : (bound : BoundName) → length asked.text ≤ longest_name → bound_as names asked.text ≡ Some bound → bound.binder ≡ asked.binder
      → Binds names quota asked (Ok tt) (with_name asked names)
  one_too_many : length asked.text ≤ longest_name → bound_as names asked.text ≡ None → quota ≤ count_bound_by names asked.binder
      → Binds names quota asked (Err (Standing Stands.Quota)) names
  -- a new name goes last
  new_name : length asked.text ≤ longest_name → bound_as names asked.text ≡ None → count_bound_by names asked.binder < quota
      → Binds names quota asked (Ok tt) (names ++ asked ∷ [])

-- the capability to which a text leads; none where nothing is bound
abbrev pub LooksUp : List BoundName → List ℕ → Option CapId → Type 0
LooksUp names text found = found ≡ option_map (λ (n : BoundName). n.cap) (bound_as names text)

-- A domain removes a name.
pub data Unbinds (names : List BoundName) (d : DomainId) (text : List ℕ) : Result (Unit {0}) Raise → List BoundName → Type 0 where
  not_own : (bound : BoundName) → bound_as names text ≡ Some bound → bound.binder ≢ d
      → Unbinds names d text (Err (Standing Stands.Security)) names
  removed : (bound : BoundName) → bound_as names text ≡ Some bound → bound.binder ≡ d → Unbinds names d text (Ok tt) (without_name text names)
  not_bound : bound_as names text ≡ None → Unbinds names d text (Ok tt) names
