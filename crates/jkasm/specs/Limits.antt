-- How much a text may hold: constants, members, and bytes of code.
use Rattle.std.specs.Prelude.{◌≡◌, ℕ, ◌+◌, ◌≤◌, ⊤, List, length, sum_by, Option, Some, None}
use Rattle.std.specs.List.{AllByRecursion}
use Rattle.asm_reader.specs.declared.items.ClassLine.{ClassLine}
use Rattle.asm_reader.specs.declared.items.Constant.TheVariants.{Long}
use Rattle.jk_model_classes.specs.Items.{HasItem}
use Rattle.jkasm.specs.CodePlaces.{place_after}
use Rattle.jkasm.specs.Constants.{PoolConstant, Value}
use Rattle.jkasm.specs.Outline.{MethodText, Outline}

-- the places of a pool that constants may take: index 0 is none of them
abbrev pub MAX_PLACES : ℕ
MAX_PLACES = 65534

-- the most of everything that is counted in two bytes
abbrev pub MAX_COUNT : ℕ
MAX_COUNT = 65535

-- a long takes two places
abbrev pub places_of : PoolConstant → ℕ
places_of (Value (Long n)) = 2
places_of constant = 1

-- the different ones among these constants fit a pool: some list has each of them, and takes few places
abbrev pub FitPool : List PoolConstant → Type 0
FitPool constants =
    (kept : List PoolConstant) × AllByRecursion (λ constant. HasItem (λ k. k ≡ constant) kept) constants
    × (sum_by places_of kept ≤ MAX_PLACES)

abbrev pub IsShortClass : Option ClassLine → Type 0
IsShortClass None = ⊤
IsShortClass (Some line) = length line.interfaces ≤ MAX_COUNT

pub record IsShortMethod (m : MethodText) : Type 0 where
  pub throws : length m.line.throws ≤ MAX_COUNT
  pub code : place_after 0 m.codes ≤ MAX_COUNT
  pub catches : length m.catches ≤ MAX_COUNT

abbrev pub IsShortUnfinished : Option MethodText → Type 0
IsShortUnfinished None = ⊤
IsShortUnfinished (Some m) = IsShortMethod m

abbrev pub unfinished_count : Option MethodText → ℕ
unfinished_count None = 0
unfinished_count (Some m) = 1

pub record IsWithinLimits (o : Outline) : Type 0 where
  pub class : IsShortClass o.class
  pub fields : length o.fields ≤ MAX_COUNT
  pub methods : length o.methods + unfinished_count o.unfinished ≤ MAX_COUNT
  pub ended : AllByRecursion IsShortMethod o.methods
  pub unfinished : IsShortUnfinished o.unfinished
