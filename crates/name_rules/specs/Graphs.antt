-- Graphs over places: which place stands above which, how far one can climb, and heights.
use Rattle.std.specs.Prelude.{◌≡◌, ℕ, zero, suc, ◌<◌, ◌⊎◌, ◌↔◌, Bool, true, List, length, Some, slice_get}
use Rattle.std.specs.Global.{Vec}

-- ---- Edges: a row for each place, with a mark for each place.

abbrev pub Rows : Type 0
Rows = List (Vec Bool)

abbrev pub HasEdge : Rows → ℕ → ℕ → Type 0
HasEdge rows i j = (row : Vec Bool) × (slice_get rows i ≡ Some row) × (slice_get row.items j ≡ Some true)

-- each row has a mark for each of so many places
abbrev pub AreRowsOf : ℕ → Rows → Type 0
AreRowsOf n rows = (i : ℕ) (row : Vec Bool) → slice_get rows i ≡ Some row → length row.items ≡ n

abbrev pub IsSquare : Rows → Type 0
IsSquare rows = AreRowsOf (length rows) rows

-- the rows with one edge more
pub record HasOneMore (i j : ℕ) (old new : Rows) : Type 0 where
  pub as_many : length new ≡ length old
  pub square : IsSquare new
  pub at : (a b : ℕ) → HasEdge new a b ↔ (HasEdge old a b ⊎ ((a ≡ i) × (b ≡ j)))

-- one place goes now also to where another one goes
pub record GoesAlso (to from : ℕ) (old new : Rows) : Type 0 where
  pub as_many : length new ≡ length old
  pub square : IsSquare new
  pub at : (a b : ℕ) → HasEdge new a b ↔ (HasEdge old a b ⊎ ((a ≡ to) × HasEdge old from b))

-- each place that goes to this one goes now also to where this one goes
pub record GoThrough (k : ℕ) (old new : Rows) : Type 0 where
  pub as_many : length new ≡ length old
  pub square : IsSquare new
  pub kept : (a b : ℕ) → HasEdge old a b → HasEdge new a b
  pub joined : (a b : ℕ) → HasEdge old a k → HasEdge old k b → HasEdge new a b
  pub only : (a b : ℕ) → HasEdge new a b → HasEdge old a b ⊎ (HasEdge old a k × HasEdge old k b)

-- ---- Paths.

abbrev pub Relation : Type 1
Relation = ℕ → ℕ → Type 0

-- one edge or more
pub data Path (E : ℕ → ℕ → Type 0) : ℕ → ℕ → Type 0 where
  edge : (a b : ℕ) → E a b → Path E a b
  further : (a b c : ℕ) → E a b → Path E b c → Path E a c

-- an edge of the new rows for each path of the old ones
pub record IsClosure (old new : Rows) : Type 0 where
  pub as_many : length new ≡ length old
  pub square : IsSquare new
  pub at : (a b : ℕ) → HasEdge new a b ↔ Path (HasEdge old) a b

abbrev pub HasNoRing : Rows → Type 0
HasNoRing rows = (a : ℕ) → Path (HasEdge rows) a a → ⊥

-- ---- Heights.

-- so many edges from a to b
abbrev pub Climb : (ℕ → ℕ → Type 0) → ℕ → ℕ → ℕ → Type 0
Climb E zero a b = b ≡ a
Climb E (suc n) a b = (next : ℕ) × E a next × Climb E n next b

-- so many edges up from the place, and no more, there is a place
abbrev pub IsHeight : (ℕ → ℕ → Type 0) → ℕ → ℕ → Type 0
IsHeight E a n = ((b : ℕ) × Climb E n a b) × ((b : ℕ) → Climb E (suc n) a b → ⊥)

-- a climb of so many edges is there, and none further, if they are below a bound
abbrev pub IsHeightBelow : (ℕ → ℕ → Type 0) → ℕ → ℕ → ℕ → Type 0
IsHeightBelow E bound a n = ((b : ℕ) × Climb E n a b) × (n < bound → (b : ℕ) → Climb E (suc n) a b → ⊥)

pub record AreHeightsBelow (rows : Rows) (bound : ℕ) (heights : List ℕ) : Type 0 where
  pub as_many : length heights ≡ length rows
  pub each : (i n : ℕ) → slice_get heights i ≡ Some n → IsHeightBelow (HasEdge rows) bound i n

pub record AreHeights (rows : Rows) (heights : List ℕ) : Type 0 where
  pub as_many : length heights ≡ length rows
  pub each : (i n : ℕ) → slice_get heights i ≡ Some n → IsHeight (HasEdge rows) i n × (n < length rows)

-- ---- Places in the order of their heights.

-- it stands at this height, and below this place if it is as high
abbrev pub IsEarlier : ℕ → ℕ → ℕ → ℕ → Type 0
IsEarlier m i n j = (m < n) ⊎ ((m ≡ n) × (i < j))

-- the places below a height, and of those at it the ones below a place, are in order
pub record AreInOrder (heights : List ℕ) (height place : ℕ) (order : List ℕ) : Type 0 where
  pub only : (k i : ℕ) → slice_get order k ≡ Some i → (m : ℕ) × (slice_get heights i ≡ Some m) × IsEarlier m i height place
  pub all : (i m : ℕ) → slice_get heights i ≡ Some m → IsEarlier m i height place → (k : ℕ) × (slice_get order k ≡ Some i)
  pub rising : (k l i j m n : ℕ) → k < l → slice_get order k ≡ Some i → slice_get order l ≡ Some j → slice_get heights i ≡ Some m
      → slice_get heights j ≡ Some n → IsEarlier m i n j

-- all places are in order, each once
pub record IsOrderOf (heights order : List ℕ) : Type 0 where
  pub as_many : length order ≡ length heights
  pub places : (k i : ℕ) → slice_get order k ≡ Some i → i < length heights
  pub rising : (k l i j m n : ℕ) → k < l → slice_get order k ≡ Some i → slice_get order l ≡ Some j → slice_get heights i ≡ Some m
      → slice_get heights j ≡ Some n → IsEarlier m i n j
