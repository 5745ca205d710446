-- What the header of an object says, which object it stands for with the payload of its heap, and how the parts of a heap fit
-- each other. An object's name is the place of its header.
use Rattle.std.specs.Prelude.{◌≡◌, ℕ, pos, ◌+◌, ◌*◌, ◌^◌, ◌<◌, ◌≤◌, Bool, true, false, List, [], length, Some, slice_get}
use Rattle.jk_model.specs.declared.values.Value.{Value}
use Rattle.jk_model.specs.declared.values.Value.TheVariants as Held
use Rattle.jk_model_domains.specs.Objects.{Array, Object, Plain, Task, Text}
use Rattle.jk_model_domains.specs.OwnStates.{zero_of}
use Rattle.jk_model_heaps.specs.declared.shapes.Shape.{Shape}
use Rattle.jk_model_heaps.specs.declared.shapes.Shape.TheVariants as Of
use Rattle.plain_store.specs.declared.domain_heap.Header.{Header}
use Rattle.plain_store.specs.Pieces.{piece}

-- ---- The object of a header.

-- the payload is among the units
abbrev pub is_text : Shape → Bool
is_text (Of.Text n) = true
is_text shape = false

-- the object of a shape with these values, or with these units
abbrev pub object_with : Shape → List Value → List ℕ → Object
object_with (Of.Plain c) values units = Plain c values
object_with (Of.Array t n) values units = Array t values
object_with (Of.Text n) values units = Text units
object_with (Of.Task s) values units = Task s

abbrev pub object_of : List Value → List ℕ → Header → Object
object_of values units h = object_with h.shape (piece values h.first h.len) (piece units h.first h.len)

-- ---- The payload of an object.

abbrev pub values_in : Object → List Value
values_in (Plain c fields) = fields
values_in (Array t items) = items
values_in (Text units) = []
values_in (Task s) = []

abbrev pub units_in : Object → List ℕ
units_in (Text units) = units
units_in object = []

-- ---- The parts of a heap fit each other.

-- the kind of a value: an int, a long or a reference
abbrev pub kind_of : Value → ℕ
kind_of (Held.Int n) = 0
kind_of (Held.Long n) = 1
kind_of Held.Null = 2
kind_of (Held.Obj a) = 2
kind_of (Held.Cap k) = 2
kind_of Held.Unset = 3

abbrev pub name_in : Value → ℕ
name_in (Held.Obj a) = a
name_in v = 0

abbrev pub number_in : Value → ℕ
number_in (Held.Cap k) = k.0
number_in v = 0

-- the kind that a shape says of its values, where it says one
abbrev pub said_kind : Shape → ℕ → ℕ
said_kind (Of.Array t n) kind = kind_of (zero_of t)
said_kind shape kind = kind

-- the length that a shape says of its payload, where it says one
abbrev pub said_len : Shape → ℕ → ℕ
said_len (Of.Array t n) len = n
said_len (Of.Text n) len = n
said_len shape len = len

-- The payload of an object is there, and is what its shape says.
pub record IsPlaced (values : List Value) (units : List ℕ) (h : Header) : Type 0 where
  pub in_values : is_text h.shape ≡ false → h.first + h.len ≤ length values
  pub in_units : is_text h.shape ≡ true → h.first + h.len ≤ length units
  pub long : said_len h.shape h.len ≡ h.len
  pub kinds : (j : ℕ) (v : Value) → j < h.len → slice_get values (h.first + j) ≡ Some v → said_kind h.shape (kind_of v) ≡ kind_of v

-- the name of an object and the number of a capability are small
pub record IsNarrow (v : Value) : Type 0 where
  pub name : name_in v < 2 ^ 30
  pub number : number_in v < 2 ^ 24

pub record IsDomainHeap (words used : ℕ) (headers : List Header) (values : List Value) (units : List ℕ) : Type 0 where
  pub least : 1 ≤ words
  pub most : words ≤ 16777216
  pub within : used ≤ words
  -- each object costs four words and at least one for each value or unit
  pub paid : 4 * length headers + length values + length units ≤ used
  pub placed : (k : ℕ) (h : Header) → slice_get headers k ≡ Some h → IsPlaced values units h
  -- a later object's payload stands behind an earlier one's
  pub apart : (j k : ℕ) (g h : Header) → j < k → slice_get headers j ≡ Some g → slice_get headers k ≡ Some h
      → is_text g.shape ≡ is_text h.shape → g.first + g.len ≤ h.first
  pub narrow : (k : ℕ) (v : Value) → slice_get values k ≡ Some v → IsNarrow v
  pub units_fit : (k u : ℕ) → slice_get units k ≡ Some u → u < 65536

-- The vectors have room for all that a heap of so many words can have.
pub record HasRoom (words header_room value_room unit_room : ℕ) : Type 0 where
  pub headers : words < 4 * header_room + 4
  pub values : words ≤ value_room
  pub units : words ≤ unit_room

-- ---- Units as values.

-- an int from 0 to 65535
pub record IsUnit (v : Value) : Type 0 where
  pub unit : ℕ
  pub small : unit < 65536
  pub is : v ≡ Held.Int (pos unit)
