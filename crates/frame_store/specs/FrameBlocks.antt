-- What the frames of a domain are, by the numbers of its frames and blocks: each frame has a stack of blocks of twenty values.
use Rattle.std.specs.Prelude.{◌≡◌, ◌≢◌, ℕ, zero, suc, ◌+◌, ◌*◌, ◌/◌, ◌%◌, ◌^◌, ◌<◌, ◌≤◌, List, [], ◌∷◌, ◌++◌, None, length, slice_index_or}
use Rattle.jk_model.specs.declared.values.Value.{Value}
use Rattle.jk_model.specs.declared.values.Value.TheVariants.{Unset}
use Rattle.jk_model_frames.specs.Frames.{FrameState, head_chunks}
use Rattle.number_table.specs.declared.chains.Chains.{Chains}
use Rattle.frame_store.specs.declared.slot_set.SlotSet.{SlotSet}
use Rattle.frame_store.specs.declared.frame_blocks.FrameRecord.{FrameRecord}
use Rattle.number_table.specs.Chains.{sum_below}
use Rattle.number_table.specs.ChainMoves.{count, place, nodes, stacks}
use Rattle.frame_store.specs.SlotMoves.{size, place_in}

-- what a function has at the numbers below this one
abbrev pub build : {X : Type 0} → (ℕ → X) → ℕ → List X
build f zero = []
build f (suc n) = build f n ++ f n ∷ []

-- what stands past the end of the records
abbrev pub no_record : FrameRecord
no_record =
    record {
      head = record { method = None; at = 0; need = None; initialises = None; max_locals = 0; max_stack = 0 };
      height = 0;
    }

abbrev pub record_at : List FrameRecord → ℕ → FrameRecord
record_at records f = slice_index_or records f no_record

-- where a value of a frame is
abbrev pub index_of : Chains → ℕ → ℕ → ℕ
index_of parts f q = 20 * place parts f (q / 20) + q % 20

abbrev pub value_of : Chains → List Value → ℕ → ℕ → Value
value_of parts values f q = slice_index_or values (index_of parts f q) Unset

-- the frame of this number: its locals come first, then the entries of its operand stack
abbrev pub frame_of : Chains → List FrameRecord → List Value → ℕ → FrameState
frame_of parts records values f =
    let r = record_at records f in
    record {
      head = r.head;
      locals = build (value_of parts values f) r.head.max_locals;
      stack = build (λ q. value_of parts values f (r.head.max_locals + q)) r.height;
    }

-- the lowest frames of a segment
abbrev pub lowest_in : Chains → Chains → List FrameRecord → List Value → ℕ → ℕ → List FrameState
lowest_in frames parts records values i n = build (λ k. frame_of parts records values (place frames i k)) n

-- how many chunks the lowest frames of a segment cost
abbrev pub cost_below : Chains → List FrameRecord → ℕ → ℕ → ℕ
cost_below frames records i n = sum_below (λ k. head_chunks (record_at records (place frames i k)).head) n

-- how many chunks the frames of a segment cost
abbrev pub cost_in : Chains → List FrameRecord → ℕ → ℕ
cost_in frames records i = cost_below frames records i (count frames i)

-- The frame has the blocks that it costs, and its operand stack has the room that its head says.
pub record IsFramed (parts : Chains) (records : List FrameRecord) (f : ℕ) : Type 0 where
  pub blocks : count parts f ≡ head_chunks (record_at records f).head
  pub low : (record_at records f).height ≤ (record_at records f).head.max_stack
  pub small : (record_at records f).head.max_stack < 2 ^ 16

-- The parts of a domain fit each other.
pub record IsDomain (chunks used : ℕ) (slots : SlotSet) (frames parts : Chains) (records : List FrameRecord) (values : List Value) : Type 0 where
  pub least : 1 ≤ chunks
  pub most : chunks ≤ 262144
  pub slots_are : size slots ≡ chunks
  pub frames_are : nodes frames ≡ chunks
  pub segments_are : stacks frames ≡ chunks + 1
  pub parts_are : nodes parts ≡ chunks
  pub bodies_are : stacks parts ≡ chunks + 1
  pub records_are : length records ≡ chunks
  pub values_are : length values ≡ 20 * chunks
  -- each frame of a segment has its blocks, and a free one has none
  pub framed : (i n : ℕ) → i < chunks → n < count frames i → IsFramed parts records (place frames i n)
  pub bare : (n : ℕ) → n < count frames chunks → count parts (place frames chunks n) ≡ 0
  -- a slot that isn't live has no frames
  pub vacant : (i : ℕ) → i < chunks → slots.live ≤ place_in slots i → count frames i ≡ 0
  -- the blocks that aren't free are those of frames
  pub spent : count parts chunks + sum_below (cost_in frames records) chunks ≡ chunks
  pub uses : used ≡ sum_below (cost_in frames records) chunks + slots.live
  pub within : used ≤ chunks

-- ---- What calls on blocks do.

-- So many of a block's values, the first ones, are unset, and those of other blocks are as before.
pub record IsCleared (old new : List Value) (block some : ℕ) : Type 0 where
  pub size : length new ≡ length old
  pub cleared : (k : ℕ) → k < some → slice_index_or new (20 * block + k) Unset ≡ Unset
  pub others : (k : ℕ) → (k < 20 * block → slice_index_or new k Unset ≡ slice_index_or old k Unset)
      × (20 * block + 20 ≤ k → slice_index_or new k Unset ≡ slice_index_or old k Unset)

-- A frame without blocks has so many, which came from the last stack, and so many of its values, the first ones, are unset.
pub record TakesBlocks (old new : Chains) (old_values new_values : List Value) (last frame blocks locals : ℕ) : Type 0 where
  pub same_nodes : nodes new ≡ nodes old
  pub same_stacks : stacks new ≡ stacks old
  pub values_size : length new_values ≡ length old_values
  pub has : count new frame ≡ blocks
  pub less : count new last + blocks ≡ count old last
  pub others : (g : ℕ) → g ≢ frame → g ≢ last → count new g ≡ count old g
  pub same_index : (g q : ℕ) → g < last → g ≢ frame → q < 20 * count old g → index_of new g q ≡ index_of old g q
  pub same_value : (g q : ℕ) → g < last → g ≢ frame → q < 20 * count old g → value_of new new_values g q ≡ value_of old old_values g q
  pub unset : (q : ℕ) → q < 20 * blocks → q < locals → value_of new new_values frame q ≡ Unset

-- A frame gives all its blocks to the last stack.
pub record GivesBlocks (old new : Chains) (last frame : ℕ) : Type 0 where
  pub same_nodes : nodes new ≡ nodes old
  pub same_stacks : stacks new ≡ stacks old
  pub has : count new frame ≡ 0
  pub more : count new last ≡ count old last + count old frame
  pub others : (g : ℕ) → g ≢ frame → g ≢ last → count new g ≡ count old g
  pub same_place : (g p : ℕ) → g < last → g ≢ frame → p < count old g → place new g p ≡ place old g p
