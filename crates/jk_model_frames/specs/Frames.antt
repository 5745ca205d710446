-- Frames of running methods, and what they cost: chunks of 64 words.
use Rattle.std.specs.Prelude.{ℕ, ◌+◌, ◌-◌, ◌/◌, List, [], ◌∷◌, ◌++◌, flat_map, length, replicate, sum_by}
use Rattle.jk_model.specs.declared.frames.FrameHead.{FrameHead}
use Rattle.jk_model.specs.declared.values.Value.{Value}
use Rattle.jk_model.specs.declared.values.Value.TheVariants.{Long, Unset}

pub record FrameState : Type 0 where
  pub head : FrameHead
  -- one for each slot; a long stands in its first slot
  pub locals : List Value
  -- one for each entry, the top one last; a long is one entry
  pub stack : List Value

-- a frame as it is pushed: nothing is in its locals yet, and its stack is empty
abbrev pub new_frame : FrameHead → FrameState
new_frame head = record { head = head; locals = replicate head.max_locals Unset; stack = [] }

-- a value in the locals: the local after a long is unset
abbrev pub as_locals : Value → List Value
as_locals (Long n) = Long n ∷ Unset ∷ []
as_locals v = v ∷ []

abbrev pub locals_of : List Value → List Value
locals_of values = flat_map as_locals values

-- a frame that is called with these arguments: they are in its first locals, and nothing is in the others yet
abbrev pub called_frame : FrameHead → List Value → FrameState
called_frame head given =
    record {
      head = head;
      locals = locals_of given ++ replicate (head.max_locals - length (locals_of given)) Unset;
      stack = [];
    }

-- ---- Costs. A chunk has room for twenty values, and a frame needs the room of four for itself.

abbrev pub head_chunks : FrameHead → ℕ
head_chunks head = (4 + head.max_locals + head.max_stack + 19) / 20

abbrev pub frames_chunks : List FrameState → ℕ
frames_chunks frames = sum_by (λ (f : FrameState). head_chunks f.head) frames

-- a segment costs one chunk besides
abbrev pub segment_chunks : List FrameState → ℕ
segment_chunks frames = 1 + frames_chunks frames
