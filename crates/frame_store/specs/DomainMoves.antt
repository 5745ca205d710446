-- What the calls of a domain's frames do.
use Rattle.std.specs.Prelude.{◌≡◌, ◌≢◌, ℕ, ◌+◌, ◌-◌, ◌*◌, ◌^◌, ◌<◌, ◌≤◌, List, [], ◌∷◌, ◌++◌, length, Option}
use Rattle.jk_model.specs.declared.frames.FrameHead.{FrameHead}
use Rattle.jk_model.specs.declared.values.Value.{Value}
use Rattle.jk_model_frames.specs.Frames.{FrameState, called_frame, head_chunks, locals_of, new_frame, segment_chunks}
use Rattle.frame_store.specs.declared.domain_frames.DomainFrames.{DomainFrames}
use Rattle.number_table.specs.ChainMoves.{count, place}
use Rattle.frame_store.specs.SlotMoves.{IsLive, TakesSlot, GivesSlot}
use Rattle.frame_store.specs.FrameContents.{gone_on}
use Rattle.frame_store.specs.FrameBlocks.{frame_of, lowest_in, record_at, IsFramed}

-- how many frames a segment has
abbrev pub depth_of : DomainFrames → ℕ → ℕ
depth_of d i = count d.frames i

-- the frame of this number
abbrev pub value_at : DomainFrames → ℕ → FrameState
value_at d f = frame_of d.parts d.records.items d.values.items f

-- the frames of the segment in a slot
abbrev pub frames_of : DomainFrames → ℕ → List FrameState
frames_of d i = lowest_in d.frames d.parts d.records.items d.values.items i (depth_of d i)

-- the number of the top frame
abbrev pub top_number : DomainFrames → ℕ → ℕ
top_number d i = place d.frames i (depth_of d i - 1)

abbrev pub top_of : DomainFrames → ℕ → FrameState
top_of d i = value_at d (top_number d i)

-- the frames below the top one
abbrev pub lower_of : DomainFrames → ℕ → List FrameState
lower_of d i = lowest_in d.frames d.parts d.records.items d.values.items i (depth_of d i - 1)

-- where the values of the frame of this number begin
abbrev pub start_of : DomainFrames → ℕ → ℕ
start_of d f = 20 * place d.parts f 0

-- how many locals the frame of this number has, as its record says
abbrev pub locals_at : DomainFrames → ℕ → ℕ
locals_at d f = (record_at d.records.items f).head.max_locals

-- a segment is in this slot
abbrev pub IsSlot : DomainFrames → ℕ → Type 0
IsSlot d i = (i < d.chunks) × IsLive d.slots i

-- a segment with a frame is in this slot
abbrev pub HasTop : DomainFrames → ℕ → Type 0
HasTop d i = (i < d.chunks) × (0 < depth_of d i)

-- The top frame of the segment in this slot has this number.
pub record IsTopOf (d : DomainFrames) (i f : ℕ) : Type 0 where
  pub has_top : HasTop d i
  pub is : f ≡ top_number d i

-- a frame has this number
pub record IsFrameNumber (d : DomainFrames) (f : ℕ) : Type 0 where
  pub within : f < d.chunks
  pub framed : IsFramed d.parts d.records.items f

-- A domain has no segments.
pub record IsFresh (d : DomainFrames) (chunks : ℕ) : Type 0 where
  pub quota : d.chunks ≡ chunks
  pub unused : d.used ≡ 0
  pub none : d.slots.live ≡ 0

-- The segment in a slot has these frames, and the domain uses so many chunks; all else is as before.
pub record Becomes (old new : DomainFrames) (i : ℕ) (frames : List FrameState) (used : ℕ) : Type 0 where
  pub same_chunks : new.chunks ≡ old.chunks
  pub same_slots : new.slots ≡ old.slots
  pub becomes : frames_of new i ≡ frames
  pub others : (j : ℕ) → j < old.chunks → j ≢ i → frames_of new j ≡ frames_of old j
  pub uses : new.used ≡ used

-- A segment without frames is in a slot that wasn't live.
pub record Opens (old new : DomainFrames) (number i : ℕ) : Type 0 where
  pub same_chunks : new.chunks ≡ old.chunks
  pub takes : TakesSlot old.slots new.slots number i
  pub frames : frames_of new i ≡ []
  pub others : (j : ℕ) → j < old.chunks → j ≢ i → frames_of new j ≡ frames_of old j
  pub uses : new.used ≡ old.used + 1

-- A segment with one frame is in a slot that wasn't live.
pub record Begins (old new : DomainFrames) (number : ℕ) (head : FrameHead) (i : ℕ) : Type 0 where
  pub same_chunks : new.chunks ≡ old.chunks
  pub takes : TakesSlot old.slots new.slots number i
  pub frames : frames_of new i ≡ new_frame head ∷ []
  pub others : (j : ℕ) → j < old.chunks → j ≢ i → frames_of new j ≡ frames_of old j
  pub uses : new.used ≡ old.used + 1 + head_chunks head

-- A slot is no more live.
pub record Ends (old new : DomainFrames) (i : ℕ) : Type 0 where
  pub same_chunks : new.chunks ≡ old.chunks
  pub gives : GivesSlot old.slots new.slots i
  pub others : (j : ℕ) → j < old.chunks → j ≢ i → frames_of new j ≡ frames_of old j
  pub uses : new.used ≡ old.used - segment_chunks (frames_of old i)

-- The top frame of the segment in this slot has so many arguments for a frame with this head.
abbrev pub HasGiven : DomainFrames → ℕ → FrameHead → ℕ → Type 0
HasGiven d i head count =
    (below : List Value) × (given : List Value) × ((top_of d i).stack ≡ below ++ given) × (length given ≡ count)
    × (length (locals_of given) ≤ head.max_locals)

-- The top frame calls another one with these arguments.
abbrev pub CallsOn : DomainFrames → DomainFrames → ℕ → FrameHead → ℕ → Type 0
CallsOn old new i head count =
    (below given : List Value) → (top_of old i).stack ≡ below ++ given → length given ≡ count
    → Becomes old new i (lower_of old i ++ record (top_of old i) { stack = below } ∷ called_frame head given ∷ []) (old.used + head_chunks head)

-- A new frame is on top of one that has so many arguments for it.
pub record MayGive (d : DomainFrames) (caller frame count : ℕ) : Type 0 where
  pub slot : ℕ
  pub has_top : HasTop d slot
  pub deep : 2 ≤ depth_of d slot
  pub is_top : frame ≡ top_number d slot
  pub is_caller : caller ≡ place d.frames slot (depth_of d slot - 2)
  pub head : FrameHead
  pub is_new : value_at d frame ≡ new_frame head
  pub below : List Value
  pub given : List Value
  pub stack : (value_at d caller).stack ≡ below ++ given
  pub as_many : length given ≡ count
  pub room : length (locals_of given) ≤ head.max_locals
  pub small : head.max_locals < 2 ^ 16

-- The new frame has its arguments.
abbrev pub GivesTo : DomainFrames → DomainFrames → ℕ → FrameHead → List Value → Type 0
GivesTo old new i head given = Becomes old new i (lower_of old i ++ called_frame head given ∷ []) old.used

-- An entry is taken off the operand stack of the top frame.
abbrev pub TakesTopEntry : DomainFrames → DomainFrames → ℕ → Value → Type 0
TakesTopEntry old new i v =
    let f = top_of old i in
    (below : List Value) × (f.stack ≡ below ++ v ∷ [])
    × Becomes old new i (lower_of old i ++ record f { stack = below } ∷ []) old.used

-- So many entries are taken off the operand stack of the top frame.
abbrev pub DropsTopEntries : DomainFrames → DomainFrames → ℕ → ℕ → Type 0
DropsTopEntries old new i count =
    let f = top_of old i in
    (below given : List Value) → f.stack ≡ below ++ given → length given ≡ count
    → Becomes old new i (lower_of old i ++ record f { stack = below } ∷ []) old.used

-- A value is in the place of so many entries of the operand stack of the top frame.
abbrev pub ExchangesTopEntries : DomainFrames → DomainFrames → ℕ → ℕ → Value → Type 0
ExchangesTopEntries old new i count v =
    let f = top_of old i in
    (below given : List Value) → f.stack ≡ below ++ given → length given ≡ count
    → Becomes old new i (lower_of old i ++ record f { stack = below ++ v ∷ [] } ∷ []) old.used

-- The top frame goes, and the frame below goes on after its call, with what was given back.
abbrev pub GivesTopBack : DomainFrames → DomainFrames → ℕ → Option Value → Type 0
GivesTopBack old new i v =
    (lower : List FrameState) (below top : FrameState) → frames_of old i ≡ lower ++ below ∷ top ∷ []
    → Becomes old new i (lower ++ gone_on v below ∷ []) (old.used - head_chunks top.head)
