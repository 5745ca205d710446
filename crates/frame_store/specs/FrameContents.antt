-- What a store of frames holds: the frames of each segment, and how many chunks each domain uses; and what its calls
-- make of that. A chunk is a page of the store's pool, where it has one.
use Rattle.std.specs.Prelude.{◌≡◌, ◌≢◌, ℕ, ◌+◌, ◌-◌, ◌^◌, ◌<◌, ◌≤◌, ◌⊎◌, Bool, ◌==◌, List, [], ◌∷◌, ◌++◌, length, Option, Some, None, IsSome, slice_get}
use Rattle.std.specs.Option.{option_map_or}
use Rattle.std.specs.List.{AllByRecursion, IsDistinct}
use Rattle.jk_model.specs.declared.frames.FrameHead.{FrameHead}
use Rattle.jk_model.specs.declared.identifiers.DomainId.{DomainId}
use Rattle.jk_model.specs.declared.identifiers.SegmentNo.{SegmentNo}
use Rattle.jk_model.specs.declared.values.Value.{Value}
use Rattle.jk_model_frames.specs.Frames.{FrameState, called_frame, head_chunks, locals_of, new_frame, segment_chunks}
use Rattle.jk_model_frames.specs.Pools.{Pool, IsPlaceFor, IsPlaced}

-- a segment's domain, and its frames, the lowest first
pub record StoredSegment : Type 0 where
  pub domain : DomainId
  pub frames : List FrameState

pub record FrameContent : Type 0 where
  -- how many pages the store's pool has, where it has one
  pub pages : Option ℕ
  -- whether it took all its memory when it was made
  pub took_all : Bool
  -- how many chunks an admitted domain may use; none of a domain that isn't admitted
  pub quota : DomainId → Option ℕ
  -- the first page of an admitted domain, where the store has a pool
  pub first_page : DomainId → Option ℕ
  -- how many chunks a domain uses
  pub used : DomainId → ℕ
  pub segment : SegmentNo → Option StoredSegment

-- the store's pool, of which a chunk is a page
abbrev pub pool_of : FrameContent → Pool
pool_of c = record { pages = c.pages; quota = c.quota; first_page = c.first_page }

abbrev pub IsAdmitted : FrameContent → DomainId → Type 0
IsAdmitted c d = IsSome (c.quota d)

-- how many chunks a domain may still use
abbrev pub free_chunks : FrameContent → DomainId → ℕ
free_chunks c d = option_map_or (λ q. q - c.used d) (c.quota d) 0

abbrev pub IsThere : FrameContent → SegmentNo → Type 0
IsThere c s = IsSome (c.segment s)

-- The segment's top frame.
pub record TopFrame (c : FrameContent) (s : SegmentNo) (f : FrameState) : Type 0 where
  pub segment : StoredSegment
  pub is_there : c.segment s ≡ Some segment
  pub lower : List FrameState
  pub frames : segment.frames ≡ lower ++ f ∷ []

abbrev pub HasTop : FrameContent → SegmentNo → Type 0
HasTop c s = (f : FrameState) × TopFrame c s f

-- the segment's frame that has so many below it
abbrev pub FrameAt : FrameContent → SegmentNo → ℕ → FrameState → Type 0
FrameAt c s n f = (segment : StoredSegment) × (c.segment s ≡ Some segment) × (slice_get segment.frames n ≡ Some f)

-- the top frame has this local
abbrev pub HasLocal : FrameContent → SegmentNo → ℕ → Type 0
HasLocal c s i = (f : FrameState) × TopFrame c s f × (i < length f.locals)

-- the operand stack of the top frame has an entry with so many above it
abbrev pub HasEntry : FrameContent → SegmentNo → ℕ → Type 0
HasEntry c s above = (f : FrameState) × TopFrame c s f × (above < length f.stack)

-- the operand stack of the top frame has so many entries
abbrev pub HasEntries : FrameContent → SegmentNo → ℕ → Type 0
HasEntries c s count = (f : FrameState) × TopFrame c s f × (count ≤ length f.stack)

-- the operand stack of the top frame has room for another entry
abbrev pub HasFreeEntry : FrameContent → SegmentNo → Type 0
HasFreeEntry c s = (f : FrameState) × TopFrame c s f × (length f.stack < f.head.max_stack)

abbrev pub HasFrame : FrameContent → SegmentNo → ℕ → Type 0
HasFrame c s n = (f : FrameState) × FrameAt c s n f

abbrev pub HasLocalAt : FrameContent → SegmentNo → ℕ → ℕ → Type 0
HasLocalAt c s n i = (f : FrameState) × FrameAt c s n f × (i < length f.locals)

-- the segment's domain has enough free chunks for a frame
abbrev pub HasRoomFor : FrameContent → SegmentNo → FrameHead → Type 0
HasRoomFor c s head =
    (g : StoredSegment) × (c.segment s ≡ Some g) × (head_chunks head ≤ free_chunks c g.domain)

-- the operand stack of the top frame has so many arguments on top, and they fit the locals of a frame with this head
abbrev pub HasArguments : FrameContent → SegmentNo → FrameHead → ℕ → Type 0
HasArguments c s head count =
    (f : FrameState) × TopFrame c s f × (below : List Value) × (given : List Value) × (f.stack ≡ below ++ given)
    × (length given ≡ count) × (length (locals_of given) ≤ head.max_locals)

-- what a call leaves on the stack of the frame that made it: the value that is given back, where there is one
abbrev pub given_back : Option Value → List Value
given_back (Some v) = v ∷ []
given_back None = []

-- the frame goes on after its call
abbrev pub gone_on : Option Value → FrameState → FrameState
gone_on v f = record f { head = record f.head { at = f.head.at + 1; need = None }; stack = f.stack ++ given_back v }

-- A frame is on top of another one, which has a place after its call, and room for what is given back.
pub record TwoFrames (frames : List FrameState) (v : Option Value) : Type 0 where
  pub lower : List FrameState
  pub below : FrameState
  pub top : FrameState
  pub are : frames ≡ lower ++ below ∷ top ∷ []
  pub place : below.head.at + 1 < 2 ^ 32
  pub room : length below.stack + length (given_back v) ≤ below.head.max_stack

-- the top frame of the segment may give this back to the one below it
abbrev pub MayGiveBack : FrameContent → SegmentNo → Option Value → Type 0
MayGiveBack c s v = (g : StoredSegment) × (c.segment s ≡ Some g) × TwoFrames g.frames v

-- ---- Changes.

-- The pool and the domains are as before.
pub record KeepsDomains (old new : FrameContent) : Type 0 where
  pub pages : new.pages ≡ old.pages
  pub took_all : new.took_all ≡ old.took_all
  pub quota : (d : DomainId) → new.quota d ≡ old.quota d
  pub first_page : (d : DomainId) → new.first_page d ≡ old.first_page d

-- All is as before.
pub record IsSame (old new : FrameContent) : Type 0 where
  pub domains : KeepsDomains old new
  pub used : (d : DomainId) → new.used d ≡ old.used d
  pub segment : (s : SegmentNo) → new.segment s ≡ old.segment s

-- The segment of a domain becomes this, or goes, and the domain uses so many chunks then; all else is as before.
pub record Changes (old new : FrameContent) (s : SegmentNo) (d : DomainId) (segment : Option StoredSegment) (used : ℕ) : Type 0 where
  pub domains : KeepsDomains old new
  pub becomes : new.segment s ≡ segment
  pub others : (r : SegmentNo) → r ≢ s → new.segment r ≡ old.segment r
  pub uses : new.used d ≡ used
  pub other_domains : (e : DomainId) → e ≢ d → new.used e ≡ old.used e

-- A segment begins with one frame.
abbrev pub Begins : FrameContent → FrameContent → DomainId → SegmentNo → FrameHead → Type 0
Begins old new d s head =
    Changes old new s d (Some (record { domain = d; frames = new_frame head ∷ [] })) (old.used d + 1 + head_chunks head)

-- Another frame is on top.
abbrev pub Pushes : FrameContent → FrameContent → SegmentNo → FrameHead → Type 0
Pushes old new s head =
    (g : StoredSegment) × (old.segment s ≡ Some g)
    × Changes old new s g.domain (Some (record g { frames = g.frames ++ new_frame head ∷ [] })) (old.used g.domain + head_chunks head)

-- The top frame calls: so many arguments, the topmost entries of its operand stack, become the first locals of another frame
-- on top of it.
abbrev pub Calls : FrameContent → FrameContent → SegmentNo → FrameHead → ℕ → Type 0
Calls old new s head count =
    (f : FrameState) (top : TopFrame old s f) (below given : List Value) → f.stack ≡ below ++ given → length given ≡ count
    → Changes old new s top.segment.domain
    (Some (record top.segment { frames = top.lower ++ record f { stack = below } ∷ called_frame head given ∷ [] }))
    (old.used top.segment.domain + head_chunks head)

-- The top frame goes.
abbrev pub Pops : FrameContent → FrameContent → SegmentNo → Type 0
Pops old new s =
    (f : FrameState) × (top : TopFrame old s f)
    × Changes old new s top.segment.domain (Some (record top.segment { frames = top.lower }))
    (old.used top.segment.domain - head_chunks f.head)

-- The segment goes with all its frames.
abbrev pub Ends : FrameContent → FrameContent → SegmentNo → Type 0
Ends old new s =
    (g : StoredSegment) × (old.segment s ≡ Some g) × Changes old new s g.domain None (old.used g.domain - segment_chunks g.frames)

-- The top frame becomes this one. The domain uses as many chunks as before.
abbrev pub SetsTop : FrameContent → FrameContent → SegmentNo → FrameState → Type 0
SetsTop old new s g =
    (f : FrameState) × (top : TopFrame old s f)
    × Changes old new s top.segment.domain (Some (record top.segment { frames = top.lower ++ g ∷ [] })) (old.used top.segment.domain)

-- An entry is taken off the operand stack of the top frame.
abbrev pub TakesEntry : FrameContent → FrameContent → SegmentNo → FrameState → Value → Type 0
TakesEntry old new s f v =
    (below : List Value) × (f.stack ≡ below ++ v ∷ []) × SetsTop old new s (record f { stack = below })

-- So many entries are taken off the operand stack of the top frame.
abbrev pub DropsEntries : FrameContent → FrameContent → SegmentNo → FrameState → ℕ → Type 0
DropsEntries old new s f count =
    (below given : List Value) → f.stack ≡ below ++ given → length given ≡ count → SetsTop old new s (record f { stack = below })

-- A value is in the place of so many entries of the operand stack of the top frame.
abbrev pub ExchangesEntries : FrameContent → FrameContent → SegmentNo → FrameState → ℕ → Value → Type 0
ExchangesEntries old new s f count v =
    (below given : List Value) → f.stack ≡ below ++ given → length given ≡ count → SetsTop old new s (record f { stack = below ++ v ∷ [] })

-- The top frame goes, and the frame below goes on after its call, with what was given back.
abbrev pub GivesBack : FrameContent → FrameContent → SegmentNo → Option Value → Type 0
GivesBack old new s v =
    (g : StoredSegment) → old.segment s ≡ Some g
    → (lower : List FrameState) (below top : FrameState) → g.frames ≡ lower ++ below ∷ top ∷ []
    → Changes old new s g.domain (Some (record g { frames = lower ++ gone_on v below ∷ [] })) (old.used g.domain - head_chunks top.head)

-- ---- One segment.

-- What one segment has of a content: the segment itself, and what its domain may use and uses, and its first page. No other segment is
-- there; nothing is said of the pool and of other domains.
pub record IsOnly (c : FrameContent) (s : SegmentNo) (one : FrameContent) : Type 0 where
  pub segment : one.segment s ≡ c.segment s
  pub others : (r : SegmentNo) → r ≢ s → one.segment r ≡ None
  pub quota : (g : StoredSegment) → c.segment s ≡ Some g → one.quota g.domain ≡ c.quota g.domain
  pub used : (g : StoredSegment) → c.segment s ≡ Some g → one.used g.domain ≡ c.used g.domain
  pub first_page : (g : StoredSegment) → c.segment s ≡ Some g → one.first_page g.domain ≡ c.first_page g.domain

-- A segment has other frames, and its domain uses what it uses then; all else is as before.
pub record KeepsOthers (old new : FrameContent) (s : SegmentNo) : Type 0 where
  pub domains : KeepsDomains old new
  pub segment : (g : StoredSegment) → old.segment s ≡ Some g → (frames : List FrameState) × (new.segment s ≡ Some (record g { frames = frames }))
  pub others : (r : SegmentNo) → r ≢ s → new.segment r ≡ old.segment r
  pub other_domains : (g : StoredSegment) → old.segment s ≡ Some g → (e : DomainId) → e ≢ g.domain → new.used e ≡ old.used e

-- ---- Domains.

-- A domain is admitted, without segments.
pub record Admits (old new : FrameContent) (d : DomainId) (chunks : ℕ) : Type 0 where
  pub pages : new.pages ≡ old.pages
  pub took_all : new.took_all ≡ old.took_all
  pub quota : new.quota d ≡ Some chunks
  pub place : IsPlaceFor (pool_of old) chunks (new.first_page d)
  pub unused : new.used d ≡ 0
  pub other_quotas : (e : DomainId) → e ≢ d → new.quota e ≡ old.quota e
  pub other_places : (e : DomainId) → e ≢ d → new.first_page e ≡ old.first_page e
  pub other_uses : (e : DomainId) → e ≢ d → new.used e ≡ old.used e
  pub segment : (s : SegmentNo) → new.segment s ≡ old.segment s

-- what is left of a segment when a domain goes
abbrev pub IsLeftOf : DomainId → Option StoredSegment → Option StoredSegment → Type 0
IsLeftOf d None left = left ≡ None
IsLeftOf d (Some g) left = ((g.domain ≡ d) × (left ≡ None)) ⊎ ((g.domain ≢ d) × (left ≡ Some g))

-- A domain goes, with its segments.
pub record Closes (old new : FrameContent) (d : DomainId) : Type 0 where
  pub pages : new.pages ≡ old.pages
  pub took_all : new.took_all ≡ old.took_all
  pub quota : new.quota d ≡ None
  pub place : new.first_page d ≡ None
  pub unused : new.used d ≡ 0
  pub other_quotas : (e : DomainId) → e ≢ d → new.quota e ≡ old.quota e
  pub other_places : (e : DomainId) → e ≢ d → new.first_page e ≡ old.first_page e
  pub other_uses : (e : DomainId) → e ≢ d → new.used e ≡ old.used e
  pub segment : (s : SegmentNo) → IsLeftOf d (old.segment s) (new.segment s)

-- fewer domains than this may be admitted at a time
abbrev pub MOST_DOMAINS : ℕ
MOST_DOMAINS = 140000

abbrev pub HasFewDomains : FrameContent → Type 0
HasFewDomains c =
    (domains : List DomainId) → IsDistinct (λ (d e : DomainId). d.0 == e.0) domains → AllByRecursion (IsAdmitted c) domains
    → length domains < MOST_DOMAINS

-- ---- What holds of each content.

-- The values of a frame have the room that its head says.
pub record IsSized (f : FrameState) : Type 0 where
  pub locals : length f.locals ≡ f.head.max_locals
  pub stack : length f.stack ≤ f.head.max_stack

pub record IsContent (c : FrameContent) : Type 0 where
  -- a segment belongs to an admitted domain, which pays for it, and its frames are sized
  pub owned : (s : SegmentNo) (g : StoredSegment) → c.segment s ≡ Some g → IsAdmitted c g.domain × (segment_chunks g.frames ≤ c.used g.domain)
  pub sized : (s : SegmentNo) (g : StoredSegment) → c.segment s ≡ Some g → AllByRecursion IsSized g.frames
  -- nobody uses more than it may
  pub within : (d : DomainId) (q : ℕ) → c.quota d ≡ Some q → (c.used d ≤ q) × (1 ≤ q) × (q ≤ 262144)
  pub unused : (d : DomainId) → c.quota d ≡ None → (c.used d ≡ 0) × (c.first_page d ≡ None)
  -- domains of a store with a pool have a place in it, and others none
  pub placed : (d : DomainId) (q : ℕ) → c.quota d ≡ Some q → IsPlaced (pool_of c) d q
