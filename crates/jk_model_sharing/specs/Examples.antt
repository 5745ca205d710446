-- Worked examples: three domains ann, bob and cid, segments of theirs, two bound names and a range of two numbers; and a state of ann and bob
-- with three threads. `src/examples.rt` says what the definitions make of them.
use Rattle.std.specs.Prelude.{ℕ, Bool, false, true, List, [], ◌∷◌, None, codes}
use Rattle.jk_model.specs.declared.identifiers.CapId.{CapId}
use Rattle.jk_model.specs.declared.identifiers.ClassId.{ClassId}
use Rattle.jk_model.specs.declared.identifiers.DomainId.{DomainId}
use Rattle.jk_model.specs.declared.script.Quotas.{Quotas}
use Rattle.jk_model_heaps.specs.Capabilities.{CapRange, Capability}
use Rattle.jk_model_sharing.specs.BoundNames.{BoundName}
use Rattle.jk_model_sharing.specs.Segments.{SharedSegment, SharedThread, new_segment, segments_left, shared_form}
use Rattle.jk_model_sharing.specs.SharedStates.{SharedDomain, SharedState}

abbrev pub ann : DomainId
ann = record { 0 = 0 }

abbrev pub bob : DomainId
bob = record { 0 = 1 }

abbrev pub cid : DomainId
cid = record { 0 = 2 }

-- ---- Segments.

abbrev pub segment : ℕ → DomainId → SharedSegment
segment n d = new_segment (record { 0 = n }) d

-- what is left of a stack at the end of a domain
abbrev pub after_end_of : DomainId → List SharedSegment → List SharedSegment
after_end_of d segments = segments_left shared_form d segments

-- ---- Names: `p` and `q` are bound, by ann and by bob.

abbrev pub bound : List ℕ → ℕ → DomainId → BoundName
bound text k d = record { text = text; cap = record { 0 = k }; binder = d }

abbrev pub two_names : List BoundName
two_names = bound (codes "p") 1 ann ∷ bound (codes "q") 2 bob ∷ []

-- ---- Capabilities: bob may create two, with the numbers 5 and 6, and has created one.

abbrev pub class_of_target : ClassId
class_of_target = record { 0 = 50 }

abbrev pub first_capability : Capability
first_capability = record { target = 9; class = class_of_target; revoked = false }

abbrev pub range_with : List Capability → CapRange
range_with made = record { owner = bob; first = 5; count = 2; made = made }

abbrev pub cap : ℕ → CapId
cap k = record { 0 = k }

-- ---- A state: ann, which has created the capabilities of both names, bob with the range above, and three threads.

abbrev pub quotas : Quotas
quotas = record { heap = 64; chunks = 8; caps = 2; threads = 2; names = 1; steps = None }

abbrev pub shared_domain : Bool → DomainId → CapRange → SharedDomain
shared_domain live d caps = record { number = d; live = live; quotas = quotas; steps_left = None; caps = caps }

abbrev pub range_of_ann : CapRange
range_of_ann = record { owner = ann; first = 1; count = 4; made = first_capability ∷ first_capability ∷ [] }

abbrev pub thread : ℕ → DomainId → List SharedSegment → SharedThread
thread n d segments = record { number = record { 0 = n }; domain = d; segments = segments }

abbrev pub state_with : SharedDomain → List BoundName → List SharedThread → SharedState
state_with second names threads = record {
  domains = shared_domain true ann range_of_ann ∷ second ∷ [];
  names = names;
  threads = threads;
  next_thread = 4;
  next_segment = 6;
  stubs = [];
}

-- ann calls bob; bob alone; bob calls ann
abbrev pub three_threads : SharedState
three_threads = state_with (shared_domain true bob (range_with (first_capability ∷ []))) two_names
    (thread 1 ann (segment 1 ann ∷ segment 2 bob ∷ [])
    ∷ thread 2 bob (segment 3 bob ∷ [])
    ∷ thread 3 bob (segment 4 bob ∷ segment 5 ann ∷ [])
    ∷ [])
