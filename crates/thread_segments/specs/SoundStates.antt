-- What holds of the state that domains share, whatever they did.
use Rattle.std.specs.Prelude.{◌≡◌, ◌≢◌, ℕ, ◌+◌, ◌-◌, ◌<◌, ◌≤◌, ◌^◌, false, true, List, [], length, flat_map, Contains, Option, Some, None, slice_get, take}
use Rattle.jk_model.specs.Capabilities.{last_number}
use Rattle.jk_model_classes.specs.declared.sharing.Stub.{Stub}
use Rattle.jk_model_heaps.specs.Capabilities.{Capability, IsGivenOut}
use Rattle.jk_model_sharing.specs.BoundNames.{BoundName, count_bound_by, longest_name}
use Rattle.jk_model_sharing.specs.CapabilityCalls.{count_numbers}
use Rattle.jk_model_sharing.specs.Segments.{SharedSegment, SharedThread, count_segments_of, count_started_in}
use Rattle.jk_model_sharing.specs.SharedStates.{SharedDomain, SharedState, caps_of, stub_for}
use Rattle.thread_segments.specs.Asked.{IsAdmitted, IsLiveDomain}

-- each domain's number is its place
abbrev pub AreNumbered : List SharedDomain → Type 0
AreNumbered domains = (i : ℕ) (e : SharedDomain) → slice_get domains i ≡ Some e → e.number.0 ≡ i

-- a budget is there exactly where the quotas have one, and no greater
abbrev pub IsWithin : Option ℕ → Option ℕ → Type 0
IsWithin None left = left ≡ None
IsWithin (Some steps) left = (n : ℕ) × (left ≡ Some n) × (n ≤ steps)

-- the segments of all threads
abbrev pub all_segments : SharedState → List SharedSegment
all_segments s = flat_map (λ (t : SharedThread). t.segments) s.threads

pub record AreSoundRanges (s : SharedState) : Type 0 where
  -- a domain's range is its own, and has as many numbers as its quota
  pub owner : (e : SharedDomain) → Contains s.domains e → e.caps.owner ≡ e.number
  pub count : (e : SharedDomain) → Contains s.domains e → e.caps.count ≡ e.quotas.caps
  -- the first begins at 1, and each later one directly behind the one before it
  pub chained : (i : ℕ) (e : SharedDomain) → slice_get s.domains i ≡ Some e → e.caps.first ≡ 1 + count_numbers (take i (caps_of s))
  pub made : (e : SharedDomain) → Contains s.domains e → length e.caps.made ≤ e.caps.count
  pub few : count_numbers (caps_of s) ≤ last_number
  pub dead : (e : SharedDomain) (c : Capability) → Contains s.domains e → e.live ≡ false → Contains e.caps.made c → c.revoked ≡ true
  pub have_stubs : (e : SharedDomain) (c : Capability) → Contains s.domains e → Contains e.caps.made c → (stub : Stub) × (stub_for s c.class ≡ Some stub)

pub record AreSoundNames (s : SharedState) : Type 0 where
  pub short : (n : BoundName) → Contains s.names n → length n.text ≤ longest_name
  pub given_out : (n : BoundName) → Contains s.names n → IsGivenOut (caps_of s) n.cap
  pub binders : (n : BoundName) → Contains s.names n → IsLiveDomain s n.binder
  pub differ : (i j : ℕ) (m n : BoundName) → slice_get s.names i ≡ Some m → slice_get s.names j ≡ Some n → m.text ≡ n.text → i ≡ j
  pub few : (e : SharedDomain) → Contains s.domains e → count_bound_by s.names e.number ≤ e.quotas.names

pub record AreSoundThreads (s : SharedState) : Type 0 where
  pub rise : (i j : ℕ) (t u : SharedThread) → i < j → slice_get s.threads i ≡ Some t → slice_get s.threads j ≡ Some u → t.number.0 < u.number.0
  pub before : (t : SharedThread) → Contains s.threads t → (0 < t.number.0) × (t.number.0 < s.next_thread)
  pub have_segments : (t : SharedThread) → Contains s.threads t → t.segments ≢ []
  pub started : (t : SharedThread) → Contains s.threads t → IsAdmitted s t.domain
  pub few : (e : SharedDomain) → Contains s.domains e → count_started_in s.threads e.number ≤ e.quotas.threads

pub record AreSoundSegments (s : SharedState) : Type 0 where
  pub before : (e : SharedSegment) → Contains (all_segments s) e → (0 < e.number.0) × (e.number.0 < s.next_segment)
  pub homes : (e : SharedSegment) → Contains (all_segments s) e → IsLiveDomain s e.domain
  pub differ : (i j : ℕ) (e f : SharedSegment) → slice_get (all_segments s) i ≡ Some e → slice_get (all_segments s) j ≡ Some f
      → e.number ≡ f.number → i ≡ j
  pub few : (e : SharedDomain) → Contains s.domains e → count_segments_of s.threads e.number ≤ e.quotas.chunks

-- The calls keep all of this, and a state that is made of parts has it.
pub record AreSound (s : SharedState) : Type 0 where
  pub numbered : AreNumbered s.domains
  pub budgets : (e : SharedDomain) → Contains s.domains e → IsWithin e.quotas.steps e.steps_left
  pub next_thread : (0 < s.next_thread) × (s.next_thread ≤ 2 ^ 31)
  pub next_segment : (0 < s.next_segment) × (s.next_segment ≤ 2 ^ 64 - 1)
  pub ranges : AreSoundRanges s
  pub names : AreSoundNames s
  pub threads : AreSoundThreads s
  pub segments : AreSoundSegments s
