-- The calls of the kernel, and their clauses; those of `add_domain` stand at it. `self.now`, `self.old` and `self.new` are machines, and `out.old`
-- and `out.new` stand for what the sink tells (`SinkState`). Only `new` and `add_domain` may answer for want of memory.
--
-- new(alloc: Global, heap: H, frames: F) -> Result<Kernel<H, F>, OutOfMemory>
--   requires no_domains  { (d : DomainId) → ((H.content heap).quota d ≡ None) × ((F.content frames).quota d ≡ None) }
--   requires no_segments { (s : SegmentNo) → (F.content frames).segment s ≡ None }
--   ensures              { IfOk result (λ k. IsFirstMachine (H.content heap).pages (F.content frames).pages k) }
--
-- holds(&self)
--   ensures              { IsWhole self.now }
--
-- start<S: Sink>(&mut self, name: &[u8], class: &[u8], words: &[Bytes], out: &mut S) -> Result<(), SinkFailed>
--   requires named       { is_name name.now ≡ true }
--   requires short       { length class.now ≤ 255 }
--   requires words       { AreStartWords words.now }
--   requires numbers     { (self.old.next_thread < 2 ^ 31) × MayDraw self.old 1 }
--   // Also where the sink failed, the start has happened.
--   ensures event        { (lines : List Line) × Prints out.old out.new result lines
--                          × Starts self.old (record { domain = name.now; class = class.now; words = words.now }) lines self.new }
--   ensures counts       { length self.new.domains ≡ length self.old.domains }
--
-- turn<S: Sink>(&mut self, thread: u32, out: &mut S) -> Result<(), SinkFailed>
--   requires numbers     { MayDraw self.old 1 }
--   // Also where the sink failed, the step has happened. It is confined to what its deed may change.
--   ensures event        { (lines : List Line) × Prints out.old out.new result lines
--                          × StepsApart self.old (record { 0 = thread }) lines self.new }
--   ensures counts       { NumbersRise self.old 1 self.new × (length self.new.domains ≡ length self.old.domains) }
--
-- turns<S: Sink>(&mut self, thread: u32, steps: u32, out: &mut S) -> Result<bool, SinkFailed>
--   requires numbers     { MayDraw self.old steps }
--   ensures event        { OnOk result ((lines : List Line) × Prints out.old out.new (as_done result) lines
--                          × TurnsApart steps (record { 0 = thread }) self.old lines self.new) }
--   // The step in whose lines the sink failed is the last that was taken.
--   ensures failed       { let t = record { 0 = thread } in
--                          OnErr result (StopsAt t (TurnsBefore steps t) (Turns steps t) self.old out.old out.new self.new) }
--   ensures rests        { result ≡ Ok false → (self.new ≡ self.old) × Rests self.old (record { 0 = thread }) }
--   ensures resting      { 0 < steps → (result ≡ Ok false ↔ IsResting self.old (record { 0 = thread })) }
--   ensures counts       { NumbersRise self.old steps self.new × (length self.new.domains ≡ length self.old.domains) }
--
-- rounds<S: Sink>(&mut self, count: u32, steps: u32, out: &mut S) -> Result<(), SinkFailed>
--   requires numbers     { MayDraw self.old (steps_of count steps self.old) }
--   ensures event        { OnOk result ((lines : List Line) × Prints out.old out.new result lines × Rounds count steps self.old lines self.new) }
--   // The step in whose lines the sink failed, of some thread, is the last that was taken.
--   ensures failed       { OnErr result ((t : ThreadNo)
--                          × StopsAt t (RoundsBefore count steps t) (Rounds count steps) self.old out.old out.new self.new) }
--   ensures counts       { NumbersRise self.old (steps_of count steps self.old) self.new × (length self.new.domains ≡ length self.old.domains) }
--
-- next_live(&self, above: u32) -> Option<u32>
--   ensures some         { IfSome result (λ t. IsNextLive self.now above t) }
--   ensures none         { IfNone result ((u : ThreadNo) → above < u.0 → IsLiveThread self.now u → ⊥) }
--
-- kill<S: Sink>(&mut self, name: &[u8], out: &mut S) -> Result<(), SinkFailed>
--   requires named       { is_name name.now ≡ true }
--   // Also where the sink failed, the kill has happened.
--   ensures event        { (lines : List Line) × Prints out.old out.new result lines × Kills self.old name.now lines self.new }
--   // The pages of the domain, and no others, are free then.
--   ensures pages        { FreesPages self.old name.now self.new }
--   ensures counts       { NumbersRise self.old 0 self.new × (length self.new.domains ≡ length self.old.domains) }
use Rattle.std.specs.Prelude.{ℕ, ◌+◌, ◌*◌, ◌^◌, ◌<◌}
use Rattle.jk_model.specs.declared.identifiers.ThreadNo.{ThreadNo}
use Rattle.jk_model_machine_state.specs.Machines.{IsLiveThread, Machine}

-- ---- Numbers.

-- so many numbers of segments may be drawn
abbrev pub MayDraw : Machine → ℕ → Type 0
MayDraw m n = m.next_segment + n < 2 ^ 64

-- how many steps so many rounds take at most: in each round each thread that was started takes so many
abbrev pub steps_of : ℕ → ℕ → Machine → ℕ
steps_of count steps m = count * (steps * m.next_thread)

-- ---- Live threads.

-- the least live thread above a number
pub record IsNextLive (m : Machine) (above t : ℕ) : Type 0 where
  pub later : above < t
  pub live : IsLiveThread m (record { 0 = t })
  pub none_between : (u : ThreadNo) → above < u.0 → u.0 < t → IsLiveThread m u → ⊥
