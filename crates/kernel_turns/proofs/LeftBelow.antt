-- Where the top segment of a thread was left, or has called another domain: what may be raised in the segment that is on top then, and that what
-- comes of it is, together with that, a way in which the thread goes on.
use Rattle.std.proofs.Common.{◌≡◌, ℕ, suc, ◌<◌, ◌==◌, Bool, true, false, cond, List, [], ◌∷◌, ◌++◌, length, find, slice_get, map, Option, Some, None, option_map, refl, sym, ap, subst, ◌∙◌, arith}
use Rattle.std.specs.Option.{option_map_or}
use Rattle.std.proofs.lemmas.List.{length-map}
use Rattle.jk_model.specs.declared.identifiers.CapId.{CapId}
use Rattle.jk_model.specs.declared.identifiers.MemberId.{MemberId}
use Rattle.jk_model.specs.declared.identifiers.ThreadNo.{ThreadNo}
use Rattle.jk_model.specs.declared.output.Line.{Line}
use Rattle.jk_model.specs.declared.steps.Raise.{Raise}
use Rattle.jk_model.specs.declared.steps.Raise.TheVariants as Raised
use Rattle.jk_model.specs.declared.steps.Standing.TheVariants as Stands
use Rattle.jk_model.specs.declared.values.Value.{Value}
use Rattle.jk_model_classes.specs.declared.records.ClassRecord.{ClassRecord}
use Rattle.jk_model_heaps.specs.Workings.{Inside, with_heap}
use Rattle.jk_model_running.specs.Ways.{Crosses}
use Rattle.jk_model_machine_state.specs.Machines.{Machine, Segment, Thread, thread_numbered}
use Rattle.jk_model_machine_state.specs.Places.{RunningSegment, with_running, without_top}
use Rattle.jk_model_sharing.specs.Segments.{SharedThread}
use Rattle.jk_model_sharing.specs.Segments.{thread_numbered as thread_shared}
use Rattle.jk_model_crossings.specs.Answers.{Returns}
use Rattle.jk_model_crossings.specs.RemoteCalls.{RemoteCall}
use Rattle.jk_model_crossings.specs.Throwing.{Brings, RaisesInThread, TopTwo, Throws}
use Rattle.jk_model_runs.specs.Sealed.{IsSealed}
use Rattle.jk_model_runs.specs.Steps.{Deed, Ensues}
use Rattle.jk_model_runs.specs.Steps as Ran
use Rattle.heap_laws.specs.RaisableObjects.{MayBeRaised}
use Rattle.machine_laws.proofs.RaisesWhereMet.{meets_at, met}
use Rattle.machine_laws.proofs.RunsAgain.{thread_set}
use Rattle.machine_laws.proofs.StepsKnown.{refusal}
use Rattle.machine_laws.proofs.ThrowablesSealed.{HasThrown, IsBrought, brought, stands_brought}
use Rattle.machine_laws.proofs.TopSegmentsTaken.{inside_stays, segments_stay, without}
use Rattle.machine_laws.specs.SoundMachines.{HasSoundClasses}
use Rattle.machine_parts.specs.MachineParts.{MachineParts, machine_of, segment_with_frames, thread_with_frames}
use Rattle.domain_crossing.specs.Crossings.{LeavesByReturn, LeavesByThrow, brings, drops, drops_throwable, ends, ends_orphan, gives, gives_nothing, is_too_large, is_uncaught, is_uncopiable}
use Rattle.domain_crossing.specs.declared.answers.Left.{Left}
use Rattle.domain_crossing.specs.declared.answers.Left.TheVariants as Became
use Rattle.domain_crossing.proofs.HalvesTogether.{return_delivered, return_ended, return_raised, throw_delivered, throw_ended, throw_raised}
use Rattle.kernel_turns.specs.GoingDown.{CallsAcross, ComesOf, IsRaisable, MayBeSo, height}

-- ---- How many segments a thread has.

abbrev pub stack_height : ThreadNo → Machine → ℕ
stack_height t m = option_map_or (λ (e : Thread). length e.segments) (thread_numbered m t) 0

of_thread : (m : Machine) (t : ThreadNo) (e : Thread) (segments : List Segment) → thread_numbered m t ≡ Some e → e.segments ≡ segments
    → stack_height t m ≡ length segments
of_thread m t e segments is are =
    ap (λ (o : Option Thread). option_map_or (λ (x : Thread). length x.segments) o 0) is ∙ ap (λ (ss : List Segment). length ss) are

one_more : (xs : List Segment) (s : Segment) → length (xs ++ s ∷ []) ≡ suc (length xs)
one_more [] s = refl
one_more (x ∷ xs) s = ap suc (one_more xs s)

module _ (m : Machine) (t : ThreadNo) (s : TopTwo m t) where
  taken_height : stack_height t (without_top s.left) ≡ length s.left.lower
  taken_height = of_thread (without_top s.left) t (record s.left.thread { segments = s.left.lower }) s.left.lower (thread_set m t s.left.lower s.left) refl

  whole_height : stack_height t m ≡ suc (length s.left.lower)
  whole_height =
      of_thread m t s.left.thread (s.left.lower ++ s.left.segment ∷ []) s.left.is_thread s.left.are_segments ∙ one_more s.left.lower s.left.segment

  below_height : (inside : Inside) → stack_height t (with_running s.below s.below.segment inside) ≡ length s.left.lower
  below_height inside =
      of_thread (with_running s.below s.below.segment inside) t (record s.below.thread { segments = s.below.lower ++ s.below.segment ∷ [] })
      (s.below.lower ++ s.below.segment ∷ []) (thread_set (without_top s.left) t (s.below.lower ++ s.below.segment ∷ []) s.below) refl
      ∙ sym (of_thread (without_top s.left) t s.below.thread (s.below.lower ++ s.below.segment ∷ []) s.below.is_thread s.below.are_segments)
      ∙ taken_height

  pub brings_lower : (a : ℕ) (r : Raise) (mid : Machine) → Brings s a r mid → stack_height t mid < stack_height t m
  brings_lower a r mid (Brings.is_death b death) = let x = taken_height in let y = whole_height in omega (arith, x, y)
  brings_lower a r mid (Brings.is_uncopiable b alive not) = let x = taken_height in let y = whole_height in omega (arith, x, y)
  brings_lower a r mid (Brings.is_too_large b alive large) = let x = taken_height in let y = whole_height in omega (arith, x, y)
  brings_lower a r mid (Brings.is_copied b alive heap c passes) =
      let x = below_height (with_heap s.below.home.inside heap) in
      let y = whole_height in
      omega (arith, x, y)

-- the machine's threads are those that domains share
pub height_is : (p : MachineParts) (t : ThreadNo) → stack_height t (machine_of p) ≡ height t p.shared
height_is p t = by (thread_shared p.shared.threads t) (found_still (thread_with_frames p.frames) p.shared.threads)
  where
    found_by : (b : Bool) (e : SharedThread) (o : Option SharedThread) (q : Option Thread) → q ≡ option_map (thread_with_frames p.frames) o
        → cond b (Some (thread_with_frames p.frames e)) q ≡ option_map (thread_with_frames p.frames) (cond b (Some e) o)
    found_by true e o q is = refl
    found_by false e o q is = is

    found_still : (f : SharedThread → Thread) (threads : List SharedThread)
        → find (λ (e : Thread). e.number.0 == t.0) (map (thread_with_frames p.frames) threads)
        ≡ option_map (thread_with_frames p.frames) (find (λ (e : SharedThread). e.number.0 == t.0) threads)
    found_still f [] = refl
    found_still f (e ∷ threads) =
        found_by (e.number.0 == t.0) e (find (λ (x : SharedThread). x.number.0 == t.0) threads)
        (find (λ (x : Thread). x.number.0 == t.0) (map (thread_with_frames p.frames) threads)) (found_still f threads)

    by : (o : Option SharedThread)
        → find (λ (e : Thread). e.number.0 == t.0) (map (thread_with_frames p.frames) p.shared.threads) ≡ option_map (thread_with_frames p.frames) o
        → stack_height t (machine_of p) ≡ option_map_or (λ (e : SharedThread). length e.segments) o 0
    by None is = ap (λ (q : Option Thread). option_map_or (λ (x : Thread). length x.segments) q 0) is
    by (Some e) is =
        ap (λ (q : Option Thread). option_map_or (λ (x : Thread). length x.segments) q 0) is
        ∙ length-map e.segments (segment_with_frames p.frames)

-- ---- By a throwable.

module _ (m : Machine) (t : ThreadNo) (a : ℕ) (sealed : IsSealed m) (sound : HasSoundClasses m) (thrown : HasThrown m t a) where
  from_brought : (s : TopTwo m t) (r : Raise) (mid : Machine) → IsBrought m t sealed s (thrown.left s.left) r mid → IsRaisable mid t r
  from_brought s r mid x = record {
    sealed = without m t sealed s (thrown.left s.left);
    met_there = x.met_there;
    is = x.is;
    may = x.may;
  }

  pub thrown_so : (left : Left) (new : Machine) → LeavesByThrow m t a left new → MayBeSo new t left
  thrown_so left new (is_uncaught p b lowest calm) = (b.of_class, b.is_class)
  thrown_so left new (ends_orphan p lowest orphan) = tt
  thrown_so left new (drops_throwable s orphan) = tt
  thrown_so left new (brings s r mid calm b) =
      from_brought s r mid (brought m t sealed sound s (thrown.left s.left) a (thrown.throwable s.left) r mid b)

  pub lower_so : (r : Raise) (left : Left) (new : Machine) → left ≡ Became.Raised r → LeavesByThrow m t a left new → stack_height t new < stack_height t m
  lower_so r left new is (is_uncaught p b lowest calm) = absurd cc
  lower_so r left new is (ends_orphan p lowest orphan) = absurd cc
  lower_so r left new is (drops_throwable s orphan) = absurd cc
  lower_so r left new is (brings s q mid calm b) = brings_lower m t s a q mid b

pub throws_on : (m : Machine) (t : ThreadNo) (a : ℕ) (left : Left) (mid : Machine) → LeavesByThrow m t a left mid → (n : ℕ) (lines : List Line)
    (new : Machine) → mid.classes ≡ m.classes → ComesOf mid t left n lines new → Throws t (suc n) m a lines new
throws_on m t a Became.Delivered mid h n lines new same (zero_is, none, is) =
    subst (λ (k : ℕ). Throws t (suc k) m a lines new) (sym zero_is)
    (subst (λ (ls : List Line). Throws t 1 m a ls new) (sym none)
    (subst (Throws t 1 m a []) (sym is) (throw_delivered m t a mid h)))
throws_on m t a (Became.Raised r) mid h n lines new same raises = throw_raised m t a r n lines mid new h raises
throws_on m t a Became.Ended mid h n lines new same (zero_is, said, is) =
    subst (λ (k : ℕ). Throws t (suc k) m a lines new) (sym zero_is)
    (subst (Throws t 1 m a lines) (sym is) (throw_ended m t a Became.Ended mid lines h said (λ r e. cc)))
throws_on m t a (Became.EndedBy c) mid h n lines new same (zero_is, (class, is_class, said), is) =
    subst (λ (k : ℕ). Throws t (suc k) m a lines new) (sym zero_is)
    (subst (Throws t 1 m a lines) (sym is)
    (throw_ended m t a (Became.EndedBy c) mid lines h
    (class, ap (λ (classes : List ClassRecord). slice_get classes c.0) (sym same) ∙ is_class, said) (λ r e. cc)))

-- ---- By a return.

module _ (m : Machine) (t : ThreadNo) (sealed : IsSealed m) (sound : HasSoundClasses m)
    (left_by : (p : RunningSegment m t) → p.segment.frames ≡ []) where
  stands_there : (s : TopTwo m t) (r : Raise) → MayBeRaised m.classes s.below.home.inside.heap r → IsRaisable (without_top s.left) t r
  stands_there s r may =
      let x = stands_brought m t sealed sound s (left_by s.left) r may in
      record { sealed = without m t sealed s (left_by s.left); met_there = x.met_there; is = x.is; may = x.may }

  pub returned_so : (v : Option Value) (left : Left) (new : Machine) → LeavesByReturn m t v left new → MayBeSo new t left
  returned_so v left new (ends w p lowest) = tt
  returned_so v left new (drops w s orphan) = tt
  returned_so v left new (gives_nothing s mid calm receives) = tt
  returned_so v left new (gives u w s heap mid calm passes receives) = tt
  returned_so v left new (is_uncopiable u s calm not) = stands_there s (Raised.Standing Stands.NotCopiable) tt
  returned_so v left new (is_too_large u s calm large) = stands_there s (Raised.Standing Stands.OutOfMemoryError) tt

-- so many segments are left then
pub returns_on : (m : Machine) (t : ThreadNo) (v : Option Value) (left : Left) (mid : Machine) → LeavesByReturn m t v left mid → (n : ℕ)
    (lines : List Line) (new : Machine) → mid.classes ≡ m.classes → ComesOf mid t left n lines new → Returns m t v (suc n) lines new
returns_on m t v Became.Delivered mid h n lines new same (zero_is, none, is) =
    subst (λ (k : ℕ). Returns m t v (suc k) lines new) (sym zero_is)
    (subst (λ (ls : List Line). Returns m t v 1 ls new) (sym none)
    (subst (Returns m t v 1 []) (sym is) (return_delivered m t v mid h)))
returns_on m t v (Became.Raised r) mid h n lines new same raises = return_raised m t v r n lines mid new h raises
returns_on m t v Became.Ended mid h n lines new same (zero_is, said, is) =
    subst (λ (k : ℕ). Returns m t v (suc k) lines new) (sym zero_is)
    (subst (Returns m t v 1 lines) (sym is) (return_ended m t v mid lines h said))
returns_on m t v (Became.EndedBy c) mid h n lines new same comes = absurd (no_throw m t v (Became.EndedBy c) mid h refl)
  where
    no_throw : (m : Machine) (t : ThreadNo) (v : Option Value) (left : Left) (mid : Machine) → LeavesByReturn m t v left mid
        → left ≡ Became.EndedBy c → ⊥
    no_throw m t v left mid (ends w p lowest) e = cc
    no_throw m t v left mid (drops w s orphan) e = cc
    no_throw m t v left mid (gives_nothing s x calm receives) e = cc
    no_throw m t v left mid (gives u w s heap x calm passes receives) e = cc
    no_throw m t v left mid (is_uncopiable u s calm not) e = cc
    no_throw m t v left mid (is_too_large u s calm large) e = cc

-- ---- By a call.

module _ (m : Machine) (t : ThreadNo) (c : RemoteCall m t) (sealed : IsSealed m) (sound : HasSoundClasses m) where
  -- the machine itself, in which something may be raised where the thread runs
  itself : m ≡ met m t (meets_at m t sealed sound c.place c.place.segment refl refl refl)
  itself = λ i. record m {
    domains = sym (inside_stays m c.place.segment.shared.domain sealed.domains.numbered c.place.home.domain c.place.home.inside c.place.home.is_domain
        c.place.home.is_inside) i;
    threads = sym (segments_stay m t sealed.threads.rise c.place) i;
  }

  pub called_so : (left : Left) (new : Machine) → CallsAcross c left new → MayBeSo new t left
  called_so Became.Delivered new h = tt
  called_so (Became.Raised r) new (refused, is) =
      subst (λ (x : Machine). IsRaisable x t r) (sym is)
      (record {
        sealed = m;
        met_there = meets_at m t sealed sound c.place c.place.segment refl refl refl;
        is = itself;
        may = refusal m sound c.place.home.inside.heap t c r refused;
      })
  called_so Became.Ended new h = tt
  called_so (Became.EndedBy class) new h = absurd h

pub calls_on : (m : Machine) (t : ThreadNo) (c : RemoteCall m t) (k : CapId) (method : MemberId) → c.capability ≡ k → c.method ≡ method → (left : Left)
    (mid : Machine) → CallsAcross c left mid → (n : ℕ) (lines : List Line) (new : Machine) → ComesOf mid t left n lines new
    → (deed : Deed) × Ensues m t (Crosses k method) deed lines new
calls_on m t c k method of_cap of_method Became.Delivered mid h n lines new (zero_is, none, is) = (
  Ran.Entered k method,
  subst (λ (ls : List Line). Ensues m t (Crosses k method) (Ran.Entered k method) ls new) (sym none)
      (subst (Ensues m t (Crosses k method) (Ran.Entered k method) []) (sym is) (Ran.enters k method c mid of_cap of_method h)),
)
calls_on m t c k method of_cap of_method (Became.Raised r) mid (refused, same) n lines new raises = (
  Ran.deed_of_raise n,
  Ran.is_refused k method c r n lines new of_cap of_method refused (subst (λ (x : Machine). RaisesInThread x t r n lines new) same raises),
)
calls_on m t c k method of_cap of_method Became.Ended mid h n lines new comes = absurd h
calls_on m t c k method of_cap of_method (Became.EndedBy class) mid h n lines new comes = absurd h
