-- Where one domain or one thread of a machine is changed, the others are found as they were, and so is what became of that thread.
use Rattle.std.proofs.Common.{◌≡◌, ◌≢◌, ℕ, ◌==◌, Bool, true, false, cond, not, List, [], ◌∷◌, ◌++◌, map, filter, find, Option, Some, None, slice_get, refl, sym, ap, ◌∙◌, eq-eqb, ne_eqb}
use Rattle.std.specs.Option.{option_map}
use Rattle.std.proofs.lemmas.Bool.{eqb-true}
use Rattle.jk_model.specs.declared.identifiers.DomainId.{DomainId}
use Rattle.jk_model.specs.declared.identifiers.ThreadNo.{ThreadNo}
use Rattle.jk_model_heaps.specs.Workings.{Inside}
use Rattle.jk_model_machine_state.specs.Machines.{DomainState, Machine, Segment, Thread, domain_at, thread_numbered, with_domain, with_thread, without_thread}
use Rattle.jk_model_machine_state.specs.Places.{RunningSegment, with_running}
use Rattle.list_lemmas.proofs.ItemsByPlace.{comes_from, mapped_at}
use Rattle.machine_laws.proofs.FilteredItems.{found_still}
use Rattle.machine_laws.proofs.InitialisersAfterRuns.{found_still as found_mapped}
use Rattle.machine_laws.proofs.MachinesThatGrow.{AreNumbered}

kept_if : {X : Type 0} (b : Bool) (x y : X) → b ≡ false → cond b x y ≡ y
kept_if true x y e = absurd cc
kept_if false x y e = refl

set_if : {X : Type 0} (b : Bool) (x y : X) → b ≡ true → cond b x y ≡ x
set_if true x y e = refl
set_if false x y e = absurd cc

-- ---- Lists.

-- an item at a place where nothing is changed
pub same_place : {X : Type 0} (g : X → X) (xs : List X) (k : ℕ) → ((x : X) → slice_get xs k ≡ Some x → g x ≡ x)
    → slice_get (map g xs) k ≡ slice_get xs k
same_place {X = X} g xs k h = by (slice_get xs k) (slice_get (map g xs) k) refl refl
  where
    by : (old new : Option X) → slice_get xs k ≡ old → slice_get (map g xs) k ≡ new → new ≡ old
    by None None e f = refl
    by (Some x) new e f = sym f ∙ mapped_at g xs k x e ∙ ap (λ (y : X). Some y) (h x e)
    by None (Some y) e f = let from = comes_from g xs k y f in let there = from.there in absurd cc

found_by : {X : Type 0} (b c : Bool) (x y : X) (old new : Option X) → c ≡ b → (b ≡ true → y ≡ x) → new ≡ old → cond c (Some y) new ≡ cond b (Some x) old
found_by {X = X} true true x y old new e same h = ap (λ (z : X). Some z) (same refl)
found_by true false x y old new e same h = absurd cc
found_by false true x y old new e same h = absurd cc
found_by false false x y old new e same h = h

-- the first item that passes a test, where none that passes is changed
pub same_found : {X : Type 0} (g : X → X) (test : X → Bool) → ((x : X) → test (g x) ≡ test x) → ((x : X) → test x ≡ true → g x ≡ x)
    → (xs : List X) → find test (map g xs) ≡ find test xs
same_found g test alike same [] = refl
same_found g test alike same (x ∷ xs) =
    found_by (test x) (test (g x)) x (g x) (find test xs) (find test (map g xs)) (alike x) (same x) (same_found g test alike same xs)

none_by : {X : Type 0} (b : Bool) (test : X → Bool) (x : X) (rest : List X) → test x ≡ b → find test rest ≡ None
    → find test (cond (not b) (x ∷ rest) rest) ≡ None
none_by true test x rest e h = h
none_by false test x rest e h = kept_if (test x) (Some x) (find test rest) e ∙ h

-- none passes where those that pass are taken out
pub none_found : {X : Type 0} (test : X → Bool) (xs : List X) → find test (filter (λ x. not (test x)) xs) ≡ None
none_found test [] = refl
none_found test (x ∷ xs) = none_by (test x) test x (filter (λ x. not (test x)) xs) refl (none_found test xs)

-- ---- Domains.

pub other_domains : (m : Machine) → AreNumbered m → (d : DomainId) (change : DomainState → DomainState) (e : DomainId) → e ≢ d
    → domain_at (with_domain d change m) e ≡ domain_at m e
other_domains m numbered d change e differ =
    same_place (λ (x : DomainState). cond (x.number.0 == d.0) (change x) x) m.domains e.0
    (λ x at.
    kept_if (x.number.0 == d.0) (change x) x
    (ne_eqb x.number.0 d.0 (λ same. differ (λ i. record { 0 = (sym (numbered e.0 x at) ∙ same) i }))))

-- ---- Threads.

differ_by : (b : Bool) (n t u : ℕ) → u ≢ t → (n == u) ≡ true → (n == t) ≡ b → b ≡ false
differ_by true n t u differ is of = absurd (differ (sym (eqb-true n u is) ∙ eqb-true n t of))
differ_by false n t u differ is of = refl

-- an item of one number hasn't another one
not_numbered : (n t u : ℕ) → u ≢ t → (n == u) ≡ true → (n == t) ≡ false
not_numbered n t u differ is = differ_by (n == t) n t u differ is refl

numbers_differ : (t u : ThreadNo) → u ≢ t → u.0 ≢ t.0
numbers_differ t u differ same = differ (λ i. record { 0 = same i })

pub other_threads : (m : Machine) (t : ThreadNo) (change : Thread → Thread) → ((x : Thread) → (change x).number ≡ x.number) → (u : ThreadNo) → u ≢ t
    → thread_numbered (with_thread t change m) u ≡ thread_numbered m u
other_threads m t change keeps u differ =
    same_found (λ (x : Thread). cond (x.number.0 == t.0) (change x) x) (λ (x : Thread). x.number.0 == u.0)
    (λ x. alike (x.number.0 == t.0) x)
    (λ x is. kept_if (x.number.0 == t.0) (change x) x (not_numbered x.number.0 t.0 u.0 (numbers_differ t u differ) is)) m.threads
  where
    alike : (b : Bool) (x : Thread) → ((cond b (change x) x).number.0 == u.0) ≡ (x.number.0 == u.0)
    alike true x = ap (λ (n : ThreadNo). n.0 == u.0) (keeps x)
    alike false x = refl

-- the thread itself
pub own_changed : (m : Machine) (t : ThreadNo) (change : Thread → Thread) → ((x : Thread) → (change x).number ≡ x.number) → (e : Thread)
    → thread_numbered m t ≡ Some e → e.number.0 ≡ t.0 → thread_numbered (with_thread t change m) t ≡ Some (change e)
own_changed m t change keeps e is of_t =
    found_mapped (λ (x : Thread). cond (x.number.0 == t.0) (change x) x) (λ (x : Thread). x.number.0 == t.0) (λ x. alike (x.number.0 == t.0) x) m.threads
    ∙ ap (option_map (λ (x : Thread). cond (x.number.0 == t.0) (change x) x)) is
    ∙ ap (λ (x : Thread). Some x) (set_if (e.number.0 == t.0) (change e) e (eq-eqb e.number.0 t.0 of_t))
  where
    alike : (b : Bool) (x : Thread) → ((cond b (change x) x).number.0 == t.0) ≡ (x.number.0 == t.0)
    alike true x = ap (λ (n : ThreadNo). n.0 == t.0) (keeps x)
    alike false x = refl

pub others_left : (m : Machine) (t u : ThreadNo) → u ≢ t → thread_numbered (without_thread t m) u ≡ thread_numbered m u
others_left m t u differ =
    found_still (λ (x : Thread). not (x.number.0 == t.0)) (λ (x : Thread). x.number.0 == u.0) m.threads
    (λ x there is. ap not (not_numbered x.number.0 t.0 u.0 (numbers_differ t u differ) is))

pub thread_gone : (m : Machine) (t : ThreadNo) → thread_numbered (without_thread t m) t ≡ None
thread_gone m t = none_found (λ (x : Thread). x.number.0 == t.0) m.threads

-- ---- The running segment, and its domain.

pub other_insides : {m : Machine} {t : ThreadNo} → AreNumbered m → (p : RunningSegment m t) (s : Segment) (inside : Inside) (e : DomainId)
    → e ≢ p.segment.shared.domain → domain_at (with_running p s inside) e ≡ domain_at m e
other_insides {m = m} numbered p s inside e differ =
    other_domains m numbered p.segment.shared.domain (λ (x : DomainState). record x { inside = Some inside }) e differ

pub other_running : {m : Machine} {t : ThreadNo} (p : RunningSegment m t) (s : Segment) (inside : Inside) (u : ThreadNo) → u ≢ t
    → thread_numbered (with_running p s inside) u ≡ thread_numbered m u
other_running {m = m} {t = t} p s inside u differ =
    other_threads m t (λ (x : Thread). record x { segments = p.lower ++ s ∷ [] }) (λ x. refl) u differ
