-- What a change of a machine leaves so that another domain may be opened after it as before: domains keep their quotas and their places in the pools,
-- capabilities are of classes that are there, and threads were started in domains that were added.
use Rattle.std.proofs.Common.{inl, inr, ◌≡◌, ℕ, ◌==◌, ◌<◌, ◌⊎◌, Bool, true, false, cond, List, [], ◌∷◌, ◌++◌, length, map, Contains, Option, Some, None, slice_get, refl, sym, ap, subst, ◌∙◌}
use Rattle.std.specs.Option.{option_and_then}
use Rattle.std.proofs.lemmas.Bool.{eqb-true}
use Rattle.std.proofs.lemmas.Option.{same_Some}
use Rattle.jk_model.specs.declared.identifiers.ClassId.{ClassId}
use Rattle.jk_model.specs.declared.identifiers.DomainId.{DomainId}
use Rattle.jk_model.specs.declared.identifiers.ThreadNo.{ThreadNo}
use Rattle.jk_model.specs.declared.script.Quotas.{Quotas}
use Rattle.jk_model_classes.specs.declared.records.ClassRecord.{ClassRecord}
use Rattle.jk_model_classes.specs.Classes.{HasClass}
use Rattle.jk_model_heaps.specs.Capabilities.{Capability}
use Rattle.jk_model_heaps.specs.Workings.{Inside}
use Rattle.jk_model_machine_state.specs.Machines.{DomainState, Machine, Segment, Thread, with_domain, with_inside}
use Rattle.jk_model_machine_state.specs.Places.{LiveDomain, RunningSegment, with_running}
use Rattle.jk_model_openings.specs.PoolsOfMachines.{heap_pages_of, of_live, stack_pages_of}
use Rattle.list_lemmas.proofs.ItemsByPlace.{comes_from}
use Rattle.list_lemmas.proofs.ItemsOfLists.{Contains-at, place_of}
use Rattle.machine_laws.specs.OpenedMachines.{MayGrow}
use Rattle.machine_laws.proofs.ChangedItems.{as_many}

-- the heap and the stacks stand where they stood
abbrev pub StaysPlaced : Inside → Inside → Type 0
StaysPlaced old new = (new.heap_at ≡ old.heap_at) × (new.stack_at ≡ old.stack_at)

abbrev pub IsClassOfMade : List Capability → ClassId → Type 0
IsClassOfMade made class = (c : Capability) × Contains made c × (class ≡ c.class)

-- what stood at the place before
pub record WasDomain (m : Machine) (i : ℕ) (e : DomainState) : Type 0 where
  pub before : DomainState
  pub at : slice_get m.domains i ≡ Some before
  pub number : e.number ≡ before.number
  pub quotas : e.quotas ≡ before.quotas
  pub placed : (x : Inside) → e.inside ≡ Some x → (y : Inside) × (before.inside ≡ Some y) × StaysPlaced y x
  pub made : (c : Capability) → Contains e.caps.made c → IsClassOfMade before.caps.made c.class ⊎ HasClass m.classes c.class

abbrev pub WasStarted : Machine → Thread → Type 0
WasStarted m thread = ((old : Thread) × Contains m.threads old × (thread.domain ≡ old.domain)) ⊎ (thread.domain.0 < length m.domains)

pub record GrowsOn (m new : Machine) : Type 0 where
  pub classes : new.classes ≡ m.classes
  pub as_many : length new.domains ≡ length m.domains
  pub domains : (i : ℕ) (e : DomainState) → slice_get new.domains i ≡ Some e → WasDomain m i e
  pub threads : (thread : Thread) → Contains new.threads thread → WasStarted m thread

abbrev pub AreNumbered : Machine → Type 0
AreNumbered m = (i : ℕ) (e : DomainState) → slice_get m.domains i ≡ Some e → e.number.0 ≡ i

pub still_numbered : (m new : Machine) → GrowsOn m new → AreNumbered m → AreNumbered new
still_numbered m new g numbered i e at =
    let was = g.domains i e at in ap (λ (n : DomainId). n.0) was.number ∙ numbered i was.before was.at

-- ---- Another domain may be opened.

module _ (m new : Machine) (g : GrowsOn m new) where
  module _ (need : Quotas → ℕ) (place : Inside → Option ℕ) (stays : (x y : Inside) → StaysPlaced y x → place x ≡ place y)
      (old : (d : DomainId) (first : ℕ) → of_live (λ e i. Some (need e.quotas)) m d ≡ Some 0 → of_live (λ e i. place i) m d ≡ Some first
      → first ≡ 0) (d : DomainId) (first : ℕ) where
    abbrev has : (DomainState → Inside → Option ℕ) → Option DomainState → Option ℕ
    has part o = option_and_then (λ (e : DomainState). option_and_then (part e) e.inside) o

    of_inside : (e : DomainState) → slice_get new.domains d.0 ≡ Some e → (o : Option Inside) → e.inside ≡ o
        → option_and_then (λ (i : Inside). Some (need e.quotas)) o ≡ Some 0 → option_and_then place o ≡ Some first → first ≡ 0
    of_inside e at None is quota from = absurd cc
    of_inside e at (Some x) is quota from =
        let was = g.domains d.0 e at in
        let y = was.placed x is in
        old d first
        (ap (has (λ e i. Some (need e.quotas))) was.at ∙ ap (option_and_then (λ (i : Inside). Some (need was.before.quotas))) y.1
        ∙ ap (λ (q : Quotas). Some (need q)) (sym was.quotas) ∙ quota)
        (ap (has (λ e i. place i)) was.at ∙ ap (option_and_then place) y.1 ∙ sym (stays x y.0 y.2) ∙ from)

    of_domain : (o : Option DomainState) → slice_get new.domains d.0 ≡ o → has (λ e i. Some (need e.quotas)) o ≡ Some 0
        → has (λ e i. place i) o ≡ Some first → first ≡ 0
    of_domain None is quota from = absurd cc
    of_domain (Some e) is quota from = of_inside e is e.inside refl quota from

    empty_first : of_live (λ e i. Some (need e.quotas)) new d ≡ Some 0 → of_live (λ e i. place i) new d ≡ Some first → first ≡ 0
    empty_first quota from = of_domain (slice_get new.domains d.0) refl quota from

  still_started : (thread : Thread) → ((t : Thread) → Contains m.threads t → t.domain.0 < length m.domains) → WasStarted m thread
      → thread.domain.0 < length new.domains
  still_started thread before (inl (old, on, same)) =
      subst (λ (n : ℕ). thread.domain.0 < n) (sym g.as_many) (subst (λ (d : DomainId). d.0 < length m.domains) (sym same) (before old on))
  still_started thread before (inr low) = subst (λ (n : ℕ). thread.domain.0 < n) (sym g.as_many) low

  still_made : (c : Capability) (made : List Capability) → ((b : Capability) → Contains made b → HasClass m.classes b.class)
      → IsClassOfMade made c.class ⊎ HasClass m.classes c.class → HasClass new.classes c.class
  still_made c made before (inl (b, on, same)) =
      subst (λ (classes : List ClassRecord). HasClass classes c.class) (sym g.classes) (subst (HasClass m.classes) (sym same) (before b on))
  still_made c made before (inr there) = subst (λ (classes : List ClassRecord). HasClass classes c.class) (sym g.classes) there

  pub still_grows : MayGrow m → MayGrow new
  still_grows may = record {
    made_there = λ e c on made.
        let at = place_of new.domains e on in
        let was = g.domains at.0 e at.1 in
        still_made c was.before.caps.made (λ b has. may.made_there was.before b (Contains-at m.domains at.0 was.before was.at) has) (was.made c made);
    started_there = λ thread on. still_started thread may.started_there (g.threads thread on);
    heaps = empty_first heap_pages_of (λ i. i.heap_at) (λ x y same. same.0) may.heaps;
    stacks = empty_first stack_pages_of (λ i. i.stack_at) (λ x y same. same.1) may.stacks;
  }

-- ---- One change after another.

pub was_itself : (m : Machine) (i : ℕ) (e : DomainState) → slice_get m.domains i ≡ Some e → WasDomain m i e
was_itself m i e at = record {
  before = e;
  at = at;
  number = refl;
  quotas = refl;
  placed = λ x is. (x, is, (refl, refl));
  made = λ c on. inl (c, on, refl);
}

pub grows_self : (m : Machine) → GrowsOn m m
grows_self m = record { classes = refl; as_many = refl; domains = was_itself m; threads = λ thread on. inl (thread, on, refl) }

module _ (a b c : Machine) (g : GrowsOn a b) (h : GrowsOn b c) where
  both_made : (k : Capability) (mid : List Capability) (old : List Capability)
      → ((l : Capability) → Contains mid l → IsClassOfMade old l.class ⊎ HasClass a.classes l.class)
      → IsClassOfMade mid k.class ⊎ HasClass b.classes k.class → IsClassOfMade old k.class ⊎ HasClass a.classes k.class
  both_made k mid old first (inl (l, on, same)) = elim (first l on) [
    | inl (j, there, alike) ↦ inl (j, there, same ∙ alike)
    | inr has ↦ inr (subst (HasClass a.classes) (sym same) has)
  ]
  both_made k mid old first (inr has) = inr (subst (λ (classes : List ClassRecord). HasClass classes k.class) g.classes has)

  both_domains : (i : ℕ) (e : DomainState) → slice_get c.domains i ≡ Some e → WasDomain a i e
  both_domains i e at =
      let mid = h.domains i e at in
      let old = g.domains i mid.before mid.at in
      record {
        before = old.before;
        at = old.at;
        number = mid.number ∙ old.number;
        quotas = mid.quotas ∙ old.quotas;
        placed = λ x is.
            let y = mid.placed x is in
            let z = old.placed y.0 y.1 in
            (z.0, z.1, (y.2.0 ∙ z.2.0, y.2.1 ∙ z.2.1));
        made = λ k on. both_made k mid.before.caps.made old.before.caps.made old.made (mid.made k on);
      }

  both_threads : (thread : Thread) → WasStarted b thread → WasStarted a thread
  both_threads thread (inl (mid, on, same)) = elim (g.threads mid on) [
    | inl (old, there, alike) ↦ inl (old, there, same ∙ alike)
    | inr low ↦ inr (subst (λ (d : DomainId). d.0 < length a.domains) (sym same) low)
  ]
  both_threads thread (inr low) = inr (subst (λ (n : ℕ). thread.domain.0 < n) g.as_many low)

  pub grows_after : GrowsOn a c
  grows_after = record {
    classes = h.classes ∙ g.classes;
    as_many = h.as_many ∙ g.as_many;
    domains = both_domains;
    threads = λ thread on. both_threads thread (h.threads thread on);
  }

-- ---- Domains are changed.

module _ (m : Machine) (d : DomainId) (change : DomainState → DomainState)
    (each : (i : ℕ) (e : DomainState) → slice_get m.domains i ≡ Some e → e.number.0 ≡ d.0 → WasDomain m i (change e)) where
  abbrev by_number : DomainState → DomainState
  by_number e = cond (e.number.0 == d.0) (change e) e

  was_by : (i : ℕ) (e : DomainState) → slice_get m.domains i ≡ Some e → (b : Bool) → (e.number.0 == d.0) ≡ b → WasDomain m i (cond b (change e) e)
  was_by i e at true is = each i e at (eqb-true e.number.0 d.0 is)
  was_by i e at false is = was_itself m i e at

  pub changed_grows : GrowsOn m (with_domain d change m)
  changed_grows = record {
    classes = refl;
    as_many = as_many by_number m.domains;
    domains = λ i e at.
        let from = comes_from by_number m.domains i e at in
        subst (WasDomain m i) from.gives (was_by i from.from from.there (from.from.number.0 == d.0) refl);
    threads = λ thread on. inl (thread, on, refl);
  }

-- ---- Threads are changed, and names, and numbers are drawn.

pub domains_stay : (m new : Machine) → new.classes ≡ m.classes → new.domains ≡ m.domains
    → ((thread : Thread) → Contains new.threads thread → WasStarted m thread) → GrowsOn m new
domains_stay m new classes same threads = record {
  classes = classes;
  as_many = ap (λ (es : List DomainState). length es) same;
  domains = λ i e at. was_itself m i e (sym (ap (λ (es : List DomainState). slice_get es i) same) ∙ at);
  threads = threads;
}

pub mapped_started : (m : Machine) (g : Thread → Thread) → ((e : Thread) → (g e).domain ≡ e.domain) → (thread : Thread)
    → Contains (map g m.threads) thread → WasStarted m thread
mapped_started m g stays thread on =
    let at = place_of (map g m.threads) thread on in
    let from = comes_from g m.threads at.0 thread at.1 in
    inl (from.from, Contains-at m.threads at.0 from.from from.there, sym (ap (λ (e : Thread). e.domain) from.gives) ∙ stays from.from)

segments_by : (b : Bool) (segments : List Segment) (e : Thread) → (cond b (record e { segments = segments }) e).domain ≡ e.domain
segments_by true segments e = refl
segments_by false segments e = refl

-- a thread has other segments
pub segments_grow : (m : Machine) (t : ThreadNo) (segments : List Segment) (new : Machine) → new.classes ≡ m.classes → new.domains ≡ m.domains
    → new.threads ≡ map (λ (e : Thread). cond (e.number.0 == t.0) (record e { segments = segments }) e) m.threads → GrowsOn m new
segments_grow m t segments new classes domains threads =
    domains_stay m new classes domains
    (λ thread on.
    mapped_started m (λ (e : Thread). cond (e.number.0 == t.0) (record e { segments = segments }) e) (λ e. segments_by (e.number.0 == t.0) segments e)
    thread (subst (λ (ts : List Thread). Contains ts thread) threads on))

-- ---- The inside of a live domain is another one, at the same places.

module _ (m : Machine) (numbered : AreNumbered m) (d : DomainId) (home : LiveDomain m d) where
  pub is_home : (i : ℕ) (e : DomainState) → slice_get m.domains i ≡ Some e → e.number.0 ≡ d.0 → home.domain ≡ e
  is_home i e at same =
      let place : d.0 ≡ i = sym same ∙ numbered i e at in
      same_Some home.domain e (sym home.is_domain ∙ ap (slice_get m.domains) place ∙ at)

  pub inside_grows : (inside : Inside) → StaysPlaced home.inside inside → GrowsOn m (with_inside d inside m)
  inside_grows inside placed =
      changed_grows m d (λ (e : DomainState). record e { inside = Some inside })
      (λ i e at same. record {
        before = e;
        at = at;
        number = refl;
        quotas = refl;
        placed = λ x is. (
          home.inside,
          ap (λ (y : DomainState). y.inside) (sym (is_home i e at same)) ∙ home.is_inside,
          subst (StaysPlaced home.inside) (same_Some inside x is) placed,
        );
        made = λ c on. inl (c, on, refl);
      })

pub running_grows : {m : Machine} {t : ThreadNo} → AreNumbered m → (p : RunningSegment m t) (s : Segment) (inside : Inside)
    → StaysPlaced p.home.inside inside → GrowsOn m (with_running p s inside)
running_grows {m = m} {t = t} numbered p s inside placed =
    let mid : Machine = with_inside p.segment.shared.domain inside m in
    grows_after m mid (with_running p s inside) (inside_grows m numbered p.segment.shared.domain p.home inside placed)
    (segments_grow mid t (p.lower ++ s ∷ []) (with_running p s inside) refl refl refl)
