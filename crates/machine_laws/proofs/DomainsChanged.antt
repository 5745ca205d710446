-- Domains of a sealed machine keep what they were opened with, and lose what they have inside or keep it; of their capabilities as many stay given
-- out as were. So domains, pools and capabilities are sealed, whatever names and threads there are.
use Rattle.std.proofs.Common.{◌≡◌, ℕ, ◌+◌, ◌≤◌, ◌⊎◌, inl, inr, Bool, true, false, cond, not, List, [], ◌∷◌, length, map, filter, Contains, Option, Some, None, slice_get, refl, sym, ap, subst, ◌∙◌, arith}
use Rattle.std.specs.Option.{option_and_then}
use Rattle.jk_model.specs.Capabilities.{last_number}
use Rattle.jk_model.specs.declared.identifiers.CapId.{CapId}
use Rattle.jk_model.specs.declared.identifiers.DomainId.{DomainId}
use Rattle.jk_model.specs.declared.script.Quotas.{Quotas}
use Rattle.jk_model.specs.declared.values.Value.{Value}
use Rattle.jk_model.specs.declared.values.Value.TheVariants as Held
use Rattle.jk_model_classes.specs.Stubs.{ImplementsRemote}
use Rattle.jk_model_classes.specs.declared.records.ClassRecord.{ClassRecord}
use Rattle.jk_model_classes.specs.Worlds.{NamedClass}
use Rattle.jk_model_domains.specs.Objects.{NamedObject, Object, Array, Plain, Task, Text}
use Rattle.jk_model_frames.specs.Frames.{FrameState}
use Rattle.jk_model_frames.specs.Pools.{IsPlaced, Pool}
use Rattle.jk_model_heaps.specs.Capabilities.{CapRange, Capability, IsGivenOut}
use Rattle.jk_model_heaps.specs.Workings.{Inside}
use Rattle.jk_model_sealing.specs.SealedInsides.{IsKnownValue, IsOfClass, IsSealedInside, IsSealedObject, Surroundings}
use Rattle.jk_model_sealing.specs.SealedRuns.{AreSealedFrames, NamesKnown}
use Rattle.jk_model_sharing.specs.BoundNames.{BoundName}
use Rattle.jk_model_machine_state.specs.Machines.{DomainState, IsLiveDomain, Machine, Thread, caps_of, chunks_used, started_in}
use Rattle.jk_model_openings.specs.PoolsOfMachines.{heap_pages_of, heap_pool, of_live, stack_pages_of, stack_pool}
use Rattle.jk_model_runs.specs.Sealed.{AreSealedCapabilities, AreSealedDomains, IsSealed, IsSealedPool, is_stand_in, numbers_before, surroundings}
use Rattle.list_lemmas.proofs.ItemsByPlace.{comes_from, mapped_at}
use Rattle.list_lemmas.proofs.ItemsOfLists.{Contains-at, Contains-here, Contains-there, each-weaker, place_of}
use Rattle.machine_laws.proofs.ChangedItems.{as_many, front_sums_stay}

-- ---- In surroundings in which more capabilities were given out.

module _ (classes : List ClassRecord) (table : List NamedClass) (old new : List CapRange) (more : (k : CapId) → IsGivenOut old k → IsGivenOut new k) where
  abbrev around : List CapRange → Surroundings
  around caps = record { classes = classes; table = table; caps = caps }

  pub known_more : (heap : List NamedObject) (v : Value) → IsKnownValue old heap v → IsKnownValue new heap v
  known_more heap (Held.Obj a) h = h
  known_more heap (Held.Cap k) h = more k h
  known_more heap (Held.Int n) h = tt
  known_more heap (Held.Long n) h = tt
  known_more heap Held.Null h = tt
  known_more heap Held.Unset h = tt

  object_more : (heap : List NamedObject) (o : Object) → IsSealedObject (around old) heap o → IsSealedObject (around new) heap o
  object_more heap (Plain c values) (named, a, b, d, e, has) = (
    named,
    a,
    b,
    d,
    e,
    record {
      as_many = has.as_many;
      each = λ i v field at is. let h = has.each i v field at is in (h.0, known_more heap v h.1);
    },
  )
  object_more heap (Array element items) (base, dims, all) =
      (base, dims, each-weaker _ _ (λ v h. (h.0, known_more heap v h.1)) items all)
  object_more heap (Text units) h = h
  object_more heap (Task n) h = h

  pub inside_more : (quota : ℕ) (inside : Inside) → IsSealedInside (around old) quota inside → IsSealedInside (around new) quota inside
  inside_more quota inside h = record {
    names_differ = h.names_differ;
    own = h.own;
    objects = λ e on. object_more inside.heap e.object (h.objects e on);
    out = h.out;
    standing = h.standing;
    literals = h.literals;
    statics = λ m v field is of. let s = h.statics m v field is of in (s.0, known_more inside.heap v s.1);
    words = h.words;
  }

  names_more : (heap : List NamedObject) (f : FrameState) → NamesKnown old heap f → NamesKnown new heap f
  names_more heap f h = (
    each-weaker (IsKnownValue old heap) (IsKnownValue new heap) (known_more heap) f.locals h.0,
    each-weaker (IsKnownValue old heap) (IsKnownValue new heap) (known_more heap) f.stack h.1,
  )

  pub frames_more : (Top : FrameState → Type 0) (heap : List NamedObject) (frames : List FrameState) → AreSealedFrames (around old) Top heap frames
      → AreSealedFrames (around new) Top heap frames
  frames_more Top heap frames h = record {
    fit = h.fit;
    initialise = h.initialise;
    at_home = h.at_home;
    known = each-weaker (NamesKnown old heap) (NamesKnown new heap) (names_more heap) frames h.known;
  }

-- ---- What becomes of domains.

pub record ChangesDomains (m : Machine) (g : DomainState → DomainState) : Type 0 where
  pub number : (e : DomainState) → (g e).number ≡ e.number
  pub name : (e : DomainState) → (g e).name ≡ e.name
  pub quotas : (e : DomainState) → (g e).quotas ≡ e.quotas
  pub steps_left : (e : DomainState) → (g e).steps_left ≡ e.steps_left
  pub table : (e : DomainState) → (g e).table ≡ e.table
  -- what it has inside it had
  pub inside : (e : DomainState) (x : Inside) → (g e).inside ≡ Some x → e.inside ≡ Some x
  pub owner : (e : DomainState) → (g e).caps.owner ≡ e.caps.owner
  pub first : (e : DomainState) → (g e).caps.first ≡ e.caps.first
  pub count : (e : DomainState) → (g e).caps.count ≡ e.caps.count
  pub within : (e : DomainState) → Contains m.domains e → length (g e).caps.made ≤ e.caps.count
  pub given_out : (k : CapId) → IsGivenOut (caps_of m) k → IsGivenOut (map (λ (e : DomainState). e.caps) (map g m.domains)) k
  pub stand_ins : (e : DomainState) → Contains m.domains e → is_stand_in m.classes (g e) ≡ false → is_stand_in m.classes e ≡ false
  pub remote : (e : DomainState) (c : Capability) → Contains m.domains e → is_stand_in m.classes (g e) ≡ false → Contains (g e).caps.made c
      → ImplementsRemote m.classes c.class
  pub targets : (e : DomainState) (c : Capability) → Contains m.domains e → Contains (g e).caps.made c → c.revoked ≡ false
      → (x : Inside) × ((g e).inside ≡ Some x) × IsOfClass x.heap c.target c.class

-- fewer pass where what passes passed before
fewer_by : {X : Type 0} (test : X → Bool) (x y : X) (xs ys : List X) (a b : Bool) → (a ≡ true → b ≡ true) → length xs ≤ length ys
    → length (cond a (x ∷ xs) xs) ≤ length (cond b (y ∷ ys) ys)
fewer_by test x y xs ys true true h less = omega (arith, less)
fewer_by test x y xs ys true false h less = let both : false ≡ true = h refl in absurd cc
fewer_by test x y xs ys false true h less = omega (arith, less)
fewer_by test x y xs ys false false h less = less

fewer : {X : Type 0} (g : X → X) (test : X → Bool) (xs : List X) → ((x : X) → Contains xs x → test (g x) ≡ true → test x ≡ true)
    → length (filter test (map g xs)) ≤ length (filter test xs)
fewer g test [] h = omega arith
fewer g test (x ∷ xs) h =
    fewer_by test (g x) x (filter test (map g xs)) (filter test xs) (test (g x)) (test x) (h x (Contains-here x xs))
    (fewer g test xs (λ y on. h y (Contains-there y x xs on)))

and_then_some : {X Y : Type 0} (f : X → Option Y) (o : Option X) (y : Y) → option_and_then f o ≡ Some y → (x : X) × (o ≡ Some x) × (f x ≡ Some y)
and_then_some f None y e = absurd cc
and_then_some f (Some x) y e = (x, refl, e)

module _ (m : Machine) (sealed : IsSealed m) (g : DomainState → DomainState) (h : ChangesDomains m g) (names : List BoundName) (threads : List Thread) where
  abbrev pub new : Machine
  new = record m { domains = map g m.domains; names = names; threads = threads }

  pub each : (P : DomainState → Type 0) → ((e : DomainState) → Contains m.domains e → P (g e)) → (e : DomainState) → Contains new.domains e → P e
  each P holds e on =
      let at = place_of new.domains e on in
      let from = comes_from g m.domains at.0 e at.1 in
      subst P from.gives (holds from.from (Contains-at m.domains at.0 from.from from.there))

  pub around_stays : (e : DomainState) → surroundings new (g e) ≡ record { classes = m.classes; table = e.table; caps = caps_of new }
  around_stays e = λ i. record { classes = m.classes; table = h.table e i; caps = caps_of new }

  pub inside_sealed : (e : DomainState) (x : Inside) → Contains m.domains e → e.inside ≡ Some x
      → IsSealedInside (surroundings new (g e)) (g e).quotas.heap x
  inside_sealed e x on is =
      subst (λ (a : Surroundings). IsSealedInside a (g e).quotas.heap x) (sym (around_stays e))
      (subst (λ (q : Quotas). IsSealedInside (record { classes = m.classes; table = e.table; caps = caps_of new }) q.heap x) (sym (h.quotas e))
      (inside_more m.classes e.table (caps_of m) (caps_of new) h.given_out e.quotas.heap x (sealed.domains.insides e x on is)))

  live_before : (e : DomainState) → IsLiveDomain (g e) → IsLiveDomain e
  live_before e live = by (g e).inside refl
    where
      dead : (o : Option Inside) → o ≡ None → elim o as (λ _. Bool) [ Some i ↦ true | None ↦ false ] ≡ true → ⊥
      dead None e h = cc
      dead (Some i) e h = cc

      by : (o : Option Inside) → (g e).inside ≡ o → IsLiveDomain e
      by None is = absurd (dead (g e).inside is live)
      by (Some x) is = ap (λ (o : Option Inside). elim o as (λ _. Bool) [ Some i ↦ true | None ↦ false ]) (h.inside e x is)

  Budget : DomainState → Type 0
  Budget e =
      ((e.quotas.steps ≡ None) × (e.steps_left ≡ None))
      ⊎ ((most : ℕ) × (left : ℕ) × (e.quotas.steps ≡ Some most) × (e.steps_left ≡ Some left) × (left ≤ most))

  budget : (e : DomainState) → Budget e → Budget (g e)
  unfolding Budget
  budget e (inl none) = inl (ap (λ (q : Quotas). q.steps) (h.quotas e) ∙ none.0, h.steps_left e ∙ none.1)
  budget e (inr (most, left, is, has, few)) = inr (most, left, ap (λ (q : Quotas). q.steps) (h.quotas e) ∙ is, h.steps_left e ∙ has, few)

  not_false : (b : Bool) → not b ≡ true → b ≡ false
  not_false true e = absurd cc
  not_false false e = refl

  at_most : (a b c : ℕ) → a ≤ b → b ≤ c → a ≤ c
  at_most a b c less more = omega arith

  pub domains_changed : ((d : DomainId) → chunks_used new d ≤ chunks_used m d) → ((d : DomainId) → started_in new d ≤ started_in m d)
      → AreSealedDomains new
  unfolding Budget
  domains_changed chunks started = record {
    numbered = λ i e at.
        let from = comes_from g m.domains i e at in
        ap (λ (x : DomainState). x.number.0) (sym from.gives) ∙ ap (λ (n : DomainId). n.0) (h.number from.from)
        ∙ sealed.domains.numbered i from.from from.there;
    few = at_most _ _ 65535
        (fewer g (λ (e : DomainState). not (is_stand_in m.classes e)) m.domains
        (λ e on passes. ap not (h.stand_ins e on (not_false (is_stand_in m.classes (g e)) passes)))) sealed.domains.few;
    names_differ = λ i j a b at bt live alive same.
        let x = comes_from g m.domains i a at in
        let y = comes_from g m.domains j b bt in
        sealed.domains.names_differ i j x.from y.from x.there y.there (live_before x.from (subst IsLiveDomain (sym x.gives) live))
        (live_before y.from (subst IsLiveDomain (sym y.gives) alive))
        (sym (h.name x.from) ∙ ap (λ (e : DomainState). e.name) x.gives ∙ same ∙ ap (λ (e : DomainState). e.name) (sym y.gives) ∙ h.name y.from);
    insides = λ e x.
        each (λ e. e.inside ≡ Some x → IsSealedInside (surroundings new e) e.quotas.heap x)
        (λ e on is. inside_sealed e x on (h.inside e x is)) e;
    chunks = each (λ e. chunks_used new e.number ≤ e.quotas.chunks)
        (λ e on.
        subst (λ (n : DomainId). chunks_used new n ≤ (g e).quotas.chunks) (sym (h.number e))
        (subst (λ (q : Quotas). chunks_used new e.number ≤ q.chunks) (sym (h.quotas e))
        (at_most _ _ _ (chunks e.number) (sealed.domains.chunks e on))));
    budgets = each Budget (λ e on. budget e (sealed.domains.budgets e on));
    started = each (λ e. started_in new e.number ≤ e.quotas.threads)
        (λ e on.
        subst (λ (n : DomainId). started_in new n ≤ (g e).quotas.threads) (sym (h.number e))
        (subst (λ (q : Quotas). started_in new e.number ≤ q.threads) (sym (h.quotas e))
        (at_most _ _ _ (started e.number) (sealed.domains.started e on))));
  }

  -- ---- Pools.

  record LiveAt (k : DomainId) : Type 0 where
    domain : DomainState
    at : slice_get m.domains k.0 ≡ Some domain
    inside : Inside
    is : (g domain).inside ≡ Some inside

  live_at : {X : Type 0} (part : DomainState → Inside → Option X) (k : DomainId) (x : X) → of_live part new k ≡ Some x → LiveAt k
  live_at part k x e =
      let domain = and_then_some (λ (d : DomainState). option_and_then (part d) d.inside) (slice_get (map g m.domains) k.0) x e in
      let inside = and_then_some (part domain.0) domain.0.inside x domain.2 in
      let from = comes_from g m.domains k.0 domain.0 domain.1 in
      record {
        domain = from.from;
        at = from.there;
        inside = inside.0;
        is = ap (λ (d : DomainState). d.inside) from.gives ∙ inside.1;
      }

  -- what a part is of a live domain it was
  stays_at : {X : Type 0} (part : DomainState → Inside → Option X) → ((e : DomainState) (x : Inside) → part (g e) x ≡ part e x) → (k : DomainId)
      → LiveAt k → of_live part new k ≡ of_live part m k
  stays_at part same k l =
      ap (option_and_then (λ (d : DomainState). option_and_then (part d) d.inside)) (mapped_at g m.domains k.0 l.domain l.at)
      ∙ ap (option_and_then (part (g l.domain))) l.is ∙ same l.domain l.inside
      ∙ sym (ap (option_and_then (part l.domain)) (h.inside l.domain l.inside l.is))
      ∙ sym (ap (option_and_then (λ (d : DomainState). option_and_then (part d) d.inside)) l.at)

  module _ (pages : Option ℕ) (quota first : DomainState → Inside → Option ℕ) (quota_stays : (e : DomainState) (x : Inside) → quota (g e) x ≡ quota e x)
      (first_stays : (e : DomainState) (x : Inside) → first (g e) x ≡ first e x) where
    abbrev pool : Machine → Pool
    pool m = record { pages = pages; quota = of_live quota m; first_page = of_live first m }

    placed_still : (k : DomainId) (n : ℕ) → of_live first new k ≡ of_live first m k → IsPlaced (pool m) k n → IsPlaced (pool new) k n
    placed_still k n same (inl (none, at)) = inl (none, same ∙ at)
    placed_still k n same (inr (limit, page, is, at, within)) = inr (limit, page, is, same ∙ at, within)

    quota_was : (k : DomainId) (n : ℕ) → of_live quota new k ≡ Some n → of_live quota m k ≡ Some n
    quota_was k n is = sym (stays_at quota quota_stays k (live_at quota k n is)) ∙ is

    first_was : (k : DomainId) (n : ℕ) → of_live first new k ≡ Some n → of_live first m k ≡ Some n
    first_was k n is = sym (stays_at first first_stays k (live_at first k n is)) ∙ is

    pub pool_changed : IsSealedPool (pool m) m → IsSealedPool (pool new) new
    pool_changed s = record {
      placed = λ e n.
          each (λ e. of_live quota new e.number ≡ Some n → IsPlaced (pool new) e.number n)
          (λ e on is.
          let here : of_live quota new e.number ≡ Some n = subst (λ (k : DomainId). of_live quota new k ≡ Some n) (h.number e) is in
          subst (λ (k : DomainId). IsPlaced (pool new) k n) (sym (h.number e))
          (placed_still e.number n (stays_at first first_stays e.number (live_at quota e.number n here))
          (s.placed e n on (quota_was e.number n here)))) e;
      apart = λ a b p q page other differ qa qb fa fb.
          s.apart a b p q page other differ (quota_was a p qa) (quota_was b q qb) (first_was a page fa) (first_was b other fb);
    }

  pub heap_places_changed : IsSealedPool (heap_pool new) new
  heap_places_changed =
      pool_changed m.heap_pages (λ e inside. Some (heap_pages_of e.quotas)) (λ e inside. inside.heap_at)
      (λ e x. ap (λ (q : Quotas). Some (heap_pages_of q)) (h.quotas e)) (λ e x. refl) sealed.heap_places

  pub stack_places_changed : IsSealedPool (stack_pool new) new
  stack_places_changed =
      pool_changed m.stack_pages (λ e inside. Some (stack_pages_of e.quotas)) (λ e inside. inside.stack_at)
      (λ e x. ap (λ (q : Quotas). Some (stack_pages_of q)) (h.quotas e)) (λ e x. refl) sealed.stack_places

  -- ---- Capabilities.

  counts_stay : (i : ℕ) → numbers_before new i ≡ numbers_before m i
  counts_stay i = front_sums_stay g (λ (e : DomainState). e.caps.count) h.count i m.domains

  pub capabilities_changed : AreSealedCapabilities new
  capabilities_changed = record {
    owner = each (λ e. e.caps.owner ≡ e.number) (λ e on. h.owner e ∙ sealed.capabilities.owner e on ∙ sym (h.number e));
    count = each (λ e. e.caps.count ≡ e.quotas.caps)
        (λ e on. h.count e ∙ sealed.capabilities.count e on ∙ ap (λ (q : Quotas). q.caps) (sym (h.quotas e)));
    chained = λ i e at.
        let from = comes_from g m.domains i e at in
        ap (λ (x : DomainState). x.caps.first) (sym from.gives) ∙ h.first from.from ∙ sealed.capabilities.chained i from.from from.there
        ∙ ap (λ (n : ℕ). 1 + n) (sym (counts_stay i));
    within = each (λ e. length e.caps.made ≤ e.caps.count)
        (λ e on. subst (λ (n : ℕ). length (g e).caps.made ≤ n) (sym (h.count e)) (h.within e on));
    few = subst (λ (n : ℕ). n ≤ last_number) (sym (counts_stay (length new.domains) ∙ ap (numbers_before m) (as_many g m.domains)))
        sealed.capabilities.few;
    remote = λ e c.
        each (λ e. is_stand_in m.classes e ≡ false → Contains e.caps.made c → ImplementsRemote m.classes c.class) (λ e on. h.remote e c on) e;
    targets = λ e c.
        each (λ e. Contains e.caps.made c → c.revoked ≡ false → (x : Inside) × (e.inside ≡ Some x) × IsOfClass x.heap c.target c.class)
        (λ e on. h.targets e c on) e;
  }
