-- What is counted of domains stays right: after a domain is admitted, a thread begins or ends, a flag is set, or a step is paid.
use Rattle.std.proofs.Common.{◌≡◌, ◌≢◌, ℕ, zero, suc, ◌+◌, ◌-◌, ◌<◌, ◌≤◌, ◌⊎◌, inl, inr, Bool, true, false, List, [], ◌∷◌, ◌++◌, length, set, filter, sum_by, get_or, Some, slice_get, refl, sym, ap, subst, ◌∙◌, arith, length-append, map, Result}
use Rattle.std.specs.Prelude.{◌==◌}
use Rattle.std.specs.List.{AllByRecursion}
use Rattle.std.proofs.lemmas.Bool.{cases_Bool, eq-eqb, ne_eqb}
use Rattle.std.proofs.lemmas.List.{length-map, length-set}
use Rattle.std.proofs.lemmas.List.Elements.{filter-append}
use Rattle.std.proofs.lemmas.List.Sums.{sum_by-append, sum_by-cons, sum_by-set}
use Rattle.std.proofs.lemmas.Option.{same_Some, slice_get_within, get_or_from_slice_get}
use Rattle.jk_model.specs.declared.identifiers.CapId.{CapId}
use Rattle.jk_model.specs.declared.identifiers.ClassId.{ClassId}
use Rattle.jk_model.specs.declared.identifiers.DomainId.{DomainId}
use Rattle.jk_model.specs.declared.identifiers.ThreadNo.{ThreadNo}
use Rattle.jk_model.specs.declared.script.Quotas.{Quotas}
use Rattle.jk_model.specs.declared.steps.Raise.{Raise}
use Rattle.jk_model_sharing.specs.CapabilityCalls.{with_created}
use Rattle.jk_model_heaps.specs.Capabilities.{CapRange}
use Rattle.jk_model_sharing.specs.Segments.{SharedSegment, SharedThread, count_started_in, live_threads, has_segments, thread_numbered, with_segments, with_stack, with_stacks}
use Rattle.list_lemmas.proofs.ItemsByPlace.{comes_from, old_or_last}
use Rattle.list_lemmas.proofs.LastItems.{each-append}
use Rattle.thread_stacks.proofs.StandsOnThreads.{stands_after}
use Rattle.thread_segments.specs.declared.domains.DomainEntry.{DomainEntry}
use Rattle.thread_segments.specs.ClassedRanges.{CreatesIn, has_room_in, used_up_in}
use Rattle.thread_segments.specs.DomainEntries.{AreCounted, spare}
use Rattle.thread_segments.specs.DomainsEnding.{outlived}
use Rattle.thread_stacks.specs.Stacks.{ThreadList}
use Rattle.thread_segments.proofs.CapsOfDomains.{one_range}
use Rattle.thread_stacks.proofs.Filtered.{one_if}

-- ---- Threads.

-- the threads were started in domains below a number
abbrev pub AreBelow : ℕ → List SharedThread → Type 0
AreBelow n threads = AllByRecursion (λ (t : SharedThread). t.domain.0 < n) threads

pub below_more : (n m : ℕ) (threads : List SharedThread) → n ≤ m → AreBelow n threads → AreBelow m threads
below_more n m [] le h = tt
below_more n m (t ∷ threads) le h = (omega (arith, h.0), below_more n m threads le h.1)

pub none_started : (n : ℕ) (d : DomainId) (threads : List SharedThread) → n ≤ d.0 → AreBelow n threads → count_started_in threads d ≡ 0
none_started n d [] le h = refl
none_started n d (t ∷ threads) le h =
    let miss : t.domain.0 == d.0 ≡ false = ne_eqb t.domain.0 d.0 (λ same. omega (arith, h.0, same)) in
    rw miss (none_started n d threads le h.1)

pub started_more : (d : DomainId) (threads : List SharedThread) (t : SharedThread)
    → count_started_in (threads ++ t ∷ []) d ≡ count_started_in threads d + one_if (t.domain.0 == d.0)
started_more d threads t =
    let of_it : SharedThread → Bool = λ x. x.domain.0 == d.0 in
    elim (cases_Bool (t.domain.0 == d.0)) [
      | inl hit ↦
          let last : length (filter of_it (t ∷ [])) ≡ 1 = rw hit refl in
          rw hit (ap length (filter-append of_it threads (t ∷ [])) ∙ length-append (filter of_it threads) (filter of_it (t ∷ [])) ∙ ap (λ n. length
          (filter of_it threads) + n) last)
      | inr miss ↦
          let last : length (filter of_it (t ∷ [])) ≡ 0 = rw miss refl in
          rw miss (ap length (filter-append of_it threads (t ∷ [])) ∙ length-append (filter of_it threads) (filter of_it (t ∷ [])) ∙ ap (λ n. length
          (filter of_it threads) + n) last)
    ]

pub started_with_stacks : (change : List SharedSegment → List SharedSegment) (d : DomainId) (threads : List SharedThread)
    → count_started_in (with_stacks change threads) d ≡ count_started_in threads d
started_with_stacks change d [] = refl
started_with_stacks change d (t ∷ threads) =
    elim (cases_Bool (t.domain.0 == d.0)) [
      | inl hit ↦ rw hit (ap suc (started_with_stacks change d threads))
      | inr miss ↦ rw miss (started_with_stacks change d threads)
    ]

pub below_with_stacks : (change : List SharedSegment → List SharedSegment) (n : ℕ) (threads : List SharedThread) → AreBelow n threads
    → AreBelow n (with_stacks change threads)
below_with_stacks change n [] h = tt
below_with_stacks change n (t ∷ threads) h = (h.0, below_with_stacks change n threads h.1)

kept_below : (n : ℕ) (x : SharedThread) (threads : List SharedThread) → x.domain.0 < n → AreBelow n (live_threads threads)
    → AreBelow n (live_threads (x ∷ threads))
kept_below n x threads low rest =
    elim (cases_Bool (has_segments x)) [
      | inl hit ↦ rw hit (low, rest)
      | inr miss ↦ rw miss rest
    ]

pub below_with_stack : (t : ThreadNo) (change : List SharedSegment → List SharedSegment) (n : ℕ) (threads : List SharedThread) → AreBelow n threads
    → AreBelow n (live_threads (with_stack t change threads))
below_with_stack t change n [] h = tt
below_with_stack t change n (e ∷ threads) h =
    let rest = below_with_stack t change n threads h.1 in
    elim (cases_Bool (e.number.0 == t.0)) [
      | inl hit ↦ rw hit (kept_below n (with_segments change e) (with_stack t change threads) h.0 rest)
      | inr miss ↦ rw miss (kept_below n e (with_stack t change threads) h.0 rest)
    ]

-- ---- Room.

pub part_le : (f : DomainEntry → ℕ) (es : List DomainEntry) (i : ℕ) (e : DomainEntry) → slice_get es i ≡ Some e → f e ≤ sum_by f es
part_le f [] i e at = absurd cc
part_le f (x ∷ es) zero e at =
    let same : f x ≡ f e = ap f (same_Some x e at) in
    omega (arith, same, sum_by-cons f x es)
part_le f (x ∷ es) (suc i) e at = omega (arith, part_le f es i e at, sum_by-cons f x es)

pub part_set : (f : DomainEntry → ℕ) (es : List DomainEntry) (i : ℕ) (e new : DomainEntry) → slice_get es i ≡ Some e
    → sum_by f (set es i new) + f e ≡ sum_by f es + f new
part_set f es i e new at =
    let low = slice_get_within es i e at in
    let here : f (get_or es i e) ≡ f e = ap f (get_or_from_slice_get es i e e at) in
    omega (arith, sum_by-set f es i new e low, here)

spare_le : (es : List DomainEntry) (i : ℕ) (e : DomainEntry) → slice_get es i ≡ Some e → spare e ≤ sum_by spare es
spare_le es i e at = part_le spare es i e at

spare_set : (es : List DomainEntry) (i : ℕ) (e new : DomainEntry) → slice_get es i ≡ Some e
    → sum_by spare (set es i new) + spare e ≡ sum_by spare es + spare new
spare_set es i e new at = part_set spare es i e new at

-- how many more threads a domain may start

pub spare_live : (e : DomainEntry) → e.live ≡ true → spare e ≡ e.quotas.threads - e.threads
spare_live e lives = rw lives refl

pub spare_few : (e : DomainEntry) → spare e ≤ e.quotas.threads
spare_few e = elim (cases_Bool e.live) [
  | inl lives ↦ let part = spare_live e lives in omega (arith, part)
  | inr ended ↦ let none : spare e ≡ 0 = rw ended refl in omega (arith, none)
]

-- one more thread has room where one more may be started
pub room_for_one : (es : List DomainEntry) (rs : List CapRange) (t : ThreadList) (i : ℕ) (e : DomainEntry) → AreCounted es rs t → slice_get es i ≡ Some e
    → e.live ≡ true → e.threads < e.quotas.threads → length t.threads < t.most
room_for_one es rs t i e h at lives few = omega (arith, h.room, spare_le es i e at, spare_live e lives, few)

pub few_started : (es : List DomainEntry) (rs : List CapRange) (t : ThreadList) (i : ℕ) (e : DomainEntry) → AreCounted es rs t → slice_get es i ≡ Some e
    → e.threads < e.quotas.threads → e.threads < 4096
few_started es rs t i e h at few = omega (arith, h.small i e at, few)

-- ---- All counts.

-- One entry is replaced, and the threads are others: what that takes to keep the counts right.
pub record Recounts (es : List DomainEntry) (t new : ThreadList) (i : ℕ) (e other : DomainEntry) : Type 0 where
  pub there : slice_get es i ≡ Some e
  pub quotas : other.quotas ≡ e.quotas
  pub within : other.threads ≤ other.quotas.threads
  pub here : other.threads ≡ count_started_in new.threads (record { 0 = i })
  pub elsewhere : (d : DomainId) → i ≢ d.0 → count_started_in new.threads d ≡ count_started_in t.threads d
  pub homes : AreBelow (length es) new.threads
  pub room : length new.threads + spare other + t.most ≤ length t.threads + spare e + new.most

pub recounted : (es : List DomainEntry) (rs : List CapRange) (t new : ThreadList) (i : ℕ) (e other : DomainEntry) → AreCounted es rs t
    → Recounts es t new i e other → AreCounted (set es i other) rs new
recounted es rs t new i e other h r = record {
  as_many = h.as_many ∙ sym same;
  owners = h.owners;
  started = λ j x at. by_place j x (stands_after es i j other x at low);
  within = λ j x at. within_at j x (stands_after es i j other x at low);
  small = λ j x at. small_at j x (stands_after es i j other x at low);
  homes = subst (λ n. AreBelow n new.threads) (sym same) r.homes;
  room = omega (arith, h.room, r.room, spare_set es i e other r.there, spare_le es i e r.there);
}
  where
    low : i < length es
    low = slice_get_within es i e r.there

    same : length (set es i other) ≡ length es
    same = length-set es i other

    by_place : (j : ℕ) (x : DomainEntry) → ((i ≡ j) × (other ≡ x)) ⊎ ((i ≢ j) × (slice_get es j ≡ Some x))
        → x.threads ≡ count_started_in new.threads (record { 0 = j })
    by_place j x (inl c) =
        ap (λ (y : DomainEntry). y.threads) (sym c.1) ∙ r.here ∙ ap (λ k. count_started_in new.threads (record { 0 = k })) c.0
    by_place j x (inr c) = h.started j x c.1 ∙ sym (r.elsewhere (record { 0 = j }) c.0)

    within_at : (j : ℕ) (x : DomainEntry) → ((i ≡ j) × (other ≡ x)) ⊎ ((i ≢ j) × (slice_get es j ≡ Some x)) → x.threads ≤ x.quotas.threads
    within_at j x (inl c) = subst (λ (y : DomainEntry). y.threads ≤ y.quotas.threads) c.1 r.within
    within_at j x (inr c) = h.within j x c.1

    small_at : (j : ℕ) (x : DomainEntry) → ((i ≡ j) × (other ≡ x)) ⊎ ((i ≢ j) × (slice_get es j ≡ Some x)) → x.quotas.threads ≤ 4096
    small_at j x (inl c) =
        subst (λ (y : DomainEntry). y.quotas.threads ≤ 4096) c.1 (subst (λ (q : Quotas). q.threads ≤ 4096) (sym r.quotas) (h.small i e r.there))
    small_at j x (inr c) = h.small j x c.1

-- A thread begins.
pub recounts_begun : (es : List DomainEntry) (rs : List CapRange) (t new : ThreadList) (i : ℕ) (e more : DomainEntry) (thread : SharedThread)
    → AreCounted es rs t → slice_get es i ≡ Some e → e.live ≡ true → e.threads < e.quotas.threads → more ≡ record e { threads = e.threads + 1 }
    → thread.domain.0 ≡ i → new.threads ≡ t.threads ++ thread ∷ [] → new.most ≡ t.most → Recounts es t new i e more
recounts_begun es rs t new i e more thread h at lives few is home threads most = record {
  there = at;
  quotas = ap (λ (x : DomainEntry). x.quotas) is;
  within = rw is (omega (arith, few));
  here =
      let hit : thread.domain.0 == i ≡ true = eq-eqb thread.domain.0 i home in
      let one : one_if (thread.domain.0 == i) ≡ 1 = rw hit refl in
      let count = ap (λ xs. count_started_in xs (record { 0 = i })) threads ∙ started_more (record { 0 = i }) t.threads thread in
      rw is (omega (arith, h.started i e at, count, one));
  elsewhere =
      λ d ne.
      let miss : thread.domain.0 == d.0 ≡ false = ne_eqb thread.domain.0 d.0 (λ same. ne (sym home ∙ same)) in
      let none : one_if (thread.domain.0 == d.0) ≡ 0 = rw miss refl in
      let count = ap (λ xs. count_started_in xs d) threads ∙ started_more d t.threads thread in
      omega (arith, count, none);
  homes =
      rw threads (each-append (λ (x : SharedThread). x.domain.0 < length es) t.threads (thread ∷ []) h.homes
      (omega (arith, home, slice_get_within es i e at), tt));
  room =
      let longer : length new.threads ≡ length t.threads + 1 = ap length threads ∙ length-append t.threads (thread ∷ []) in
      let spared : spare more ≡ e.quotas.threads - (e.threads + 1) = ap spare is ∙ rw lives refl in
      omega (arith, longer, spared, spare_live e lives, few, most);
}

-- A thread ends.
pub recounts_ended : (es : List DomainEntry) (rs : List CapRange) (t new : ThreadList) (i : ℕ) (e less : DomainEntry) → AreCounted es rs t
    → slice_get es i ≡ Some e → 0 < e.threads → less ≡ record e { threads = e.threads - 1 } → AreBelow (length es) new.threads
    → ((d : DomainId) → count_started_in new.threads d + one_if (i == d.0) ≡ count_started_in t.threads d)
    → length new.threads + 1 ≡ length t.threads → new.most + outlived e ≡ t.most → Recounts es t new i e less
recounts_ended es rs t new i e less h at some is homes counted fewer most = record {
  there = at;
  quotas = ap (λ (x : DomainEntry). x.quotas) is;
  within = let was = h.within i e at in rw is (omega (arith, was));
  here =
      let hit : i == i ≡ true = eq-eqb i i refl in
      let one : one_if (i == i) ≡ 1 = rw hit refl in
      rw is (omega (arith, h.started i e at, counted (record { 0 = i }), one));
  elsewhere =
      λ d ne.
      let miss : i == d.0 ≡ false = ne_eqb i d.0 ne in
      let none : one_if (i == d.0) ≡ 0 = rw miss refl in
      omega (arith, counted d, none);
  homes = homes;
  room = elim (cases_Bool e.live) [
    | inl lives ↦
        let spared : spare less ≡ e.quotas.threads - (e.threads - 1) = ap spare is ∙ rw lives refl in
        let stays : outlived e ≡ 0 = rw lives refl in
        omega (arith, fewer, spared, spare_live e lives, h.within i e at, some, most, stays)
    | inr ended ↦
        let spared : spare less ≡ 0 = ap spare is ∙ rw ended refl in
        let none : spare e ≡ 0 = rw ended refl in
        let goes : outlived e ≡ 1 = rw ended refl in
        omega (arith, fewer, spared, none, most, goes)
  ];
}

-- where a thread ends, one was counted
pub some_started : (es : List DomainEntry) (rs : List CapRange) (t new : ThreadList) (i : ℕ) (e : DomainEntry) → AreCounted es rs t → slice_get es i ≡ Some e
    → ((d : DomainId) → count_started_in new.threads d + one_if (i == d.0) ≡ count_started_in t.threads d) → 1 ≤ e.threads
some_started es rs t new i e h at counted =
    let hit : i == i ≡ true = eq-eqb i i refl in
    let one : one_if (i == i) ≡ 1 = rw hit refl in
    omega (arith, h.started i e at, counted (record { 0 = i }), one)

-- The entry is changed, but for its counts; the threads' flags may be.
pub recounts_same : (es : List DomainEntry) (rs : List CapRange) (t new : ThreadList) (change : List SharedSegment → List SharedSegment)
    → AreCounted es rs t → new.threads ≡ with_stacks change t.threads → new.most ≡ t.most → AreCounted es rs new
recounts_same es rs t new change h threads most = record {
  as_many = h.as_many;
  owners = h.owners;
  started = λ i e at. rw threads (h.started i e at ∙ sym (started_with_stacks change (record { 0 = i }) t.threads));
  within = h.within;
  small = h.small;
  homes = rw threads (below_with_stacks change (length es) t.threads h.homes);
  room =
      let same : length new.threads ≡ length t.threads = ap length threads ∙ length-map t.threads (with_segments change) in
      omega (arith, h.room, same, most);
}

pub recounts_paid : (es : List DomainEntry) (rs : List CapRange) (t : ThreadList) (i : ℕ) (e other : DomainEntry) → AreCounted es rs t
    → slice_get es i ≡ Some e → other.quotas ≡ e.quotas → other.threads ≡ e.threads → other.live ≡ e.live → Recounts es t t i e other
recounts_paid es rs t i e other h at quotas threads live = record {
  there = at;
  quotas = quotas;
  within = rw (quotas, threads) (h.within i e at);
  here = threads ∙ h.started i e at;
  elsewhere = λ d ne. refl;
  homes = h.homes;
  room =
      let spared : spare other ≡ spare e = rw (quotas, threads, live) refl in
      omega (arith, spared);
}

-- The domain ends, and room is left for all other threads.
pub recounts_finished : (es : List DomainEntry) (rs : List CapRange) (t new : ThreadList) (i : ℕ) (e : DomainEntry) → AreCounted es rs t
    → slice_get es i ≡ Some e → new.threads ≡ t.threads → t.most ≤ new.most + spare e
    → Recounts es t new i e (record e { live = false; names = 0 })
recounts_finished es rs t new i e h at threads most = record {
  there = at;
  quotas = refl;
  within = h.within i e at;
  here = h.started i e at ∙ ap (λ (xs : List SharedThread). count_started_in xs (record { 0 = i })) (sym threads);
  elsewhere = λ d ne. ap (λ (xs : List SharedThread). count_started_in xs d) threads;
  homes = subst (λ (xs : List SharedThread). AreBelow (length es) xs) (sym threads) h.homes;
  room =
      let long : length new.threads ≡ length t.threads = ap (λ (xs : List SharedThread). length xs) threads in
      let none : spare (record e { live = false; names = 0 }) ≡ 0 = refl in
      omega (arith, long, none, most);
}

-- A domain is admitted.
pub counts_admitted : (es : List DomainEntry) (rs : List CapRange) (t new : ThreadList) (e : DomainEntry) (r : CapRange) → AreCounted es rs t
    → r.owner.0 ≡ length es → e.threads ≡ 0 → e.quotas.threads ≤ 4096 → new.threads ≡ t.threads → new.most ≡ t.most + e.quotas.threads
    → AreCounted (es ++ e ∷ []) (rs ++ r ∷ []) new
counts_admitted es rs t new e r h owner none few threads most = record {
  as_many = omega (arith, length-append rs (r ∷ []), length-append es (e ∷ []), h.as_many);
  owners = λ i x at. owner_at i x (old_or_last rs r i x at);
  started = λ i x at. rw threads (started_at i x (old_or_last es e i x at));
  within = λ i x at. within_at i x (old_or_last es e i x at);
  small = λ i x at. small_at i x (old_or_last es e i x at);
  homes = rw threads (below_more (length es) (length (es ++ e ∷ [])) t.threads (omega (arith, length-append es (e ∷ []))) h.homes);
  room =
      let sum : sum_by spare (es ++ e ∷ []) ≡ sum_by spare es + sum_by spare (e ∷ []) = sum_by-append spare es (e ∷ []) in
      omega (arith, h.room, sum, sum_by-cons spare e [], spare_few e, most, ap length threads);
}
  where
    owner_at : (i : ℕ) (x : CapRange) → ((i < length rs) × (slice_get rs i ≡ Some x)) ⊎ ((i ≡ length rs) × (x ≡ r)) → x.owner.0 ≡ i
    owner_at i x (inl c) = h.owners i x c.1
    owner_at i x (inr c) = ap (λ (y : CapRange). y.owner.0) c.1 ∙ owner ∙ sym h.as_many ∙ sym c.0

    started_at : (i : ℕ) (x : DomainEntry) → ((i < length es) × (slice_get es i ≡ Some x)) ⊎ ((i ≡ length es) × (x ≡ e))
        → x.threads ≡ count_started_in t.threads (record { 0 = i })
    started_at i x (inl c) = h.started i x c.1
    started_at i x (inr c) =
        ap (λ (y : DomainEntry). y.threads) c.1 ∙ none
        ∙ sym (none_started (length es) (record { 0 = i }) t.threads (omega (arith, c.0)) h.homes)

    within_at : (i : ℕ) (x : DomainEntry) → ((i < length es) × (slice_get es i ≡ Some x)) ⊎ ((i ≡ length es) × (x ≡ e)) → x.threads ≤ x.quotas.threads
    within_at i x (inl c) = h.within i x c.1
    within_at i x (inr c) = let zero_of : x.threads ≡ 0 = ap (λ (y : DomainEntry). y.threads) c.1 ∙ none in omega (arith, zero_of)

    small_at : (i : ℕ) (x : DomainEntry) → ((i < length es) × (slice_get es i ≡ Some x)) ⊎ ((i ≡ length es) × (x ≡ e)) → x.quotas.threads ≤ 4096
    small_at i x (inl c) = h.small i x c.1
    small_at i x (inr c) = subst (λ (y : DomainEntry). y.quotas.threads ≤ 4096) (sym c.1) few

-- ---- Where there is nothing yet.

pub counts_none : (es : List DomainEntry) (rs : List CapRange) (t : ThreadList) → es ≡ [] → rs ≡ [] → t.threads ≡ [] → AreCounted es rs t
counts_none (e ∷ es) rs t none_es none_rs none = absurd cc
counts_none [] (r ∷ rs) t none_es none_rs none = absurd cc
counts_none [] [] t none_es none_rs none = record {
  as_many = refl;
  owners = λ i r at. cc;
  started = λ i e at. cc;
  within = λ i e at. cc;
  small = λ i e at. cc;
  homes = rw none tt;
  room = omega (arith, ap length none);
}

-- the domain in which a live thread was started is there
pub home_of : (n : ℕ) (threads : List SharedThread) (t : ThreadNo) (e : SharedThread) → AreBelow n threads → thread_numbered threads t ≡ Some e → e.domain.0 < n
home_of n [] t e h at = absurd cc
home_of n (x ∷ threads) t e h at = elim (cases_Bool (x.number.0 == t.0)) [
  | inl hit ↦
      let here : Some x ≡ Some e = rw hit at at in
      let same : x.domain.0 ≡ e.domain.0 = ap (λ (y : SharedThread). y.domain.0) (same_Some x e here) in
      omega (arith, h.0, same)
  | inr miss ↦ home_of n threads t e h.1 (rw miss at at)
]

-- ---- Ranges of capabilities.

pub counts_ranges : (g : CapRange → CapRange) → ((r : CapRange) → (g r).owner ≡ r.owner) → (es : List DomainEntry) (rs : List CapRange) (t : ThreadList)
    → AreCounted es rs t → AreCounted es (map g rs) t
counts_ranges g same es rs t h = record {
  as_many = length-map rs g ∙ h.as_many;
  owners =
      λ i r at.
      let from = comes_from g rs i r at in
      ap (λ (x : CapRange). x.owner.0) (sym from.gives) ∙ ap (λ (d : DomainId). d.0) (same from.from) ∙ h.owners i from.from from.there;
  started = h.started;
  within = h.within;
  small = h.small;
  homes = h.homes;
  room = h.room;
}

counts_caps : (es : List DomainEntry) (rs : List CapRange) (t : ThreadList) (class : ClassId) (target k : ℕ) → AreCounted es rs t
    → AreCounted es (map (one_range (with_created class target) k) rs) t
counts_caps es rs t class target k h = counts_ranges (one_range (with_created class target) k) same_owner es rs t h
  where
    same_owner : (r : CapRange) → (one_range (with_created class target) k r).owner ≡ r.owner
    same_owner r = elim (cases_Bool (r.owner.0 == k)) [ inl hit ↦ rw hit refl | inr miss ↦ rw miss refl ]

pub counts_created : (es : List DomainEntry) (rs : List CapRange) (t : ThreadList) (class : ClassId) (target : ℕ) (r : CapRange)
    (answer : Result CapId Raise) (new : List CapRange) → AreCounted es rs t → CreatesIn rs class target r answer new → AreCounted es new t
counts_created es rs t class target r answer new h (used_up_in full) = h
counts_created es rs t class target r answer new h (has_room_in room) = counts_caps es rs t class target r.owner.0 h
