-- What is counted of domains' names stays right: after a domain is admitted, a name is bound or removed, and an entry is changed in other parts.
use Rattle.std.proofs.Common.{◌≡◌, ◌≢◌, ℕ, ◌+◌, ◌-◌, ◌<◌, ◌≤◌, ◌⊎◌, inl, inr, List, [], ◌∷◌, ◌++◌, length, set, sum_by, Some, slice_get, refl, sym, ap, subst, ◌∙◌, arith, length-append, true, false}
use Rattle.std.specs.Prelude.{◌==◌}
use Rattle.std.specs.List.{remove}
use Rattle.std.proofs.lemmas.Bool.{cases_Bool, eq-eqb, ne_eqb}
use Rattle.std.proofs.lemmas.List.{length-set}
use Rattle.std.proofs.lemmas.List.Sums.{sum_by-append, sum_by-cons}
use Rattle.std.proofs.lemmas.Option.{slice_get_within}
use Rattle.jk_model.specs.declared.identifiers.DomainId.{DomainId}
use Rattle.jk_model.specs.declared.script.Quotas.{Quotas}
use Rattle.jk_model_sharing.specs.BoundNames.{BoundName, count_bound_by}
use Rattle.list_lemmas.proofs.ItemsByPlace.{old_or_last}
use Rattle.thread_stacks.proofs.StandsOnThreads.{stands_after}
use Rattle.thread_segments.specs.declared.domains.DomainEntry.{DomainEntry}
use Rattle.thread_segments.specs.DomainEntries.{AreNamed, spare_names}
use Rattle.thread_segments.specs.NameEntries.{NameList}
use Rattle.thread_segments.proofs.CountsAreKept.{part_le, part_set}
use Rattle.thread_segments.proofs.NamesByPlace.{count_removed, count_set, length-removed}
use Rattle.thread_segments.proofs.OneMore.{last_more, one_passes}
use Rattle.thread_stacks.proofs.Filtered.{one_if}

-- how many more names a domain may bind

pub names_live : (e : DomainEntry) → e.live ≡ true → spare_names e ≡ e.quotas.names - e.names
names_live e lives = rw lives refl

names_few : (e : DomainEntry) → spare_names e ≤ e.quotas.names
names_few e = elim (cases_Bool e.live) [
  | inl lives ↦ let part = names_live e lives in omega (arith, part)
  | inr ended ↦ let none : spare_names e ≡ 0 = rw ended refl in omega (arith, none)
]

-- One entry is replaced, and the names are others: what that takes to keep the counts right.
pub record Renames (es : List DomainEntry) (n new : NameList) (i : ℕ) (e other : DomainEntry) : Type 0 where
  pub there : slice_get es i ≡ Some e
  pub quotas : other.quotas ≡ e.quotas
  pub within : other.names ≤ other.quotas.names
  pub here : other.names ≡ count_bound_by new.names (record { 0 = i })
  pub elsewhere : (d : DomainId) → i ≢ d.0 → count_bound_by new.names d ≡ count_bound_by n.names d
  pub room : length new.names + spare_names other + n.most ≤ length n.names + spare_names e + new.most

pub renamed : (es : List DomainEntry) (n new : NameList) (i : ℕ) (e other : DomainEntry) → AreNamed es n → Renames es n new i e other
    → AreNamed (set es i other) new
renamed es n new i e other h r = record {
  bound = λ j x at. by_place j x (stands_after es i j other x at low);
  within = λ j x at. within_at j x (stands_after es i j other x at low);
  small = λ j x at. small_at j x (stands_after es i j other x at low);
  room = omega (arith, h.room, r.room, part_set spare_names es i e other r.there, part_le spare_names es i e r.there);
}
  where
    low : i < length es
    low = slice_get_within es i e r.there

    by_place : (j : ℕ) (x : DomainEntry) → ((i ≡ j) × (other ≡ x)) ⊎ ((i ≢ j) × (slice_get es j ≡ Some x))
        → x.names ≡ count_bound_by new.names (record { 0 = j })
    by_place j x (inl c) =
        ap (λ (y : DomainEntry). y.names) (sym c.1) ∙ r.here ∙ ap (λ k. count_bound_by new.names (record { 0 = k })) c.0
    by_place j x (inr c) = h.bound j x c.1 ∙ sym (r.elsewhere (record { 0 = j }) c.0)

    within_at : (j : ℕ) (x : DomainEntry) → ((i ≡ j) × (other ≡ x)) ⊎ ((i ≢ j) × (slice_get es j ≡ Some x)) → x.names ≤ x.quotas.names
    within_at j x (inl c) = subst (λ (y : DomainEntry). y.names ≤ y.quotas.names) c.1 r.within
    within_at j x (inr c) = h.within j x c.1

    small_at : (j : ℕ) (x : DomainEntry) → ((i ≡ j) × (other ≡ x)) ⊎ ((i ≢ j) × (slice_get es j ≡ Some x)) → x.quotas.names ≤ 4096
    small_at j x (inl c) =
        subst (λ (y : DomainEntry). y.quotas.names ≤ 4096) c.1 (subst (λ (q : Quotas). q.names ≤ 4096) (sym r.quotas) (h.small i e r.there))
    small_at j x (inr c) = h.small j x c.1

-- The entry is changed, but for its names.
pub named_same : (es : List DomainEntry) (n : NameList) (i : ℕ) (e other : DomainEntry) → AreNamed es n → slice_get es i ≡ Some e
    → other.quotas ≡ e.quotas → other.names ≡ e.names → other.live ≡ e.live → AreNamed (set es i other) n
named_same es n i e other h at quotas names live =
    renamed es n n i e other h
    (record {
      there = at;
      quotas = quotas;
      within = rw (quotas, names) (h.within i e at);
      here = names ∙ h.bound i e at;
      elsewhere = λ d ne. refl;
      room = let spared : spare_names other ≡ spare_names e = rw (quotas, names, live) refl in omega (arith, spared);
    })

-- A name is bound.
pub named_new : (es : List DomainEntry) (n new : NameList) (i : ℕ) (e more : DomainEntry) (asked : BoundName) → AreNamed es n → slice_get es i ≡ Some e
    → e.live ≡ true → e.names < e.quotas.names → more ≡ record e { names = e.names + 1 } → asked.binder.0 ≡ i
    → new ≡ record n { names = n.names ++ asked ∷ [] } → AreNamed (set es i more) new
named_new es n new i e more asked h at lives few is home becomes =
    let names : new.names ≡ n.names ++ asked ∷ [] = ap (λ (x : NameList). x.names) becomes in
    renamed es n new i e more h
    (record {
      there = at;
      quotas = ap (λ (x : DomainEntry). x.quotas) is;
      within = rw is (omega (arith, few));
      here =
          let hit : (asked.binder.0 == i) ≡ true = eq-eqb asked.binder.0 i home in
          let one : one_if (asked.binder.0 == i) ≡ 1 = rw hit refl in
          let count =
          one_passes asked (λ (x : BoundName). x.binder.0 == i) n.names (n.names ++ asked ∷ []) (last_more asked n.names) in
          rw (is, names) (omega (arith, h.bound i e at, count, one));
      elsewhere =
          λ d ne.
          let miss : (asked.binder.0 == d.0) ≡ false = ne_eqb asked.binder.0 d.0 (λ same. ne (sym home ∙ same)) in
          let none : one_if (asked.binder.0 == d.0) ≡ 0 = rw miss refl in
          let count =
          one_passes asked (λ (x : BoundName). x.binder.0 == d.0) n.names (n.names ++ asked ∷ []) (last_more asked n.names) in
          rw names (omega (arith, count, none));
      room =
          let longer : length new.names ≡ length n.names + 1 = ap length names ∙ length-append n.names (asked ∷ []) in
          let spared : spare_names more ≡ e.quotas.names - (e.names + 1) = ap spare_names is ∙ rw lives refl in
          omega (arith, longer, spared, names_live e lives, few, ap (λ (x : NameList). x.most) becomes);
    })

-- One is removed: the domain that bound it has one fewer.
pub some_bound : (es : List DomainEntry) (n : NameList) (i p : ℕ) (e : DomainEntry) (m : BoundName) → AreNamed es n → slice_get es i ≡ Some e
    → slice_get n.names p ≡ Some m → m.binder.0 ≡ i → 1 ≤ e.names
some_bound es n i p e m h at there home =
    let hit : (m.binder.0 == i) ≡ true = eq-eqb m.binder.0 i home in
    let one : one_if (m.binder.0 == i) ≡ 1 = rw hit refl in
    omega (arith, h.bound i e at, count_removed (record { 0 = i }) n.names p m there, one)

pub named_removed : (es : List DomainEntry) (n new : NameList) (i p : ℕ) (e less : DomainEntry) (m : BoundName) → AreNamed es n → slice_get es i ≡ Some e
    → e.live ≡ true → slice_get n.names p ≡ Some m → m.binder.0 ≡ i → less ≡ record e { names = e.names - 1 } → new ≡ record n { names = remove n.names p }
    → AreNamed (set es i less) new
named_removed es n new i p e less m h at lives there home is becomes =
    let names : new.names ≡ remove n.names p = ap (λ (x : NameList). x.names) becomes in
    let some = some_bound es n i p e m h at there home in
    renamed es n new i e less h
    (record {
      there = at;
      quotas = ap (λ (x : DomainEntry). x.quotas) is;
      within = let was = h.within i e at in rw is (omega (arith, was));
      here =
          let hit : (m.binder.0 == i) ≡ true = eq-eqb m.binder.0 i home in
          let one : one_if (m.binder.0 == i) ≡ 1 = rw hit refl in
          rw (is, names) (omega (arith, h.bound i e at, count_removed (record { 0 = i }) n.names p m there, one));
      elsewhere =
          λ d ne.
          let miss : (m.binder.0 == d.0) ≡ false = ne_eqb m.binder.0 d.0 (λ same. ne (sym home ∙ same)) in
          let none : one_if (m.binder.0 == d.0) ≡ 0 = rw miss refl in
          rw names (omega (arith, count_removed d n.names p m there, none));
      room =
          let low = slice_get_within n.names p m there in
          let shorter : length (remove n.names p) + 1 ≡ length n.names = length-removed n.names p low in
          let same = ap length names in
          let spared : spare_names less ≡ e.quotas.names - (e.names - 1) = ap spare_names is ∙ rw lives refl in
          omega (arith, shorter, same, spared, names_live e lives, h.within i e at, some, ap (λ (x : NameList). x.most) becomes);
    })

-- One is bound anew by the same domain.
pub named_anew : (es : List DomainEntry) (n new : NameList) (p : ℕ) (m asked : BoundName) → AreNamed es n → slice_get n.names p ≡ Some m
    → asked.binder ≡ m.binder → new ≡ record n { names = set n.names p asked } → AreNamed es new
named_anew es n new p m asked h there same becomes =
    let names : new.names ≡ set n.names p asked = ap (λ (x : NameList). x.names) becomes in
    let most : new.most ≡ n.most = ap (λ (x : NameList). x.most) becomes in
    record {
      bound = λ i e at. rw names (h.bound i e at ∙ sym (count_set (record { 0 = i }) n.names p m asked there same));
      within = h.within;
      small = h.small;
      room = let size = ap length names ∙ length-set n.names p asked in omega (arith, h.room, size, most);
    }

-- A domain is admitted.
pub named_admitted : (es : List DomainEntry) (n new : NameList) (e : DomainEntry) → AreNamed es n
    → count_bound_by n.names (record { 0 = length es }) ≡ 0 → e.names ≡ 0 → e.quotas.names ≤ 4096
    → new ≡ record n { most = n.most + e.quotas.names } → AreNamed (es ++ e ∷ []) new
named_admitted es n new e h unbound none few becomes = record {
  bound = λ i x at. rw names (bound_at i x (old_or_last es e i x at));
  within = λ i x at. within_at i x (old_or_last es e i x at);
  small = λ i x at. small_at i x (old_or_last es e i x at);
  room =
      let sum : sum_by spare_names (es ++ e ∷ []) ≡ sum_by spare_names es + sum_by spare_names (e ∷ []) = sum_by-append spare_names es (e ∷ []) in
      omega (arith, h.room, sum, sum_by-cons spare_names e [], names_few e, most, ap length names);
}
  where
    names : new.names ≡ n.names
    names = ap (λ (x : NameList). x.names) becomes

    most : new.most ≡ n.most + e.quotas.names
    most = ap (λ (x : NameList). x.most) becomes

    bound_at : (i : ℕ) (x : DomainEntry) → ((i < length es) × (slice_get es i ≡ Some x)) ⊎ ((i ≡ length es) × (x ≡ e))
        → x.names ≡ count_bound_by n.names (record { 0 = i })
    bound_at i x (inl c) = h.bound i x c.1
    bound_at i x (inr c) =
        ap (λ (y : DomainEntry). y.names) c.1 ∙ none ∙ sym unbound ∙ ap (λ k. count_bound_by n.names (record { 0 = k })) (sym c.0)

    within_at : (i : ℕ) (x : DomainEntry) → ((i < length es) × (slice_get es i ≡ Some x)) ⊎ ((i ≡ length es) × (x ≡ e)) → x.names ≤ x.quotas.names
    within_at i x (inl c) = h.within i x c.1
    within_at i x (inr c) = let zero_of : x.names ≡ 0 = ap (λ (y : DomainEntry). y.names) c.1 ∙ none in omega (arith, zero_of)

    small_at : (i : ℕ) (x : DomainEntry) → ((i < length es) × (slice_get es i ≡ Some x)) ⊎ ((i ≡ length es) × (x ≡ e)) → x.quotas.names ≤ 4096
    small_at i x (inl c) = h.small i x c.1
    small_at i x (inr c) = subst (λ (y : DomainEntry). y.quotas.names ≤ 4096) (sym c.1) few

-- Where there is nothing yet.
pub named_none : (es : List DomainEntry) (n : NameList) → es ≡ [] → n.names ≡ [] → AreNamed es n
named_none (e ∷ es) n none_es none = absurd cc
named_none [] n none_es none =
    record { bound = λ i e at. cc; within = λ i e at. cc; small = λ i e at. cc; room = omega (arith, ap length none) }

-- one more name has room where one more may be bound
pub room_for_name : (es : List DomainEntry) (n : NameList) (i : ℕ) (e : DomainEntry) → AreNamed es n → slice_get es i ≡ Some e
    → e.live ≡ true → e.names < e.quotas.names → length n.names < n.most
room_for_name es n i e h at lives few = omega (arith, h.room, part_le spare_names es i e at, names_live e lives, few)
