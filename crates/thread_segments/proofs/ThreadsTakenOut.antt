-- The segments of a domain are taken out one by one: what its end leaves of the threads stays the same, and domains are counted as before.
use Rattle.std.proofs.Common.{◌≡◌, ℕ, ◌+◌, ◌-◌, ◌<◌, ◌≤◌, ◌⊎◌, inl, inr, List, [], ◌∷◌, length, map, Option, None, Some, slice_get, refl, sym, ap, subst, ◌∙◌, arith}
use Rattle.std.specs.Prelude.{◌==◌}
use Rattle.std.proofs.lemmas.Bool.{cases_Bool, cases_lt, eq-eqb}
use Rattle.jk_model.specs.declared.identifiers.DomainId.{DomainId}
use Rattle.jk_model_heaps.specs.Capabilities.{CapRange}
use Rattle.jk_model_sharing.specs.Segments.{SharedThread, count_started_in}
use Rattle.thread_segments.specs.declared.domains.DomainEntry.{DomainEntry}
use Rattle.thread_segments.specs.DomainEntries.{AreCounted}
use Rattle.thread_segments.specs.DomainsEnding.{AreRecounted, CountsEnd, after_end, outlived, uncounted, with_most}
use Rattle.thread_segments.proofs.CountsAreKept.{AreBelow, none_started, recounted, recounts_ended, some_started}
use Rattle.thread_segments.proofs.SegmentRoom.{counts_moved}
use Rattle.thread_stacks.proofs.Filtered.{length_first, map-put, one_if}
use Rattle.thread_stacks.specs.StackChanges.{LeavesAll, TakesOut}
use Rattle.thread_stacks.specs.Stacks.{ThreadList}

-- threads of which none was started in a domain from a number on
below_by : (n : ℕ) (ts : List SharedThread) → ((d : DomainId) → n ≤ d.0 → count_started_in ts d ≡ 0) → AreBelow n ts
below_by n [] h = tt
below_by n (t ∷ ts) h = (low (cases_lt t.domain.0 n), below_by n ts (λ d le. omega (arith, h d le, first d)))
  where
    first : (d : DomainId) → count_started_in (t ∷ ts) d ≡ one_if (t.domain.0 == d.0) + count_started_in ts d
    first d = length_first (λ (x : SharedThread). x.domain.0 == d.0) t ts

    low : (t.domain.0 < n) ⊎ (n ≤ t.domain.0) → t.domain.0 < n
    low (inl lt) = lt
    low (inr ge) =
        let one : one_if (t.domain.0 == t.domain.0) ≡ 1 = ap one_if (eq-eqb t.domain.0 t.domain.0 refl) in
        absurd (omega (arith, h t.domain ge, first t.domain, one))

-- How far it has come.
pub record AreEnding (d : DomainId) (es now : List DomainEntry) (t new : ThreadList) : Type 0 where
  pub same_end : after_end d new ≡ with_most new.most (after_end d t)
  pub recounts : AreRecounted es now t new

pub begin_ending : (d : DomainId) (es : List DomainEntry) (t : ThreadList) → AreEnding d es es t t
begin_ending d es t = record { same_end = refl; recounts = record { alike = refl; counts = λ rs h. h } }

pub all_ended : (d : DomainId) (es now : List DomainEntry) (t new last : ThreadList) → AreEnding d es now t new → last ≡ new → LeavesAll new d
    → (last ≡ with_most last.most (after_end d t)) × AreRecounted es now t last
all_ended d es now t new last h is leaves =
    let left : after_end d new ≡ new = ap (λ ts. let x : ThreadList = record new { threads = ts } in x) leaves in (
      is ∙ sym left ∙ h.same_end ∙ ap (λ (m : ℕ). with_most m (after_end d t)) (ap (λ (x : ThreadList). x.most) (sym is)),
      subst (λ (x : ThreadList). AreRecounted es now t x) (sym is) h.recounts,
    )

pub domains_same : (d : DomainId) (es now : List DomainEntry) (t new : ThreadList) → AreEnding d es now t new → new.domains ≡ t.domains
domains_same d es now t new h = ap (λ (x : ThreadList). x.domains) h.same_end

same_end_after : (d : DomainId) (old new : ThreadList) (ended : Option DomainId) → TakesOut old new d ended → after_end d new ≡ after_end d old
same_end_after d old new ended h =
    ap (λ (x : ThreadList). after_end d x) h.rest ∙ ap (λ ts. let x : ThreadList = record old { threads = ts } in x) h.same_end

-- where they were started, whoever ends
homes_after : (n : ℕ) (d : DomainId) (old new : ThreadList) (ended : Option DomainId) → TakesOut old new d ended → AreBelow n old.threads
    → AreBelow n new.threads
homes_after n d old new ended h below =
    below_by n new.threads (λ home le. omega (arith, h.counted home, none_started n home old.threads le below))

pub none_ended : (d : DomainId) (es now : List DomainEntry) (t old new : ThreadList) → AreEnding d es now t old → TakesOut old new d None
    → AreEnding d es now t new
none_ended d es now t old new h taken = record {
  same_end =
      same_end_after d old new None taken ∙ h.same_end
      ∙ ap (λ (m : ℕ). with_most m (after_end d t)) (ap (λ (x : ThreadList). x.most) (sym taken.rest));
  recounts = record {
    alike = h.recounts.alike;
    counts =
        λ rs counted.
        let c = h.recounts.counts rs counted in
        counts_moved now rs old new c (homes_after (length now) d old new None taken c.homes) (λ home. omega (arith, taken.counted home))
        (omega (arith, taken.fewer)) (ap (λ (x : ThreadList). x.most) taken.rest);
  };
}

-- the domain in which the thread was started
pub home_there : (d home : DomainId) (now : List DomainEntry) (rs : List CapRange) (old new : ThreadList) → AreCounted now rs old
    → TakesOut old new d (Some home) → home.0 < length now
home_there d home now rs old new c taken = elim (cases_lt home.0 (length now)) [
  | inl low ↦ low
  | inr high ↦
      let one : one_if (home.0 == home.0) ≡ 1 = ap one_if (eq-eqb home.0 home.0 refl) in
      absurd (omega (arith, none_started (length now) home old.threads high c.homes, taken.counted home, one))
]

pub was_started : (d home : DomainId) (now : List DomainEntry) (rs : List CapRange) (old new : ThreadList) (e : DomainEntry) → AreCounted now rs old
    → TakesOut old new d (Some home) → slice_get now home.0 ≡ Some e → 1 ≤ e.threads
was_started d home now rs old new e c taken at = some_started now rs old new home.0 e c at taken.counted

-- it leaves room for no more than itself
pub outlived_few : (e : DomainEntry) → outlived e ≤ 1
outlived_few e = elim (cases_Bool e.live) [
  | inl lives ↦ let none : outlived e ≡ 0 = rw lives refl in omega (arith, none)
  | inr ended ↦ let one : outlived e ≡ 1 = rw ended refl in omega (arith, one)
]

pub room_to_leave : (d home : DomainId) (now : List DomainEntry) (rs : List CapRange) (old new : ThreadList) (e : DomainEntry) → AreCounted now rs old
    → TakesOut old new d (Some home) → length new.threads + outlived e ≤ new.most
room_to_leave d home now rs old new e c taken =
    omega (arith, c.room, taken.fewer, outlived_few e, ap (λ (x : ThreadList). x.most) taken.rest)

pub one_ended : (d home : DomainId) (es now after : List DomainEntry) (t old new last : ThreadList) (room : ℕ) → AreEnding d es now t old
    → TakesOut old new d (Some home) → CountsEnd now after home room → last ≡ record new { most = new.most - room } → AreEnding d es after t last
one_ended d home es now after t old new last room h taken ends is = record {
  same_end =
      ap (λ (x : ThreadList). after_end d x) is
      ∙ ap (λ (x : ThreadList). with_most (new.most - room) x) (same_end_after d old new (Some home) taken ∙ h.same_end)
      ∙ ap (λ (m : ℕ). with_most m (after_end d t)) (ap (λ (x : ThreadList). x.most) (sym is));
  recounts = record {
    alike =
        ap (λ (xs : List DomainEntry). map uncounted xs) ends.becomes
        ∙ map-put uncounted now home.0 ends.entry less ends.there refl ∙ h.recounts.alike;
    counts =
        λ rs counted.
        let c = h.recounts.counts rs counted in
        let most : last.most ≡ new.most - outlived ends.entry =
        ap (λ (x : ThreadList). x.most) is ∙ ap (λ (k : ℕ). new.most - k) ends.leaves in
        subst (λ (xs : List DomainEntry). AreCounted xs rs last) (sym ends.becomes)
        (recounted now rs old last home.0 ends.entry less c
        (recounts_ended now rs old last home.0 ends.entry less c ends.there (some_started now rs old new home.0 ends.entry c ends.there taken.counted) refl
        (subst (λ (xs : List SharedThread). AreBelow (length now) xs) (sym threads) (homes_after (length now) d old new (Some home) taken c.homes))
        (λ other. ap (λ (xs : List SharedThread). count_started_in xs other + one_if (home.0 == other.0)) threads ∙ taken.counted other)
        (ap (λ (xs : List SharedThread). length xs + 1) threads ∙ taken.fewer)
        (omega (
          arith,
          most,
          room_to_leave d home now rs old new ends.entry c taken,
          ap (λ (x : ThreadList). x.most) taken.rest,
        ))));
  };
}
  where
    less : DomainEntry
    less = record ends.entry { threads = ends.entry.threads - 1 }

    threads : last.threads ≡ new.threads
    threads = ap (λ (x : ThreadList). x.threads) is
