-- What each domain has, and its newest segment: after a segment is pushed or taken off, after other changes, and after marks are dropped.
use Rattle.std.proofs.Common.{◌≡◌, ◌≢◌, ℕ, ◌<◌, ◌⊎◌, inl, inr, Bool, true, false, List, [], ◌∷◌, ◌++◌, length, map, set, filter, is_some, Option, None, Some, slice_get, refl, sym, ap, subst, ◌∙◌, arith, length-append}
use Rattle.std.specs.Prelude.{◌==◌, ◌&&◌, if◌then◌else◌}
use Rattle.std.proofs.lemmas.Bool.{and_from, and_parts, cases_eq, eq-eqb, eqb-true, cases_Bool}
use Rattle.std.proofs.lemmas.List.{length-set}
use Rattle.std.proofs.lemmas.Option.{slice_get_within}
use Rattle.jk_model.specs.declared.identifiers.DomainId.{DomainId}
use Rattle.jk_model.specs.declared.identifiers.SegmentNo.{SegmentNo}
use Rattle.list_lemmas.proofs.ItemsByPlace.{comes_from, old_or_last, slice_get-set_cases}
use Rattle.thread_stacks.specs.declared.slots.Slot.{Slot}
use Rattle.thread_stacks.specs.Places.{AreRisingBy}
use Rattle.thread_stacks.specs.StackChanges.{newest_after, raised, relinked, slot_new}
use Rattle.thread_stacks.specs.Stacks.{AreOwned, is_live, is_own, last_or, newer_in, older_in, owned_by, owner_in, slot_key}
use Rattle.thread_stacks.proofs.Chains.{last_or-map}
use Rattle.thread_stacks.proofs.Filtered.{filter_mapped, filter_twice, stood_at, all_fail}
use Rattle.thread_stacks.proofs.KeptChains.{chains_left, chains_mapped, chains_pushed, chains_without, last_beside, last_elsewhere, last_goes, last_pushed, last_stays}
use Rattle.thread_stacks.proofs.Relinked.{raised_live, raised_newer, raised_number, raised_older, raised_own, raised_segment, relinked_live, relinked_newer, relinked_number, relinked_older, relinked_own, relinked_segment}
use Rattle.thread_stacks.proofs.StandsOnThreads.{stands_after}

pub own_parts : (d : ℕ) (s : Slot) → is_own d s ≡ true → (s.live ≡ true) × (owner_in s ≡ d)
own_parts d s h = let both = and_parts s.live (s.domain.0 == d) h in (both.0, eqb-true s.domain.0 d both.1)

pub own_from : (d : ℕ) (s : Slot) → s.live ≡ true → owner_in s ≡ d → is_own d s ≡ true
own_from d s live home = and_from s.live (s.domain.0 == d) live (eq-eqb s.domain.0 d home)

-- a slot is as live and of the same domain
own_kept : (x y : Slot) → y.live ≡ x.live → y.domain ≡ x.domain → (u : ℕ) → is_own u y ≡ is_own u x
own_kept x y live home u = ap (λ (b : Bool). b && (y.domain.0 == u)) live ∙ ap (λ (d : DomainId). x.live && (d.0 == u)) home

owners_mapped : (g : Slot → Slot) (slots : List Slot) (n : ℕ) → ((x : Slot) → ((g x).live ≡ x.live) × ((g x).domain ≡ x.domain))
    → ((i : ℕ) (s : Slot) → slice_get slots i ≡ Some s → s.live ≡ true → s.domain.0 < n)
    → (i : ℕ) (s : Slot) → slice_get (map g slots) i ≡ Some s → s.live ≡ true → s.domain.0 < n
owners_mapped g slots n same h i s at live =
    let c = comes_from g slots i s at in
    let was : c.from.live ≡ true = sym (same c.from).0 ∙ ap is_live c.gives ∙ live in
    let home : c.from.domain ≡ s.domain = sym (same c.from).1 ∙ ap (λ (x : Slot). x.domain) c.gives in
    omega (arith, h i c.from c.there was, ap (λ (d : DomainId). d.0) home)

pub owned_mapped : (g : Slot → Slot) (slots : List Slot) (newest : List (Option SegmentNo))
    → ((x : Slot) → ((g x).number ≡ x.number) × ((g x).live ≡ x.live) × ((g x).domain ≡ x.domain) × ((g x).older ≡ x.older) × ((g x).newer ≡ x.newer))
    → AreOwned slots newest → AreOwned (map g slots) newest
owned_mapped g slots newest same o = record {
  chains =
      chains_mapped is_own owner_in older_in newer_in own_parts own_from g slots (λ u x. own_kept x (g x) (same x).1 (same x).2 u)
      (λ x. ((same x).0, (same x).3, (same x).4)) o.chains;
  lasts =
      λ d n at.
      o.lasts d n at
      ∙ sym (ap (λ (ws : List Slot). last_or None ws) (filter_mapped (is_own d) g (λ x. own_kept x (g x) (same x).1 (same x).2 d) slots)
      ∙ last_or-map g None (owned_by d slots) (λ x there. (same x).0));
  owners = owners_mapped g slots (length newest) (λ x. ((same x).1, (same x).2)) o.owners;
}

pub owned_left : (slots : List Slot) (newest : List (Option SegmentNo)) → AreOwned slots newest → AreOwned (filter is_live slots) newest
owned_left slots newest o = record {
  chains = chains_left is_own owner_in older_in newer_in own_parts own_from slots o.chains;
  lasts =
      λ d n at.
      o.lasts d n at
      ∙ sym (ap (λ (ws : List Slot). last_or None ws) (filter_twice (is_own d) is_live (λ x hit. (own_parts d x hit).0) slots));
  owners = λ i s at live. let stood = stood_at is_live slots i s at in o.owners stood.place s stood.there live;
}

-- one more domain, which has nothing
pub owned_more : (slots : List Slot) (newest : List (Option SegmentNo)) → AreOwned slots newest → AreOwned slots (newest ++ None ∷ [])
owned_more slots newest o = record {
  chains = o.chains;
  lasts = λ d m at. newest_at d m (old_or_last newest None d m at);
  owners = λ i s at live. omega (arith, o.owners i s at live, length-append newest (None ∷ []));
}
  where
    newest_at : (d : ℕ) (m : Option SegmentNo) → ((d < length newest) × (slice_get newest d ≡ Some m)) ⊎ ((d ≡ length newest) × (m ≡ None))
        → m ≡ last_or None (owned_by d slots)
    newest_at d m (inl old) = o.lasts d m old.1
    newest_at d m (inr last) =
        last.1
        ∙ sym (ap (λ (ws : List Slot). last_or None ws)
        (all_fail (is_own d) slots (λ k s at. by_test k s at (cases_Bool (is_own d s)))))
      where
        by_test : (k : ℕ) (s : Slot) → slice_get slots k ≡ Some s → (is_own d s ≡ true) ⊎ (is_own d s ≡ false) → is_own d s ≡ false
        by_test k s at (inl hit) =
            let both = own_parts d s hit in absurd (omega (arith, o.owners k s at both.0, both.1, last.0))
        by_test k s at (inr miss) = miss

-- One more segment of a domain.
module _ (slots : List Slot) (newest : List (Option SegmentNo)) (o : AreOwned slots newest) (rising : AreRisingBy slot_key slots) (n t : ℕ) (d : DomainId)
    (below older : Option SegmentNo) (is_newest : slice_get newest d.0 ≡ Some older) where
  abbrev num : SegmentNo
  num = record { 0 = n }

  abbrev one : Slot
  one = slot_new n t d below older

  abbrev change : Slot → Slot
  change x = raised num below older x

  last_is : older ≡ last_or None (owned_by d.0 slots)
  last_is = o.lasts d.0 older is_newest

  pub owned_pushed : AreOwned (map (raised num below older) slots ++ one ∷ []) (set newest d.0 (Some num))
  owned_pushed = record {
    chains =
        chains_pushed is_own owner_in older_in newer_in own_parts own_from (raised num below older) older one (raised_own num below older)
        (raised_number num below older) (raised_newer num below older) (raised_older num below older) slots rising refl last_is refl refl o.chains;
    lasts = λ j m at. newest_at j m (stands_after newest d.0 j (Some num) m at (slice_get_within newest d.0 older is_newest));
    owners = λ i s at live. owner_at i s live (old_or_last (map (raised num below older) slots) one i s at);
  }
    where
      newest_at : (j : ℕ) (m : Option SegmentNo) → ((d.0 ≡ j) × (Some num ≡ m)) ⊎ ((d.0 ≢ j) × (slice_get newest j ≡ Some m))
          → m ≡ last_or None (owned_by j (map (raised num below older) slots ++ one ∷ []))
      newest_at j m (inl here) =
          sym here.1
          ∙ sym (last_pushed is_own owner_in older_in newer_in own_parts own_from (raised num below older) older one (raised_own num below older)
          (raised_number num below older) (raised_newer num below older) (raised_older num below older) slots rising refl last_is)
          ∙ ap (λ (u : ℕ). last_or None (owned_by u (map (raised num below older) slots ++ one ∷ []))) here.0
      newest_at j m (inr old) =
          o.lasts j m old.1
          ∙ sym (last_beside is_own owner_in older_in newer_in own_parts own_from (raised num below older) older one (raised_own num below older)
          (raised_number num below older) (raised_newer num below older) (raised_older num below older) slots rising refl last_is j
          (λ same. old.0 (sym same)))

      owner_at : (i : ℕ) (s : Slot) → s.live ≡ true
          → ((i < length (map (raised num below older) slots)) × (slice_get (map (raised num below older) slots) i ≡ Some s))
          ⊎ ((i ≡ length (map (raised num below older) slots)) × (s ≡ one)) → s.domain.0 < length (set newest d.0 (Some num))
      owner_at i s live (inl old) =
          omega (
            arith,
            length-set newest d.0 (Some num),
            owners_mapped (raised num below older) slots (length newest)
                (λ x. (raised_live num below older x, ap (λ y. y.domain) (raised_segment num below older x))) o.owners i s old.1 live,
          )
      owner_at i s live (inr last) =
          let low = slice_get_within newest d.0 older is_newest in
          omega (arith, length-set newest d.0 (Some num), low, ap (λ (x : Slot). x.domain.0) last.1)

-- A segment is taken off.
module _ (slots : List Slot) (newest : List (Option SegmentNo)) (o : AreOwned slots newest) (rising : AreRisingBy slot_key slots) (k : ℕ) (s : Slot)
    (at : slice_get slots k ≡ Some s) (lives : s.live ≡ true) where
  abbrev dead : Slot
  dead = record s { live = false }

  abbrev gone : List Slot
  gone = map (relinked s) (set slots k dead)

  last_gone_is : (o : Option SegmentNo) → s.newer ≡ o → last_or None (owned_by s.domain.0 gone)
      ≡ (if is_some o then last_or None (owned_by s.domain.0 slots) else s.older)
  last_gone_is None is =
      last_goes is_own owner_in older_in newer_in own_parts own_from s dead (relinked s) (relinked_own s) (relinked_number s) (relinked_older s)
      (relinked_newer s) slots rising k at lives refl o.chains is
  last_gone_is (Some n) is =
      last_stays is_own owner_in older_in newer_in own_parts own_from s dead (relinked s) (relinked_own s) (relinked_number s) (relinked_older s)
      (relinked_newer s) slots rising k at lives refl o.chains n is

  last_other : (u : ℕ) → u ≢ s.domain.0 → last_or None (owned_by u gone) ≡ last_or None (owned_by u slots)
  last_other u ne =
      last_elsewhere is_own owner_in older_in newer_in own_parts own_from s dead (relinked s) (relinked_own s) (relinked_number s) (relinked_older s)
      (relinked_newer s) slots rising k at lives refl o.chains u ne

  newest_length : (p : Option SegmentNo) → s.newer ≡ p → length (newest_after s newest) ≡ length newest
  newest_length None is =
      ap (λ (q : Option SegmentNo). length (if is_some q then newest else set newest s.domain.0 s.older)) is ∙ length-set newest s.domain.0 s.older
  newest_length (Some n) is = ap (λ (q : Option SegmentNo). length (if is_some q then newest else set newest s.domain.0 s.older)) is

  pub newest_as_long : length (newest_after s newest) ≡ length newest
  newest_as_long = newest_length s.newer refl

  pub owned_gone : AreOwned gone (newest_after s newest)
  owned_gone = record {
    chains =
        chains_without is_own owner_in older_in newer_in own_parts own_from s dead (relinked s) (relinked_own s) (relinked_number s) (relinked_older s)
        (relinked_newer s) slots rising k at lives refl o.chains;
    lasts = λ j m is. newest_at j m is s.newer refl;
    owners =
        λ i x there live.
        omega (
          arith,
          newest_as_long,
          owners_mapped (relinked s) (set slots k dead) (length newest)
              (λ y. (relinked_live s y, ap (λ z. z.domain) (relinked_segment s y))) still i x there live,
        );
  }
    where
      still : (i : ℕ) (x : Slot) → slice_get (set slots k dead) i ≡ Some x → x.live ≡ true → x.domain.0 < length newest
      still i x there live = elim (slice_get-set_cases slots k i dead x there) [
        | inl here ↦ let never : false ≡ true = ap is_live here.1 ∙ live in absurd cc
        | inr old ↦ o.owners i x old live
      ]

      newest_at : (j : ℕ) (m : Option SegmentNo) → slice_get (newest_after s newest) j ≡ Some m → (p : Option SegmentNo) → s.newer ≡ p
          → m ≡ last_or None (owned_by j gone)
      newest_at j m is (Some n) newer =
          let old : slice_get newest j ≡ Some m =
          sym (ap (λ (q : Option SegmentNo). slice_get (if is_some q then newest else set newest s.domain.0 s.older) j) newer) ∙ is in
          o.lasts j m old ∙ sym (same j (cases_eq j s.domain.0))
        where
          same : (j : ℕ) → (j ≡ s.domain.0) ⊎ (j ≢ s.domain.0) → last_or None (owned_by j gone) ≡ last_or None (owned_by j slots)
          same j (inl here) =
              subst (λ (u : ℕ). last_or None (owned_by u gone) ≡ last_or None (owned_by u slots)) (sym here) (last_gone_is (Some n) newer)
          same j (inr other) = last_other j other
      newest_at j m is None newer =
          let lowered : slice_get (set newest s.domain.0 s.older) j ≡ Some m =
          sym (ap (λ (q : Option SegmentNo). slice_get (if is_some q then newest else set newest s.domain.0 s.older) j) newer) ∙ is in
          by_place (stands_after newest s.domain.0 j s.older m lowered (o.owners k s at lives))
        where
          by_place : ((s.domain.0 ≡ j) × (s.older ≡ m)) ⊎ ((s.domain.0 ≢ j) × (slice_get newest j ≡ Some m)) → m ≡ last_or None (owned_by j gone)
          by_place (inl here) =
              sym here.1 ∙ sym (last_gone_is None newer) ∙ ap (λ (u : ℕ). last_or None (owned_by u gone)) here.0
          by_place (inr old) = o.lasts j m old.1 ∙ sym (last_other j (λ same. old.0 (sym same)))

-- there is nothing yet
pub no_owned : (slots : List Slot) (newest : List (Option SegmentNo)) → slots ≡ [] → newest ≡ [] → AreOwned slots newest
no_owned [] [] no_slots no_domains = record { chains = λ d. tt; lasts = λ d o at. cc; owners = λ i s at live. cc }
no_owned (s ∷ slots) newest no_slots no_domains = absurd cc
no_owned [] (o ∷ newest) no_slots no_domains = absurd cc
