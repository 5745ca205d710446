-- Segments of any flags that are put on top of their threads, whose numbers rise: entries and slots stay in order and linked, and each thread has
-- the segments that were put on it.
use Rattle.std.proofs.Common.{◌≡◌, ◌≢◌, ℕ, suc, ◌+◌, ◌<◌, ◌⊎◌, inl, inr, true, List, [], ◌∷◌, ◌++◌, length, map, set, take, filter, Option, None, Some, slice_get, refl, sym, ◌∙◌, ap, subst, arith, length-append}
use Rattle.std.proofs.lemmas.Bool.{cases_eq, eq-eqb, ne_eqb}
use Rattle.std.proofs.lemmas.List.{length-map, length-set, map_push}
use Rattle.std.proofs.lemmas.Option.{slice_get_within}
use Rattle.jk_model.specs.declared.identifiers.DomainId.{DomainId}
use Rattle.jk_model.specs.declared.identifiers.SegmentNo.{SegmentNo}
use Rattle.jk_model_sharing.specs.Segments.{SharedSegment}
use Rattle.list_lemmas.proofs.ItemsByPlace.{comes_from, length_take, mapped_at, nothing_at, old_or_last, slice_get-from_take, slice_get-last, slice_get-set_same}
use Rattle.list_lemmas.proofs.LastItems.{take_next}
use Rattle.thread_stacks.specs.declared.entries.ThreadEntry.{ThreadEntry}
use Rattle.thread_stacks.specs.declared.restoring.PlacedPart.{PlacedPart}
use Rattle.thread_stacks.specs.declared.slots.Slot.{Slot}
use Rattle.thread_stacks.specs.LiveStacks.{AreInSomeOrder, ArePut, IsAbove, IsPut, MayPut, is_placed_on, placed_segment, slot_placed, topless}
use Rattle.thread_stacks.specs.Places.{AreRisingBy}
use Rattle.thread_stacks.specs.StackChanges.{raised}
use Rattle.thread_stacks.specs.Stacks.{AreInOrder, AreLinked, AreOwned, IsEntered, above_in, below_in, is_own, last_or, newer_in, older_in, owned_by, owner_in, segment_of, slots_on, stack_of, stands_on, thread_in, thread_key, top_on}
use Rattle.thread_stacks.proofs.Filtered.{filter_mapped, map-put, pushed_off, pushed_on}
use Rattle.thread_stacks.proofs.KeptChains.{chains_pushed, last_beside, last_pushed}
use Rattle.thread_stacks.proofs.KeptInOrder.{order_entry, order_mapped, order_slot_more}
use Rattle.thread_stacks.proofs.KeptLinks.{top_is, tops_set}
use Rattle.thread_stacks.proofs.Owned.{own_from, own_parts}
use Rattle.thread_stacks.proofs.Relinked.{map_same_after, raised_above, raised_below, raised_live, raised_newer, raised_number, raised_older, raised_on, raised_own, raised_segment, raised_thread}
use Rattle.thread_stacks.proofs.StandsOnThreads.{stack_beside, stack_pushed, stands_after, stands_elsewhere, stands_from, stands_parts}

module _ (slots : List Slot) (es : List ThreadEntry) (p : PlacedPart) (older : Option SegmentNo) (i : ℕ) (e : ThreadEntry)
    (at : slice_get es i ≡ Some e) (number : e.number ≡ p.thread) where
  abbrev num : SegmentNo
  num = p.segment.number

  abbrev change : Slot → Slot
  change x = raised num e.top older x

  abbrev new : Slot
  new = slot_placed p e.top older

  abbrev topped : ThreadEntry
  topped = record e { top = Some num }

  abbrev pub slots_put : List Slot
  slots_put = map (raised num e.top older) slots ++ slot_placed p e.top older ∷ []

  abbrev pub entries_put : List ThreadEntry
  entries_put = set es i (record e { top = Some num })

  -- ---- In order.

  module _ (thread : ℕ) (h : AreInOrder slots es thread p.segment.number.0) where
    base : AreInOrder (map (raised num e.top older) slots) es thread num.0
    base =
        order_mapped (raised num e.top older)
        (λ x. (raised_number num e.top older x, raised_thread num e.top older x, raised_live num e.top older x)) slots es thread num.0 h

    pub put_in_order : AreInOrder slots_put entries_put thread (num.0 + 1)
    put_in_order =
        order_slot_more (map (raised num e.top older) slots) (set es i topped) thread num.0
        (order_entry (map (raised num e.top older) slots) es thread num.0 base i e topped at refl) new (num.0 + 1) refl refl
        (record { place = i; entry = topped; there = slice_get-set_same es i topped (slice_get_within es i e at); number = number })

    -- ---- Linked.

    module _ (l : AreLinked slots es) where
      top_before : e.top ≡ last_or None (slots_on p.thread slots)
      top_before = l.tops i e at ∙ ap (λ (u : ℕ). top_on u slots) number ∙ top_is p.thread slots

      pub put_linked : AreLinked slots_put entries_put
      put_linked = record {
        stacks =
            chains_pushed stands_on thread_in below_in above_in stands_parts stands_from (raised num e.top older) e.top new
            (raised_on num e.top older) (raised_number num e.top older) (raised_above num e.top older) (raised_below num e.top older) slots h.segments refl
            top_before refl refl l.stacks;
        tops =
            tops_set slots slots_put es i e topped h.threads l.tops at refl
            (sym (ap (λ (u : ℕ). top_on u slots_put) number
            ∙ top_is p.thread slots_put
            ∙ last_pushed stands_on thread_in below_in above_in stands_parts stands_from (raised num e.top older) e.top new
            (raised_on num e.top older) (raised_number num e.top older) (raised_above num e.top older)
            (raised_below num e.top older) slots h.segments refl top_before))
            (λ u ne.
            top_is u slots_put
            ∙ last_beside stands_on thread_in below_in above_in stands_parts stands_from (raised num e.top older) e.top new
            (raised_on num e.top older) (raised_number num e.top older) (raised_above num e.top older)
            (raised_below num e.top older) slots h.segments refl top_before u (λ same. ne (same ∙ sym number))
            ∙ sym (top_is u slots));
      }

  -- ---- Of domains.

  module _ (newest : List (Option SegmentNo)) (o : AreOwned slots newest) (rising : AreRisingBy (λ (s : Slot). s.number) slots)
      (is_newest : slice_get newest p.segment.domain.0 ≡ Some older) where
    last_is : older ≡ last_or None (owned_by p.segment.domain.0 slots)
    last_is = o.lasts p.segment.domain.0 older is_newest

    pub put_owned : AreOwned slots_put (set newest p.segment.domain.0 (Some num))
    put_owned = record {
      chains =
          chains_pushed is_own owner_in older_in newer_in own_parts own_from (raised num e.top older) older new (raised_own num e.top older)
          (raised_number num e.top older) (raised_newer num e.top older) (raised_older num e.top older) slots rising refl last_is refl refl o.chains;
      lasts =
          λ j m there.
          newest_at j m (stands_after newest p.segment.domain.0 j (Some num) m there (slice_get_within newest p.segment.domain.0 older is_newest));
      owners = λ j s there live. owner_at j s live (old_or_last (map (raised num e.top older) slots) new j s there);
    }
      where
        newest_at : (j : ℕ) (m : Option SegmentNo)
            → ((p.segment.domain.0 ≡ j) × (Some num ≡ m)) ⊎ ((p.segment.domain.0 ≢ j) × (slice_get newest j ≡ Some m))
            → m ≡ last_or None (owned_by j slots_put)
        newest_at j m (inl here) =
            sym here.1
            ∙ sym (last_pushed is_own owner_in older_in newer_in own_parts own_from (raised num e.top older) older new (raised_own num e.top older)
            (raised_number num e.top older) (raised_newer num e.top older) (raised_older num e.top older) slots rising refl last_is)
            ∙ ap (λ (u : ℕ). last_or None (owned_by u slots_put)) here.0
        newest_at j m (inr old) =
            o.lasts j m old.1
            ∙ sym (last_beside is_own owner_in older_in newer_in own_parts own_from (raised num e.top older) older new (raised_own num e.top older)
            (raised_number num e.top older) (raised_newer num e.top older) (raised_older num e.top older) slots rising refl last_is j
            (λ same. old.0 (sym same)))

        owner_at : (j : ℕ) (s : Slot) → s.live ≡ true
            → ((j < length (map (raised num e.top older) slots)) × (slice_get (map (raised num e.top older) slots) j ≡ Some s))
            ⊎ ((j ≡ length (map (raised num e.top older) slots)) × (s ≡ new)) → s.domain.0 < length (set newest p.segment.domain.0 (Some num))
        owner_at j s live (inl old) =
            let c = comes_from (raised num e.top older) slots j s old.1 in
            let was : c.from.live ≡ true = sym (raised_live num e.top older c.from) ∙ ap (λ (x : Slot). x.live) c.gives ∙ live in
            let home : c.from.domain ≡ s.domain =
            sym (ap (λ (y : SharedSegment). y.domain) (raised_segment num e.top older c.from)) ∙ ap (λ (x : Slot). x.domain) c.gives in
            omega (arith, length-set newest p.segment.domain.0 (Some num), o.owners j c.from c.there was, ap (λ (d : DomainId). d.0) home)
        owner_at j s live (inr last) =
            let low = slice_get_within newest p.segment.domain.0 older is_newest in
            omega (arith, length-set newest p.segment.domain.0 (Some num), low, ap (λ (x : Slot). x.domain.0) last.1)

  -- ---- On threads.

  stack_raised : (u : ℕ) → stack_of u (map (raised num e.top older) slots) ≡ stack_of u slots
  stack_raised u =
      ap (λ (ws : List Slot). map segment_of ws) (filter_mapped (stands_on u) (raised num e.top older) (raised_on num e.top older u) slots)
      ∙ map_same_after segment_of (raised num e.top older) (raised_segment num e.top older) (slots_on u slots)

  pub stack_on : stack_of p.thread slots_put ≡ stack_of p.thread slots ++ placed_segment p ∷ []
  stack_on =
      stack_pushed p.thread (map (raised num e.top older) slots) new (stands_from p.thread new refl refl)
      ∙ ap (λ (ss : List SharedSegment). ss ++ placed_segment p ∷ []) (stack_raised p.thread)

  pub stack_off : (u : ℕ) → u ≢ p.thread → stack_of u slots_put ≡ stack_of u slots
  stack_off u ne =
      stack_beside u (map (raised num e.top older) slots) new (stands_elsewhere u new (λ same. ne (sym same))) ∙ stack_raised u

  pub live_put : ((j : ℕ) (s : Slot) → slice_get slots j ≡ Some s → s.live ≡ true) → (j : ℕ) (s : Slot) → slice_get slots_put j ≡ Some s
      → s.live ≡ true
  live_put all j s there = by_place (old_or_last (map (raised num e.top older) slots) new j s there)
    where
      by_place : ((j < length (map (raised num e.top older) slots)) × (slice_get (map (raised num e.top older) slots) j ≡ Some s))
          ⊎ ((j ≡ length (map (raised num e.top older) slots)) × (s ≡ new)) → s.live ≡ true
      by_place (inl old) =
          let c = comes_from (raised num e.top older) slots j s old.1 in
          sym (ap (λ (x : Slot). x.live) c.gives) ∙ raised_live num e.top older c.from ∙ all j c.from c.there
      by_place (inr last) = ap (λ (x : Slot). x.live) last.1

-- ---- One after another.

-- what stands at a place of a list, and of another that is the same but for what a function forgets
pub slice_get-same_map : {X Y : Type 0} (f : X → Y) (xs ys : List X) (k : ℕ) (x : X) → map f xs ≡ map f ys → slice_get xs k ≡ Some x
    → (y : X) × (slice_get ys k ≡ Some y) × (f y ≡ f x)
slice_get-same_map f xs ys k x same at =
    let c = comes_from f ys k (f x) (sym (ap (λ zs. slice_get zs k) same) ∙ mapped_at f xs k x at) in
    (c.from, c.there, c.gives)

none_put : (entries : List ThreadEntry) (newest : List (Option SegmentNo)) (placed : List PlacedPart) → MayPut entries [] newest placed
    → ArePut entries entries [] newest newest []
none_put entries newest placed m = record {
  same_threads = refl;
  order =
      λ n above.
      record {
        next_thread = m.bound;
        order =
            record {
              threads = m.threads;
              threads_before = m.before;
              segments = λ i j x y at_i at_j low. absurd (nothing_at [] i x refl at_i);
              segments_before = λ i s at. absurd (nothing_at [] i s refl at);
              homes = λ i s at live. absurd (nothing_at [] i s refl at);
            };
      };
  all_live = λ i s at. absurd (nothing_at [] i s refl at);
  as_many = refl;
  stacks = λ t. refl;
  links = record { stacks = λ t. tt; tops = λ i e at. m.no_tops i e at };
  owned =
      record {
        chains = λ d. tt;
        lasts = λ d o at. m.none_newest d o at;
        owners = λ i s at live. absurd (nothing_at [] i s refl at);
      };
  domains = refl;
}

pub put_begins : (entries : List ThreadEntry) (slots : List Slot) (newest : List (Option SegmentNo)) (placed : List PlacedPart)
    → MayPut entries slots newest placed → ArePut entries entries slots newest newest []
put_begins entries slots newest placed m =
    subst (λ (xs : List Slot). ArePut entries entries xs newest newest []) (sym m.no_slots)
    (none_put entries newest placed (subst (λ (xs : List Slot). MayPut entries xs newest placed) m.no_slots m))

module _ (entries now : List ThreadEntry) (slots : List Slot) (newest newest_now : List (Option SegmentNo)) (placed : List PlacedPart)
    (first : List Slot) (m : MayPut entries first newest placed) (k : ℕ) (p : PlacedPart) (at : slice_get placed k ≡ Some p)
    (a : ArePut entries now slots newest newest_now (take k placed)) where
  above : IsAbove (take k placed) p.segment.number.0
  above i q there = by_place (slice_get_within (take k placed) i q there)
    where
      by_place : i < length (take k placed) → q.segment.number.0 < p.segment.number.0
      by_place within =
          m.order i k q p (slice_get-from_take placed k i q there) at (omega (arith, within, length_take placed k))

  pub ordered : AreInSomeOrder slots now p.segment.number.0
  ordered = a.order p.segment.number.0 above

  pub entered_now : IsEntered now p.thread
  entered_now =
      let was = m.entered k p at in
      let there = slice_get-same_map topless entries now was.place was.entry (sym a.same_threads) was.there in
      record { place = was.place; entry = there.0; there = there.1; number = ap thread_key there.2 ∙ was.number }

  pub domain_now : p.segment.domain.0 < length newest_now
  domain_now = omega (arith, m.domains k p at, a.domains)

  pub put_goes_on : (new_entries : List ThreadEntry) (new_slots : List Slot) (new_newest : List (Option SegmentNo))
      → IsPut now new_entries slots new_slots newest_now new_newest p → ArePut entries new_entries new_slots newest new_newest (take (suc k) placed)
  put_goes_on new_entries new_slots new_newest put = rw (
    put.top.sets.becomes,
    put.becomes,
    put.newest_now,
    take_next placed k p at,
  ) (record {
    same_threads = map-put topless now put.top.sets.place put.was (record put.was { top = Some p.segment.number }) there refl ∙ a.same_threads;
    order =
        λ n bound.
        record {
          next_thread = ordered.next_thread;
          order =
              let o = put_in_order slots now p put.older put.top.sets.place put.was there put.top.number ordered.next_thread ordered.order in
              let last = bound (length (take k placed)) p (slice_get-last (take k placed) p) in
              record {
                threads = o.threads;
                threads_before = o.threads_before;
                segments = o.segments;
                segments_before = λ j s stands. omega (arith, o.segments_before j s stands, last);
                homes = o.homes;
              };
        };
    all_live = live_put slots now p put.older put.top.sets.place put.was there put.top.number a.all_live;
    as_many =
        omega (
          arith,
          length-append (map (raised p.segment.number put.was.top put.older) slots) (slot_placed p put.was.top put.older ∷ []),
          length-map slots (raised p.segment.number put.was.top put.older),
          length-append (take k placed) (p ∷ []),
          a.as_many,
        );
    stacks = λ t. stack_at t (cases_eq t p.thread);
    links = put_linked slots now p put.older put.top.sets.place put.was there put.top.number ordered.next_thread ordered.order a.links;
    owned = put_owned slots now p put.older put.top.sets.place put.was there put.top.number newest_now a.owned ordered.order.segments put.had;
    domains = length-set newest_now p.segment.domain.0 (Some p.segment.number) ∙ a.domains;
  })
    where
      there : slice_get now put.top.sets.place ≡ Some put.was
      there = put.top.sets.there

      stack_at : (t : ℕ) → (t ≡ p.thread) ⊎ (t ≢ p.thread)
          → stack_of t (slots_put slots now p put.older put.top.sets.place put.was there put.top.number)
          ≡ map placed_segment (filter (is_placed_on t) (take k placed ++ p ∷ []))
      stack_at t (inl same) =
          ap (λ (u : ℕ). stack_of u (slots_put slots now p put.older put.top.sets.place put.was there put.top.number)) same
          ∙ stack_on slots now p put.older put.top.sets.place put.was there put.top.number
          ∙ ap (λ (ss : List SharedSegment). ss ++ placed_segment p ∷ []) (ap (λ (u : ℕ). stack_of u slots) (sym same) ∙ a.stacks t)
          ∙ sym (map_push placed_segment (filter (is_placed_on t) (take k placed)) p)
          ∙ sym (ap (λ (ps : List PlacedPart). map placed_segment ps)
          (pushed_on (is_placed_on t) (take k placed) p (eq-eqb p.thread t (sym same))))
      stack_at t (inr other) =
          stack_off slots now p put.older put.top.sets.place put.was there put.top.number t other ∙ a.stacks t
          ∙ sym (ap (λ (ps : List PlacedPart). map placed_segment ps)
          (pushed_off (is_placed_on t) (take k placed) p (ne_eqb p.thread t (λ same. other (sym same)))))
