-- The newest segment of a domain is taken out: entries and slots stay in order and linked, what the end of the domain leaves is the same, and so much
-- is counted then.
use Rattle.std.proofs.Common.{◌≡◌, ◌≢◌, ℕ, zero, suc, ◌+◌, ◌<◌, ◌⊎◌, inl, inr, Bool, true, false, List, [], ◌∷◌, length, set, take, drop, map, filter, Contains, is_some, Option, None, Some, slice_get, get_or, refl, sym, ap, subst, ◌∙◌, arith}
use Rattle.std.specs.Prelude.{◌==◌, ◌&&◌}
use Rattle.std.proofs.lemmas.Bool.{cases_Bool, cases_eq}
use Rattle.std.proofs.lemmas.List.{length-map}
use Rattle.std.proofs.lemmas.Option.{same_Some}
use Rattle.jk_model.specs.declared.identifiers.DomainId.{DomainId}
use Rattle.jk_model.specs.declared.identifiers.SegmentNo.{SegmentNo}
use Rattle.jk_model_sharing.specs.Segments.{SharedSegment, SharedThread, count_started_in, is_of, live_threads, segments_left, shared_form, top_of, with_stacks}
use Rattle.list_lemmas.proofs.ItemsByPlace.{item_read}
use Rattle.list_lemmas.proofs.ItemsOfLists.{place_of}
use Rattle.thread_stacks.specs.declared.entries.ThreadEntry.{ThreadEntry}
use Rattle.thread_stacks.specs.declared.segments.TakenOut.{TakenOut as Taken}
use Rattle.thread_stacks.specs.declared.slots.Slot.{Slot}
use Rattle.thread_stacks.specs.StackAnswers.{count_ended, count_ended_in, segments_in}
use Rattle.thread_stacks.specs.StackChanges.{IsClosedUp, IsTakenOff, IsTopSet, newest_after, relinked, warned, TakesOut}
use Rattle.thread_stacks.specs.Stacks.{AreInOrder, AreLinked, AreOwned, HasRoom, IsEntered, IsSlotted, above_in, below_in, is_live, is_own, is_running, last_or, owned_by, segment_of, slot_key, slot_number, slots_on, stack_of, stands_on, thread_in, threads_of, top_on, ThreadList}
use Rattle.thread_stacks.proofs.Chains.{last_of_some, last_or-append}
use Rattle.thread_stacks.proofs.CountedAlive.{count_segments, count_started, count_threads, room_closed, runs_in}
use Rattle.thread_stacks.proofs.Filtered.{filter_mapped, length_put, nothing_passes, one_if, stood_at}
use Rattle.thread_stacks.proofs.KeptChains.{chains_mapped, parted}
use Rattle.thread_stacks.proofs.KeptInOrder.{order_entry, order_mapped}
use Rattle.thread_stacks.proofs.KeptLinks.{top_is, tops_same}
use Rattle.thread_stacks.proofs.Owned.{own_parts, owned_gone, owned_mapped}
use Rattle.thread_stacks.proofs.PushedAndPopped.{closed_entries, closed_slots, gone_in_order, gone_linked, gone_stacks, top_elsewhere, top_stays}
use Rattle.thread_stacks.proofs.Relinked.{map_same_after, relinked_above, relinked_below, relinked_number, relinked_on}
use Rattle.thread_stacks.proofs.SegmentsTakenOff.{owned_closed, taken_count}
use Rattle.thread_stacks.proofs.StandsOnThreads.{rising_differ, stands_from, stands_parts}
use Rattle.thread_stacks.proofs.TakenFromStacks.{no_end, same_end, taken_same}
use Rattle.thread_stacks.proofs.ThreadsAfter.{threads_put}
use Rattle.thread_stacks.proofs.Warned.{warned_above, warned_below, warned_domain, warned_live, warned_newer, warned_number, warned_older, warned_on, warned_thread}

-- ---- Options.

pub some_of : (o : Option SegmentNo) → is_some o ≡ true → (n : SegmentNo) × (o ≡ Some n)
some_of (Some n) is = (n, refl)
some_of None is = absurd cc

pub none_of : (o : Option SegmentNo) → is_some o ≡ false → o ≡ None
none_of None is = refl
none_of (Some n) is = absurd cc

-- what was read at a place stands there
pub newest_at : (newest : List (Option SegmentNo)) (k : ℕ) (r o : Option SegmentNo) → k < length newest → r ≡ get_or newest k r → r ≡ o
    → slice_get newest k ≡ Some o
newest_at newest k r o low read is = item_read newest k r low read ∙ ap (λ (p : Option SegmentNo). Some p) is

-- what is told of the thread is what was answered
pub told_so : (old new : ThreadList) (d : DomainId) (answer : Taken) (ended : Option DomainId)
    → Some (let t : Taken = record { ended = ended } in t) ≡ Some answer → TakesOut old new d ended → TakesOut old new d answer.ended
told_so old new d answer ended is h =
    subst (λ (o : Option DomainId). TakesOut old new d o) (ap (λ (x : Taken). x.ended) (same_Some (record { ended = ended }) answer is)) h

-- ---- Where a domain has nothing.

-- no segment is of it
pub nothing_of : (slots : List Slot) (newest : List (Option SegmentNo)) (d : DomainId) → AreOwned slots newest → slice_get newest d.0 ≡ Some None
    → (u : ℕ) (s : SharedSegment) → Contains (stack_of u slots) s → is_of shared_form d s ≡ false
nothing_of slots newest d o none u s there = of_none (place_of (stack_of u slots) s there)
  where
    empty : (xs : List Slot) → None ≡ last_or None xs → xs ≡ []
    empty [] is = refl
    empty (x ∷ xs) is = let l = last_of_some None x xs in let never : None ≡ Some (slot_number l.slot) = is ∙ l.is in absurd cc

    nothing : owned_by d.0 slots ≡ []
    nothing = empty (owned_by d.0 slots) (o.lasts d.0 None none)

    of_none : (i : ℕ) × (slice_get (stack_of u slots) i ≡ Some s) → is_of shared_form d s ≡ false
    of_none (i, at) = by_test (cases_Bool (is_of shared_form d s)) (from_slot (slots_on u slots) i at)
      where
        from_slot : (xs : List Slot) (j : ℕ) → slice_get (map segment_of xs) j ≡ Some s → (x : Slot) × (slice_get xs j ≡ Some x) × (segment_of x ≡ s)
        from_slot [] j is = absurd cc
        from_slot (x ∷ xs) zero is = (x, refl, same_Some (segment_of x) s is)
        from_slot (x ∷ xs) (suc j) is = from_slot xs j is

        by_test : (is_of shared_form d s ≡ true) ⊎ (is_of shared_form d s ≡ false)
            → (x : Slot) × (slice_get (slots_on u slots) i ≡ Some x) × (segment_of x ≡ s) → is_of shared_form d s ≡ false
        by_test (inr miss) x = miss
        by_test (inl hit) (x, x_at, is) =
            let stood = stood_at (stands_on u) slots i x x_at in
            let test : is_own d.0 x ≡ true =
            ap (λ (b : Bool). b && (x.domain.0 == d.0)) (stands_parts u x stood.passes).0
            ∙ ap (λ (y : SharedSegment). y.domain.0 == d.0) is ∙ hit in
            absurd (nothing_passes (is_own d.0) slots stood.place x nothing stood.there test)

pub nothing_left : (slots : List Slot) (es : List ThreadEntry) (newest : List (Option SegmentNo)) (d : DomainId) → AreOwned slots newest
    → slice_get newest d.0 ≡ Some None → live_threads (with_stacks (segments_left shared_form d) (threads_of slots es)) ≡ threads_of slots es
nothing_left slots es newest d o none = no_end slots es d (nothing_of slots newest d o none)

-- ---- Links of changed slots.

linked_mapped : (g : Slot → Slot) (slots : List Slot) (es : List ThreadEntry) → ((u : ℕ) (x : Slot) → stands_on u (g x) ≡ stands_on u x)
    → ((x : Slot) → ((g x).number ≡ x.number) × ((g x).below ≡ x.below) × ((g x).above ≡ x.above)) → AreLinked slots es → AreLinked (map g slots) es
linked_mapped g slots es on same l = record {
  stacks = chains_mapped stands_on thread_in below_in above_in stands_parts stands_from g slots on same l.stacks;
  tops =
      tops_same slots (map g slots) es l.tops
      (λ u.
      ap (λ (ws : List Slot). top_of (map slot_number ws)) (filter_mapped (stands_on u) g (on u) slots)
      ∙ ap (λ (ns : List SegmentNo). top_of ns)
      (map_same_after slot_number g (λ x. ap (λ (n : ℕ). let m : SegmentNo = record { 0 = n } in m) (same x).0) (slots_on u slots)));
}

-- ---- What is counted of entries.

-- What holds of the lists then.
pub record HasTaken (slots : List Slot) (es : List ThreadEntry) (thread segment : ℕ) (d : DomainId) (kept : List Slot) (left : List ThreadEntry)
    (lower : List (Option SegmentNo)) (ended : Option DomainId) : Type 0 where
  pub order : AreInOrder kept left thread segment
  pub links : AreLinked kept left
  pub owned : AreOwned kept lower
  pub end_same : live_threads (with_stacks (segments_left shared_form d) (threads_of kept left))
      ≡ live_threads (with_stacks (segments_left shared_form d) (threads_of slots es))
  pub fewer_segments : length (segments_in (threads_of kept left)) < length (segments_in (threads_of slots es))
  pub fewer : length (threads_of kept left) + count_ended ended ≡ length (threads_of slots es)
  pub counted : (home : DomainId) → count_started_in (threads_of kept left) home + count_ended_in ended home ≡ count_started_in (threads_of slots es) home

-- The slot of a domain's newest segment.
pub record NewestSlot (slots : List Slot) (d : DomainId) (n : SegmentNo) : Type 0 where
  pub place : ℕ
  pub slot : Slot
  pub there : slice_get slots place ≡ Some slot
  pub own : is_own d.0 slot ≡ true
  pub number : slot.number ≡ n.0

module _ (slots : List Slot) (es : List ThreadEntry) (newest : List (Option SegmentNo)) (thread segment : ℕ) (h : AreInOrder slots es thread segment)
    (l : AreLinked slots es) (o : AreOwned slots newest) (d : DomainId) (n : SegmentNo) (is_newest : slice_get newest d.0 ≡ Some (Some n)) where
  newest_slot : NewestSlot slots d n
  newest_slot = by_owned (owned_by d.0 slots) refl (o.lasts d.0 (Some n) is_newest)
    where
      by_owned : (xs : List Slot) → owned_by d.0 slots ≡ xs → Some n ≡ last_or None xs → NewestSlot slots d n
      by_owned [] is last = absurd cc
      by_owned (x ∷ xs) is last =
          let e = last_of_some None x xs in
          let stood = stood_at (is_own d.0) slots e.place e.slot (ap (λ (ws : List Slot). slice_get ws e.place) is ∙ e.there) in
          record {
            place = stood.place;
            slot = e.slot;
            there = stood.there;
            own = stood.passes;
            number = ap (λ (m : SegmentNo). m.0) (same_Some (slot_number e.slot) n (sym (last ∙ e.is)));
          }

  pub newest_slotted : IsSlotted slots n.0
  newest_slotted = record { place = newest_slot.place; slot = newest_slot.slot; there = newest_slot.there; number = newest_slot.number }

  module _ (off : List Slot) (was : Slot) (m : IsTakenOff slots off n.0 was) where
    same : newest_slot.slot ≡ was
    same = elim (cases_eq newest_slot.place m.marks.sets.place) [
      | inl here ↦
          same_Some newest_slot.slot was (sym newest_slot.there ∙ ap (slice_get slots) here ∙ m.marks.sets.there)
      | inr other ↦
          absurd (rising_differ slot_key slots newest_slot.place m.marks.sets.place newest_slot.slot was h.segments newest_slot.there m.marks.sets.there
          other (newest_slot.number ∙ sym m.marks.number))
    ]

    pub was_there : was.live ≡ true
    was_there = ap is_live (sym same) ∙ (own_parts d.0 newest_slot.slot newest_slot.own).0

    was_own : was.domain.0 ≡ d.0
    was_own = ap (λ (s : Slot). s.domain.0) (sym same) ∙ (own_parts d.0 newest_slot.slot newest_slot.own).1

    pub was_home : was.domain.0 < length newest
    was_home = o.owners m.marks.sets.place was m.marks.sets.there was_there

    pub was_entered : IsEntered es was.thread
    was_entered = h.homes m.marks.sets.place was m.marks.sets.there was_there

    abbrev gone : List Slot
    gone = map (relinked was) (set slots m.marks.sets.place (record was { live = false }))

    off_is : off ≡ gone
    off_is = m.becomes ∙ ap (λ (ws : List Slot). map (relinked was) ws) m.marks.sets.becomes

    gone_order : AreInOrder gone es thread segment
    gone_order = gone_in_order slots es thread segment h l m.marks.sets.place was m.marks.sets.there was_there

    pub off_rises : AreInOrder off es thread segment
    off_rises = subst (λ (xs : List Slot). AreInOrder xs es thread segment) (sym off_is) gone_order

    abbrev told : List Slot
    told = map (warned was) gone

    told_order : AreInOrder told es thread segment
    told_order =
        order_mapped (warned was) (λ x. (warned_number was x, warned_thread was x, warned_live was x)) gone es thread segment gone_order

    told_owned : AreOwned told (newest_after was newest)
    told_owned =
        owned_mapped (warned was) gone (newest_after was newest)
        (λ x. (warned_number was x, warned_live was x, warned_domain was x, warned_older was x, warned_newer was x))
        (owned_gone slots newest o h.segments m.marks.sets.place was m.marks.sets.there was_there)

    module _ (seen : List Slot) (w : seen ≡ map (warned was) off) (live fewer most capacity : ℕ) (room : HasRoom is_live slots live most capacity)
        (less : fewer + 1 ≡ live) where
      seen_is : seen ≡ told
      seen_is = w ∙ ap (λ (ws : List Slot). map (warned was) ws) off_is

      pub seen_count : fewer ≡ length (filter is_live seen)
      seen_count =
          taken_count slots off n.0 was live fewer most capacity room m was_there less
          ∙ sym (ap (λ (xs : List Slot). length (filter is_live xs)) w
          ∙ ap (λ (xs : List Slot). length xs) (filter_mapped is_live (warned was) (warned_live was) off)
          ∙ length-map (filter is_live off) (warned was))

      module _ (kept : List Slot) (closed : IsClosedUp is_live seen kept fewer) (lower : List (Option SegmentNo))
          (lowers : lower ≡ newest_after was newest) where
        pub kept_room : (now : ℕ) → now ≡ capacity → HasRoom is_live kept fewer most now
        kept_room now is =
            room_closed is_live seen kept fewer most now closed seen_count (omega (arith, room.within, less)) (omega (arith, room.room, is))

        closed_told : IsClosedUp is_live told kept fewer
        closed_told = subst (λ (xs : List Slot). IsClosedUp is_live xs kept fewer) seen_is closed

        kept_owned : AreOwned kept lower
        kept_owned =
            subst (λ (ns : List (Option SegmentNo)). AreOwned kept ns) (sym lowers)
            (owned_closed told kept (newest_after was newest) fewer told_owned closed_told)

        -- ---- Whatever the entries are now, if they have these threads.

        ends_so : (ts : List SharedThread) → ts ≡ threads_of told es
            → live_threads (with_stacks (segments_left shared_form d) ts) ≡ live_threads (with_stacks (segments_left shared_form d) (threads_of slots es))
        ends_so ts is =
            ap (λ (us : List SharedThread). live_threads (with_stacks (segments_left shared_form d) us)) is
            ∙ same_end slots told es d
            (taken_same slots es thread segment h l m.marks.sets.place was m.marks.sets.there was_there d was_own)

        segments_so : (ts : List SharedThread) → ts ≡ threads_of told es → length (segments_in ts) < length (segments_in (threads_of slots es))
        segments_so ts is =
            omega (
              arith,
              ap (λ (us : List SharedThread). length (segments_in us)) is,
              count_segments told es thread segment told_order,
              count_segments slots es thread segment h,
              room.counted,
              less,
              seen_count,
              ap (λ (xs : List Slot). length (filter is_live xs)) seen_is,
            )

        -- ---- It had one above it.

        module _ (above : SegmentNo) (up : was.above ≡ Some above) where
          told_linked : AreLinked told es
          told_linked =
              linked_mapped (warned was) gone es (λ u x. warned_on was x u) (λ x. (warned_number was x, warned_below was x, warned_above was x))
              (record {
                stacks = gone_stacks slots es thread segment h l m.marks.sets.place was m.marks.sets.there was_there;
                tops = λ i e at. l.tops i e at ∙ sym (by_thread e.number (cases_eq e.number was.thread));
              })
            where
              by_thread : (u : ℕ) → (u ≡ was.thread) ⊎ (u ≢ was.thread) → top_on u gone ≡ top_on u slots
              by_thread u (inl same_one) =
                  subst (λ (t : ℕ). top_on t gone ≡ top_on t slots) (sym same_one)
                  (top_stays slots es thread segment h l m.marks.sets.place was m.marks.sets.there was_there above up)
              by_thread u (inr other) = top_elsewhere slots es thread segment h l m.marks.sets.place was m.marks.sets.there was_there u other

          pub taken_between : HasTaken slots es thread segment d kept es lower None
          taken_between =
              let a = closed_slots told es thread segment told_order told_linked kept fewer closed_told in
              record {
                order = a.order;
                links = a.links;
                owned = kept_owned;
                end_same = ends_so (threads_of kept es) a.threads;
                fewer_segments = segments_so (threads_of kept es) a.threads;
                fewer =
                    omega (arith, count_threads kept es a.links.tops, count_threads slots es l.tops);
                counted =
                    λ home.
                    omega (arith, count_started kept es home a.links.tops, count_started slots es home l.tops);
              }

        -- ---- It was on top.

        module _ (none : was.above ≡ None) (lowered : List ThreadEntry) (entry : ThreadEntry) (s : IsTopSet es lowered was.thread was.below entry) where
          abbrev under : ThreadEntry
          under = record entry { top = was.below }

          set_linked : AreLinked told (set es s.sets.place under)
          set_linked =
              linked_mapped (warned was) gone (set es s.sets.place under) (λ u x. warned_on was x u)
              (λ x. (warned_number was x, warned_below was x, warned_above was x))
              (gone_linked slots es thread segment h l m.marks.sets.place was m.marks.sets.there was_there s.sets.place entry s.sets.there s.number none)

          a_kept : (xs : List ThreadEntry) → xs ≡ set es s.sets.place under
              → AreInOrder kept xs thread segment × AreLinked kept xs × (threads_of kept xs ≡ threads_of told es)
          a_kept xs is =
              let a =
              closed_slots told (set es s.sets.place under) thread segment
              (order_entry told es thread segment told_order s.sets.place entry under s.sets.there refl)
              set_linked kept fewer closed_told in
              subst (λ (ys : List ThreadEntry). AreInOrder kept ys thread segment × AreLinked kept ys × (threads_of kept ys ≡ threads_of told es)) (sym is)
              (a.order, a.links, a.threads ∙ threads_put told es s.sets.place entry under s.sets.there refl refl)

          parts : AreInOrder kept lowered thread segment × AreLinked kept lowered × (threads_of kept lowered ≡ threads_of told es)
          parts = a_kept lowered s.sets.becomes

          -- the thread was live
          pub was_running : is_running entry ≡ true
          was_running =
              ap (λ (p : Option SegmentNo). is_some p)
              (l.tops s.sets.place entry s.sets.there ∙ ap (λ (u : ℕ). top_on u slots) s.number ∙ top_is was.thread slots
              ∙ ap (λ (ws : List Slot). last_or None ws)
              (parted stands_on thread_in below_in above_in stands_parts stands_from was (record was { live = false }) (relinked was) (relinked_on was)
              (relinked_number was) (relinked_below was) (relinked_above was) slots h.segments m.marks.sets.place m.marks.sets.there was_there refl
              l.stacks).0
              ∙ last_or-append None (slots_on was.thread (take m.marks.sets.place slots))
              (was ∷ slots_on was.thread (drop (suc m.marks.sets.place) slots)))
              ∙ some (Some (slot_number was)) (slots_on was.thread (drop (suc m.marks.sets.place) slots)) refl
            where
              some : (p : Option SegmentNo) (xs : List Slot) → is_some p ≡ true → is_some (last_or p xs) ≡ true
              some p [] is = is
              some p (x ∷ xs) is = some (Some (slot_number x)) xs refl

          lengths : length (filter is_running lowered) + 1 ≡ length (filter is_running es) + one_if (is_some was.below)
          lengths =
              omega (
                arith,
                ap (λ (xs : List ThreadEntry). length (filter is_running xs)) s.sets.becomes,
                length_put is_running es s.sets.place entry under s.sets.there,
                ap one_if was_running,
              )

          started : (home : DomainId) → length (filter (runs_in home) lowered) + one_if (entry.domain.0 == home.0)
              ≡ length (filter (runs_in home) es) + one_if (is_some was.below && (entry.domain.0 == home.0))
          started home =
              omega (
                arith,
                ap (λ (xs : List ThreadEntry). length (filter (runs_in home) xs)) s.sets.becomes,
                length_put (runs_in home) es s.sets.place entry under s.sets.there,
                ap (λ (b : Bool). one_if (b && (entry.domain.0 == home.0))) was_running,
              )

          pub taken_on_top : is_some was.below ≡ true → HasTaken slots es thread segment d kept lowered lower None
          taken_on_top on = record {
            order = parts.0;
            links = parts.1;
            owned = kept_owned;
            end_same = ends_so (threads_of kept lowered) parts.2;
            fewer_segments = segments_so (threads_of kept lowered) parts.2;
            fewer =
                omega (arith, count_threads kept lowered parts.1.tops, count_threads slots es l.tops, lengths, ap one_if on);
            counted =
                λ home.
                omega (
                  arith,
                  count_started kept lowered home parts.1.tops,
                  count_started slots es home l.tops,
                  started home,
                  ap (λ (b : Bool). one_if (b && (entry.domain.0 == home.0))) on,
                );
          }

          pub taken_last : is_some was.below ≡ false → (left : List ThreadEntry) (count : ℕ) → IsClosedUp is_running lowered left count
              → HasTaken slots es thread segment d kept left lower (Some entry.domain)
          taken_last off_it left count closed_too =
              let a = closed_entries kept lowered thread segment parts.0 parts.1 left count closed_too in
              record {
                order = a.order;
                links = a.links;
                owned = kept_owned;
                end_same = ends_so (threads_of kept left) (a.threads ∙ parts.2);
                fewer_segments = segments_so (threads_of kept left) (a.threads ∙ parts.2);
                fewer =
                    omega (
                      arith,
                      ap (λ (ts : List SharedThread). length ts) a.threads,
                      count_threads kept lowered parts.1.tops,
                      count_threads slots es l.tops,
                      lengths,
                      ap one_if off_it,
                    );
                counted =
                    λ home.
                    omega (
                      arith,
                      ap (λ (ts : List SharedThread). count_started_in ts home) a.threads,
                      count_started kept lowered home parts.1.tops,
                      count_started slots es home l.tops,
                      started home,
                      ap (λ (b : Bool). one_if (b && (entry.domain.0 == home.0))) off_it,
                    );
              }
