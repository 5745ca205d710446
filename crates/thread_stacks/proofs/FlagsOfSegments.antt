-- A flag of one segment is set or cleared: what that leaves of the slots, and of the live threads.
use Rattle.std.proofs.Common.{◌≡◌, ◌≢◌, ℕ, Bool, true, false, List, set, map, find, None, refl, sym, ◌∙◌, subst, Some, slice_get, ap, Option}
use Rattle.std.specs.Prelude.{◌==◌, if◌then◌else◌, ◌&&◌}
use Rattle.std.proofs.lemmas.Bool.{eq-eqb, ne_eqb}
use Rattle.jk_model.specs.declared.identifiers.SegmentNo.{SegmentNo}
use Rattle.jk_model_sharing.specs.Segments.{SharedSegment, changed, is_numbered, shared_form, with_segment, with_stacks}
use Rattle.thread_stacks.specs.declared.entries.ThreadEntry.{ThreadEntry}
use Rattle.thread_stacks.specs.declared.segments.Flag.{Flag}
use Rattle.thread_stacks.specs.declared.segments.Flag.TheVariants.{Orphan, Revoked, Stop, Suspended}
use Rattle.thread_stacks.specs.declared.slots.Slot.{Slot}
use Rattle.thread_stacks.specs.Places.{AreRisingBy, has_key}
use Rattle.thread_stacks.specs.StackChanges.{Flags, flag_changed, flagged_at, flagged_nowhere, slot_flagged, if_hit}
use Rattle.thread_stacks.specs.Stacks.{AreInOrder, AreLinked, HasRoom, is_live, segment_of, slot_key, stack_of, stands_on, threads_of, AreOwned, above_in, below_in, thread_in}
use Rattle.thread_stacks.proofs.CountedAlive.{room_put}
use Rattle.thread_stacks.proofs.Filtered.{mapped_changed, mapped_same}
use Rattle.thread_stacks.proofs.FoundInStacks.{none_fits}
use Rattle.thread_stacks.proofs.KeptInOrder.{order_slot}
use Rattle.thread_stacks.proofs.KeptLinks.{tops_same}
use Rattle.thread_stacks.proofs.StandsOnThreads.{rising_differ, top_put, stands_from, stands_parts}
use Rattle.thread_stacks.proofs.ThreadsAfter.{threads_flagged}
use Rattle.thread_stacks.proofs.KeptChains.{Chains, chains_mapped}
use Rattle.thread_stacks.proofs.Owned.{owned_mapped}
use Rattle.thread_stacks.proofs.Relinked.{kept, set_is_map, none_is_map}

-- ---- What a flagged slot is.

pub segment_flagged : (flag : Flag) (on : Bool) (s : Slot) → segment_of (slot_flagged flag on s) ≡ flag_changed flag on (segment_of s)
segment_flagged Suspended on s = refl
segment_flagged Stop on s = refl
segment_flagged Revoked on s = refl
segment_flagged Orphan on s = refl

pub number_flagged : (flag : Flag) (on : Bool) (s : Slot) → (slot_flagged flag on s).number ≡ s.number
number_flagged Suspended on s = refl
number_flagged Stop on s = refl
number_flagged Revoked on s = refl
number_flagged Orphan on s = refl

pub home_flagged : (flag : Flag) (on : Bool) (s : Slot) → (slot_flagged flag on s).thread ≡ s.thread
home_flagged Suspended on s = refl
home_flagged Stop on s = refl
home_flagged Revoked on s = refl
home_flagged Orphan on s = refl

pub live_flagged : (flag : Flag) (on : Bool) (s : Slot) → (slot_flagged flag on s).live ≡ s.live
live_flagged Suspended on s = refl
live_flagged Stop on s = refl
live_flagged Revoked on s = refl
live_flagged Orphan on s = refl

pub below_flagged : (flag : Flag) (on : Bool) (s : Slot) → (slot_flagged flag on s).below ≡ s.below
below_flagged Suspended on s = refl
below_flagged Stop on s = refl
below_flagged Revoked on s = refl
below_flagged Orphan on s = refl

pub above_flagged : (flag : Flag) (on : Bool) (s : Slot) → (slot_flagged flag on s).above ≡ s.above
above_flagged Suspended on s = refl
above_flagged Stop on s = refl
above_flagged Revoked on s = refl
above_flagged Orphan on s = refl

pub older_flagged : (flag : Flag) (on : Bool) (s : Slot) → (slot_flagged flag on s).older ≡ s.older
older_flagged Suspended on s = refl
older_flagged Stop on s = refl
older_flagged Revoked on s = refl
older_flagged Orphan on s = refl

pub newer_flagged : (flag : Flag) (on : Bool) (s : Slot) → (slot_flagged flag on s).newer ≡ s.newer
newer_flagged Suspended on s = refl
newer_flagged Stop on s = refl
newer_flagged Revoked on s = refl
newer_flagged Orphan on s = refl

pub domain_flagged : (flag : Flag) (on : Bool) (s : Slot) → (slot_flagged flag on s).domain ≡ s.domain
domain_flagged Suspended on s = refl
domain_flagged Stop on s = refl
domain_flagged Revoked on s = refl
domain_flagged Orphan on s = refl

-- ---- One segment of each stack is changed, or none.

module _ (n : SegmentNo) (change : SharedSegment → SharedSegment) where
  abbrev one_segment : SharedSegment → SharedSegment
  one_segment s = if is_numbered shared_form n s then changed shared_form change s else s

  others_stay : (x : Slot) → (x.number == n.0) ≡ false → one_segment (segment_of x) ≡ segment_of x
  others_stay x miss = rw miss refl

  threads_by_stacks : (slots more : List Slot) (es : List ThreadEntry)
      → ((u : ℕ) → stack_of u more ≡ with_segment shared_form n change (stack_of u slots))
      → threads_of more es ≡ with_stacks (with_segment shared_form n change) (threads_of slots es)
  threads_by_stacks slots more es each =
      threads_flagged (with_segment shared_form n change) slots more es each refl (λ s ss. (one_segment s, map one_segment ss, refl))

  pub threads_unflagged : (slots : List Slot) (es : List ThreadEntry) → find (has_key slot_key n.0) slots ≡ None
      → threads_of slots es ≡ with_stacks (with_segment shared_form n change) (threads_of slots es)
  threads_unflagged slots es none =
      threads_by_stacks slots slots es
      (λ u. sym (mapped_same (stands_on u) segment_of one_segment slots
      (λ k x at. others_stay x (none_fits (has_key slot_key n.0) slots k x none at))))

  pub threads_put_flag : (slots : List Slot) (es : List ThreadEntry) (k : ℕ) (x y : Slot) → AreRisingBy slot_key slots → slice_get slots k ≡ Some x
      → x.number ≡ n.0 → y.thread ≡ x.thread → y.live ≡ x.live → segment_of y ≡ change (segment_of x)
      → threads_of (set slots k y) es ≡ with_stacks (with_segment shared_form n change) (threads_of slots es)
  threads_put_flag slots es k x y rising at number home live becomes =
      threads_by_stacks slots (set slots k y) es
      (λ u. mapped_changed (stands_on u) segment_of one_segment slots k x y at (same u) gives (λ j z there ne. others_stay z (other j z there ne)))
    where
      same : (u : ℕ) → stands_on u y ≡ stands_on u x
      same u = rw (home, live) refl

      gives : segment_of y ≡ one_segment (segment_of x)
      gives =
          let hit : (x.number == n.0) ≡ true = eq-eqb x.number n.0 number in
          becomes ∙ sym (rw hit refl)

      other : (j : ℕ) (z : Slot) → slice_get slots j ≡ Some z → j ≢ k → (z.number == n.0) ≡ false
      other j z there ne =
          ne_eqb z.number n.0 (λ same_one. rising_differ slot_key slots j k z x rising there at ne (same_one ∙ sym number))

pub flagged_on : (flag : Flag) (on : Bool) (u : ℕ) (x : Slot) → stands_on u (slot_flagged flag on x) ≡ stands_on u x
flagged_on flag on u x =
    ap (λ (b : Bool). b && ((slot_flagged flag on x).thread == u)) (live_flagged flag on x)
    ∙ ap (λ (t : ℕ). x.live && (t == u)) (home_flagged flag on x)

-- ---- All that holds.

pub record AreFlagged (slots : List Slot) (es : List ThreadEntry) (thread segment : ℕ) (n : SegmentNo) (flag : Flag) (on : Bool) (new : List Slot) :
    Type 0 where
  pub order : AreInOrder new es thread segment
  pub links : AreLinked new es
  pub threads : threads_of new es ≡ with_stacks (with_segment shared_form n (flag_changed flag on)) (threads_of slots es)

pub flags_kept : (slots : List Slot) (es : List ThreadEntry) (thread segment : ℕ) (n : SegmentNo) (flag : Flag) (on : Bool) (new : List Slot)
    → AreInOrder slots es thread segment → AreLinked slots es → Flags slots new n.0 flag on → AreFlagged slots es thread segment n flag on new
flags_kept slots es thread segment n flag on new h l (flagged_nowhere none same) =
    subst (λ (xs : List Slot). AreFlagged slots es thread segment n flag on xs) (sym same)
    (record { order = h; links = l; threads = threads_unflagged n (flag_changed flag on) slots es none })
flags_kept slots es thread segment n flag on new h l (flagged_at was number sets) =
    subst (λ (xs : List Slot). AreFlagged slots es thread segment n flag on xs) (sym sets.becomes)
    (record {
      order =
          order_slot slots es thread segment h sets.place was (slot_flagged flag on was) sets.there (number_flagged flag on was) (home_flagged flag on was)
          (λ lives. sym (live_flagged flag on was) ∙ lives);
      links = record {
        stacks = chained;
        tops =
            tops_same slots (set slots sets.place (slot_flagged flag on was)) es l.tops
            (λ u. top_put u slots sets.place was (slot_flagged flag on was) sets.there (flagged_on flag on u was) (λ hit. number_flagged flag on was));
      };
      threads =
          threads_put_flag n (flag_changed flag on) slots es sets.place was (slot_flagged flag on was) h.segments sets.there number
          (home_flagged flag on was) (live_flagged flag on was) (segment_flagged flag on was);
    })
  where
    chained : Chains stands_on thread_in below_in above_in stands_parts stands_from (set slots sets.place (slot_flagged flag on was))
    chained =
        subst (λ (xs : List Slot). Chains stands_on thread_in below_in above_in stands_parts stands_from xs)
        (sym (set_is_map (slot_flagged flag on) n slots sets.place was h.segments sets.there number))
        (chains_mapped stands_on thread_in below_in above_in stands_parts stands_from (if_hit (Some n) (slot_flagged flag on)) slots
        (λ u x. kept (λ (y : Slot). stands_on u y) (Some n) (slot_flagged flag on) x (flagged_on flag on u x))
        (λ x. (
          kept (λ (y : Slot). y.number) (Some n) (slot_flagged flag on) x (number_flagged flag on x),
          kept (λ (y : Slot). y.below) (Some n) (slot_flagged flag on) x (below_flagged flag on x),
          kept (λ (y : Slot). y.above) (Some n) (slot_flagged flag on) x (above_flagged flag on x),
        )) l.stacks)

-- what domains have stays
pub owned_flagged : (slots : List Slot) (newest : List (Option SegmentNo)) (n : SegmentNo) (flag : Flag) (on : Bool) (new : List Slot)
    → AreRisingBy slot_key slots → AreOwned slots newest → Flags slots new n.0 flag on → AreOwned new newest
owned_flagged slots newest n flag on new rising o (flagged_nowhere none same) = subst (λ (xs : List Slot). AreOwned xs newest) (sym same) o
owned_flagged slots newest n flag on new rising o (flagged_at was number sets) =
    subst (λ (xs : List Slot). AreOwned xs newest)
    (sym (sets.becomes ∙ set_is_map (slot_flagged flag on) n slots sets.place was rising sets.there number))
    (owned_mapped (if_hit (Some n) (slot_flagged flag on)) slots newest
    (λ x. (
      kept (λ (y : Slot). y.number) (Some n) (slot_flagged flag on) x (number_flagged flag on x),
      kept (λ (y : Slot). y.live) (Some n) (slot_flagged flag on) x (live_flagged flag on x),
      kept (λ (y : Slot). y.domain) (Some n) (slot_flagged flag on) x (domain_flagged flag on x),
      kept (λ (y : Slot). y.older) (Some n) (slot_flagged flag on) x (older_flagged flag on x),
      kept (λ (y : Slot). y.newer) (Some n) (slot_flagged flag on) x (newer_flagged flag on x),
    )) o)

pub room_flagged : (old new : List Slot) (n live most capacity now : ℕ) (flag : Flag) (on : Bool) → Flags old new n flag on
    → HasRoom is_live old live most capacity → now ≡ capacity → HasRoom is_live new live most now
room_flagged old new n live most capacity now flag on (flagged_nowhere none same) h now_is =
    subst (λ (xs : List Slot). HasRoom is_live xs live most now) (sym same)
    (subst (λ (m : ℕ). HasRoom is_live old live most m) (sym now_is) h)
room_flagged old new n live most capacity now flag on (flagged_at was number sets) h now_is =
    subst (λ (xs : List Slot). HasRoom is_live xs live most now) (sym sets.becomes)
    (room_put is_live old live most capacity h sets.place now was (slot_flagged flag on was) sets.there (live_flagged flag on was) now_is)

-- as a change by a number
pub flags_map : (old new : List Slot) (n : SegmentNo) (flag : Flag) (on : Bool) → AreRisingBy slot_key old → Flags old new n.0 flag on
    → new ≡ map (if_hit (Some n) (slot_flagged flag on)) old
flags_map old new n flag on rising (flagged_nowhere none same) = same ∙ none_is_map (slot_flagged flag on) n old none
flags_map old new n flag on rising (flagged_at was number sets) =
    sets.becomes ∙ set_is_map (slot_flagged flag on) n old sets.place was rising sets.there number
